-- The parts of a visit, over plain data.
use Rattle.std.proofs.Common.{◌≡◌, ℕ, zero, suc, ◌+◌, ◌*◌, ◌/◌, ◌%◌, ◌<◌, ◌≤◌, min, max, ◌==◌, nat_lt, Bool, true, false, inl, inr, refl, sym, ap, subst, ◌∙◌, List, [], ◌∷◌, ◌++◌, length, set, take, get_or, Contains, Some, ℤ, length-append, arith}
use Rattle.std.specs.Prelude.{slice_index, IsTrue, IsFalse}
use Rattle.std.proofs.lemmas.Bool.{cases_lt}
use Rattle.std.proofs.lemmas.Bool.Decides.{nat_tests}
use Rattle.std.proofs.lemmas.Int.{ints}
use Rattle.std.proofs.lemmas.List.{get_or_append_left, length-take-le, take_more_set}
use Rattle.std.proofs.lemmas.Option.{same_Some}
use Rattle.std.proofs.lemmas.List.Elements.{Contains-append_right, Contains-append_cases}
use Rattle.xt_model.specs.declared.direction.Direction.{Direction}
use Rattle.xt_model.specs.declared.direction.Direction.TheVariants.{Widen, Narrow}
use Rattle.xt_model.specs.declared.net.NetId.{NetId}
use Rattle.xt_model.specs.declared.quad.Pair.{Pair}
use Rattle.xt_model.specs.Quads.{IsPairInRange}
use Rattle.xt_meaning.specs.Reads.{HoldsOfReads}
use Rattle.xt_meaning.specs.Barrier.{IsBoundNoFurther}
use Rattle.xt_meaning.specs.Words.{bound_in, number_for, number_at, bounds_in, onward, AreNoFurther, further, MovesDown, MovesUp}
use Rattle.xt_meaning.proofs.Steps.{bound_trans}
use Rattle.xt_meaning.proofs.Numbers.{bound_there, further_first, further_second, onward_mono_at}
use Rattle.xt_meaning.proofs.Growth.{wired}
use Rattle.net_eval.specs.ReadLists.{AreReadLists, ids, reads_of}
use Rattle.chaos_core.specs.Boards.{nets_of, IsSeen}
use Rattle.chaos_core.specs.Tasks.{list_of, place_of, word_to_load, loaded_bounds, evaluated, bound_at}
use Rattle.chaos_core.proofs.Places.{id_at, ids_count, placed, word_placed, nets_read, load_there}
use Rattle.chaos_core.proofs.Sight.{are_refl, are_trans, further_down, further_up, number_here, seen_onward}
use Rattle.chaos_core.proofs.Loads.{none_loaded, loaded_more, last_at, bound_onward}
use Rattle.chaos_core.proofs.Stages.{bound_in_range}
use Rattle.dirty_words.specs.declared.view.Flight.{Flight}
use Rattle.dirty_words.specs.declared.view.DirtyView.{DirtyView}
use Rattle.dirty_words.specs.Views.{readers_of, with_loaded, with_published, owed_after}
use Rattle.dirty_words.specs.Steps.{IsNextToLoad, Loaded, IsNextToPublish, Published}
use Rattle.dirty_run.specs.Visits.{fresh_flight, flight_at, with_words, AreLoadedFrom, IsLoading, IsReady, OwesReaders, IsPublishing, HasPublished, HasMoved}

-- ---- loading
pub none_yet : (u : DirtyView) (net : ℕ) → IsSeen u.base.setting u.base.seen → u.flight ≡ Some (fresh_flight net) → IsLoading u net [] u
none_yet u net seen flight = record {
  seen = u.base.seen;
  after = λ i. record u { flight = flight i };
  from = record {
    sound = seen;
    onward = are_refl u.base.setting.way (bounds_in u.base.seen);
    loaded = none_loaded u.base.setting u.base.seen (list_of u.lists net);
    past = λ i h. absurd (omega (arith, h));
  };
}

module _ (u : DirtyView) (net : ℕ) (numbers : List ℕ) (w : DirtyView) (loading : IsLoading u net numbers w) (whole : AreReadLists u.base.setting.design u.lists) (there : net < nets_of u.base.setting) (more : length numbers < 8 * length (list_of u.lists net)) where
  abbrev flight' : Flight
  flight' = record { net = net; numbers = numbers; published = 0 }

  abbrev word' : ℕ
  word' = word_to_load (list_of u.lists net) (length numbers)

  pub flies : w.flight ≡ Some flight'
  flies = ap (λ (x : DirtyView). x.flight) loading.after

  pub in_words : word' < 8 * nets_of u.base.setting
  in_words = load_there u.base.setting.design net (length numbers) (list_of u.lists net) loading.from.sound.sound (whole.each net there) more

  pub loading_more : (n : ℕ) (x : DirtyView) → Loaded w flight' word' n x → IsLoading u net (numbers ++ n ∷ []) x
  loading_more n x step = record {
    seen = set loading.seen word' n;
    after = step.after ∙ ap (λ (y : DirtyView). with_loaded y flight' word' n) loading.after;
    from = record {
      sound = later_sound;
      onward = are_trans way (bounds_in u.base.seen) (bounds_in loading.seen) (bounds_in (set loading.seen word' n)) loading.from.onward (seen_onward way loading.seen word' n inside found);
      loaded = loaded_more u.base.setting loading.seen (list_of u.lists net) numbers word' n refl more loading.from.loaded inside found later_sound;
      past = past_more;
    };
  }
    where
      way : Direction
      way = u.base.setting.way

      inside : word' < length loading.seen
      inside = let c = loading.from.sound.count in let h = in_words in omega (arith, c, h)

      found : IsBoundNoFurther u.base.setting.way (word' % 2) (bounds_in loading.seen word') (bound_in n)
      found = subst (λ (y : DirtyView). IsBoundNoFurther y.base.setting.way (word' % 2) (bounds_in y.base.seen word') (bound_in n)) loading.after step.found.past

      later_sound : IsSeen u.base.setting (set loading.seen word' n)
      later_sound = subst (λ (y : DirtyView). IsSeen y.base.setting y.base.seen) (step.after ∙ ap (λ (y : DirtyView). with_loaded y flight' word' n) loading.after) step.seen

      past_more : (i : ℕ) → i < length (numbers ++ n ∷ []) → IsBoundNoFurther u.base.setting.way (word_to_load (list_of u.lists net) i % 2) (bounds_in u.base.seen (word_to_load (list_of u.lists net) i)) (bound_in (slice_index (numbers ++ n ∷ []) i))
      past_more i lt =
          let len : length (numbers ++ n ∷ []) ≡ length numbers + 1 = length-append numbers (n ∷ []) in
          let reads = list_of u.lists net in
          let a = u.base.setting.way in
          elim (cases_lt i (length numbers)) [
            | inl p ↦
                let x = word_to_load reads i in
                subst (λ b. IsBoundNoFurther a (x % 2) (bounds_in u.base.seen x) (bound_in b)) (sym (get_or_append_left numbers (n ∷ []) 0 i p)) (loading.from.past i p)
            | inr p ↦
                let at : length numbers ≡ i = omega (arith, p, lt, len) in
                let here = bound_trans a (word' % 2) (bounds_in u.base.seen word') (bounds_in loading.seen word') (bound_in n) (loading.from.onward word') found in
                let moved = subst (λ j. IsBoundNoFurther a (word_to_load reads j % 2) (bounds_in u.base.seen (word_to_load reads j)) (bound_in n)) at here in
                subst (λ b. IsBoundNoFurther a (word_to_load reads i % 2) (bounds_in u.base.seen (word_to_load reads i)) (bound_in b)) (sym (last_at numbers n i at)) moved
          ]

-- the word at a place of a net of the read list, where all words before it are loaded
module _ (lists : List (List NetId)) (net : ℕ) (numbers : List ℕ) (reads : List NetId) (i place : ℕ) (same : reads ≡ reads_of lists net) (inside : i < length reads) (few : place < 8) (count : length numbers ≡ 8 * i + place) where
  pub words_left : length numbers < 8 * length (list_of lists net)
  words_left =
      let n = ids_count (reads_of lists net) in
      let e = ap length same in
      omega (arith, n, e, inside, few, count)

  pub word_left : (x : NetId) → 8 * (get_or reads i x).0 + place ≡ word_to_load (list_of lists net) (length numbers)
  word_left x =
      let list = list_of lists net in
      let here : (get_or reads i x).0 ≡ get_or list i 0 = sym (id_at reads i x inside) ∙ ap (λ (ns : List NetId). get_or (ids ns) i 0) same in
      let at : i ≡ length numbers / 8 = omega (arith, count, few) in
      let rest : place ≡ length numbers % 8 = omega (arith, count, few) in
      ap (λ n. 8 * n + place) here ∙ (ap (λ j. 8 * get_or list j 0 + place) at ∙ ap (λ r. 8 * get_or list (length numbers / 8) 0 + r) rest)

pub none_left : (lists : List (List NetId)) (net : ℕ) (numbers : List ℕ) (reads : List NetId) (i : ℕ) → reads ≡ reads_of lists net → i ≡ length reads → length numbers ≡ 8 * i → length numbers ≡ 8 * length (list_of lists net)
none_left lists net numbers reads i same end count =
    let n = ids_count (reads_of lists net) in
    let e = ap length same in
    omega (arith, n, e, end, count)

-- the word that is loaded next, by its place in the read list
module _ (u : DirtyView) (net : ℕ) (numbers : List ℕ) (w : DirtyView) (loading : IsLoading u net numbers w) (lists : List (List NetId)) (same : u.lists ≡ lists) (whole : AreReadLists u.base.setting.design lists) (there : net < nets_of u.base.setting)
    (more : length numbers < 8 * length (list_of lists net)) (word : ℕ) (is : word ≡ word_to_load (list_of lists net) (length numbers)) where
  own_whole : AreReadLists u.base.setting.design u.lists
  own_whole = subst (AreReadLists u.base.setting.design) (sym same) whole

  own_more : length numbers < 8 * length (list_of u.lists net)
  own_more = subst (λ (ls : List (List NetId)). length numbers < 8 * length (list_of ls net)) (sym same) more

  own_word : word ≡ word_to_load (list_of u.lists net) (length numbers)
  own_word = is ∙ ap (λ (ls : List (List NetId)). word_to_load (list_of ls net) (length numbers)) (sym same)

  pub next_in_words : word < 8 * nets_of w.base.setting
  next_in_words =
      let h = in_words u net numbers w loading own_whole there own_more in
      let at : nets_of w.base.setting ≡ nets_of u.base.setting = ap (λ (x : DirtyView). nets_of x.base.setting) loading.after in
      let k = own_word in
      omega (arith, h, at, k)

  pub next_to_load : IsNextToLoad w word (record { net = net; numbers = numbers; published = 0 })
  next_to_load =
      let ls : w.lists ≡ lists = ap (λ (x : DirtyView). x.lists) loading.after ∙ same in
      record {
        flight = flies u net numbers w loading own_whole there own_more;
        more = subst (λ (xs : List (List NetId)). length numbers < 8 * length (list_of xs net)) (sym ls) more;
        place = is ∙ ap (λ (xs : List (List NetId)). word_to_load (list_of xs net) (length numbers)) (sym ls);
      }

  pub loading_next : (n : ℕ) (x : DirtyView) → ((f : Flight) → w.flight ≡ Some f → Loaded w f word n x) → IsLoading u net (numbers ++ n ∷ []) x
  loading_next n x step =
      let f : Flight = record { net = net; numbers = numbers; published = 0 } in
      let here = step f (flies u net numbers w loading own_whole there own_more) in
      loading_more u net numbers w loading own_whole there own_more n x (subst (λ i. Loaded w f i n x) own_word here)

-- a word that is loaded is put after those before it
pub loading_put : (u : DirtyView) (net : ℕ) (xs : List ℕ) (at n : ℕ) (x : DirtyView) → at < length xs → IsLoading u net (take at xs ++ n ∷ []) x → IsLoading u net (take (at + 1) (set xs at n)) x
loading_put u net xs at n x inside more = subst (λ ns. IsLoading u net ns x) (sym (take_more_set xs at n inside)) more

-- as many numbers as there are words before a place
pub put_count : (xs : List ℕ) (at most : ℕ) → at < most → most ≤ length xs → length (take at xs) ≡ at
put_count xs at most lt room = length-take-le at xs (omega (arith, lt, room))

-- what the operator makes of what was seen before is no further than what it makes of what was loaded
pub evaluated_past : (u : DirtyView) (net : ℕ) (seen numbers : List ℕ) → AreReadLists u.base.setting.design u.lists → net < nets_of u.base.setting → length numbers ≡ 8 * length (list_of u.lists net) → AreLoadedFrom u net seen numbers
    → (i : ℕ) → i < 8 → IsBoundNoFurther u.base.setting.way (i % 2) (onward u.base.setting.design (bounds_in u.base.seen) (8 * net + i)) (bound_at (evaluated u.base.setting.design (list_of u.lists net) numbers net) i)
evaluated_past u net seen numbers whole there all from i lt =
    let a = u.base.setting in
    let reads = list_of u.lists net in
    let f = loaded_bounds reads numbers in
    let word = 8 * net + i in
    let R = Contains reads in
    let n : word / 8 ≡ net = omega arith in
    let side : word % 2 ≡ i % 2 = omega arith in
    let hold = subst (λ m. HoldsOfReads R a.design m) (sym n) (nets_read a.design net reads (whole.each net there)) in
    let at : (x : ℕ) → R (x / 8) → IsBoundNoFurther a.way (x % 2) (bounds_in u.base.seen x) (f x) =
    λ x h.
    let p = place_of reads (x / 8) in
    let inside = (placed reads (x / 8) h).inside in
    subst (λ y. IsBoundNoFurther a.way (y % 2) (bounds_in u.base.seen y) (bound_in (slice_index numbers (8 * p + x % 8)))) (word_placed reads x h) (from.past (8 * p + x % 8) (omega (arith, inside, all))) in
    let step = onward_mono_at R a.way a.design (bounds_in u.base.seen) f word (wired a.design from.sound.sound) hold at in
    subst (IsBoundNoFurther a.way (i % 2) (onward a.design (bounds_in u.base.seen) word)) (sym (bound_onward a.design f net i lt))
    (subst (λ s. IsBoundNoFurther a.way s (onward a.design (bounds_in u.base.seen) word) (onward a.design f word)) side step)

-- ---- publishing
-- the further of a number and a value is another number exactly where the value is on its far side
pub lowered_apart : (n v : ℕ) → v < n → min n v ≡ n → ⊥
lowered_apart n v h e = omega (arith, h, e)

pub lowered_same : (n v : ℕ) → n ≤ v → min n v ≡ n
lowered_same n v h = omega (arith, h)

pub raised_apart : (n v : ℕ) → n < v → max n v ≡ n → ⊥
raised_apart n v h e = omega (arith, h, e)

pub raised_same : (n v : ℕ) → v ≤ n → max n v ≡ n
raised_same n v h = omega (arith, h)

less : (m n : ℕ) → IsTrue (nat_lt m n) → m < n
less m n t = grind (arith, nat_tests)

not_less : (m n : ℕ) → IsFalse (nat_lt m n) → n ≤ m
not_less m n t = grind (arith, nat_tests)

-- the word was lowered, or raised
pub lowered_word : (u w : DirtyView) (f : Flight) (word value number : ℕ) → MovesDown u.base.setting.way (word % 2) → Published u f word number (min number value) w → HasPublished u f word value (nat_lt value number) w
lowered_word u w f word value number down step =
    let left : further u.base.setting.way (word % 2) number value ≡ min number value = further_down u.base.setting.way (word % 2) number value down in
    record {
      number = number;
      published = subst (λ n. Published u f word number n w) (sym left) step;
      moves = λ t e. lowered_apart number value (less value number t) (sym left ∙ e);
      stays = λ t. left ∙ lowered_same number value (not_less value number t);
    }

pub raised_word : (u w : DirtyView) (f : Flight) (word value number : ℕ) → MovesUp u.base.setting.way (word % 2) → Published u f word number (max number value) w → HasPublished u f word value (nat_lt number value) w
raised_word u w f word value number up step =
    let left : further u.base.setting.way (word % 2) number value ≡ max number value = further_up u.base.setting.way (word % 2) number value up in
    record {
      number = number;
      published = subst (λ n. Published u f word number n w) (sym left) step;
      moves = λ t e. raised_apart number value (less number value t) (sym left ∙ e);
      stays = λ t. left ∙ raised_same number value (not_less number value t);
    }

-- a word that moved is another bound than what was seen before: bounds past it do not come back
strictly : (way : Direction) (side before n left : ℕ) → IsBoundNoFurther way side (bound_in before) (bound_in n) → IsBoundNoFurther way side (bound_in n) (bound_in left) → (left ≡ n → ⊥) → bound_in before ≡ bound_in left → ⊥
strictly Widen zero before n left h k ne e = ne (omega (arith, ints, h, k, e))
strictly Widen (suc s) before n left h k ne e = ne (omega (arith, ints, h, k, e))
strictly Narrow zero before n left h k ne e = ne (omega (arith, ints, h, k, e))
strictly Narrow (suc s) before n left h k ne e = ne (omega (arith, ints, h, k, e))

-- a bound that moved on does not come back
stays_apart : (way : Direction) (side : ℕ) (a b c : ℤ) → IsBoundNoFurther way side a b → IsBoundNoFurther way side b c → (a ≡ b → ⊥) → a ≡ c → ⊥
stays_apart Widen zero a b c h k ne e = ne (omega (arith, ints, h, k, e))
stays_apart Widen (suc s) a b c h k ne e = ne (omega (arith, ints, h, k, e))
stays_apart Narrow zero a b c h k ne e = ne (omega (arith, ints, h, k, e))
stays_apart Narrow (suc s) a b c h k ne e = ne (omega (arith, ints, h, k, e))

starts_apart : (way : Direction) (side : ℕ) (a b c : ℤ) → IsBoundNoFurther way side a b → IsBoundNoFurther way side b c → (b ≡ c → ⊥) → a ≡ c → ⊥
starts_apart Widen zero a b c h k ne e = ne (omega (arith, ints, h, k, e))
starts_apart Widen (suc s) a b c h k ne e = ne (omega (arith, ints, h, k, e))
starts_apart Narrow zero a b c h k ne e = ne (omega (arith, ints, h, k, e))
starts_apart Narrow (suc s) a b c h k ne e = ne (omega (arith, ints, h, k, e))

pub moved_on : (way : Direction) (xs ys zs : List ℕ) → AreNoFurther way (bounds_in xs) (bounds_in ys) → AreNoFurther way (bounds_in ys) (bounds_in zs) → HasMoved xs ys → HasMoved xs zs
moved_on way xs ys zs h k m = record { word = m.word; moved = stays_apart way (m.word % 2) (bounds_in xs m.word) (bounds_in ys m.word) (bounds_in zs m.word) (h m.word) (k m.word) m.moved }

pub moved_before : (way : Direction) (xs ys zs : List ℕ) → AreNoFurther way (bounds_in xs) (bounds_in ys) → AreNoFurther way (bounds_in ys) (bounds_in zs) → HasMoved ys zs → HasMoved xs zs
moved_before way xs ys zs h k m = record { word = m.word; moved = starts_apart way (m.word % 2) (bounds_in xs m.word) (bounds_in ys m.word) (bounds_in zs m.word) (h m.word) (k m.word) m.moved }

pub none_published : (u : DirtyView) (net : ℕ) (pair : Pair) (f : Flight) → IsSeen u.base.setting u.base.seen → IsReady u net pair f → IsPublishing u net pair f 0 false u
none_published u net pair f seen ready =
    let same : f ≡ record f { published = 0 } = λ i. record f { published = ready.none i } in
    let flight = ready.flight ∙ ap (λ (g : Flight). Some g) same in
    record {
      seen = u.base.seen;
      made = u.base.made;
      owed = u.owed;
      after = λ i. record u { flight = flight i };
      sound = seen;
      onward = are_refl u.base.setting.way (bounds_in u.base.seen);
      past = λ i h. absurd (omega (arith, h));
      count = omega arith;
      debts = λ lie. absurd (false_true lie);
      none = λ _. refl;
    }
  where
    false_true : IsTrue false → ⊥
    false_true h = cc

same_test : (m n : ℕ) → m ≡ n → (m == n) ≡ true
same_test m n e = grind (arith, nat_tests)

apart_test : (m n : ℕ) → (m ≡ n → ⊥) → (m == n) ≡ false
apart_test m n e = grind (arith, nat_tests)

module _ (u : DirtyView) (net : ℕ) (pair : Pair) (f : Flight) (place : ℕ) (moved : Bool) (w : DirtyView) (at : IsPublishing u net pair f place moved w) (own : f.net ≡ net) (free : u.owed ≡ []) (there : net < nets_of u.base.setting) (more : place < 8)
    (value : ℕ) (is : bound_in value ≡ bound_at pair place) where
  abbrev next' : Flight
  next' = record f { published = place }

  abbrev spot' : ℕ
  spot' = 8 * net + place

  pub flying_next : w.flight ≡ Some next'
  flying_next =
      let t : nat_lt place 8 ≡ true = grind (arith, nat_tests) in
      let e : flight_at f place ≡ Some next' = rw t refl in
      ap (λ (x : DirtyView). x.flight) at.after ∙ e

  inside : spot' < length at.seen
  inside = let c = at.sound.count in let h = there in let m = more in omega (arith, c, h, m)

  side : spot' % 2 ≡ place % 2
  side = omega arith

  module _ (one : Bool) (x : DirtyView) (step : HasPublished w next' spot' value one x) where
    abbrev left' : ℕ
    left' = further w.base.setting.way (spot' % 2) step.number value

    abbrev later' : List ℕ
    later' = set at.seen spot' left'

    abbrev owed' : List ℕ
    owed' = owed_after w net step.number left'

    way_is : w.base.setting.way ≡ u.base.setting.way
    way_is = ap (λ (y : DirtyView). y.base.setting.way) at.after

    after : x ≡ with_words u f (place + 1) later' (u.base.made + (place + 1)) owed'
    after =
        let made : at.made + 1 ≡ u.base.made + (place + 1) = let c = at.count in omega (arith, c) in
        let one : x ≡ with_published (with_words u f place at.seen at.made at.owed) next' step.number left' = step.published.after ∙ ap (λ (y : DirtyView). with_published y next' step.number left') at.after in
        let owes : owed_after (with_words u f place at.seen at.made at.owed) f.net step.number left' ≡ owed' =
        ap (λ n. owed_after (with_words u f place at.seen at.made at.owed) n step.number left') own ∙ ap (λ (y : DirtyView). owed_after y net step.number left') (sym at.after) in
        let seen : set at.seen (8 * f.net + place) left' ≡ later' = ap (λ n. set at.seen (8 * n + place) left') own in
        one ∙ (λ i. with_words u f (place + 1) (seen i) (made i) (owes i))

    found : IsBoundNoFurther u.base.setting.way (spot' % 2) (bounds_in at.seen spot') (bound_in step.number)
    found = subst (λ (y : DirtyView). IsBoundNoFurther y.base.setting.way (spot' % 2) (bounds_in y.base.seen spot') (bound_in step.number)) at.after step.published.found.past

    first : IsBoundNoFurther u.base.setting.way (spot' % 2) (bound_in step.number) (bound_in left')
    first = subst (λ (d : Direction). IsBoundNoFurther d (spot' % 2) (bound_in step.number) (bound_in left')) way_is (further_first w.base.setting.way (spot' % 2) step.number value)

    second : IsBoundNoFurther u.base.setting.way (spot' % 2) (bound_in value) (bound_in left')
    second = subst (λ (d : Direction). IsBoundNoFurther d (spot' % 2) (bound_in value) (bound_in left')) way_is (further_second w.base.setting.way (spot' % 2) step.number value)

    on : AreNoFurther u.base.setting.way (bounds_in at.seen) (bounds_in later')
    on = seen_onward u.base.setting.way at.seen spot' left' inside (bound_trans u.base.setting.way (spot' % 2) (bounds_in at.seen spot') (bound_in step.number) (bound_in left') found first)

    sound : IsSeen u.base.setting later'
    sound = subst (λ (y : DirtyView). IsSeen y.base.setting y.base.seen) after step.published.seen

    past : (i : ℕ) → i < place + 1 → IsBoundNoFurther u.base.setting.way (i % 2) (bound_at pair i) (bounds_in later' (8 * net + i))
    past i lt = elim (cases_lt i place) [
      | inl p ↦
          let y = 8 * net + i in
          let par : y % 2 ≡ i % 2 = omega arith in
          bound_trans u.base.setting.way (i % 2) (bound_at pair i) (bounds_in at.seen y) (bounds_in later' y) (at.past i p)
          (subst (λ s. IsBoundNoFurther u.base.setting.way s (bounds_in at.seen y) (bounds_in later' y)) par (on y))
      | inr p ↦
          let e : place ≡ i = omega (arith, lt, p) in
          let here : bounds_in later' spot' ≡ bound_in left' = ap bound_in (number_here at.seen spot' left' inside) in
          let one : IsBoundNoFurther u.base.setting.way (place % 2) (bound_at pair place) (bounds_in later' spot') =
          subst (λ s. IsBoundNoFurther u.base.setting.way s (bound_at pair place) (bounds_in later' spot')) side
          (subst (IsBoundNoFurther u.base.setting.way (spot' % 2) (bound_at pair place)) (sym here) (subst (λ b. IsBoundNoFurther u.base.setting.way (spot' % 2) b (bound_in left')) is second)) in
          subst (λ j. IsBoundNoFurther u.base.setting.way (j % 2) (bound_at pair j) (bounds_in later' (8 * net + j))) e one
    ]

    whole_on : AreNoFurther u.base.setting.way (bounds_in u.base.seen) (bounds_in later')
    whole_on = are_trans u.base.setting.way (bounds_in u.base.seen) (bounds_in at.seen) (bounds_in later') at.onward on

    lists_is : w.lists ≡ u.lists
    lists_is = ap (λ (y : DirtyView). y.lists) at.after

    owed_is : w.owed ≡ at.owed
    owed_is = ap (λ (y : DirtyView). y.owed) at.after

    -- the word moved
    pub published_yes : IsTrue one → IsPublishing u net pair f (place + 1) true x
    published_yes did =
        let apart : left' ≡ step.number → ⊥ = step.moves did in
        let t : (left' == step.number) ≡ false = apart_test left' step.number apart in
        let gains : owed' ≡ at.owed ++ readers_of u.lists net = let e : owed' ≡ w.owed ++ readers_of w.lists net = rw t refl in e ∙ (λ i. owed_is i ++ readers_of (lists_is i) net) in
        let a = bounds_in u.base.seen spot' in
        let b = bound_in step.number in
        let here : bounds_in later' spot' ≡ bound_in left' = ap bound_in (number_here at.seen spot' left' inside) in
        let before = bound_trans u.base.setting.way (spot' % 2) a (bounds_in at.seen spot') b (at.onward spot') found in
        let strict : a ≡ bound_in left' → ⊥ = strictly u.base.setting.way (spot' % 2) (number_at u.base.seen spot') step.number left' before first apart in
        let has : HasMoved u.base.seen later' = record { word = spot'; moved = λ e. strict (e ∙ here) } in
        record {
          seen = later';
          made = u.base.made + (place + 1);
          owed = owed';
          after = after;
          sound = sound;
          onward = whole_on;
          past = past;
          count = refl;
          debts = λ _. record {
            moved = has;
            debts = λ m. (
              λ c. elim (Contains-append_cases at.owed (readers_of u.lists net) m (subst (λ xs. Contains xs m) gains c)) [
                | inl old ↦ before_readers moved at.debts at.none m old
                | inr new ↦ new
              ],
              λ c. subst (λ xs. Contains xs m) (sym gains) (Contains-append_right at.owed (readers_of u.lists net) m c),
            );
          };
          none = λ lie. absurd (true_false lie);
        }
      where
        true_false : IsFalse true → ⊥
        true_false h = cc

        before_readers : (b : Bool) → (IsTrue b → OwesReaders u net at.seen at.owed) → (IsFalse b → at.owed ≡ u.owed) → (m : ℕ) → Contains at.owed m → Contains (readers_of u.lists net) m
        before_readers true debts none m c = ((debts refl).debts m).0 c
        before_readers false debts none m c = let e = (subst (λ xs. Contains xs m) (none refl ∙ free) c).1 in absurd (omega (arith, e))

    -- it did not
    pub published_no : IsFalse one → IsPublishing u net pair f (place + 1) moved x
    published_no still =
        let same : left' ≡ step.number = step.stays still in
        let t : (left' == step.number) ≡ true = same_test left' step.number same in
        let keeps : owed' ≡ at.owed = let e : owed' ≡ w.owed = rw t refl in e ∙ owed_is in
        record {
          seen = later';
          made = u.base.made + (place + 1);
          owed = owed';
          after = after;
          sound = sound;
          onward = whole_on;
          past = past;
          count = refl;
          debts = λ did. let d = at.debts did in record {
            moved = moved_on u.base.setting.way u.base.seen at.seen later' at.onward on d.moved;
            debts = λ m. (λ c. (d.debts m).0 (subst (λ xs. Contains xs m) keeps c), λ c. subst (λ xs. Contains xs m) (sym keeps) ((d.debts m).1 c));
          };
          none = λ lie. keeps ∙ at.none lie;
        }

-- ---- the words of a flight, one after another
-- the number of a bound denotes it
pub value_found : (pair : Pair) (place : ℕ) → IsPairInRange pair → (value : ℕ) → value ≡ number_for (bound_at pair place) → bound_in value ≡ bound_at pair place
value_found pair place range value is = ap bound_in is ∙ (bound_there (bound_at pair place) (bound_in_range pair place range)).0

-- what was asked of one flight holds of each that the pass has
pub ready_at : (u : DirtyView) (net : ℕ) (pair : Pair) (f g : Flight) → IsReady u net pair f → u.flight ≡ Some g → IsReady u net pair g
ready_at u net pair f g ready e = subst (IsReady u net pair) (same_Some f g (sym ready.flight ∙ e)) ready

module _ (u : DirtyView) (net : ℕ) (pair : Pair) (f : Flight) (ready : IsReady u net pair f) (place : ℕ) (moved : Bool) (w : DirtyView) (at : IsPublishing u net pair f place moved w) (free : u.owed ≡ []) (there : net < nets_of u.base.setting) (more : place < 8)
    (value : ℕ) (is : bound_in value ≡ bound_at pair place) where
  abbrev flying' : Flight
  flying' = record f { published = place }

  abbrev word'' : ℕ
  word'' = 8 * net + place

  here : w.flight ≡ Some flying'
  here = flying_next u net pair f place moved w at ready.own free there more value is

  pub next_way : (way : Direction) → u.base.setting.way ≡ way → w.base.setting.way ≡ way
  next_way way e = ap (λ (x : DirtyView). x.base.setting.way) at.after ∙ e

  pub next_inside : word'' < 8 * nets_of w.base.setting
  next_inside = let e : nets_of w.base.setting ≡ nets_of u.base.setting = ap (λ (x : DirtyView). nets_of x.base.setting) at.after in omega (arith, e, there, more)

  pub next_to_publish : IsNextToPublish w word'' value flying'
  next_to_publish =
      let own = ready.own in
      let P : DirtyView → Type 0 = λ x. length f.numbers ≡ 8 * length (list_of x.lists f.net) in
      let Q : DirtyView → Type 0 = λ x. bound_in value ≡ bound_at (evaluated x.base.setting.design (list_of x.lists f.net) f.numbers f.net) place in
      let whole : length f.numbers ≡ 8 * length (list_of u.lists f.net) = subst (λ n. length f.numbers ≡ 8 * length (list_of u.lists n)) (sym own) ready.whole in
      let made : bound_in value ≡ bound_at (evaluated u.base.setting.design (list_of u.lists f.net) f.numbers f.net) place =
      is ∙ (ap (λ p. bound_at p place) ready.value ∙ ap (λ n. bound_at (evaluated u.base.setting.design (list_of u.lists n) f.numbers n) place) (sym own)) in
      record {
        flight = here;
        whole = subst P (sym at.after) whole;
        place = ap (λ n. 8 * n + place) (sym own);
        number = subst Q (sym at.after) made;
      }

  module _ (one : Bool) (x : DirtyView) (step : (g : Flight) → w.flight ≡ Some g → HasPublished w g word'' value one x) where
    pub next_moved : IsTrue one → IsPublishing u net pair f (place + 1) true x
    next_moved did = published_yes u net pair f place moved w at ready.own free there more value is one x (step flying' here) did

    pub next_stayed : IsFalse one → IsPublishing u net pair f (place + 1) moved x
    next_stayed still = published_no u net pair f place moved w at ready.own free there more value is one x (step flying' here) still
