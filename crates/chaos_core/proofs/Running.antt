-- A worker's run, step by step.
use Rattle.std.proofs.Common.{◌≡◌, ℕ, suc, ◌+◌, ◌-◌, ◌*◌, ◌/◌, ◌%◌, ◌<◌, ◌≤◌, nat_lt, true, ◌⊎◌, inl, inr, refl, sym, ap, subst, ◌∙◌, List, [], ◌∷◌, ◌++◌, length, max, arith}
use Rattle.std.specs.Prelude.{Bool, false, slice_index}
use Rattle.std.specs.List.{All, Contains}
use Rattle.std.proofs.lemmas.Bool.{cases_lt}
use Rattle.std.proofs.lemmas.List.{get_or_append_left, length-append}
use Rattle.std.proofs.lemmas.List.Elements.{Contains-push, Contains-push_cases}
use Rattle.xt_model.specs.declared.net.NetId.{NetId}
use Rattle.xt_model.specs.declared.quad.Pair.{Pair}
use Rattle.xt_model.specs.Sound.{IsSound}
use Rattle.xt_model.specs.Levels.{IsOrder}
use Rattle.xt_meaning.specs.Reads.{HoldsOfReads, IsReadList}
use Rattle.xt_meaning.specs.Barrier.{IsBoundNoFurther}
use Rattle.xt_meaning.specs.Words.{bound_in, number_for, number_at, bounds_in, onward, AreNoFurther, further}
use Rattle.xt_meaning.proofs.Growth.{wired}
use Rattle.xt_meaning.proofs.Steps.{bound_trans}
use Rattle.xt_meaning.proofs.Numbers.{onward_mono_at, further_second, bound_there}
use Rattle.net_eval.specs.ReadLists.{AreReadLists}
use Rattle.chaos_core.specs.declared.setting.Setting.{Setting}
use Rattle.chaos_core.specs.declared.worker.Moved.{Moved}
use Rattle.chaos_core.specs.Boards.{nets_of, Knowledge, Loads, Publishes, Draws, counted, late_after}
use Rattle.chaos_core.specs.Tasks.{Task, idle, loading, publishing, done, list_of, place_of, word_to_load, loaded_bounds, evaluated, bound_at, with_loaded, moved_on}
use Rattle.chaos_core.specs.Steps.{FitsLoading, FitsPublishing, Fits, Steps}
use Rattle.chaos_core.specs.Runs.{IsDone, count_below, HasPassed, Ran}
use Rattle.chaos_core.proofs.Places.{placed, word_placed, nets_read, order_there}
use Rattle.chaos_core.proofs.Sight.{are_refl, are_trans, number_here}
use Rattle.chaos_core.proofs.Loads.{last_at, bound_onward}
use Rattle.chaos_core.proofs.Stages.{bound_in_range}
use Rattle.chaos_core.proofs.Moves.{below, not_below, load_inside, load_onward, publish_onward}

-- ---- what a worker at a task owes to what was seen when it began
-- the worker is at this net
abbrev pub IsAt : Task → ℕ → Type 0
IsAt idle net = ⊥
IsAt (loading own numbers) net = own ≡ net
IsAt (publishing own pair place) net = own ≡ net
IsAt done net = ⊥

-- these numbers of the first words of a read list are at or past what was seen
abbrev pub ArePast : Knowledge → List ℕ → List ℕ → Type 0
ArePast k reads numbers = (i : ℕ) → i < length numbers
    → IsBoundNoFurther k.setting.way (word_to_load reads i % 2) (bounds_in k.seen (word_to_load reads i)) (bound_in (slice_index numbers i))

-- windows of a net that are at or past what the operator makes of what was seen
abbrev pub IsPast : Knowledge → ℕ → Pair → Type 0
IsPast k net pair = (i : ℕ) → i < 8 → IsBoundNoFurther k.setting.way (i % 2) (onward k.setting.design (bounds_in k.seen) (8 * net + i)) (bound_at pair i)

abbrev pub IsBusy : List (List NetId) → Knowledge → Knowledge → Task → Type 0
IsBusy lists k l idle = Unit {0}
IsBusy lists k l (loading net numbers) = ArePast k (list_of lists net) numbers
IsBusy lists k l (publishing net pair place) = IsPast k net pair × HasPassed k l net place
IsBusy lists k l done = Unit {0}

-- how many words of its net a worker has yet to publish
abbrev pub left_of : Task → ℕ
left_of idle = 0
left_of (loading net numbers) = 8
left_of (publishing net pair place) = 8 - place
left_of done = 0

-- one more than the greatest of several numbers, 0 for none
abbrev pub above : List ℕ → ℕ
above [] = 0
above (n ∷ more) = max (n + 1) (above more)

pub record Running (lists : List (List NetId)) (order : List ℕ) (k l : Knowledge) (t : Task) : Type 0 where
  pub setting : l.setting ≡ k.setting
  pub home : l.home ≡ k.home
  pub alone : l.alone ≡ k.alone
  pub onward : AreNoFurther k.setting.way (bounds_in k.seen) (bounds_in l.seen)
  pub drawn : (n : ℕ) → Contains l.drawn n → n < nets_of k.setting → IsAt t (slice_index order n) ⊎ HasPassed k l (slice_index order n) 8
  pub busy : IsBusy lists k l t
  pub made : l.made + counted k.alone (left_of t) ≡ k.made + counted k.alone (8 * count_below (nets_of k.setting) l.drawn)
  pub late : (IsDone t → ⊥) → 0 < l.late
  pub few : (IsDone t → ⊥) → above l.drawn ≤ nets_of k.setting
  pub last : IsDone t → (n : ℕ) × Contains l.drawn n × (nets_of k.setting ≤ n)

-- ---- publications
made_none : (alone : Bool) (base below : ℕ) → below ≡ 0 → base + counted alone 0 ≡ base + counted alone (8 * below)
made_none true base below none = omega arith
made_none false base below none = omega (arith, none)

made_all : (alone : Bool) (base now some : ℕ) → now + counted alone 0 ≡ base + counted alone some → now ≡ base + counted alone some
made_all true base now some h = omega (arith, h)
made_all false base now some h = omega (arith, h)

-- none are counted for none
made_still : (alone : Bool) (now : ℕ) → now ≡ now + counted alone 0
made_still true now = omega arith
made_still false now = omega arith

-- after some publications more as many less are left, but for those of a net that was drawn
made_on : (alone : Bool) (base before after left later below more moved : ℕ) → before + counted alone left ≡ base + counted alone (8 * below) → after ≡ before + counted alone moved
    → later + moved + 8 * below ≡ left + 8 * more → after + counted alone later ≡ base + counted alone (8 * more)
made_on true base before after left later below more moved h step rest = omega (arith, h, step)
made_on false base before after left later below more moved h step rest = omega (arith, h, step, rest)

pub runs_from : (lists : List (List NetId)) (order : List ℕ) (k : Knowledge) → k.drawn ≡ [] → 0 < k.late → Running lists order k k idle
runs_from lists order k none late = record {
  setting = refl;
  home = refl;
  alone = refl;
  onward = are_refl k.setting.way (bounds_in k.seen);
  drawn = λ n h lt. absurd (empty n (subst (λ xs. Contains xs n) none h));
  busy = tt;
  made = made_none k.alone k.made (count_below (nets_of k.setting) k.drawn) (ap (count_below (nets_of k.setting)) none);
  late = λ h. late;
  few = λ h. let P : List ℕ → Type 0 = λ xs. above xs ≤ nets_of k.setting in subst P (sym none) (omega arith);
  last = λ h. absurd h;
} where
  empty : (n : ℕ) → Contains [] n → ⊥
  empty n h = let i = h.1 in absurd (omega (arith, i))

pub ran : (lists : List (List NetId)) (order : List ℕ) (k l : Knowledge) (t : Task) → IsDone t → Running lists order k l t → Ran order k l
ran lists order k l idle d r = absurd d
ran lists order k l (loading net numbers) d r = absurd d
ran lists order k l (publishing net pair place) d r = absurd d
ran lists order k l done d r = record {
  setting = r.setting;
  home = r.home;
  alone = r.alone;
  onward = r.onward;
  last = r.last tt;
  passed = λ n h lt. elim (r.drawn n h lt) [ inl a ↦ absurd a | inr p ↦ p ];
  made = made_all k.alone k.made l.made (8 * count_below (nets_of k.setting) l.drawn) r.made;
}

-- ---- numbers drawn
count_more : (bound : ℕ) (xs : List ℕ) (n : ℕ) → count_below bound (xs ++ n ∷ []) ≡ count_below bound xs + count_below bound (n ∷ [])
count_more bound [] n = omega arith
count_more bound (x ∷ xs) n = let h = count_more bound xs n in omega (arith, h)

pub above_at_most : (xs : List ℕ) (n : ℕ) → All (λ x. x < n) xs → above xs ≤ n
above_at_most [] n h = omega arith
above_at_most (x ∷ xs) n h =
    let a = h 0 0 (omega arith) in
    let b = above_at_most xs n (λ k d i. h (suc k) d (omega arith)) in
    omega (arith, a, b)

pub above_more : (xs : List ℕ) (n : ℕ) → above xs ≤ n → above (xs ++ n ∷ []) ≡ n + 1
above_more [] n h = omega arith
above_more (x ∷ xs) n h = let k = above_more xs n (omega arith) in omega (arith, h, k)

-- ---- what the operator makes of loaded numbers that are past what was seen
loaded_past : (k : Knowledge) (reads numbers : List ℕ) (net : ℕ) → length numbers ≡ 8 * length reads → ArePast k reads numbers → (word : ℕ) → Contains reads (word / 8)
    → IsBoundNoFurther k.setting.way (word % 2) (bounds_in k.seen word) (loaded_bounds reads numbers word)
loaded_past k reads numbers net whole past word h =
    let p = place_of reads (word / 8) in
    let inside = (placed reads (word / 8) h).inside in
    let i = 8 * p + word % 8 in
    subst (λ w. IsBoundNoFurther k.setting.way (w % 2) (bounds_in k.seen w) (bound_in (slice_index numbers i))) (word_placed reads word h) (past i (omega (arith, inside, whole)))

evaluated_past : (k : Knowledge) (reads numbers : List ℕ) (net : ℕ) → IsSound k.setting.design → IsReadList k.setting.design net reads → length numbers ≡ 8 * length reads → ArePast k reads numbers
    → IsPast k net (evaluated k.setting.design reads numbers net)
evaluated_past k reads numbers net sound list whole past i h =
    let d = k.setting.design in
    let way = k.setting.way in
    let word = 8 * net + i in
    let f = loaded_bounds reads numbers in
    let n : word / 8 ≡ net = omega arith in
    let par : word % 2 ≡ i % 2 = omega arith in
    let R = Contains reads in
    let hold = subst (λ m. HoldsOfReads R d m) (sym n) (nets_read d net reads list) in
    let m = onward_mono_at R way d (bounds_in k.seen) f word (wired d sound) hold (λ w r. loaded_past k reads numbers net whole past w r) in
    subst (λ b. IsBoundNoFurther way (i % 2) (onward d (bounds_in k.seen) word) b) (sym (bound_onward d f net i h))
    (subst (λ s. IsBoundNoFurther way s (onward d (bounds_in k.seen) word) (onward d f word)) par m)

-- ---- after a load, or a draw
pub record HasBegun (lists : List (List NetId)) (k l : Knowledge) (net : ℕ) (t : Task) : Type 0 where
  pub here : IsAt t net
  pub busy : IsBusy lists k l t
  pub left : left_of t ≡ 8
  pub more : IsDone t → ⊥

pub begun : (lists : List (List NetId)) (k l : Knowledge) (net : ℕ) (numbers : List ℕ) → IsSound k.setting.design → IsReadList k.setting.design net (list_of lists net)
    → length numbers ≤ 8 * length (list_of lists net) → ArePast k (list_of lists net) numbers → HasBegun lists k l net (with_loaded k.setting.design (list_of lists net) net numbers)
begun lists k l net numbers sound list count past =
    let reads = list_of lists net in
    elim (cases_lt (length numbers) (8 * length reads)) [
      | inl p ↦ rw (below (length numbers) (8 * length reads) p) (record { here = refl; busy = past; left = refl; more = λ h. h })
      | inr p ↦ rw (not_below (length numbers) (8 * length reads) p) (record {
        here = refl;
        busy = (evaluated_past k reads numbers net sound list (omega (arith, p, count)) past, λ i h. absurd (omega arith));
        left = omega arith;
        more = λ h. h;
      })
    ]

-- ---- one step
module _ (lists : List (List NetId)) (order : List ℕ) (k l m : Knowledge) (sound : IsSound k.setting.design) (are : AreReadLists k.setting.design lists) (o : IsOrder k.setting.design.nets order) where
  -- what was passed stays passed
  pub passed_later : AreNoFurther k.setting.way (bounds_in l.seen) (bounds_in m.seen) → (net most : ℕ) → HasPassed k l net most → HasPassed k m net most
  passed_later on net most h i lt =
      let w = 8 * net + i in
      let par : w % 2 ≡ i % 2 = omega arith in
      let step = subst (λ s. IsBoundNoFurther k.setting.way s (bounds_in l.seen w) (bounds_in m.seen w)) par (on w) in
      bound_trans k.setting.way (i % 2) (onward k.setting.design (bounds_in k.seen) w) (bounds_in l.seen w) (bounds_in m.seen w) (h i lt) step

  drew_place : (n : ℕ) → n < nets_of k.setting → Draws l n m → Running lists order k l idle → Running lists order k m (with_loaded k.setting.design (list_of lists (slice_index order n)) (slice_index order n) [])
  drew_place n lt h r =
      let net = slice_index order n in
      let u = with_loaded k.setting.design (list_of lists net) net [] in
      let there = order_there k.setting.design order n o lt in
      let P : Knowledge → Type 0 = λ x. Running lists order k x u in
      let x : Knowledge = record l { drawn = l.drawn ++ n ∷ []; late = late_after l n } in
      let b = begun lists k x net [] sound (are.each net there) (omega arith) (λ i h. absurd (omega arith)) in
      let t = below n (nets_of k.setting) lt in
      let tl : nat_lt n (nets_of l.setting) ≡ true = subst (λ (a : Setting). nat_lt n (nets_of a) ≡ true) (sym r.setting) t in
      let most = above_at_most l.drawn n h.greater in
      let more = above_more l.drawn n most in
      let count = count_more (nets_of k.setting) l.drawn n in
      let one : count_below (nets_of k.setting) (n ∷ []) ≡ 1 = rw t refl in
      let left = b.left in
      let drawn_now = count_below (nets_of k.setting) (l.drawn ++ n ∷ []) in
      subst P (sym h.after) (record {
        setting = r.setting;
        home = r.home;
        alone = r.alone;
        onward = r.onward;
        drawn = λ i has lti. elim (Contains-push_cases l.drawn n i has) [
          | inl old ↦ elim (r.drawn i old lti) [ inl a ↦ absurd a | inr p ↦ inr p ]
          | inr e ↦ inl (subst (λ j. IsAt u (slice_index order j)) e b.here)
        ];
        busy = b.busy;
        made = made_on k.alone k.made l.made l.made 0 (left_of u) (count_below (nets_of k.setting) l.drawn) drawn_now 0 r.made (made_still k.alone l.made) (omega (arith, left, count, one));
        late = λ go. rw tl (r.late (λ h. h));
        few = λ go. omega (arith, more, lt);
        last = λ dn. absurd (b.more dn);
      })

  drew_last : (n : ℕ) → nets_of k.setting ≤ n → Draws l n m → Running lists order k l idle → Running lists order k m done
  drew_last n ge h r =
      let P : Knowledge → Type 0 = λ x. Running lists order k x done in
      let t = not_below n (nets_of k.setting) ge in
      let count = count_more (nets_of k.setting) l.drawn n in
      let none : count_below (nets_of k.setting) (n ∷ []) ≡ 0 = rw t refl in
      let drawn_now = count_below (nets_of k.setting) (l.drawn ++ n ∷ []) in
      subst P (sym h.after) (record {
        setting = r.setting;
        home = r.home;
        alone = r.alone;
        onward = r.onward;
        drawn = λ i has lti. elim (Contains-push_cases l.drawn n i has) [
          | inl old ↦ elim (r.drawn i old lti) [ inl a ↦ absurd a | inr p ↦ inr p ]
          | inr e ↦ absurd (omega (arith, e, lti, ge))
        ];
        busy = tt;
        made = made_on k.alone k.made l.made l.made 0 0 (count_below (nets_of k.setting) l.drawn) drawn_now 0 r.made (made_still k.alone l.made) (omega (arith, count, none));
        late = λ go. absurd (go tt);
        few = λ go. absurd (go tt);
        last = λ dn. (n, Contains-push l.drawn n, ge);
      })

  own_way : l.setting ≡ k.setting → AreNoFurther l.setting.way (bounds_in l.seen) (bounds_in m.seen) → AreNoFurther k.setting.way (bounds_in l.seen) (bounds_in m.seen)
  own_way e h = subst (λ (a : Setting). AreNoFurther a.way (bounds_in l.seen) (bounds_in m.seen)) e h

  pub past_more : (reads numbers : List ℕ) (n : ℕ) → l.setting ≡ k.setting → AreNoFurther k.setting.way (bounds_in k.seen) (bounds_in l.seen) → Loads l (word_to_load reads (length numbers)) n m → ArePast k reads numbers
      → ArePast k reads (numbers ++ n ∷ [])
  past_more reads numbers n e on h past i lt =
      let len : length (numbers ++ n ∷ []) ≡ length numbers + 1 = length-append numbers (n ∷ []) in
      let way = k.setting.way in
      elim (cases_lt i (length numbers)) [
        | inl p ↦
            let w = word_to_load reads i in
            subst (λ b. IsBoundNoFurther way (w % 2) (bounds_in k.seen w) (bound_in b)) (sym (get_or_append_left numbers (n ∷ []) 0 i p)) (past i p)
        | inr p ↦
            let at : length numbers ≡ i = omega (arith, p, lt, len) in
            let w = word_to_load reads (length numbers) in
            let step : IsBoundNoFurther way (w % 2) (bounds_in l.seen w) (bound_in n) = subst (λ (a : Setting). IsBoundNoFurther a.way (w % 2) (bounds_in l.seen w) (bound_in n)) e h.found.past in
            let here = bound_trans way (w % 2) (bounds_in k.seen w) (bounds_in l.seen w) (bound_in n) (on w) step in
            let moved = subst (λ j. IsBoundNoFurther way (word_to_load reads j % 2) (bounds_in k.seen (word_to_load reads j)) (bound_in n)) at here in
            subst (λ b. IsBoundNoFurther way (word_to_load reads i % 2) (bounds_in k.seen (word_to_load reads i)) (bound_in b)) (sym (last_at numbers n i at)) moved
      ]

  loaded_one : (net : ℕ) (numbers : List ℕ) (n : ℕ) → FitsLoading l lists net numbers → Loads l (word_to_load (list_of lists net) (length numbers)) n m → Running lists order k l (loading net numbers)
      → Running lists order k m (with_loaded k.setting.design (list_of lists net) net (numbers ++ n ∷ []))
  loaded_one net numbers n fits h r =
      let reads = list_of lists net in
      let u = with_loaded k.setting.design reads net (numbers ++ n ∷ []) in
      let there : net < nets_of k.setting = subst (λ (a : Setting). net < nets_of a) r.setting fits.there in
      let are_l = subst (λ (a : Setting). AreReadLists a.design lists) (sym r.setting) are in
      let w = word_to_load reads (length numbers) in
      let inside : w < length l.seen = let i = load_inside l l lists net numbers w n are_l fits refl in let c = fits.seen.count in omega (arith, i, c) in
      let on = own_way r.setting (load_onward l m w n inside h) in
      let len : length (numbers ++ n ∷ []) ≡ length numbers + 1 = length-append numbers (n ∷ []) in
      let few = fits.more in
      let b = begun lists k m net (numbers ++ n ∷ []) sound (are.each net there) (omega (arith, len, few)) (past_more reads numbers n r.setting r.onward h r.busy) in
      let made : m.made ≡ l.made = ap (λ (x : Knowledge). x.made) h.after in
      let drawn : m.drawn ≡ l.drawn = ap (λ (x : Knowledge). x.drawn) h.after in
      let late : m.late ≡ l.late = ap (λ (x : Knowledge). x.late) h.after in
      let left = b.left in
      let same : count_below (nets_of k.setting) m.drawn ≡ count_below (nets_of k.setting) l.drawn = ap (count_below (nets_of k.setting)) drawn in
      record {
        setting = ap (λ (x : Knowledge). x.setting) h.after ∙ r.setting;
        home = ap (λ (x : Knowledge). x.home) h.after ∙ r.home;
        alone = ap (λ (x : Knowledge). x.alone) h.after ∙ r.alone;
        onward = are_trans k.setting.way (bounds_in k.seen) (bounds_in l.seen) (bounds_in m.seen) r.onward on;
        drawn = λ i has lti. elim (r.drawn i (subst (λ xs. Contains xs i) drawn has) lti) [
          | inl a ↦ inl (subst (IsAt u) a b.here)
          | inr p ↦ inr (passed_later on (slice_index order i) 8 p)
        ];
        busy = b.busy;
        made =
            made_on k.alone k.made l.made m.made 8 (left_of u) (count_below (nets_of k.setting) l.drawn) (count_below (nets_of k.setting) m.drawn) 0 r.made (made ∙ made_still k.alone l.made) (omega (arith, left, same));
        late = λ go. let z = r.late (λ h. h) in omega (arith, z, late);
        few = λ go. rw drawn (r.few (λ h. h));
        last = λ dn. absurd (b.more dn);
      }

  -- the word that was published is past
  pub published_word : (net place : ℕ) (pair : Pair) (n : ℕ) → FitsPublishing l net pair place → l.setting ≡ k.setting → IsPast k net pair
      → Publishes l (8 * net + place) n (further l.setting.way ((8 * net + place) % 2) n (number_for (bound_at pair place))) m
      → IsBoundNoFurther k.setting.way (place % 2) (onward k.setting.design (bounds_in k.seen) (8 * net + place)) (bounds_in m.seen (8 * net + place))
  published_word net place pair n fits e past h =
      let w = 8 * net + place in
      let there = fits.there in
      let most = fits.more in
      let value = number_for (bound_at pair place) in
      let left = further l.setting.way (w % 2) n value in
      let inside : w < length l.seen = let c = fits.seen.count in omega (arith, c, there, most) in
      let now : number_at m.seen w ≡ left = subst (λ (x : Knowledge). number_at x.seen w ≡ left) (sym h.after) (number_here l.seen w left inside) in
      let far = onward k.setting.design (bounds_in k.seen) w in
      let par : w % 2 ≡ place % 2 = omega arith in
      let bound : bound_in value ≡ bound_at pair place = (bound_there (bound_at pair place) (bound_in_range pair place fits.range)).0 in
      let second : IsBoundNoFurther l.setting.way (w % 2) (bound_in value) (bound_in left) = further_second l.setting.way (w % 2) n value in
      let own : IsBoundNoFurther k.setting.way (place % 2) (bound_in value) (bound_in left) =
      subst (λ s. IsBoundNoFurther k.setting.way s (bound_in value) (bound_in left)) par (subst (λ (a : Setting). IsBoundNoFurther a.way (w % 2) (bound_in value) (bound_in left)) e second) in
      subst (λ x. IsBoundNoFurther k.setting.way (place % 2) far (bound_in x)) (sym now)
      (bound_trans k.setting.way (place % 2) far (bound_in value) (bound_in left) (subst (λ b. IsBoundNoFurther k.setting.way (place % 2) far b) (sym bound) (past place most)) own)

  published_one : (net : ℕ) (pair : Pair) (place n : ℕ) → FitsPublishing l net pair place → Publishes l (8 * net + place) n (further l.setting.way ((8 * net + place) % 2) n (number_for (bound_at pair place))) m
      → Running lists order k l (publishing net pair place) → Running lists order k m (moved_on k.setting.design lists order (publishing net pair place) n)
  published_one net pair place n fits h r =
      let w = 8 * net + place in
      let there = fits.there in
      let most = fits.more in
      let value = number_for (bound_at pair place) in
      let inside : w < length l.seen = let c = fits.seen.count in omega (arith, c, there, most) in
      let on = own_way r.setting (publish_onward l m w value inside (n, h)) in
      let made : m.made ≡ l.made + counted k.alone 1 = ap (λ (x : Knowledge). x.made) h.after ∙ ap (λ alone. l.made + counted alone 1) r.alone in
      let drawn : m.drawn ≡ l.drawn = ap (λ (x : Knowledge). x.drawn) h.after in
      let late : m.late ≡ l.late = ap (λ (x : Knowledge). x.late) h.after in
      let same : count_below (nets_of k.setting) m.drawn ≡ count_below (nets_of k.setting) l.drawn = ap (count_below (nets_of k.setting)) drawn in
      let passed : HasPassed k m net (place + 1) = λ i lt. elim (cases_lt i place) [
        | inl p ↦ passed_later on net place r.busy.1 i p
        | inr p ↦
            let e : place ≡ i = omega (arith, p, lt) in
            subst (λ j. IsBoundNoFurther k.setting.way (j % 2) (onward k.setting.design (bounds_in k.seen) (8 * net + j)) (bounds_in m.seen (8 * net + j))) e
            (published_word net place pair n fits r.setting r.busy.0 h)
      ] in
      let later = are_trans k.setting.way (bounds_in k.seen) (bounds_in l.seen) (bounds_in m.seen) r.onward on in
      let before : (i : ℕ) → Contains m.drawn i → i < nets_of k.setting → (net ≡ slice_index order i) ⊎ HasPassed k l (slice_index order i) 8 = λ i has lti. r.drawn i (subst (λ xs. Contains xs i) drawn has) lti in
      elim (cases_lt (place + 1) 8) [
        | inl p ↦ rw (below (place + 1) 8 p) (record {
          setting = ap (λ (x : Knowledge). x.setting) h.after ∙ r.setting;
          home = ap (λ (x : Knowledge). x.home) h.after ∙ r.home;
          alone = ap (λ (x : Knowledge). x.alone) h.after ∙ r.alone;
          onward = later;
          drawn = λ i has lti. elim (before i has lti) [ inl a ↦ inl a | inr q ↦ inr (passed_later on (slice_index order i) 8 q) ];
          busy = (r.busy.0, passed);
          made =
              made_on k.alone k.made l.made m.made (8 - place) (8 - (place + 1)) (count_below (nets_of k.setting) l.drawn) (count_below (nets_of k.setting) m.drawn) 1 r.made made (omega (arith, same, most));
          late = λ go. let z = r.late (λ h. h) in omega (arith, z, late);
          few = λ go. rw drawn (r.few (λ h. h));
          last = λ dn. absurd dn;
        })
        | inr p ↦ rw (not_below (place + 1) 8 p) (record {
          setting = ap (λ (x : Knowledge). x.setting) h.after ∙ r.setting;
          home = ap (λ (x : Knowledge). x.home) h.after ∙ r.home;
          alone = ap (λ (x : Knowledge). x.alone) h.after ∙ r.alone;
          onward = later;
          drawn = λ i has lti. elim (before i has lti) [
            | inl a ↦ inr (subst (λ own. HasPassed k m own 8) a (λ j lt. passed j (omega (arith, lt, p))))
            | inr q ↦ inr (passed_later on (slice_index order i) 8 q)
          ];
          busy = tt;
          made =
              made_on k.alone k.made l.made m.made (8 - place) 0 (count_below (nets_of k.setting) l.drawn) (count_below (nets_of k.setting) m.drawn) 1 r.made made (omega (arith, same, most, p));
          late = λ go. let z = r.late (λ h. h) in omega (arith, z, late);
          few = λ go. rw drawn (r.few (λ h. h));
          last = λ dn. absurd dn;
        })
      ]

pub run_step : (lists : List (List NetId)) (order : List ℕ) (k l m : Knowledge) (t u : Task) (moved : Moved) → IsSound k.setting.design → AreReadLists k.setting.design lists → IsOrder k.setting.design.nets order
    → Fits l lists t → Steps k.setting.design lists order l t moved m u → Running lists order k l t → Running lists order k m u
run_step lists order k l m idle u moved sound are o fits s r =
    let P : Task → Type 0 = λ x. Running lists order k m x in
    subst P (sym s.next) (elim (cases_lt s.answer (nets_of k.setting)) [
      | inl p ↦ rw (below s.answer (nets_of k.setting) p) (drew_place lists order k l m sound are o s.answer p s.acts r)
      | inr p ↦ rw (not_below s.answer (nets_of k.setting) p) (drew_last lists order k l m sound are o s.answer p s.acts r)
    ])
run_step lists order k l m (loading net numbers) u moved sound are o fits s r =
    let P : Task → Type 0 = λ x. Running lists order k m x in
    subst P (sym s.next) (loaded_one lists order k l m sound are o net numbers s.answer fits s.acts r)
run_step lists order k l m (publishing net pair place) u moved sound are o fits s r =
    let P : Task → Type 0 = λ x. Running lists order k m x in
    subst P (sym s.next) (published_one lists order k l m sound are o net pair place s.answer fits s.acts r)
run_step lists order k l m done u moved sound are o fits s r =
    let P : Task → Type 0 = λ x. Running lists order k m x in
    let Q : Knowledge → Type 0 = λ x. Running lists order k x done in
    subst P (sym s.next) (subst Q (sym s.acts) r)
