-- A word is loaded for a net in flight, and a word of it is published: the rule is kept.
use Rattle.std.proofs.Common.{◌≡◌, ◌≢◌, ℕ, ◌+◌, ◌*◌, ◌%◌, ◌<◌, ◌≤◌, ◌==◌, nat_lt, true, false, inl, inr, refl, sym, ap, subst, ◌∙◌, List, [], ◌∷◌, ◌++◌, length, set, Contains, Some, None, length-append, arith}
use Rattle.std.proofs.lemmas.Bool.{cases_eq, cases_lt}
use Rattle.std.proofs.lemmas.Bool.Decides.{nat_tests}
use Rattle.std.proofs.lemmas.Option.{same_Some, none-some}
use Rattle.std.proofs.lemmas.List.{set-get_or, get_or_append_left}
use Rattle.std.proofs.lemmas.List.Elements.{Contains-append_left, Contains-append_right}
use Rattle.xt_meaning.specs.Barrier.{IsBoundNoFurther}
use Rattle.xt_meaning.specs.Words.{bound_in, quiet_number, number_at, bounds_in, onward, AreNoFurther, further}
use Rattle.xt_meaning.proofs.Steps.{bound_refl, bound_trans}
use Rattle.xt_meaning.proofs.Numbers.{further_first, further_second}
use Rattle.chaos_core.specs.Boards.{nets_of, IsSeen}
use Rattle.chaos_core.specs.Memories.{AreKept}
use Rattle.chaos_core.specs.Tasks.{list_of, word_to_load, evaluated, bound_at}
use Rattle.chaos_core.proofs.Sight.{onward_mono, number_here, seen_onward}
use Rattle.chaos_core.proofs.Kept.{moved_kept}
use Rattle.chaos_core.proofs.Loads.{loaded_more, loaded_later, evaluated_behind, last_at}
use Rattle.window_words.proofs.Moving.{seen_behind}
use Rattle.dirty_words.specs.declared.view.Flight.{Flight}
use Rattle.dirty_words.specs.declared.view.DirtyView.{DirtyView}
use Rattle.dirty_words.specs.Views.{run_of, bases, readers_of, with_loaded, flight_after, owed_after, with_published}
use Rattle.dirty_words.specs.Rule.{IsThere, IsLive, KeptBelow, Agrees, HasInFlight, IsCovered, marked, owing, flying, past, IsFlown, FliesWell, KnowsClear, KeptAt}
use Rattle.dirty_words.specs.Steps.{IsNextToLoad, IsNextToPublish, Loaded, Published}
use Rattle.dirty_words.proofs.Nets.{reader_inside, reads_there, cases_there}
use Rattle.dirty_words.proofs.Live.{each_live, some_here, some_map, here}
use Rattle.dirty_words.proofs.Below.{words_kept, base_behind, number_found, whole_here, below_moved, below_seen}
use Rattle.dirty_words.proofs.Covering.{AreSameFor, same_unread, covered_on, covered_here, past_on, flight_past, agrees_on}
use Rattle.dirty_words.proofs.Turning.{IsQuiet, quiet_tracked, quiet_clear}

-- ---- a load
module _ (v : DirtyView) (now marks : List ℕ) (next : ℕ) (views : List DirtyView) (k : KeptAt (run_of v) now marks next views) (id : ℕ) (there : IsThere views id v) (live : IsLive v) (word : ℕ) (inside : word < 8 * nets_of v.base.setting)
    (f : Flight) (own : IsNextToLoad v word f) where
  abbrev n' : ℕ
  n' = number_at now word

  abbrev w' : DirtyView
  w' = with_loaded v f word n'

  kept : AreKept v.base.setting now
  kept = words_kept v.base.setting now next views k.below

  within : word < length now
  within = let c = kept.seen.count in let h = inside in omega (arith, c, h)

  same_words : set now word n' ≡ now
  same_words = set-get_or now word (quiet_number (word % 2))

  stays_kept : AreKept v.base.setting (set now word n')
  stays_kept = subst (AreKept v.base.setting) (sym same_words) kept

  on : IsBoundNoFurther v.base.setting.way (word % 2) (bounds_in now word) (bound_in n')
  on = bound_refl v.base.setting.way (word % 2) (bounds_in now word)

  pub load_seen : IsSeen v.base.setting (set v.base.seen word n')
  load_seen = below_seen v.base.setting now next views k.below id v there live word within n' v.base.made stays_kept on

  flies : FliesWell (run_of v) v
  flies = k.flown id v there live

  past_here : IsBoundNoFurther v.base.setting.way (word % 2) (bounds_in v.base.seen word) (bound_in n')
  past_here = (base_behind v.base.setting now next views k.below id v there live).behind word

  seen_inside : word < length v.base.seen
  seen_inside = let c = (base_behind v.base.setting now next views k.below id v there live).count in let h = within in omega (arith, c, h)

  load_agrees : (net : ℕ) → f.net ≡ net → Agrees now (list_of v.lists net) f.numbers → Agrees now (list_of v.lists net) (f.numbers ++ n' ∷ [])
  load_agrees net is old i h =
      let reads = list_of v.lists net in
      let len : length (f.numbers ++ n' ∷ []) ≡ length f.numbers + 1 = length-append f.numbers (n' ∷ []) in
      elim (cases_lt i (length f.numbers)) [
        | inl p ↦ old i p ∙ sym (get_or_append_left f.numbers (n' ∷ []) 0 i p)
        | inr p ↦
            let e : length f.numbers ≡ i = omega (arith, len, h, p) in
            let at : word ≡ word_to_load reads i = own.place ∙ (ap (λ m. word_to_load (list_of v.lists m) (length f.numbers)) is ∙ ap (word_to_load reads) e) in
            sym (ap (number_at now) at) ∙ sym (last_at f.numbers n' i e)
      ]

  pub load_kept : KeptAt (run_of v) now marks next (set views id w')
  load_kept =
      let a = v.base.setting in
      let quiet : IsQuiet v w' = record { setting = refl; role = refl; out = refl; lists = refl; drawn = λ n c. c; clear = refl; found = refl; taken = refl; noted = refl } in
      let is : (h : HasInFlight v.lists now f.net v) → h.flight ≡ f = λ h. same_Some h.flight f (sym h.is ∙ own.flight) in
      let old = flies f own.flight in
      let few = own.more in
      let good : IsFlown (run_of v) w'.base.seen (record f { numbers = f.numbers ++ n' ∷ [] }) = record {
        there = old.there;
        loaded = loaded_more a v.base.seen (list_of v.lists f.net) f.numbers word n' own.place own.more old.loaded seen_inside past_here load_seen;
        more = old.more;
        whole = λ some. absurd (let e = old.whole some in omega (arith, e, few));
        past = λ i lt. absurd (let e = old.whole (omega (arith, lt)) in omega (arith, e, few));
      } in
      record {
        below = subst (λ ws. KeptBelow a ws next (bases (set views id w'))) same_words (below_moved a now next views k.below id v there live word within n' v.base.made stays_kept on w' refl);
        whole = k.whole;
        known = each_live (λ u. u.lists ≡ v.lists) views id w' (λ j u ne at l. k.known j u at l) (λ l. refl);
        fits = k.fits;
        covered = λ m lt. covered_here (run_of v) now marks marks views id v w' m there marked
            (λ c. owing (some_here (λ u. Contains u.owed m) views id v w' there live c))
            (λ h.
            let e : h.flight ≡ f = same_Some h.flight f (sym h.is ∙ own.flight) in
            let net : f.net ≡ m = sym (ap (λ (g : Flight). g.net) e) ∙ h.own in
            let before : Agrees now (list_of v.lists m) f.numbers = subst (λ (g : Flight). Agrees now (list_of v.lists m) g.numbers) e h.agrees in
            let flight : HasInFlight v.lists now m w' = record { flight = record f { numbers = f.numbers ++ n' ∷ [] }; is = refl; own = net; agrees = load_agrees m net before } in
            flying (some_here (HasInFlight v.lists now m) views id v w' there live flight))
            (k.covered m lt);
        flown = each_live (FliesWell (run_of v)) views id w' (λ j u ne at l. k.flown j u at l) (λ l g e. subst (IsFlown (run_of v) w'.base.seen) (same_Some (record f { numbers = f.numbers ++ n' ∷ [] }) g e) good);
        clear = each_live (KnowsClear marks) views id w' (λ j u ne at l. k.clear j u at l) (λ l. quiet_clear marks views id v w' there live quiet (k.clear id v there live));
        tracked = quiet_tracked marks views id v w' there live quiet k.tracked;
      }

  pub load_told : Loaded v f word n' w'
  load_told = record {
    found = number_found v.base.setting now next views k.below id v there live word;
    whole = λ alone. whole_here v.base.setting now next views k.below id v there alone.0 alone.1 word refl;
    after = refl;
    seen = load_seen;
  }

-- ---- a publication
still_flies : (f : Flight) → f.published + 1 < 8 → flight_after f ≡ Some (record f { published = f.published + 1 })
still_flies f h =
    let t : nat_lt (f.published + 1) 8 ≡ true = grind (arith, nat_tests) in
    rw t refl

flight_ends : (f : Flight) → 8 ≤ f.published + 1 → flight_after f ≡ None
flight_ends f h =
    let t : nat_lt (f.published + 1) 8 ≡ false = grind (arith, nat_tests) in
    rw t refl

same_owed : (v : DirtyView) (net n left : ℕ) → left ≡ n → owed_after v net n left ≡ v.owed
same_owed v net n left e =
    let t : (left == n) ≡ true = grind (arith, nat_tests) in
    rw t refl

more_owed : (v : DirtyView) (net n left : ℕ) → left ≢ n → owed_after v net n left ≡ v.owed ++ readers_of v.lists net
more_owed v net n left ne =
    let t : (left == n) ≡ false = grind (arith, nat_tests) in
    rw t refl

still_owed : (v : DirtyView) (net n left m : ℕ) → Contains v.owed m → Contains (owed_after v net n left) m
still_owed v net n left m c = elim (cases_eq left n) [
  | inl e ↦ subst (λ xs. Contains xs m) (sym (same_owed v net n left e)) c
  | inr ne ↦ subst (λ xs. Contains xs m) (sym (more_owed v net n left ne)) (Contains-append_left v.owed (readers_of v.lists net) m c)
]

module _ (v : DirtyView) (now marks : List ℕ) (next : ℕ) (views : List DirtyView) (k : KeptAt (run_of v) now marks next views) (id : ℕ) (there : IsThere views id v) (live : IsLive v) (word value : ℕ) (inside : word < 8 * nets_of v.base.setting)
    (f : Flight) (own : IsNextToPublish v word value f) (left : ℕ) (is : further v.base.setting.way (word % 2) (number_at now word) value ≡ left) where
  abbrev number' : ℕ
  number' = number_at now word

  abbrev out' : DirtyView
  out' = with_published v f number' left

  abbrev later' : List ℕ
  later' = set now word left

  old : IsFlown (run_of v) v.base.seen f
  old = k.flown id v there live f own.flight

  base : AreKept v.base.setting now
  base = words_kept v.base.setting now next views k.below

  in_words : word < length now
  in_words = let c = base.seen.count in let h = inside in omega (arith, c, h)

  side : word % 2 ≡ f.published % 2
  side = let e = own.place in omega (arith, e)

  behind : AreNoFurther v.base.setting.way (bounds_in v.base.seen) (bounds_in now)
  behind = (base_behind v.base.setting now next views k.below id v there live).behind

  count : length v.base.seen ≡ length now
  count = (base_behind v.base.setting now next views k.below id v there live).count

  seen_sound : IsSeen v.base.setting v.base.seen
  seen_sound =
      let b = base_behind v.base.setting now next views k.below id v there live in
      seen_behind v.base.setting now v.base.seen base b.count b.started b.behind

  -- the value is lacks further than what the operator makes of the words
  can_now : IsBoundNoFurther v.base.setting.way (word % 2) (bound_in value) (onward v.base.setting.design (bounds_in now) word)
  can_now =
      let a = v.base.setting in
      let p = f.published in
      let reads = list_of v.lists f.net in
      let far = evaluated_behind a v.base.seen reads f.numbers f.net seen_sound old.there (k.whole.each f.net old.there) own.whole old.loaded p old.more in
      let one : IsBoundNoFurther a.way (p % 2) (bound_in value) (onward a.design (bounds_in v.base.seen) (8 * f.net + p)) =
      subst (λ b. IsBoundNoFurther a.way (p % 2) b (onward a.design (bounds_in v.base.seen) (8 * f.net + p))) (sym own.number) far in
      let two : IsBoundNoFurther a.way (word % 2) (bound_in value) (onward a.design (bounds_in v.base.seen) word) =
      subst (λ s. IsBoundNoFurther a.way s (bound_in value) (onward a.design (bounds_in v.base.seen) word)) (sym side)
      (subst (λ w. IsBoundNoFurther a.way (p % 2) (bound_in value) (onward a.design (bounds_in v.base.seen) w)) (sym own.place) one) in
      bound_trans a.way (word % 2) (bound_in value) (onward a.design (bounds_in v.base.seen) word) (onward a.design (bounds_in now) word) two
      (onward_mono a.way a.design (bounds_in v.base.seen) (bounds_in now) base.seen.sound behind word)

  left_kept : AreKept v.base.setting later'
  left_kept =
      let P : ℕ → Type 0 = λ n. AreKept v.base.setting (set now word n) in
      subst P is (moved_kept v.base.setting now word value base in_words can_now)

  left_on : IsBoundNoFurther v.base.setting.way (word % 2) (bounds_in now word) (bound_in left)
  left_on =
      let P : ℕ → Type 0 = λ n. IsBoundNoFurther v.base.setting.way (word % 2) (bounds_in now word) (bound_in n) in
      subst P is (further_first v.base.setting.way (word % 2) number' value)

  value_left : IsBoundNoFurther v.base.setting.way (word % 2) (bound_in value) (bound_in left)
  value_left =
      let P : ℕ → Type 0 = λ n. IsBoundNoFurther v.base.setting.way (word % 2) (bound_in value) (bound_in n) in
      subst P is (further_second v.base.setting.way (word % 2) number' value)

  -- with one word more published, what is seen in these is at or past what the operator makes of what was loaded
  seen_at : set v.base.seen (8 * f.net + f.published) left ≡ set v.base.seen word left
  seen_at = ap (λ w. set v.base.seen w left) (sym own.place)

  view_on : AreNoFurther v.base.setting.way (bounds_in v.base.seen) (bounds_in (set v.base.seen word left))
  view_on =
      let c = count in
      let h = in_words in
      seen_onward v.base.setting.way v.base.seen word left (omega (arith, c, h))
      (bound_trans v.base.setting.way (word % 2) (bounds_in v.base.seen word) (bounds_in now word) (bound_in left) (behind word) left_on)

  past_more : (i : ℕ) → i < f.published + 1 → IsBoundNoFurther v.base.setting.way (i % 2) (bound_at (evaluated v.base.setting.design (list_of v.lists f.net) f.numbers f.net) i) (bounds_in (set v.base.seen word left) (8 * f.net + i))
  past_more i lt =
      let a = v.base.setting in
      let p = evaluated a.design (list_of v.lists f.net) f.numbers f.net in
      let later = set v.base.seen word left in
      elim (cases_lt i f.published) [
        | inl h ↦
            let w = 8 * f.net + i in
            let par : w % 2 ≡ i % 2 = omega arith in
            bound_trans a.way (i % 2) (bound_at p i) (bounds_in v.base.seen w) (bounds_in later w) (old.past i h)
            (subst (λ s. IsBoundNoFurther a.way s (bounds_in v.base.seen w) (bounds_in later w)) par (view_on w))
        | inr h ↦
            let e : f.published ≡ i = omega (arith, lt, h) in
            let c = count in
            let w = in_words in
            let at : bounds_in later word ≡ bound_in left = ap bound_in (number_here v.base.seen word left (omega (arith, c, w))) in
            let one : IsBoundNoFurther a.way (word % 2) (bound_at p f.published) (bounds_in later word) =
            subst (IsBoundNoFurther a.way (word % 2) (bound_at p f.published)) (sym at) (subst (λ b. IsBoundNoFurther a.way (word % 2) b (bound_in left)) own.number value_left) in
            let two : IsBoundNoFurther a.way (f.published % 2) (bound_at p f.published) (bounds_in later (8 * f.net + f.published)) =
            subst (λ s. IsBoundNoFurther a.way s (bound_at p f.published) (bounds_in later (8 * f.net + f.published))) side
            (subst (λ x. IsBoundNoFurther a.way (word % 2) (bound_at p f.published) (bounds_in later x)) own.place one) in
            subst (λ j. IsBoundNoFurther a.way (j % 2) (bound_at p j) (bounds_in later (8 * f.net + j))) e two
      ]

  publish_below : KeptBelow v.base.setting later' next (bases (set views id out'))
  publish_below =
      below_moved v.base.setting now next views k.below id v there live word in_words left (v.base.made + 1) left_kept left_on out'
      (ap (λ (seen : List ℕ). record (v.base) { seen = seen; made = v.base.made + 1 }) seen_at)

  words_on : AreNoFurther v.base.setting.way (bounds_in now) (bounds_in later')
  words_on = seen_onward v.base.setting.way now word left in_words left_on

  -- where the loaded numbers still stand in the words, the flight goes on, or the net is past
  flight_goes : (m : ℕ) → m < nets_of v.base.setting → HasInFlight v.lists later' m v → IsCovered (run_of v) later' marks (set views id out') m
  flight_goes m lt h =
      let e : h.flight ≡ f = same_Some h.flight f (sym h.is ∙ own.flight) in
      let net : f.net ≡ m = sym (ap (λ (g : Flight). g.net) e) ∙ h.own in
      let agrees : Agrees later' (list_of v.lists m) f.numbers = subst (λ (g : Flight). Agrees later' (list_of v.lists m) g.numbers) e h.agrees in
      elim (cases_lt (f.published + 1) 8) [
        | inl more ↦
            let flight : HasInFlight v.lists later' m out' = record { flight = record f { published = f.published + 1 }; is = still_flies f more; own = net; agrees = agrees } in
            flying (some_here (HasInFlight v.lists later' m) views id v out' there live flight)
        | inr end ↦
            let a = v.base.setting in
            let below = (base_behind a later' next (set views id out') publish_below id out' (here views id v out' there) live).behind in
            let P : ℕ → Type 0 = λ x. length f.numbers ≡ 8 * length (list_of v.lists x) in
            let Q : ℕ → Type 0 = λ x. (i : ℕ) → i < 8 → IsBoundNoFurther a.way (i % 2) (bound_at (evaluated a.design (list_of v.lists x) f.numbers x) i) (bounds_in later' (8 * x + i)) in
            past (flight_past (run_of v) k.whole m lt later' f.numbers (subst P net own.whole) agrees
            (subst Q net (λ i h8.
            let w = 8 * f.net + i in
            let par : w % 2 ≡ i % 2 = omega arith in
            let seen = set v.base.seen word left in
            let far : IsBoundNoFurther a.way (i % 2) (bounds_in seen w) (bounds_in later' w) =
            subst (λ s. IsBoundNoFurther a.way s (bounds_in seen w) (bounds_in later' w)) par (subst (λ xs. IsBoundNoFurther a.way (w % 2) (bounds_in xs w) (bounds_in later' w)) seen_at (below w)) in
            bound_trans a.way (i % 2) (bound_at (evaluated a.design (list_of v.lists f.net) f.numbers f.net) i) (bounds_in seen w) (bounds_in later' w) (past_more i (omega (arith, end, h8))) far)))
      ]

  -- a net whose words that are read stay
  covers_same : (m : ℕ) → m < nets_of v.base.setting → AreSameFor v.lists m now later' → IsCovered (run_of v) later' marks (set views id out') m
  covers_same m lt same =
      covered_on (run_of v) now later' marks marks views id v out' m there marked
      (λ c. owing (some_here (λ u. Contains u.owed m) views id v out' there live (still_owed v f.net number' left m c)))
      (flight_goes m lt)
      (λ s. some_map (HasInFlight v.lists now m) (HasInFlight v.lists later' m) views (λ j u at l h.
      let well = k.flown j u at l h.flight h.is in
      let few : length h.flight.numbers ≤ 8 * length (list_of v.lists m) = subst (λ x. length h.flight.numbers ≤ 8 * length (list_of v.lists x)) h.own well.loaded.count in
      record { flight = h.flight; is = h.is; own = h.own; agrees = agrees_on (run_of v) m now later' h.flight.numbers same few h.agrees }) s)
      (past_on (run_of v) k.whole m lt now later' same words_on)
      (k.covered m lt)

  covers : (m : ℕ) → m < nets_of v.base.setting → IsCovered (run_of v) later' marks (set views id out') m
  covers m lt = elim (cases_eq left number') [
    | inl e ↦
        let same : now ≡ later' = sym (ap (set now word) e ∙ set-get_or now word (quiet_number (word % 2))) in
        covers_same m lt (λ w c. ap (λ ws. number_at ws w) same)
    | inr ne ↦ elim (cases_there (list_of v.lists m) f.net) [
      | inl reads ↦
          let c = k.whole.count in
          let among : Contains (readers_of v.lists f.net) m = reads_there v.lists f.net m (omega (arith, c, lt)) reads in
          let debt : Contains (owed_after v f.net number' left) m = subst (λ xs. Contains xs m) (sym (more_owed v f.net number' left ne)) (Contains-append_right v.owed (readers_of v.lists f.net) m among) in
          owing (some_here (λ u. Contains u.owed m) views id v out' there live debt)
      | inr lacks ↦ covers_same m lt (same_unread v.lists m f.net word left now (let e = own.place in let p = old.more in omega (arith, e, p)) lacks)
    ]
  ]

  flown_more : FliesWell (run_of v) out'
  flown_more g e = elim (cases_lt (f.published + 1) 8) [
    | inl more ↦
        let next_flight : Flight = record f { published = f.published + 1 } in
        let same : next_flight ≡ g = same_Some next_flight g (sym (still_flies f more) ∙ e) in
        let seen = set v.base.seen word left in
        let good : IsFlown (run_of v) seen next_flight = record {
          there = old.there;
          loaded = loaded_later v.base.setting v.base.seen seen (list_of v.lists f.net) f.numbers view_on old.loaded;
          more = more;
          whole = λ _. own.whole;
          past = past_more;
        } in
        subst (IsFlown (run_of v) out'.base.seen) same (subst (λ xs. IsFlown (run_of v) xs next_flight) (sym seen_at) good)
    | inr end ↦ absurd (none-some g (sym (flight_ends f end) ∙ e))
  ]

  pub publish_kept : KeptAt (run_of v) later' marks next (set views id out')
  publish_kept =
      let quiet : IsQuiet v out' = record { setting = refl; role = refl; out = refl; lists = refl; drawn = λ n c. c; clear = refl; found = refl; taken = refl; noted = refl } in
      record {
        below = publish_below;
        whole = k.whole;
        known = each_live (λ u. u.lists ≡ v.lists) views id out' (λ j u ne at l. k.known j u at l) (λ l. refl);
        fits = k.fits;
        covered = covers;
        flown = each_live (FliesWell (run_of v)) views id out' (λ j u ne at l. k.flown j u at l) (λ l. flown_more);
        clear = each_live (KnowsClear marks) views id out' (λ j u ne at l. k.clear j u at l) (λ l. quiet_clear marks views id v out' there live quiet (k.clear id v there live));
        tracked = quiet_tracked marks views id v out' there live quiet k.tracked;
      }

  pub publish_told : Published v f word number' left out'
  publish_told = record {
    found = number_found v.base.setting now next views k.below id v there live word;
    after = refl;
    seen = subst (IsSeen v.base.setting) (sym seen_at) (below_seen v.base.setting now next views k.below id v there live word in_words left (v.base.made + 1) left_kept left_on);
    readers = λ reader c.
        let own = reader_inside v.lists f.net reader c in
        let count = k.whole.count in
        omega (arith, own, count);
  }
