-- No net is forgotten: how a net stays covered while views, words and marks change.
use Rattle.std.proofs.Common.{◌≡◌, ℕ, ◌+◌, ◌*◌, ◌/◌, ◌%◌, ◌<◌, ◌≤◌, inl, inr, refl, sym, ap, subst, ◌∙◌, List, [], ◌∷◌, ◌++◌, length, set, ℤ, Contains, arith}
use Rattle.std.specs.Prelude.{slice_index}
use Rattle.std.proofs.lemmas.List.Elements.{Contains-get_or}
use Rattle.xt_model.specs.declared.net.NetId.{NetId}
use Rattle.xt_meaning.specs.Reads.{HoldsOfReads}
use Rattle.xt_meaning.specs.Barrier.{IsBoundNoFurther}
use Rattle.xt_meaning.specs.Words.{bound_in, number_at, bounds_in, onward, AreNoFurther}
use Rattle.xt_meaning.proofs.Growth.{wired}
use Rattle.xt_meaning.proofs.Steps.{bound_refl, bound_trans}
use Rattle.xt_meaning.proofs.Numbers.{onward_mono_at}
use Rattle.net_eval.specs.ReadLists.{AreReadLists}
use Rattle.chaos_core.specs.Boards.{nets_of}
use Rattle.chaos_core.specs.Tasks.{list_of, place_of, word_to_load, loaded_bounds, evaluated, bound_at}
use Rattle.chaos_core.proofs.Places.{placed, word_placed, nets_read}
use Rattle.chaos_core.proofs.Sight.{number_else}
use Rattle.chaos_core.proofs.Loads.{bound_onward}
use Rattle.dirty_words.specs.declared.view.DirtyView.{DirtyView}
use Rattle.dirty_words.specs.Views.{Run}
use Rattle.dirty_words.specs.Rule.{IsThere, IsLive, SomeLive, mark_at, Agrees, HasInFlight, IsPast, IsCovered, marked, owing, flying, past}
use Rattle.dirty_words.proofs.Live.{some_else, some_here, some_more}

-- the words that are read for a net are the same
abbrev pub AreSameFor : List (List NetId) → ℕ → List ℕ → List ℕ → Type 0
AreSameFor lists net now later = (word : ℕ) → Contains (list_of lists net) (word / 8) → number_at now word ≡ number_at later word

pub same_all : (lists : List (List NetId)) (net : ℕ) (now : List ℕ) → AreSameFor lists net now now
same_all lists net now word h = refl

-- a word of a net that is not read moves
pub same_unread : (lists : List (List NetId)) (net own i x : ℕ) (now : List ℕ) → i / 8 ≡ own → (Contains (list_of lists net) own → ⊥) → AreSameFor lists net now (set now i x)
same_unread lists net own i x now is lacks word h =
    sym (number_else now i x word (λ e. lacks (subst (Contains (list_of lists net)) (ap (λ w. w / 8) e ∙ is) h)))

-- ---- what the operator makes of bounds that are the same where it reads
module _ (r : Run) (whole : AreReadLists r.setting.design r.lists) (net : ℕ) (inside : net < nets_of r.setting) where
  -- what the operator makes of the words of a net is lacks further than what it makes of others that are at or past them
  -- where it reads
  pub onward_read : (f g : ℕ → ℤ) → ((w : ℕ) → Contains (list_of r.lists net) (w / 8) → IsBoundNoFurther r.setting.way (w % 2) (f w) (g w)) → (i : ℕ) → i < 8
      → IsBoundNoFurther r.setting.way (i % 2) (onward r.setting.design f (8 * net + i)) (onward r.setting.design g (8 * net + i))
  onward_read f g h i lt =
      let a = r.setting in
      let word = 8 * net + i in
      let R = Contains (list_of r.lists net) in
      let n : word / 8 ≡ net = omega arith in
      let side : word % 2 ≡ i % 2 = omega arith in
      let hold = subst (λ m. HoldsOfReads R a.design m) (sym n) (nets_read a.design net (list_of r.lists net) (whole.each net inside)) in
      subst (λ s. IsBoundNoFurther a.way s (onward a.design f word) (onward a.design g word)) side (onward_mono_at R a.way a.design f g word (wired a.design whole.sound) hold h)

  same_bound : (f g : ℕ → ℤ) (w : ℕ) → f w ≡ g w → IsBoundNoFurther r.setting.way (w % 2) (f w) (g w)
  same_bound f g w e = subst (IsBoundNoFurther r.setting.way (w % 2) (f w)) e (bound_refl r.setting.way (w % 2) (f w))

  -- a net that is past stays so while the words go on, where those that are read stay
  pub past_on : (now later : List ℕ) → AreSameFor r.lists net now later → AreNoFurther r.setting.way (bounds_in now) (bounds_in later) → IsPast r.setting now net → IsPast r.setting later net
  past_on now later same on h i lt =
      let a = r.setting in
      let word = 8 * net + i in
      let side : word % 2 ≡ i % 2 = omega arith in
      let back = onward_read (bounds_in later) (bounds_in now) (λ w c. same_bound (bounds_in later) (bounds_in now) w (sym (ap bound_in (same w c)))) i lt in
      let step = subst (λ s. IsBoundNoFurther a.way s (bounds_in now word) (bounds_in later word)) side (on word) in
      bound_trans a.way (i % 2) (onward a.design (bounds_in later) word) (onward a.design (bounds_in now) word) (bounds_in later word) back
      (bound_trans a.way (i % 2) (onward a.design (bounds_in now) word) (bounds_in now word) (bounds_in later word) (h i lt) step)

  -- what is still in the words where it was loaded is what was loaded there
  loaded_here : (now numbers : List ℕ) (word : ℕ) → length numbers ≡ 8 * length (list_of r.lists net) → Agrees now (list_of r.lists net) numbers → Contains (list_of r.lists net) (word / 8)
      → bounds_in now word ≡ loaded_bounds (list_of r.lists net) numbers word
  loaded_here now numbers word all agrees h =
      let reads = list_of r.lists net in
      let p = place_of reads (word / 8) in
      let at = placed reads (word / 8) h in
      let k = at.inside in
      let place = 8 * p + word % 8 in
      let e : number_at now (word_to_load reads place) ≡ slice_index numbers place = agrees place (omega (arith, k, all)) in
      ap bound_in (subst (λ w. number_at now w ≡ slice_index numbers place) (word_placed reads word h) e)

  -- a net whose loaded numbers still stand in the words, and whose words are at or past what the operator makes of
  -- these, is past
  pub flight_past : (now numbers : List ℕ) → length numbers ≡ 8 * length (list_of r.lists net) → Agrees now (list_of r.lists net) numbers
      → ((i : ℕ) → i < 8 → IsBoundNoFurther r.setting.way (i % 2) (bound_at (evaluated r.setting.design (list_of r.lists net) numbers net) i) (bounds_in now (8 * net + i))) → IsPast r.setting now net
  flight_past now numbers all agrees out i lt =
      let a = r.setting in
      let reads = list_of r.lists net in
      let word = 8 * net + i in
      let f = loaded_bounds reads numbers in
      let one = onward_read (bounds_in now) f (λ w c. same_bound (bounds_in now) f w (loaded_here now numbers w all agrees c)) i lt in
      let same : bound_at (evaluated a.design reads numbers net) i ≡ onward a.design f word = bound_onward a.design f net i lt in
      bound_trans a.way (i % 2) (onward a.design (bounds_in now) word) (onward a.design f word) (bounds_in now word) one
      (subst (λ b. IsBoundNoFurther a.way (i % 2) b (bounds_in now word)) same (out i lt))

-- what was loaded is still in the words where those that are read stay
pub agrees_on : (r : Run) (net : ℕ) (now later numbers : List ℕ) → AreSameFor r.lists net now later → length numbers ≤ 8 * length (list_of r.lists net) → Agrees now (list_of r.lists net) numbers
    → Agrees later (list_of r.lists net) numbers
agrees_on r net now later numbers same few agrees i h =
    let reads = list_of r.lists net in
    let word = word_to_load reads i in
    let at : word / 8 ≡ slice_index reads (i / 8) = omega arith in
    let read : Contains reads (word / 8) = subst (Contains reads) (sym at) (Contains-get_or reads (i / 8) 0 (omega (arith, h, few))) in
    sym (same word read) ∙ agrees i h

-- ---- one view changes
-- a net stays covered for what it was covered for, where the view that changes does its part
pub covered_on : (r : Run) (now later marks more : List ℕ) (views : List DirtyView) (id : ℕ) (v w : DirtyView) (net : ℕ) → IsThere views id v
    → (mark_at marks net ≡ 1 → IsCovered r later more (set views id w) net)
    → (Contains v.owed net → IsCovered r later more (set views id w) net)
    → (HasInFlight r.lists later net v → IsCovered r later more (set views id w) net)
    → (SomeLive views (HasInFlight r.lists now net) → SomeLive views (HasInFlight r.lists later net))
    → (IsPast r.setting now net → IsPast r.setting later net)
    → IsCovered r now marks views net → IsCovered r later more (set views id w) net
covered_on r now later marks more views id v w net there mark debt flight others out (marked e) = mark e
covered_on r now later marks more views id v w net there mark debt flight others out (owing s) = elim (some_else (λ u. Contains u.owed net) views id v w there s) [
  | inl p ↦ debt p
  | inr t ↦ owing t
]
covered_on r now later marks more views id v w net there mark debt flight others out (flying s) = elim (some_else (HasInFlight r.lists later net) views id v w there (others s)) [
  | inl p ↦ flight p
  | inr t ↦ flying t
]
covered_on r now later marks more views id v w net there mark debt flight others out (past p) = past (out p)

-- the same where the words stay
pub covered_here : (r : Run) (now marks more : List ℕ) (views : List DirtyView) (id : ℕ) (v w : DirtyView) (net : ℕ) → IsThere views id v
    → (mark_at marks net ≡ 1 → IsCovered r now more (set views id w) net)
    → (Contains v.owed net → IsCovered r now more (set views id w) net)
    → (HasInFlight r.lists now net v → IsCovered r now more (set views id w) net)
    → IsCovered r now marks views net → IsCovered r now more (set views id w) net
covered_here r now marks more views id v w net there mark debt flight c = covered_on r now now marks more views id v w net there mark debt flight (λ s. s) (λ p. p) c

pub flight_same : (lists : List (List NetId)) (now : List ℕ) (net : ℕ) (v w : DirtyView) → w.flight ≡ v.flight → HasInFlight lists now net v → HasInFlight lists now net w
flight_same lists now net v w e h = record { flight = h.flight; is = e ∙ h.is; own = h.own; agrees = h.agrees }

-- a view that keeps what it owes and its flight, while words and marks stay
pub covered_same : (r : Run) (now marks : List ℕ) (views : List DirtyView) (id : ℕ) (v w : DirtyView) (net : ℕ) → IsThere views id v → IsLive w → w.owed ≡ v.owed → w.flight ≡ v.flight
    → IsCovered r now marks views net → IsCovered r now marks (set views id w) net
covered_same r now marks views id v w net there live debts flight c =
    covered_here r now marks marks views id v w net there marked
    (λ h. owing (some_here (λ u. Contains u.owed net) views id v w there live (subst (λ xs. Contains xs net) (sym debts) h)))
    (λ h. flying (some_here (HasInFlight r.lists now net) views id v w there live (flight_same r.lists now net v w flight h)))
    c

pub covered_more : (r : Run) (now marks : List ℕ) (views : List DirtyView) (w : DirtyView) (net : ℕ) → IsCovered r now marks views net → IsCovered r now marks (views ++ w ∷ []) net
covered_more r now marks views w net (marked e) = marked e
covered_more r now marks views w net (owing s) = owing (some_more (λ u. Contains u.owed net) views w s)
covered_more r now marks views w net (flying s) = flying (some_more (HasInFlight r.lists now net) views w s)
covered_more r now marks views w net (past p) = past p
