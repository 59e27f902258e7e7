-- The turns of the nets in the pass that makes the envelope, and what the pass comes to.
use Rattle.std.proofs.Common.{◌≡◌, ℕ, ◌+◌, ◌<◌, ◌≤◌, inl, inr, refl, sym, ap, subst, ◌∙◌, List, length, set, get_or, ℤ, pos, ◌≤ℤ◌, arith}
use Rattle.std.specs.Prelude.{true, Option, Some, None, IfSome, slice_index}
use Rattle.std.specs.Option.{IsSomeAnd}
use Rattle.std.specs.List.{All, AllPass, slice_get, flat_map}
use Rattle.std.proofs.lemmas.Int.{ints}
use Rattle.std.proofs.lemmas.Bool.{cases_lt, cases_eq}
use Rattle.std.proofs.lemmas.Option.{none-some, slice_get_past}
use Rattle.std.proofs.lemmas.List.Elements.{All-nil}
use Rattle.xt_model.specs.declared.direction.Direction.TheVariants.{Narrow}
use Rattle.xt_model.specs.declared.edge.Edge.{Edge}
use Rattle.xt_model.specs.declared.edge.Edge.TheVariants.{Rise, Fall}
use Rattle.xt_model.specs.declared.quad.Quad.{Quad}
use Rattle.xt_model.specs.declared.quad.Pair.{Pair}
use Rattle.xt_model.specs.declared.net.Net.{Net}
use Rattle.xt_model.specs.Quads.{bottom, IsLive, IsPairInRange, quad_at}
use Rattle.xt_model.specs.Levels.{IsOrder}
use Rattle.xt_model.specs.Miller.{MillerNumbers}
use Rattle.xt_model.specs.Parts.{Parts}
use Rattle.xt_model.specs.Sound.{IsSound, IsSoundNet}
use Rattle.xt_model.specs.Assign.{assigned, words_of, quads_of}
use Rattle.xt_meaning.specs.Operator.{wire_range, widest_operator, step}
use Rattle.xt_meaning.specs.Fixpoint.{IsContained}
use Rattle.xt_meaning.specs.Overlap.{all_overlap}
use Rattle.xt_meaning.specs.Envelope.{IsWidest, IsEnvelope, IsAccepted, Test, keeps, tests_of, net_tests, first_over}
use Rattle.xt_meaning.specs.Barrier.{IsFittingStart}
use Rattle.xt_meaning.specs.Laws.{quiet_windows}
use Rattle.xt_meaning.proofs.Order.{IsOrdered, within_refl, ordered_from_live}
use Rattle.xt_meaning.proofs.Growth.{wired}
use Rattle.xt_meaning.proofs.Words.{quads_of_words}
use Rattle.xt_meaning.proofs.Room.{operator_slew, net_passed}
use Rattle.xt_meaning.proofs.Limits.{room_tested}
use Rattle.xt_meaning.proofs.Widest.{widest_unique, envelope_contains, envelope_closed}
use Rattle.xt_meaning.proofs.Existence.{widest_exists, same_inputs}
use Rattle.xt_meaning.proofs.Starts.{quiet_is_windows, quiet_is_bottom, envelope_fits}
use Rattle.xt_meaning.proofs.Rounds.{assigned-set_same, assigned-set_other}
use Rattle.xt_meaning.proofs.Passes.{IsTurned, none_turned, turned_more, turned_or_not, all_turned, ordered_inside, IsEnvelopePass, pass_turn, pass_ends, pass_begins}
use Rattle.miller_bits.proofs.Sums.{found}
use Rattle.net_eval.specs.Room.{FitsWire, FitsAtInput, ReadsFit}
use Rattle.net_eval.proofs.Rooms.{room_fits}
use Rattle.envelope.specs.declared.fault.What.{What}
use Rattle.envelope.specs.Firsts.{test_of, pair_tests, IsFirstPassed}
use Rattle.envelope.proofs.Firsts.{all_passed, first_of_nets, none_of_nets}
use Rattle.envelope.proofs.Agreement.{turned_agree}

-- the first i nets in order had their turn, and each keeps its limits
pub record IsTestedPass (d : Parts) (order : List ℕ) (v : List Pair) (i : ℕ) : Type 0 where
  pub pass : IsEnvelopePass d order v i
  pub kept : (n : ℕ) → IsTurned order i n → AllPass keeps (net_tests d v n)

by_edge : (P : Edge → Type 0) → P Rise → P Fall → (e : Edge) → P e
by_edge P rise fall Rise = rise
by_edge P rise fall Fall = fall

-- the net at a place of the order is there
pub net_there : (d : Parts) (order : List ℕ) (i : ℕ) → IsSound d → IsOrder d.nets order → i < length order → slice_index order i < length d.nets
net_there d order i s o h = ordered_inside d o.0 order s o.1 o.2 i h

-- ---- the inputs of the next net fit the wires behind them
not_live : (q : Quad) → q ≡ bottom → IsLive q → ⊥
not_live q same live = dead (ordered_from_live q live) where
  dead : IsOrdered q → ⊥
  dead o = let P : Quad → Type 0 = λ r. r.tlo ≤ℤ r.thi in let t = subst P same o.times in omega (arith, ints)

module _ (d : Parts) (order : List ℕ) (v : List Pair) (i : ℕ) (s : IsSound d) (tested : IsTestedPass d order v i) where
  turned_fits : (m : ℕ) (f : Edge) (sink : ℕ) (net : Net) → slice_get d.nets m ≡ Some net → sink < length net.sinks → IsTurned order i m → IsLive (assigned v m f)
      → FitsWire (assigned v m f) (wire_range d.miller all_overlap m f sink (Some net))
  turned_fits m f sink net there inside t live =
      let P : Quad → Type 0 = λ q. pos 0 ≤ℤ q.slo in
      let slo = subst P (sym (tested.pass.fixed m f t)) (operator_slew d all_overlap (assigned v) m f s) in
      room_fits d m net all_overlap f sink (assigned v m f) s.miller (found (IsSoundNet d m) (slice_get d.nets m) net there (s.nets m)) inside
      (room_tested d m net (assigned v m f) (assigned v m f) s there (net_passed d v m net f (tested.kept m t) there) slo (within_refl (assigned v m f)) live)

  window_fits : (m : ℕ) (f : Edge) (sink : ℕ) (o : Option Net) → slice_get d.nets m ≡ o → IsSomeAnd o (λ net. sink < length net.sinks) → IsLive (assigned v m f)
      → FitsWire (assigned v m f) (wire_range d.miller all_overlap m f sink o)
  window_fits m f sink None there inside live = absurd inside
  window_fits m f sink (Some net) there inside live = elim (turned_or_not order i m) [
    | inl t ↦ turned_fits m f sink net there inside t live
    | inr never ↦ absurd (not_live (assigned v m f) (tested.pass.quiet m f never) live)
  ]

  inputs_fit : (n : ℕ) (o : Option Net) → IfSome o (IsSoundNet d n) → IfSome o (λ net. All (FitsAtInput d all_overlap (quads_of (words_of (assigned v)))) net.arcs)
  inputs_fit n None sound = tt
  inputs_fit n (Some net) sound = λ k x h.
      let a = get_or net.arcs k x in
      let P : Quad → Type 0 = λ q. IsLive q → FitsWire q (wire_range d.miller all_overlap a.from.0 a.input a.sink (slice_get d.nets a.from.0)) in
      subst P (sym (quads_of_words (assigned v) a.from.0 a.input)) (window_fits a.from.0 a.input a.sink (slice_get d.nets a.from.0) refl (sound.arcs k x h).sink)

  pub tested_fits : (n : ℕ) → ReadsFit d (quads_of (words_of (assigned v))) n
  tested_fits n = record { inputs = inputs_fit n (slice_get d.nets n) (s.nets n) }

-- ---- a turn
pub widest_of_words : (d : Parts) (v : List Pair) (n : ℕ) (e : Edge) → IsSound d → widest_operator d (quads_of (words_of (assigned v))) n e ≡ widest_operator d (assigned v) n e
widest_of_words d v n e s = same_inputs d (quads_of (words_of (assigned v))) (assigned v) n e (wired d s) (inputs (slice_get d.nets n)) where
  inputs : (o : Option Net) → IfSome o (λ net. All (λ a. (f : Edge) → quads_of (words_of (assigned v)) a.from.0 f ≡ assigned v a.from.0 f) net.arcs)
  inputs None = tt
  inputs (Some net) = λ k x h f. quads_of_words (assigned v) _ f

-- what the operator makes for a net whose turn it is
pub record IsNext (d : Parts) (v : List Pair) (n : ℕ) (p : Pair) : Type 0 where
  pub rise : p.rise ≡ widest_operator d (quads_of (words_of (assigned v))) n Rise
  pub fall : p.fall ≡ widest_operator d (quads_of (words_of (assigned v))) n Fall
  pub range : IsPairInRange p

next_is : (d : Parts) (v : List Pair) (n : ℕ) (p : Pair) → IsSound d → IsNext d v n p → (e : Edge) → quad_at p e ≡ widest_operator d (assigned v) n e
next_is d v n p s next = by_edge (λ e. quad_at p e ≡ widest_operator d (assigned v) n e) (next.rise ∙ widest_of_words d v n Rise s) (next.fall ∙ widest_of_words d v n Fall s)

-- the same windows have the same tests
pub same_tests : (m : MillerNumbers) (w : List Pair) (n : ℕ) (o : Option Net) (p : Pair) → ((e : Edge) → assigned w n e ≡ quad_at p e) → pair_tests m n o p ≡ tests_of m w n o
same_tests m w n None p h = refl
same_tests m w n (Some net) p h = let r = h Rise in let f = h Fall in rw (r, f) refl

other_tests : (m : MillerNumbers) (v w : List Pair) (n : ℕ) (o : Option Net) → ((e : Edge) → assigned v n e ≡ assigned w n e) → tests_of m v n o ≡ tests_of m w n o
other_tests m v w n None h = refl
other_tests m v w n (Some net) h = let r = h Rise in let f = h Fall in rw (r, f) refl

pub passing : (xs ys : List Test) → xs ≡ ys → AllPass keeps xs → AllPass keeps ys
passing xs ys e h = let P : List Test → Type 0 = λ ts. AllPass keeps ts in subst P e h

module _ (d : Parts) (order : List ℕ) (v : List Pair) (i : ℕ) (p : Pair) (s : IsSound d) (o : IsOrder d.nets order) (h : i < length order) (tested : IsTestedPass d order v i)
    (next : IsNext d v (slice_index order i) p) where
  turn : IsEnvelopePass d order (set v (slice_index order i) p) (i + 1)
  turn = pass_turn d o.0 order s o.1 o.2 v i p h tested.pass next.range (next_is d v (slice_index order i) p s next)

  inside : slice_index order i < length v
  inside = let a = net_there d order i s o h in omega (arith, a, tested.pass.windows.count)

  kept_now : None ≡ first_over (pair_tests d.miller (slice_index order i) (slice_get d.nets (slice_index order i)) p) → AllPass keeps (net_tests d (set v (slice_index order i) p) (slice_index order i))
  kept_now none =
      let n = slice_index order i in
      passing (pair_tests d.miller n (slice_get d.nets n) p) (net_tests d (set v n p) n) (same_tests d.miller (set v n p) n (slice_get d.nets n) p (λ e. assigned-set_same v n p e inside))
      (all_passed (pair_tests d.miller n (slice_get d.nets n) p) none)

  kept_before : (m : ℕ) → (m ≡ slice_index order i → ⊥) → IsTurned order i m → AllPass keeps (net_tests d (set v (slice_index order i) p) m)
  kept_before m other t =
      let n = slice_index order i in
      passing (net_tests d v m) (net_tests d (set v n p) m) (other_tests d.miller v (set v n p) m (slice_get d.nets m) (λ e. sym (assigned-set_other v n m p e other))) (tested.kept m t)

  -- a net more that keeps its limits
  tested_more : None ≡ first_over (pair_tests d.miller (slice_index order i) (slice_get d.nets (slice_index order i)) p) → IsTestedPass d order (set v (slice_index order i) p) (i + 1)
  tested_more none = record { pass = turn; kept = kept } where
    now : (m : ℕ) → m ≡ slice_index order i → AllPass keeps (net_tests d (set v (slice_index order i) p) m)
    now m same = let P : ℕ → Type 0 = λ k. AllPass keeps (net_tests d (set v (slice_index order i) p) k) in subst P (sym same) (kept_now none)

    kept : (m : ℕ) → IsTurned order (i + 1) m → AllPass keeps (net_tests d (set v (slice_index order i) p) m)
    kept m t = elim (cases_eq m (slice_index order i)) [
      | inl same ↦ now m same
      | inr other ↦ elim (turned_more order i m t) [
        | inl before ↦ kept_before m other before
        | inr same ↦ now m same
      ]
    ]

  -- a net that does not keep its limits passes the first that is passed
  first_there : (t : Test) → Some t ≡ first_over (pair_tests d.miller (slice_index order i) (slice_get d.nets (slice_index order i)) p) → (w : List Pair) → IsWidest d w
      → Some t ≡ first_over (net_tests d w (slice_index order i))
  first_there t over w widest =
      let n = slice_index order i in
      let here : IsTurned order (i + 1) n = record { place = i; before = omega arith; there = refl } in
      over ∙ ap (λ ts. first_over ts) (same_tests d.miller w n (slice_get d.nets n) p (λ e.
      sym (turned_agree d o.0 order s o.1 o.2 (set v n p) w (i + 1) turn widest n here e) ∙ assigned-set_same v n p e inside))

  before_there : (w : List Pair) → IsWidest d w → (k : ℕ) → k < i → AllPass keeps (net_tests d w (slice_index order k))
  before_there w widest k below =
      let m = slice_index order k in
      let t : IsTurned order i m = record { place = k; before = below; there = refl } in
      passing (net_tests d v m) (net_tests d w m) (other_tests d.miller v w m (slice_get d.nets m) (λ e. turned_agree d o.0 order s o.1 o.2 v w i tested.pass widest m t e)) (tested.kept m t)

  first_is : (t : Test) → Some t ≡ first_over (pair_tests d.miller (slice_index order i) (slice_get d.nets (slice_index order i)) p) → (w : List Pair) → IsWidest d w
      → Some t ≡ first_over (flat_map (net_tests d w) order)
  first_is t over w widest = first_of_nets (net_tests d w) order i t h (before_there w widest) (first_there t over w widest)

pub pass_turned : (d : Parts) (order : List ℕ) (v after : List Pair) (i : ℕ) (p : Pair) → IsSound d → IsOrder d.nets order → i < length order → IsTestedPass d order v i
    → IsNext d v (slice_index order i) p → None ≡ first_over (pair_tests d.miller (slice_index order i) (slice_get d.nets (slice_index order i)) p)
    → after ≡ set v (slice_index order i) p → IsTestedPass d order after (i + 1)
pass_turned d order v after i p s o h tested next none e =
    let P : List Pair → Type 0 = λ w. IsTestedPass d order w (i + 1) in
    subst P (sym e) (tested_more d order v i p s o h tested next none)

pub pass_stopped : (d : Parts) (order : List ℕ) (v : List Pair) (i : ℕ) (p : Pair) (n : ℕ) (what : What) (value : ℤ) → IsSound d → IsOrder d.nets order → i < length order → IsTestedPass d order v i
    → IsNext d v (slice_index order i) p → Some (test_of n what value) ≡ first_over (pair_tests d.miller (slice_index order i) (slice_get d.nets (slice_index order i)) p)
    → IsFirstPassed d n what value
pass_stopped d order v i p n what value s o h tested next over =
    let top = widest_exists d o.0 s o.1 in
    record {
      top = top.0;
      order = order;
      widest = top.1;
      ordered = o;
      first = sym (first_is d order v i p s o h tested next (test_of n what value) over top.0 top.1);
    }

-- no limit is passed where the design has windows that keep them
pub none_stopped : (d : Parts) (n : ℕ) (what : What) (value : ℤ) (top : List Pair) → IsSound d → IsFirstPassed d n what value → IsWidest d top → IsAccepted d top → ⊥
none_stopped d n what value top s first widest acc =
    let o = first.ordered in
    let e : first.top ≡ top = widest_unique d o.0 first.top top (wired d s) o.1 first.widest widest in
    let P : List Pair → Type 0 = λ w. first_over (flat_map (net_tests d w) first.order) ≡ Some (test_of n what value) in
    none-some (test_of n what value) (none_of_nets (net_tests d top) first.order acc.each ∙ subst P e first.first)

-- ---- the end of the pass
pub pass_started : (d : Parts) (order : List ℕ) (v : List Pair) → IsSound d → IsOrder d.nets order → v ≡ quiet_windows d → IsTestedPass d order v 0
pass_started d order v s o e =
    let P : List Pair → Type 0 = λ w. IsTestedPass d order w 0 in
    subst P (sym e) (record {
      pass = pass_begins d o.0 order s o.1 o.2 (quiet_windows d) (quiet_is_windows d) (quiet_is_bottom (length d.nets));
      kept = λ n t. absurd (none_turned order n t);
    })

module _ (d : Parts) (order : List ℕ) (v : List Pair) (i : ℕ) (s : IsSound d) (o : IsOrder d.nets order) (past : length order ≤ i) (most : i ≤ length order) (tested : IsTestedPass d order v i) where
  at_end : IsTestedPass d order v (length order)
  at_end =
      let k : i ≡ length order = omega arith in
      let P : ℕ → Type 0 = λ j. IsTestedPass d order v j in
      subst P k tested

  pub ended_envelope : IsEnvelope d v
  ended_envelope = record { windows = at_end.pass.windows; widest = pass_ends d o.0 order s o.1 o.2 v at_end.pass }

  pub ended_accepted : IsAccepted d v
  ended_accepted = record {
    each = λ n. elim (cases_lt n (length d.nets)) [
      | inl there ↦ at_end.kept n (all_turned d.nets o.0 order o.2 n there)
      | inr beyond ↦ nothing n beyond
    ];
  } where
    nothing : (n : ℕ) → length d.nets ≤ n → AllPass keeps (net_tests d v n)
    nothing n beyond =
        let P : Option Net → Type 0 = λ net. AllPass keeps (tests_of d.miller v n net) in
        subst P (sym (slice_get_past d.nets n beyond)) (All-nil (λ t. keeps t ≡ true))

  pub ended_contains : (w : List Pair) → IsContained (assigned w) (step d w) → IsContained (assigned w) (assigned v)
  ended_contains w fits = envelope_contains d o.0 (assigned w) v (wired d s) o.1 ended_envelope.widest fits

  pub ended_itself : IsContained (step d v) (assigned v)
  ended_itself = envelope_closed d v (wired d s) ended_envelope.widest

  pub ended_starts : IsFittingStart Narrow d v
  ended_starts = envelope_fits d o.0 v s o.1 ended_envelope ended_accepted
