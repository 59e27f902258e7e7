-- While the overlap answers stay the same, as many rounds as there are levels make windows still.
use Rattle.std.proofs.Common.{◌≡◌, ℕ, zero, suc, ◌+◌, ◌<◌, ◌≤◌, inl, inr, refl, sym, ap, subst, ◌∙◌, List, [], ◌∷◌, length, arith}
use Rattle.std.specs.Prelude.{slice_index, Option, Some, None}
use Rattle.std.specs.List.{All, slice_get}
use Rattle.std.proofs.lemmas.Bool.{cases_lt}
use Rattle.std.proofs.lemmas.List.Elements.{All-weaker}
use Rattle.std.proofs.lemmas.Option.{slice_get_past}
use Rattle.xt_model.specs.declared.direction.Direction.{Direction}
use Rattle.xt_model.specs.declared.direction.Direction.TheVariants.{Widen, Narrow}
use Rattle.xt_model.specs.declared.edge.Edge.{Edge}
use Rattle.xt_model.specs.declared.quad.Quad.{Quad}
use Rattle.xt_model.specs.declared.quad.Pair.{Pair}
use Rattle.xt_model.specs.declared.net.Net.{Net}
use Rattle.xt_model.specs.Quads.{bottom, IsWithin}
use Rattle.xt_model.specs.Levels.{greatest_of, AreLevels, ArePairs}
use Rattle.xt_model.specs.Parts.{Parts}
use Rattle.xt_model.specs.Sound.{IsSound}
use Rattle.xt_model.specs.Assign.{Assignment, assigned, quad_of_pair}
use Rattle.xt_meaning.specs.Overlap.{Answers, overlap_answers}
use Rattle.xt_meaning.specs.Operator.{operator, operator_by}
use Rattle.xt_meaning.specs.Envelope.{IsFixedBy}
use Rattle.xt_meaning.specs.Barrier.{IsNoFurther, NoFurther}
use Rattle.xt_meaning.specs.AnswerLaws.{AgreeOnPairs}
use Rattle.xt_meaning.proofs.Growth.{AreWired, wired}
use Rattle.xt_meaning.proofs.Monotone.{InputsGrow}
use Rattle.xt_meaning.proofs.Meeting.{answers_symmetric}
use Rattle.xt_meaning.proofs.Widest.{IfSome_there, inputs_below}
use Rattle.xt_meaning.proofs.Limits.{length_past}
use Rattle.xt_meaning.proofs.Answers.{agreed_same, agreed_pairs, coupled_apart}
use Rattle.xt_meaning.proofs.Existence.{inputs_mono, fixed_exists, fits_within, holds_list}
use Rattle.xt_meaning.proofs.Steps.{no_further_trans, no_further_antisym, no_further_same, contained_widen, contained_narrow, widen_contained, narrow_contained}
use Rattle.run_laws.specs.Chains.{IsStill, IsChain}

-- ---- under given answers
lower_within : (d : Parts) (ls : List ℕ) → AreLevels d.nets ls → (W V : Assignment) (n : ℕ) → ((m : ℕ) (f : Edge) → slice_index ls m < slice_index ls n → IsWithin (W m f) (V m f)) → InputsGrow d W V n
lower_within d ls levels W V n within =
    IfSome_there (λ net. All (λ a. (f : Edge) → IsWithin (W a.from.0 f) (V a.from.0 f)) net.arcs) (slice_get d.nets n)
    (λ net there. All-weaker (λ a. slice_index ls a.from.0 < slice_index ls n) (λ a. (f : Edge) → IsWithin (W a.from.0 f) (V a.from.0 f))
    (λ a below f. within a.from.0 f below) net.arcs (inputs_below d.nets ls levels n net there))

-- of windows that are no further on every lower level the operator makes windows of a net that are no further
lower_no_further : (way : Direction) (d : Parts) (ls : List ℕ) (b : Answers) (W V : Assignment) (n : ℕ) (e : Edge) → AreWired d → AreLevels d.nets ls
    → ((m : ℕ) (f : Edge) → slice_index ls m < slice_index ls n → IsNoFurther way (W m f) (V m f)) → IsNoFurther way (operator_by d b W n e) (operator_by d b V n e)
lower_no_further Widen d ls b W V n e ws levels h = inputs_mono d b W V n e ws (lower_within d ls levels W V n h)
lower_no_further Narrow d ls b W V n e ws levels h = inputs_mono d b V W n e ws (lower_within d ls levels V W n h)

-- windows that are no further than what the operator makes of them are no further than those that it gives back
fixed_ahead : (way : Direction) (d : Parts) (ls : List ℕ) (b : Answers) (W : Assignment) (w : List Pair) → AreWired d → AreLevels d.nets ls → IsFixedBy d b w → NoFurther way W (operator_by d b W)
    → NoFurther way W (assigned w)
fixed_ahead Widen d ls b W w ws levels f h = widen_contained W (assigned w) (fits_within d ls b W w ws levels f (contained_widen W (operator_by d b W) h))
fixed_ahead Narrow d ls b W w ws levels f h = narrow_contained W (assigned w) (holds_list d ls b W w ws levels f (contained_narrow W (operator_by d b W) h))

-- every net has a level of 1 or more
level_there : (d : Parts) (ls : List ℕ) (n : ℕ) → AreLevels d.nets ls → n < length d.nets → 0 < slice_index ls n
level_there d ls n levels h = go (slice_get d.nets n) refl where
  go : (o : Option Net) → slice_get d.nets n ≡ o → 0 < slice_index ls n
  go None e = let k = length_past d.nets n e in absurd (omega (arith, k, h))
  go (Some net) e = let k = levels.each n net e in omega (arith, k)

at_most_greatest : (ls : List ℕ) (n : ℕ) → slice_index ls n ≤ greatest_of ls
at_most_greatest [] n = omega arith
at_most_greatest (l ∷ ls) zero = omega arith
at_most_greatest (l ∷ ls) (suc n) = let h = at_most_greatest ls n in omega (arith, h)

module _ (way : Direction) (d : Parts) (ls : List ℕ) (pairs : List (ℕ × ℕ)) (s : ℕ → Assignment) (sound : IsSound d) (levels : AreLevels d.nets ls) (are : ArePairs d.nets pairs)
    (chain : IsChain way d s (greatest_of ls))
    (same : (i : ℕ) → i ≤ greatest_of ls → AgreeOnPairs pairs (overlap_answers d.period (s i)) (overlap_answers d.period (s 0))) where
  -- the answers at the beginning
  abbrev pub first : Answers
  first = overlap_answers d.period (s 0)

  by_first : (i : ℕ) → i ≤ greatest_of ls → (n : ℕ) (e : Edge) → operator d (s i) n e ≡ operator_by d first (s i) n e
  by_first i h n e =
      let b = overlap_answers d.period (s i) in
      agreed_same d b first (s i) n e (wired d sound)
      (agreed_pairs d pairs b first are (coupled_apart d sound) (record { turned = λ n m e f. answers_symmetric d.period (s i) n m e f }) (record { turned = λ n m e f. answers_symmetric d.period (s 0) n m e f }) (same i h))

  module _ (w : List Pair) (fixed : IsFixedBy d first w) where
    -- past the last net nothing switches
    outside_nets : (i n : ℕ) (e : Edge) → i ≤ greatest_of ls → length d.nets ≤ n → IsNoFurther way (assigned w n e) (s i n e)
    outside_nets i n e most h =
        let c = fixed.count in
        let a : assigned w n e ≡ bottom = ap (λ o. quad_of_pair o e) (slice_get_past w n (omega (arith, c, h))) in
        no_further_same way (assigned w n e) (s i n e) (a ∙ sym (chain.outside i n e most h))

    -- a net is at or past those windows after as many rounds as its level
    arrived : (i n : ℕ) (e : Edge) → i ≤ greatest_of ls → slice_index ls n ≤ i → IsNoFurther way (assigned w n e) (s i n e)
    arrived zero n e most low = elim (cases_lt n (length d.nets)) [
      | inl h ↦ let k = level_there d ls n levels h in absurd (omega (arith, k, low))
      | inr h ↦ outside_nets zero n e most h
    ]
    arrived (suc i) n e most low = elim (cases_lt n (length d.nets)) [
      | inl h ↦
          let made = lower_no_further way d ls first (assigned w) (s i) n e (wired d sound) levels (λ m f below. arrived i m f (omega (arith, most)) (omega (arith, below, low))) in
          let P : Quad → Type 0 = λ q. IsNoFurther way q (operator_by d first (s i) n e) in
          let Q : Quad → Type 0 = λ q. IsNoFurther way q (s (i + 1) n e) in
          let past = subst Q (by_first i (omega (arith, most)) n e) ((chain.past i (omega (arith, most))).each n e) in
          let one : IsNoFurther way (assigned w n e) (s (i + 1) n e) = no_further_trans way (assigned w n e) (operator_by d first (s i) n e) (s (i + 1) n e) (subst P (fixed.fixed n e) made) past in
          let k : i + 1 ≡ suc i = omega arith in
          subst (λ j. IsNoFurther way (assigned w n e) (s j n e)) k one
      | inr h ↦ outside_nets (suc i) n e most h
    ]

    -- so after all levels the windows are those
    ended : (n : ℕ) (e : Edge) → s (greatest_of ls) n e ≡ assigned w n e
    ended n e =
        let k = greatest_of ls in
        let F = chain.fits k (omega arith) in
        let fits : NoFurther way (s k) (operator_by d first (s k)) =
        record { each = λ m f. let P : Quad → Type 0 = λ q. IsNoFurther way (s k m f) q in subst P (by_first k (omega arith) m f) (F.each m f) } in
        let before = fixed_ahead way d ls first (s k) w (wired d sound) levels fixed fits in
        no_further_antisym way (s k n e) (assigned w n e) (before.each n e) (arrived k n e (omega arith) (at_most_greatest ls n))

    still_there : IsStill d (s (greatest_of ls))
    still_there =
        let k = greatest_of ls in
        let all : s k ≡ assigned w = λ i n e. ended n e i in
        record { each = λ n e. by_first k (omega arith) n e ∙ (ap (λ (W : Assignment). operator_by d first W n e) all ∙ (fixed.fixed n e ∙ sym (ended n e))) }

  pub block_still : IsStill d (s (greatest_of ls))
  block_still = let f = fixed_exists d ls first sound levels in still_there f.0 f.1
