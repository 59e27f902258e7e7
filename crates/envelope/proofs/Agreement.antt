-- The nets that had their turn in a pass have the windows of every list that the operator gives back where
-- everything overlaps.
use Rattle.std.proofs.Common.{◌≡◌, ℕ, zero, suc, ◌<◌, ◌≤◌, ⊎_elim, inl, inr, refl, sym, ap, subst, ◌∙◌, List, length, get_or, arith}
use Rattle.std.specs.Prelude.{slice_index}
use Rattle.std.specs.List.{All, slice_get}
use Rattle.std.proofs.lemmas.Bool.{cases_lt}
use Rattle.xt_model.specs.declared.edge.Edge.{Edge}
use Rattle.xt_model.specs.declared.quad.Pair.{Pair}
use Rattle.xt_model.specs.Levels.{AreLevels, IsOrderBy, StandsBefore}
use Rattle.xt_model.specs.Parts.{Parts}
use Rattle.xt_model.specs.Sound.{IsSound, IsSoundNet}
use Rattle.xt_model.specs.Assign.{assigned}
use Rattle.xt_meaning.specs.Envelope.{IsWidest}
use Rattle.xt_meaning.proofs.Growth.{wired}
use Rattle.xt_meaning.proofs.Widest.{IfSome_there, inputs_below}
use Rattle.xt_meaning.proofs.Existence.{same_inputs}
use Rattle.xt_meaning.proofs.Passes.{IsTurned, all_turned, IsEnvelopePass}
use Rattle.miller_bits.proofs.Sums.{found}
use Rattle.net_eval.proofs.Steady.{has_sink}

-- a net does not stand before one of a lower level
not_before : (ls : List ℕ) (n m : ℕ) → slice_index ls m < slice_index ls n → StandsBefore ls n m → ⊥
not_before ls n m below b =
    ⊎_elim (λ (l : slice_index ls n < slice_index ls m). absurd (omega (arith, l, below))) (λ (l : (slice_index ls n ≡ slice_index ls m) × (n < m)). absurd (omega (arith, l.0, below))) b

module _ (d : Parts) (ls order : List ℕ) (s : IsSound d) (levels : AreLevels d.nets ls) (o : IsOrderBy d.nets ls order) where
  -- a net of a lower level than one that had its turn had it before
  pub lower_turned : (i n m : ℕ) → IsTurned order i n → slice_index ls m < slice_index ls n → m < length d.nets → IsTurned order i m
  lower_turned i n m t below there =
      let u = all_turned d.nets ls order o m there in
      elim (cases_lt u.place t.place) [
        | inl first ↦ record { place = u.place; before = earlier u.place t.place i first t.before; there = u.there }
        | inr late ↦ absurd (elim (cases_lt t.place u.place) [
          | inl last ↦
              let P : ℕ → Type 0 = λ a. StandsBefore ls a m in
              let Q : ℕ → Type 0 = λ b. StandsBefore ls (slice_index order t.place) b in
              not_before ls n m below (subst P t.there (subst Q u.there (o.sorted t.place u.place last u.before)))
          | inr early ↦
              let e : t.place ≡ u.place = same_place t.place u.place late early in
              let f : n ≡ m = sym t.there ∙ (ap (λ k. slice_index order k) e ∙ u.there) in
              let g : slice_index ls n ≡ slice_index ls m = ap (λ k. slice_index ls k) f in
              omega (arith, g, below)
        ])
      ] where
        earlier : (a b c : ℕ) → a < b → b < c → a < c
        earlier a b c h k = omega arith

        same_place : (a b : ℕ) → a ≤ b → b ≤ a → a ≡ b
        same_place a b h k = omega arith

  agree_below : (v w : List Pair) (i : ℕ) → IsEnvelopePass d order v i → IsWidest d w → (most n : ℕ) → slice_index ls n < most → IsTurned order i n → (e : Edge) → assigned v n e ≡ assigned w n e
  agree_below v w i pass widest zero n h t e = absurd (omega arith)
  agree_below v w i pass widest (suc most) n h t e =
      pass.fixed n e t
      ∙ (same_inputs d (assigned v) (assigned w) n e (wired d s)
      (IfSome_there (λ net. All (λ a. (f : Edge) → assigned v a.from.0 f ≡ assigned w a.from.0 f) net.arcs) (slice_get d.nets n)
      (λ net there k x inside f.
      let a = get_or net.arcs k x in
      let below : slice_index ls a.from.0 < slice_index ls n = inputs_below d.nets ls levels n net there k x inside in
      let sink = ((found (IsSoundNet d n) (slice_get d.nets n) net there (s.nets n)).arcs k x inside).sink in
      agree_below v w i pass widest most a.from.0 (omega (arith, below, h)) (lower_turned i n a.from.0 t below (has_sink d a.from.0 a.sink (slice_get d.nets a.from.0) refl sink)) f))
      ∙ widest.fixed n e)

  pub turned_agree : (v w : List Pair) (i : ℕ) → IsEnvelopePass d order v i → IsWidest d w → (n : ℕ) → IsTurned order i n → (e : Edge) → assigned v n e ≡ assigned w n e
  turned_agree v w i pass widest n t e = agree_below v w i pass widest (suc (slice_index ls n)) n (omega arith) t e
