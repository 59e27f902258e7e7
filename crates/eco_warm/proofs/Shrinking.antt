-- An edit to ground shrinks the operator, and one from ground lets it grow, on every assignment.
use Rattle.std.proofs.Common.{◌≡◌, ℕ, inl, inr, sym, arith}
use Rattle.std.specs.Prelude.{IfSome}
use Rattle.std.specs.List.{slice_get}
use Rattle.std.proofs.lemmas.Bool.{cases_eq, ne_eqb}
use Rattle.std.proofs.lemmas.Int.{ints}
use Rattle.std.proofs.lemmas.Option.{IfSome_then}
use Rattle.xt_model.specs.declared.net.Net.{Net}
use Rattle.xt_model.specs.Assign.{Assignment}
use Rattle.xt_model.specs.Miller.{MillerNumbers}
use Rattle.xt_model.specs.Parts.{Parts}
use Rattle.xt_model.specs.Sound.{IsSound}
use Rattle.xt_meaning.specs.Operator.{operator}
use Rattle.xt_meaning.specs.Fixpoint.{IsContained}
use Rattle.xt_meaning.proofs.Answers.{coupled_apart}
use Rattle.xt_meaning.proofs.Growth.{wired}
use Rattle.eco_warm.specs.declared.edit.Edit.{Edit}
use Rattle.eco_warm.specs.declared.edit.Edit.TheVariants.{Shield, Apart, Near}
use Rattle.eco_warm.specs.declared.edit.Change.{Change}
use Rattle.eco_warm.specs.declared.edit.Change.TheVariants.{Shrinks, Grows, Neither}
use Rattle.eco_warm.specs.Edits.{net_left, nets_left, move_of, first_of, second_of, edited, whole_change, change_of}
use Rattle.eco_warm.specs.Possible.{IsEditOf, IsMove}
use Rattle.eco_warm.proofs.Portions.{IsToGround, IsFromGround, IsNaturalMove}
use Rattle.eco_warm.proofs.Inward.{sums_of, IsInward, inward_refl, to_ground, from_ground}
use Rattle.eco_warm.proofs.Nets.{AreRelated, turn_round, nets_related}
use Rattle.eco_warm.proofs.Ordered.{operator_inward}

-- ---- what kind of edit it is
whole_miller : (m : MillerNumbers) (e : Edit) (c : Change) → change_of m e ≡ c → (c ≡ Neither → ⊥) → (m.mid ≡ 4) × (whole_change e ≡ c)
whole_miller m e c h n = elim (cases_eq m.mid 4) [
  | inl is ↦ let f : whole_change e ≡ c = rw is at h in (is, f)
  | inr not ↦ absurd (let f : Neither ≡ c = rw (ne_eqb m.mid 4 not) at h in n (sym f))
]

not_grows : Shrinks ≡ Grows → ⊥
not_grows h = cc

pub natural_move : (e : Edit) → IsMove (move_of e) → IsNaturalMove (move_of e)
natural_move (Shield a b) h = tt
natural_move (Apart a b by) h = omega (arith, ints, h.least)
natural_move (Near a b by) h = omega (arith, ints, h.least)

goes_to_ground : (e : Edit) → IsMove (move_of e) → whole_change e ≡ Shrinks → IsToGround (move_of e)
goes_to_ground (Shield a b) h k = tt
goes_to_ground (Apart a b by) h k = omega (arith, ints, h.least)
goes_to_ground (Near a b by) h k = absurd (not_grows (sym k))

comes_from_ground : (e : Edit) → IsMove (move_of e) → whole_change e ≡ Grows → IsFromGround (move_of e)
comes_from_ground (Shield a b) h k = absurd (not_grows k)
comes_from_ground (Apart a b by) h k = absurd (not_grows k)
comes_from_ground (Near a b by) h k = omega (arith, ints, h.least)

-- two nets of which one couples to the other are two
pub nets_apart : (d : Parts) (e : Edit) → IsSound d → IsEditOf d.nets e → second_of e ≡ first_of e → ⊥
nets_apart d e s h is = elim h.couples [
  | inl k ↦ elim (coupled_apart d s (first_of e) (second_of e) k) [
    | inl less ↦ omega (arith, less, is)
    | inr more ↦ omega (arith, more, is)
  ]
  | inr k ↦ elim (coupled_apart d s (second_of e) (first_of e) k) [
    | inl less ↦ omega (arith, less, is)
    | inr more ↦ omega (arith, more, is)
  ]
]

-- ---- the operators
pub shrinks : (d : Parts) (e : Edit) → IsSound d → IsSound (edited e d) → IsEditOf d.nets e → change_of d.miller e ≡ Shrinks → (W : Assignment)
    → IsContained (operator (edited e d) W) (operator d W)
shrinks d e s t h c W =
    let k = whole_miller d.miller e Shrinks c (λ f. cc) in
    let g = goes_to_ground e h.amount k.1 in
    let n = natural_move e h.amount in
    let at : (i other : ℕ) → IfSome (slice_get d.nets i) (λ net. IsInward d.miller (net_left (move_of e) other net) net) =
    λ i other. IfSome_then (slice_get d.nets i) (s.nets i) (λ net sound. to_ground d.miller (move_of e) other net s.miller k.0 g n (sums_of d i net sound)) in
    operator_inward d (nets_left (move_of e) (first_of e) (second_of e) d.nets) d.nets (wired (edited e d) t)
    (nets_related (IsInward d.miller) (inward_refl d.miller) (move_of e) (first_of e) (second_of e) (nets_apart d e s h) d.nets (at (first_of e) (second_of e)) (at (second_of e) (first_of e))) W

pub grows : (d : Parts) (e : Edit) → IsSound d → IsEditOf d.nets e → change_of d.miller e ≡ Grows → (W : Assignment)
    → IsContained (operator d W) (operator (edited e d) W)
grows d e s h c W =
    let k = whole_miller d.miller e Grows c (λ f. cc) in
    let g = comes_from_ground e h.amount k.1 in
    let at : (i other : ℕ) → IfSome (slice_get d.nets i) (λ net. IsInward d.miller net (net_left (move_of e) other net)) =
    λ i other. IfSome_then (slice_get d.nets i) (s.nets i) (λ net sound. from_ground d.miller (move_of e) other net s.miller k.0 g (sums_of d i net sound)) in
    let R : Net → Net → Type 0 = λ y x. IsInward d.miller x y in
    let ys = nets_left (move_of e) (first_of e) (second_of e) d.nets in
    let related : AreRelated R ys d.nets =
    nets_related R (inward_refl d.miller) (move_of e) (first_of e) (second_of e) (nets_apart d e s h) d.nets (at (first_of e) (second_of e)) (at (second_of e) (first_of e)) in
    operator_inward d d.nets ys (wired d s) (turn_round R ys d.nets related) W
