-- An edit between two nets of a sound design is allowed, or it has one refusal.
use Rattle.std.proofs.Common.{◌≡◌, ℕ, pos, inl, inr, sym, ◌∙◌, List, ◌≤ℤ◌, arith}
use Rattle.std.specs.Prelude.{Option, Some, None, IfSome}
use Rattle.std.specs.List.{slice_get}
use Rattle.std.proofs.lemmas.Int.{ints}
use Rattle.xt_model.specs.declared.net.Net.{Net}
use Rattle.xt_model.specs.Limits.{most_cap}
use Rattle.eco_warm.specs.declared.edit.Edit.{Edit}
use Rattle.eco_warm.specs.declared.edit.Move.{Move}
use Rattle.eco_warm.specs.Edits.{move_of, first_of, second_of}
use Rattle.eco_warm.specs.Possible.{IsAllowed, IsEditOf, IsHeavy, IsOverloaded, load_after}
use Rattle.eco_warm.proofs.Allowed.{there}

-- a net is heavy, or its load is in its range
light_or_heavy : (m : Move) (own other number value : ℕ) (o : Option Net) (n : Net) → o ≡ Some n → IfSome o (λ n. load_after m other n ≤ℤ most_cap) → IfSome o (IsHeavy m own other number value) → ⊥
light_or_heavy m own other number value None n at light heavy = absurd cc
light_or_heavy m own other number value (Some x) n at light heavy = let a = light in let b = heavy.load in let c = heavy.over in absurd (omega (arith, ints, a, b, c))

-- a net has one load
pub record AreOne (a b v w : ℕ) : Type 0 where
  pub number : a ≡ b
  pub value : v ≡ w

one_load : (m : Move) (own other a b v w : ℕ) (o : Option Net) (n : Net) → o ≡ Some n → IfSome o (IsHeavy m own other a v) → IfSome o (IsHeavy m own other b w) → AreOne a b v w
one_load m own other a b v w None n at x y = absurd cc
one_load m own other a b v w (Some k) n at x y =
    let e : pos v ≡ pos w = x.load ∙ sym y.load in
    record { number = x.is ∙ sym y.is; value = cc }

module _ (nets : List Net) (e : Edit) (h : IsEditOf nets e) where
  pub allowed_or_overloaded : (number value : ℕ) → IsAllowed e nets → IsOverloaded e nets number value → ⊥
  allowed_or_overloaded number value a o = elim o.heavy [
    | inl x ↦ let n = there nets (first_of e) h.first in light_or_heavy (move_of e) (first_of e) (second_of e) number value (slice_get nets (first_of e)) n.0 n.1 a.first_load x
    | inr y ↦ let n = there nets (second_of e) h.second in light_or_heavy (move_of e) (second_of e) (first_of e) number value (slice_get nets (second_of e)) n.0 n.1 a.second_load y.1
  ]

  pub one_overload : (a b v w : ℕ) → IsOverloaded e nets a v → IsOverloaded e nets b w → AreOne a b v w
  one_overload a b v w o p =
      let n = there nets (first_of e) h.first in
      let m = there nets (second_of e) h.second in
      let at = slice_get nets (first_of e) in
      let to = slice_get nets (second_of e) in
      elim o.heavy [
        | inl x ↦ elim p.heavy [
          | inl y ↦ one_load (move_of e) (first_of e) (second_of e) a b v w at n.0 n.1 x y
          | inr y ↦ absurd (light_or_heavy (move_of e) (first_of e) (second_of e) a v at n.0 n.1 y.0 x)
        ]
        | inr x ↦ elim p.heavy [
          | inl y ↦ absurd (light_or_heavy (move_of e) (first_of e) (second_of e) b w at n.0 n.1 x.0 y)
          | inr y ↦ one_load (move_of e) (second_of e) (first_of e) a b v w to m.0 m.1 x.1 y.1
        ]
      ]
