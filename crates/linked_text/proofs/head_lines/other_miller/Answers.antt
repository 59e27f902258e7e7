use Rattle.std.proofs.Common.{◌≡◌, ℕ, Bool, true, false, not, cond, leb, ◌&&◌, Option, Some, None, refl, sym, ap, ◌∙◌}
use Rattle.std.proofs.lemmas.Option.{same_Some}
use Rattle.xt_model.specs.Limits.{most_factor}
use Rattle.xt_model.specs.Miller.{MillerNumbers, miller_of}
use Rattle.linked_text.specs.Linked.{is_classical}
use Rattle.linked_text.specs.EachLine.{is_other_miller}
use Rattle.linked_text.proofs.head_lines.other_miller.Goals as goal

-- three numbers, as Miller numbers
abbrev three : ℕ → ℕ → ℕ → MillerNumbers
three low mid high = record { low = low; mid = mid; high = high }

-- those that are no Miller numbers
not_other : (low mid high : ℕ) → ◌≡◌ {A = Option MillerNumbers} (miller_of (low, mid, high)) None → is_other_miller (three low mid high) ≡ false
not_other low mid high none = go (leb low mid) (leb mid high) (leb high most_factor) none
  where
    go : (a b c : Bool) → ◌≡◌ {A = Option MillerNumbers} (cond (a && (b && c)) (Some (three low mid high)) None) None
        → (a && (b && (c && not (is_classical (three low mid high))))) ≡ false
    go true true true e = absurd cc
    go true true false e = refl
    go true false c e = refl
    go false b c e = refl

-- those that are some
are_other : (low mid high : ℕ) (m : MillerNumbers) → miller_of (low, mid, high) ≡ Some m
    → (m ≡ three low mid high) × (is_other_miller (three low mid high) ≡ not (is_classical (three low mid high)))
are_other low mid high m some = go (leb low mid) (leb mid high) (leb high most_factor) some
  where
    go : (a b c : Bool) → ◌≡◌ {A = Option MillerNumbers} (cond (a && (b && c)) (Some (three low mid high)) None) (Some m)
        → (m ≡ three low mid high) × ((a && (b && (c && not (is_classical (three low mid high))))) ≡ not (is_classical (three low mid high)))
    go true true true e = (sym (same_Some (three low mid high) m e), refl)
    go true true false e = absurd cc
    go true false c e = absurd cc
    go false b c e = absurd cc

pub returns-in_err-miller : goal.returns-in_err-miller
returns-in_err-miller c =
    let none = sym (rw (c.from.ensures, c.from-2.ensures, c.from-3.ensures) at c.in_err-miller.ensures) in
    rw c.from_residual.ensures (not_other c.args.low c.args.mid c.args.high none)

pub returns-then-is_classical : goal.returns-then-is_classical
returns-then-is_classical c =
    let some = sym (rw (c.from.ensures, c.from-2.ensures, c.from-3.ensures) at c.in_ok-miller.ensures) in
    let other = are_other c.args.low c.args.mid c.args.high c.in_ok-miller.miller some in
    other.1 ∙ ap not (ap is_classical (sym other.0) ∙ (sym c.is_classical.ensures ∙ c.if-is_classical.true))

pub returns : goal.returns
returns c =
    let some = sym (rw (c.from.ensures, c.from-2.ensures, c.from-3.ensures) at c.in_ok-miller.ensures) in
    let other = are_other c.args.low c.args.mid c.args.high c.in_ok-miller.miller some in
    (other.0, other.1 ∙ ap not (ap is_classical (sym other.0) ∙ (sym c.is_classical.ensures ∙ c.if-is_classical.false)))
