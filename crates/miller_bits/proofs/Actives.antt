-- The moments between which transitions of a window can be under way fit in 64 bits.
use Rattle.std.proofs.Common.{◌≡◌, ◌+◌, ◌^◌, sym, ◌∙◌, ap, Bool, true, ℤ, pos, negsuc, neg_ℤ, ◌+ℤ◌, ◌≤ℤ◌, to_z, of_z, to_z-of_z, w64, SFits, arith}
use Rattle.std.specs.Prelude.{Option}
use Rattle.std.specs.Int.{int_div_euclid}
use Rattle.std.proofs.lemmas.Int.{ints}
use Rattle.xt_model.specs.declared.quad.Quad.{Quad}
use Rattle.xt_model.specs.Quads.{IsInRange, is_live}
use Rattle.xt_meaning.specs.Overlap.{active_from, active_to, overlaps, ranges_meet}
use Rattle.miller_bits.specs.declared.active.Active.{Active}
use Rattle.miller_bits.specs.Actives.{IsActive}
use Rattle.miller_bits.proofs.Periods.{live_meet}

half_low : (x : ℤ) → neg_ℤ (pos (2 ^ 62)) ≤ℤ x → neg_ℤ (pos (2 ^ 61)) ≤ℤ int_div_euclid x (pos 2)
half_low (pos a) h = omega (arith, ints)
half_low (negsuc a) h = omega (arith, ints, h)

half_high : (x : ℤ) → x ≤ℤ pos (2 ^ 62 + 1) → int_div_euclid x (pos 2) ≤ℤ pos (2 ^ 61)
half_high (pos a) h = omega (arith, ints, h)
half_high (negsuc a) h = omega (arith, ints)

from_fits : (q : Quad) → IsInRange q → SFits w64 (active_from q)
from_fits q ok =
    let t = ok.tlo in let s = ok.shi in
    let low = half_low (q.shi +ℤ pos 1) (omega (arith, ints, s.low)) in let high = half_high (q.shi +ℤ pos 1) (omega (arith, ints, s.high)) in
    omega (arith, ints, t.low, t.high, low, high)

to_fits : (q : Quad) → IsInRange q → SFits w64 (active_to q)
to_fits q ok =
    let t = ok.thi in let s = ok.shi in
    let low = half_low (q.shi +ℤ pos 1) (omega (arith, ints, s.low)) in let high = half_high (q.shi +ℤ pos 1) (omega (arith, ints, s.high)) in
    omega (arith, ints, t.low, t.high, low, high)

-- live windows overlap where their active ranges, as the machine reads them, meet
pub live_ranges : (a : Active) (other : Quad) (period : Option ℤ) (from to : ℤ) (l r : Bool) → IsActive a → IsInRange other
    → from ≡ active_from other → to ≡ active_to other → a.live ≡ true → l ≡ true → l ≡ is_live other
    → r ≡ ranges_meet period (to_z w64 (of_z w64 a.from)) (to_z w64 (of_z w64 a.to)) (to_z w64 (of_z w64 from)) (to_z w64 (of_z w64 to)) → r ≡ overlaps period a.window other
live_ranges a other period from to l r ok range e f live h other_live is =
    let a_from : to_z w64 (of_z w64 a.from) ≡ active_from a.window = ap (λ n. to_z w64 (of_z w64 n)) ok.from ∙ to_z-of_z (from_fits a.window ok.range) in
    let a_to : to_z w64 (of_z w64 a.to) ≡ active_to a.window = ap (λ n. to_z w64 (of_z w64 n)) ok.to ∙ to_z-of_z (to_fits a.window ok.range) in
    let b_from : to_z w64 (of_z w64 from) ≡ active_from other = ap (λ n. to_z w64 (of_z w64 n)) e ∙ to_z-of_z (from_fits other range) in
    let b_to : to_z w64 (of_z w64 to) ≡ active_to other = ap (λ n. to_z w64 (of_z w64 n)) f ∙ to_z-of_z (to_fits other range) in
    live_meet _ _ _ r (sym live ∙ ok.live) (sym h ∙ other_live) (rw (a_from, a_to, b_from, b_to) at is)
