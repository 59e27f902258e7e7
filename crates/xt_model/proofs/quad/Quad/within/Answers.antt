use Rattle.std.proofs.Common.{arith, refl}
use Rattle.std.proofs.lemmas.Int.{ints}
use Rattle.xt_model.proofs.quad.Quad.within.Goals as goal

pub returns-then-is_inside : goal.returns-then-is_inside
returns-then-is_inside c = (
  λ t.
      let first = c.if-is_inside.ensures in
      let times = first.0 refl in
      let slews = c.is_inside-then-is_inside.ensures.0 t in
      record {
        tlo = omega (arith, ints, times.0);
        thi = omega (arith, ints, times.1);
        slo = omega (arith, ints, slews.0);
        shi = omega (arith, ints, slews.1);
      },
  λ w. c.is_inside-then-is_inside.ensures.1 (omega (arith, ints, w.slo), omega (arith, ints, w.shi)),
)
