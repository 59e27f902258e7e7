-- Laws of windows: the order by containment, its joins and its meets.
use Rattle.std.proofs.Common.{◌≡◌, refl, arith}
use Rattle.std.proofs.lemmas.Int.{ints, clamps}
use Rattle.xt_model.specs.declared.edge.Edge.{Edge}
use Rattle.xt_model.specs.declared.edge.Edge.TheVariants.{Rise, Fall}
use Rattle.xt_model.specs.declared.quad.Quad.{Quad}
use Rattle.xt_model.specs.declared.quad.Pair.{Pair}
use Rattle.xt_model.specs.Quads.{IsWithin, join_of, meet_of, bottom, IsInRange, IsPairInRange, quad_at}

pub quad_in_range : (p : Pair) (e : Edge) → IsPairInRange p → IsInRange (quad_at p e)
quad_in_range p Rise h = h.rise
quad_in_range p Fall h = h.fall

-- windows with the same bounds are the same
pub same_quad : (q r : Quad) → q.tlo ≡ r.tlo → q.thi ≡ r.thi → q.slo ≡ r.slo → q.shi ≡ r.shi → q ≡ r
same_quad q r a b c d =
    let e : ◌≡◌ {A = Quad} (record { tlo = q.tlo; thi = q.thi; slo = q.slo; shi = q.shi }) (record { tlo = r.tlo; thi = r.thi; slo = r.slo; shi = r.shi }) = rw (a, b, c, d) refl in
    e

pub within_refl : (q : Quad) → IsWithin q q
within_refl q = record { tlo = omega (arith, ints); thi = omega (arith, ints); slo = omega (arith, ints); shi = omega (arith, ints) }

pub within_trans : (q r s : Quad) → IsWithin q r → IsWithin r s → IsWithin q s
within_trans q r s h k = record {
  tlo = omega (arith, ints, h.tlo, k.tlo);
  thi = omega (arith, ints, h.thi, k.thi);
  slo = omega (arith, ints, h.slo, k.slo);
  shi = omega (arith, ints, h.shi, k.shi);
}

pub within_both : (q r : Quad) → IsWithin q r → IsWithin r q → q ≡ r
within_both q r h k = same_quad q r
    (omega (arith, ints, h.tlo, k.tlo)) (omega (arith, ints, h.thi, k.thi)) (omega (arith, ints, h.slo, k.slo)) (omega (arith, ints, h.shi, k.shi))

pub within_join_left : (q r : Quad) → IsWithin q (join_of q r)
within_join_left q r = record { tlo = omega (arith, ints, clamps); thi = omega (arith, ints, clamps); slo = omega (arith, ints, clamps); shi = omega (arith, ints, clamps) }

pub within_join_right : (q r : Quad) → IsWithin r (join_of q r)
within_join_right q r = record { tlo = omega (arith, ints, clamps); thi = omega (arith, ints, clamps); slo = omega (arith, ints, clamps); shi = omega (arith, ints, clamps) }

pub join_is_least : (q r s : Quad) → IsWithin q s → IsWithin r s → IsWithin (join_of q r) s
join_is_least q r s h k = record {
  tlo = omega (arith, ints, clamps, h.tlo, k.tlo);
  thi = omega (arith, ints, clamps, h.thi, k.thi);
  slo = omega (arith, ints, clamps, h.slo, k.slo);
  shi = omega (arith, ints, clamps, h.shi, k.shi);
}

pub meet_within_left : (q r : Quad) → IsWithin (meet_of q r) q
meet_within_left q r = record { tlo = omega (arith, ints, clamps); thi = omega (arith, ints, clamps); slo = omega (arith, ints, clamps); shi = omega (arith, ints, clamps) }

pub meet_within_right : (q r : Quad) → IsWithin (meet_of q r) r
meet_within_right q r = record { tlo = omega (arith, ints, clamps); thi = omega (arith, ints, clamps); slo = omega (arith, ints, clamps); shi = omega (arith, ints, clamps) }

pub meet_is_greatest : (q r s : Quad) → IsWithin s q → IsWithin s r → IsWithin s (meet_of q r)
meet_is_greatest q r s h k = record {
  tlo = omega (arith, ints, clamps, h.tlo, k.tlo);
  thi = omega (arith, ints, clamps, h.thi, k.thi);
  slo = omega (arith, ints, clamps, h.slo, k.slo);
  shi = omega (arith, ints, clamps, h.shi, k.shi);
}

-- the window of an edge that never switches lies within each window whose bounds words can hold
pub bottom_within : (q : Quad) → IsInRange q → IsWithin bottom q
bottom_within q h = record {
  tlo = omega (arith, ints, h.tlo.high);
  thi = omega (arith, ints, h.thi.low);
  slo = omega (arith, ints, h.slo.high);
  shi = omega (arith, ints, h.shi.low);
}
