-- Switching windows: one quad of bounds for each net and edge, ordered by containment (Zhou 2003).
use Rattle.std.specs.Prelude.{Bool, true, false, ◌&&◌, ℤ, pos, neg_ℤ, ◌≤ℤ◌, int_le, IsTrue}
use Rattle.std.specs.Int.{int_min, int_max}
use Rattle.xt_model.specs.declared.edge.Edge.{Edge}
use Rattle.xt_model.specs.declared.edge.Edge.TheVariants.{Rise, Fall}
use Rattle.xt_model.specs.declared.quad.Quad.{Quad}
use Rattle.xt_model.specs.declared.quad.Pair.{Pair}

-- the bound that no time or slew passes in either direction: the ends of what a shared word can hold
abbrev pub top_bound : ℤ
top_bound = pos 4611686018427387904

-- the window of an edge that never switches
abbrev pub bottom : Quad
bottom = record { tlo = top_bound; thi = neg_ℤ top_bound; slo = top_bound; shi = neg_ℤ top_bound }

-- whether some transition lies in the window: each low bound is at most its high bound
abbrev pub is_live : Quad → Bool
is_live q = int_le q.tlo q.thi && int_le q.slo q.shi

abbrev pub IsLive : Quad → Type 0
IsLive q = IsTrue (is_live q)

-- q lies within r: no bound of q is outside those of r
pub record IsWithin (q r : Quad) : Type 0 where
  pub tlo : r.tlo ≤ℤ q.tlo
  pub thi : q.thi ≤ℤ r.thi
  pub slo : r.slo ≤ℤ q.slo
  pub shi : q.shi ≤ℤ r.shi

-- the least window that both lie within
abbrev pub join_of : Quad → Quad → Quad
join_of q r = record {
  tlo = int_min q.tlo r.tlo;
  thi = int_max q.thi r.thi;
  slo = int_min q.slo r.slo;
  shi = int_max q.shi r.shi;
}

-- the greatest window that lies within both
abbrev pub meet_of : Quad → Quad → Quad
meet_of q r = record {
  tlo = int_max q.tlo r.tlo;
  thi = int_min q.thi r.thi;
  slo = int_max q.slo r.slo;
  shi = int_min q.shi r.shi;
}

-- a bound that a word can hold
pub record IsBound (b : ℤ) : Type 0 where
  pub low : neg_ℤ top_bound ≤ℤ b
  pub high : b ≤ℤ top_bound

pub record IsInRange (q : Quad) : Type 0 where
  pub tlo : IsBound q.tlo
  pub thi : IsBound q.thi
  pub slo : IsBound q.slo
  pub shi : IsBound q.shi

pub record IsPairInRange (p : Pair) : Type 0 where
  pub rise : IsInRange p.rise
  pub fall : IsInRange p.fall

abbrev pub other_edge : Edge → Edge
other_edge Rise = Fall
other_edge Fall = Rise

abbrev pub same_edge : Edge → Edge → Bool
same_edge Rise Rise = true
same_edge Rise Fall = false
same_edge Fall Rise = false
same_edge Fall Fall = true

abbrev pub quad_at : Pair → Edge → Quad
quad_at p Rise = p.rise
quad_at p Fall = p.fall
