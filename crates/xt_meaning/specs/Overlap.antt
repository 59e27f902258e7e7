-- When two windows overlap, and the Miller factors that follow from it.
use Rattle.std.specs.Prelude.{ℕ, Bool, true, ◌&&◌, if◌then◌else◌, ℤ, pos, neg_ℤ, ◌+ℤ◌, ◌-ℤ◌, ◌*ℤ◌, ◌≤ℤ◌, int_le, List}
use Rattle.std.specs.Prelude.{map, Option, Some, None, IfSome}
use Rattle.std.specs.Int.{int_div_euclid}
use Rattle.xt_model.specs.declared.edge.Edge.{Edge}
use Rattle.xt_model.specs.declared.quad.Quad.{Quad}
use Rattle.xt_model.specs.declared.net.Coupling.{Coupling}
use Rattle.xt_model.specs.Quads.{is_live, IsLive, other_edge}
use Rattle.xt_model.specs.Miller.{MillerNumbers}
use Rattle.xt_model.specs.Assign.{Assignment}

-- half of a slew, rounded up
abbrev pub half_up : ℤ → ℤ
half_up s = int_div_euclid (s +ℤ pos 1) (pos 2)

-- from when and to when the transitions of a window can be under way
abbrev pub active_from : Quad → ℤ
active_from q = q.tlo -ℤ half_up q.shi

abbrev pub active_to : Quad → ℤ
active_to q = q.thi +ℤ half_up q.shi

-- the closed range from a0 to a1 meets that from b0 to b1 where the second is moved by this much
pub record MeetMoved (a0 a1 b0 b1 move : ℤ) : Type 0 where
  pub starts : a0 ≤ℤ (b1 +ℤ move)
  pub ends : (b0 +ℤ move) ≤ℤ a1

-- in a design with a clock period, transitions come again each period: ranges meet where some whole number k of
-- periods moves one onto the other; without a period they are not moved
abbrev pub Meet : Option ℤ → ℤ → ℤ → ℤ → ℤ → Type 0
Meet None a0 a1 b0 b1 = MeetMoved a0 a1 b0 b1 (pos 0)
Meet (Some period) a0 a1 b0 b1 = (k : ℤ) × MeetMoved a0 a1 b0 b1 (k *ℤ period)

-- a period, where there is one, is at least 1 fs
abbrev pub IsRealPeriod : Option ℤ → Type 0
IsRealPeriod period = IfSome period (λ t. pos 1 ≤ℤ t)

-- two live windows overlap where their active ranges meet; a dead one overlaps nothing
pub record Overlap (period : Option ℤ) (q r : Quad) : Type 0 where
  pub first : IsLive q
  pub second : IsLive r
  pub meet : Meet period (active_from q) (active_to q) (active_from r) (active_to r)

-- the same as answers: the least number of periods that brings the end of the second range to the first is at
-- most the greatest number that leaves its start there
abbrev pub ranges_meet : Option ℤ → ℤ → ℤ → ℤ → ℤ → Bool
ranges_meet None a0 a1 b0 b1 = int_le a0 b1 && int_le b0 a1
ranges_meet (Some period) a0 a1 b0 b1 =
    int_le (neg_ℤ (int_div_euclid (b1 -ℤ a0) period)) (int_div_euclid (a1 -ℤ b0) period)

abbrev pub overlaps : Option ℤ → Quad → Quad → Bool
overlaps period q r =
    is_live q && (is_live r && ranges_meet period (active_from q) (active_to q) (active_from r) (active_to r))

-- for an edge of a net and an edge of another: whether the two can be under way at the same time
abbrev pub Answers : Type 0
Answers = ℕ → Edge → ℕ → Edge → Bool

-- the answers that an assignment gives in a design of this period
abbrev pub overlap_answers : Option ℤ → Assignment → Answers
overlap_answers period W n e m f = overlaps period (W n e) (W m f)

-- everything overlaps
abbrev pub all_overlap : Answers
all_overlap n e m f = true

-- the least factor of a coupling of net n at edge e: the aggressor may switch the same way
abbrev pub least_factor : MillerNumbers → Answers → ℕ → Edge → Coupling → ℕ
least_factor m b n e k = if b n e k.to.0 e then m.low else m.mid

-- the greatest factor: the aggressor may switch the other way
abbrev pub greatest_factor : MillerNumbers → Answers → ℕ → Edge → Coupling → ℕ
greatest_factor m b n e k = if b n e k.to.0 (other_edge e) then m.high else m.mid

-- those of all couplings of the net
abbrev pub least_factors : MillerNumbers → Answers → ℕ → Edge → List Coupling → List ℕ
least_factors m b n e ks = map (least_factor m b n e) ks

abbrev pub greatest_factors : MillerNumbers → Answers → ℕ → Edge → List Coupling → List ℕ
greatest_factors m b n e ks = map (greatest_factor m b n e) ks
