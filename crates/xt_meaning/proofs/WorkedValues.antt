-- Values worked out by hand, computed by the definitions: tables and their ranges, overlap.
use Rattle.std.specs.Prelude.{◌≡◌, refl, true, false, [], ◌∷◌, ℤ, pos, negsuc, Some, None}
use Rattle.xt_model.specs.declared.quad.Quad.{Quad}
use Rattle.xt_model.specs.Tables.{TableParts}
use Rattle.xt_meaning.specs.Lookup.{table_value, slew_value, Box, least_over, greatest_over}
use Rattle.xt_model.specs.declared.net.Net.{Net}
use Rattle.xt_model.specs.Quads.{bottom}
use Rattle.xt_meaning.specs.Wires.{load_of, wire_delay}
use Rattle.xt_meaning.specs.Overlap.{half_up, ranges_meet, overlaps}

abbrev plane : TableParts
plane = record { slews = pos 0 ∷ pos 100000 ∷ []; loads = pos 0 ∷ pos 10000 ∷ []; values = pos 10000 ∷ pos 30000 ∷ pos 20000 ∷ pos 60000 ∷ [] }

-- the fourth part of the sum of the corners
in_the_middle : table_value plane (pos 50000) (pos 5000) ≡ pos 30000
unfolding table_value
in_the_middle = refl

at_both_ends : (table_value plane (pos 0) (pos 5000) ∷ table_value plane (pos 100000) (pos 5000) ∷ []) ≡ (pos 20000 ∷ pos 40000 ∷ [])
unfolding table_value
at_both_ends = refl

past_both_ends : (table_value plane (negsuc 5) (negsuc 5) ∷ table_value plane (pos 250000) (pos 5000) ∷ []) ≡ (pos 10000 ∷ pos 40000 ∷ [])
unfolding table_value
past_both_ends = refl

abbrev dip : TableParts
dip = record { slews = pos 0 ∷ pos 10 ∷ pos 20 ∷ []; loads = pos 0 ∷ []; values = pos 5 ∷ pos 1 ∷ pos 9 ∷ [] }

abbrev over_the_dip : Box
over_the_dip = record { s0 = pos 0; s1 = pos 20; c0 = pos 0; c1 = pos 0 }

-- the least lies on the inner line, not at an end
range_of_the_dip : (least_over (table_value dip) over_the_dip ∷ greatest_over (table_value dip) over_the_dip ∷ []) ≡ (pos 1 ∷ pos 9 ∷ [])
unfolding table_value least_over greatest_over
range_of_the_dip = refl

-- on a line, and between two lines: 5 - 4 · 3 / 10 is 3.8
on_the_dip : (table_value dip (pos 10) (pos 7) ∷ table_value dip (pos 3) (pos 7) ∷ []) ≡ (pos 1 ∷ pos 3 ∷ [])
unfolding table_value
on_the_dip = refl

-- from -5 to -6 over ten steps: -5.3 is rounded down, and as a slew it counts as 0
abbrev below_zero : TableParts
below_zero = record { slews = pos 0 ∷ pos 10 ∷ []; loads = negsuc 4 ∷ []; values = negsuc 4 ∷ negsuc 5 ∷ [] }

rounded_down : (table_value below_zero (pos 3) (pos 7) ∷ slew_value below_zero (pos 3) (pos 7) ∷ []) ≡ (negsuc 5 ∷ pos 0 ∷ [])
unfolding table_value
rounded_down = refl

halves : (half_up (pos 0) ∷ half_up (pos 1) ∷ half_up (pos 2) ∷ half_up (pos 3) ∷ []) ≡ (pos 0 ∷ pos 1 ∷ pos 1 ∷ pos 2 ∷ [])
halves = refl

abbrev at_with_slew : ℤ → ℤ → Quad
at_with_slew t s = record { tlo = t; thi = t; slo = pos 0; shi = s }

-- two transitions with slews of 3 fs touch where they are 4 fs apart, and not where they are 5 fs apart
touching : (overlaps None (at_with_slew (pos 0) (pos 3)) (at_with_slew (pos 4) (pos 3))
    ∷ overlaps None (at_with_slew (pos 0) (pos 3)) (at_with_slew (pos 5) (pos 3)) ∷ []) ≡ (true ∷ false ∷ [])
touching = refl

-- a dead window overlaps nothing, dead by its times or by its slews
dead : (overlaps None (record { tlo = pos 5; thi = pos 4; slo = pos 0; shi = pos 9 }) (at_with_slew (pos 4) (pos 3))
    ∷ overlaps None (at_with_slew (pos 0) (pos 3)) (record { tlo = pos 0; thi = pos 0; slo = pos 5; shi = pos 4 }) ∷ []) ≡ (false ∷ false ∷ [])
dead = refl

-- 300 fs apart: they meet after three periods of 100, either way round, and after none of 70 but for their slews
periods_apart : (overlaps (Some (pos 100)) (at_with_slew (pos 0) (pos 0)) (at_with_slew (pos 300) (pos 0))
    ∷ overlaps (Some (pos 100)) (at_with_slew (pos 300) (pos 0)) (at_with_slew (pos 0) (pos 0))
    ∷ overlaps (Some (pos 70)) (at_with_slew (pos 0) (pos 0)) (at_with_slew (pos 300) (pos 0))
    ∷ overlaps (Some (pos 70)) (at_with_slew (pos 0) (pos 20)) (at_with_slew (pos 300) (pos 20))
    ∷ overlaps (Some (pos 70)) (at_with_slew (negsuc 299) (pos 18)) (at_with_slew (pos 0) (pos 20)) ∷ [])
    ≡ (true ∷ true ∷ false ∷ true ∷ false ∷ [])
periods_apart = refl

-- a range as long as the period meets everything; one whose low end is above its high end meets what covers both
spans : (ranges_meet (Some (pos 10)) (pos 0) (pos 10) (pos 1234) (pos 1234) ∷ ranges_meet (Some (pos 10)) (pos 3) (pos 1) (pos 0) (pos 5)
    ∷ ranges_meet (Some (pos 10)) (pos 3) (pos 1) (pos 2) (pos 2) ∷ []) ≡ (true ∷ true ∷ false ∷ [])
spans = refl

-- quarters are summed before they are rounded down: three of 1 aF and three of another are 1 aF in all
abbrev two_taps : Net
two_taps = record {
  name = [];
  input = true;
  load = pos 5;
  given = record { rise = bottom; fall = bottom };
  couplings = (record { to = record { 0 = 1 }; cap = pos 1 }) ∷ (record { to = record { 0 = 2 }; cap = pos 1 }) ∷ [];
  sinks = (record { name = []; base = pos 999999; coefs = pos 1000000 ∷ pos 1 ∷ [] }) ∷ [];
  arcs = [];
}

quarters : (load_of (3 ∷ 3 ∷ []) two_taps ∷ load_of (4 ∷ 12 ∷ []) two_taps ∷ wire_delay (12 ∷ 3 ∷ []) two_taps 0 ∷ wire_delay (12 ∷ 4 ∷ []) two_taps 0 ∷ [])
    ≡ (pos 6 ∷ pos 9 ∷ pos 3 ∷ pos 4 ∷ [])
quarters = refl
