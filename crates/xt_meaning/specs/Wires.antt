-- Loads, wire delays and slews at given Miller factors (Elmore 1948, linear in the coupling capacitors).
-- Factors are a list of quarters, one for each coupling of the net.
use Rattle.std.specs.Prelude.{ℕ, ℤ, pos, ◌+ℤ◌, ◌*ℤ◌, List, [], ◌∷◌, map, Option, Some, None}
use Rattle.std.specs.Int.{int_div_euclid}
use Rattle.std.specs.List.{slice_get}
use Rattle.xt_model.specs.declared.net.Coupling.{Coupling}
use Rattle.xt_model.specs.declared.net.SinkPin.{SinkPin}
use Rattle.xt_model.specs.declared.net.Net.{Net}

-- the sum of each factor times its coefficient
abbrev pub product_sum : List ℕ → List ℤ → ℤ
product_sum [] cs = pos 0
product_sum (m ∷ ms) [] = pos 0
product_sum (m ∷ ms) (c ∷ cs) = (pos m *ℤ c) +ℤ product_sum ms cs

-- the sum of each factor times the capacitance of its coupling
abbrev pub cap_sum : List ℕ → List Coupling → ℤ
cap_sum ms ks = product_sum ms (map (λ k. k.cap) ks)

-- the load of a net in aF: the quarters are summed first and then rounded down to whole ones
abbrev pub load_of : List ℕ → Net → ℤ
load_of ms n = n.load +ℤ int_div_euclid (cap_sum ms n.couplings) (pos 4)

-- the Elmore delay in fs of a sum in quarters of a milliohm times an aF
abbrev pub elmore_delay : ℤ → ℤ
elmore_delay quarters = int_div_euclid quarters (pos 4000000)

abbrev pub delay_to : List ℕ → Option SinkPin → ℤ
delay_to ms None = pos 0
delay_to ms (Some s) = elmore_delay ((pos 4 *ℤ s.base) +ℤ product_sum ms s.coefs)

-- the delay of the wire from the driver of a net to one of its sinks, in fs
abbrev pub wire_delay : List ℕ → Net → ℕ → ℤ
wire_delay ms n sink = delay_to ms (slice_get n.sinks sink)

-- what a wire of delay w adds to a slew
abbrev pub slew_growth : ℤ → ℤ
slew_growth w = int_div_euclid (pos 11 *ℤ w) (pos 5)
