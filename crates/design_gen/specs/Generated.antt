-- The generated design of a number and a count of nets.
use Rattle.std.specs.Prelude.{ℕ, ◌+◌, ◌*◌, ◌-◌, ◌/◌, ◌%◌, nat_lt, if◌then◌else◌, ℤ, pos, ◌*ℤ◌}
use Rattle.std.specs.Prelude.{List, [], ◌∷◌, ◌++◌, length, map, None, codes, decimal}
use Rattle.xt_model.specs.declared.edge.Edge.{Edge}
use Rattle.xt_model.specs.declared.edge.Edge.TheVariants.{Rise, Fall}
use Rattle.xt_model.specs.declared.quad.Quad.{Quad}
use Rattle.xt_model.specs.declared.quad.Pair.{Pair}
use Rattle.xt_model.specs.declared.net.Coupling.{Coupling}
use Rattle.xt_model.specs.declared.net.SinkPin.{SinkPin}
use Rattle.xt_model.specs.declared.net.TimingArc.{TimingArc}
use Rattle.xt_model.specs.declared.net.Net.{Net}
use Rattle.xt_model.specs.Quads.{bottom}
use Rattle.xt_model.specs.Parts.{Parts, classical_parts}
use Rattle.xt_model.specs.Tables.{TableParts}
use Rattle.drawn_numbers.specs.Draws.{after, drawn}
use Rattle.design_gen.specs.Lists.{each_below}
use Rattle.design_gen.specs.Taps.{sources, pins, net_of_pin, driver_of, pins_on, place_of}
use Rattle.design_gen.specs.Couples.{Couple, couplings_of, coupled}

-- slews in fs and loads in aF
abbrev pub table_of : List ℤ → TableParts
table_of values = record {
  slews = pos 0 ∷ pos 50000 ∷ pos 200000 ∷ [];
  loads = pos 0 ∷ pos 5000 ∷ pos 50000 ∷ [];
  values = values;
}

abbrev pub delays : TableParts
delays = table_of (pos 5000 ∷ pos 15000 ∷ pos 105000 ∷ pos 8000 ∷ pos 18000 ∷ pos 108000
    ∷ pos 20000 ∷ pos 30000 ∷ pos 120000 ∷ [])

abbrev pub slews : TableParts
slews = table_of (pos 4000 ∷ pos 14000 ∷ pos 104000 ∷ pos 6000 ∷ pos 16000 ∷ pos 106000
    ∷ pos 14000 ∷ pos 24000 ∷ pos 114000 ∷ [])

-- the window of a source by a number below 2000: from 0 to 99 ps on, 0 to 19 ps wide, with slews of 20 ps
abbrev pub window_by : ℕ → Quad
window_by r = record {
  tlo = pos (1000 * (r % 100));
  thi = pos (1000 * (r % 100) + 1000 * (r / 100));
  slo = pos 20000;
  shi = pos 20000;
}

abbrev pub both_edges : Quad → Pair
both_edges q = record { rise = q; fall = q }

-- source n takes draw number n
abbrev pub given_of : ℕ → ℕ → ℕ → Pair
given_of number nets n = both_edges (if nat_lt n (sources nets) then window_by (drawn number n 2000) else bottom)

abbrev pub net_name : ℕ → List ℕ
net_name n = codes "n" ++ decimal n

-- a pin is named after its net, and by the letter A or B
abbrev pub pin_name : ℕ → ℕ → List ℕ
pin_name nets pin = net_name (net_of_pin nets pin) ++ 47 ∷ (65 + pin % 2) ∷ []

-- the load of a net by its count of sinks, in aF
abbrev pub load_by : ℕ → ℕ
load_by sinks = 2000 + 1000 * sinks

-- a hundred ohms before each sink
abbrev pub sink_of : ℕ → ℕ → List Coupling → ℕ → SinkPin
sink_of nets load couplings pin = record {
  name = pin_name nets pin;
  base = pos (100000 * load);
  coefs = map (λ k. pos 100000 *ℤ k.cap) couplings;
}

abbrev pub arc_of : ℕ → ℕ → Edge → Edge → TimingArc
arc_of from sink input output = record {
  from = record { 0 = from };
  sink = sink;
  input = input;
  output = output;
  delay = 0;
  slew = 1;
}

-- cells invert
abbrev pub arcs_of_pin : (ℕ → ℕ) → ℕ → List TimingArc
arcs_of_pin driver pin =
    arc_of (driver pin) (place_of driver pin) Rise Fall ∷ arc_of (driver pin) (place_of driver pin) Fall Rise ∷ []

-- the two pins of a driven net
abbrev pub arcs_of : ℕ → (ℕ → ℕ) → ℕ → List TimingArc
arcs_of nets driver n =
    if nat_lt n (sources nets) then []
    else arcs_of_pin driver (2 * (n - sources nets)) ++ arcs_of_pin driver (2 * (n - sources nets) + 1)

abbrev pub net_by : ℕ → ℕ → (ℕ → ℕ) → List Couple → ℕ → Net
net_by number nets driver couples n = record {
  name = net_name n;
  input = nat_lt n (sources nets);
  load = pos (load_by (length (pins_on driver n (pins nets))));
  given = given_of number nets n;
  couplings = couplings_of n couples;
  sinks = map (sink_of nets (load_by (length (pins_on driver n (pins nets)))) (couplings_of n couples))
      (pins_on driver n (pins nets));
  arcs = arcs_of nets driver n;
}

-- sources and pins have taken their draws before the nets are paired
abbrev pub couples_of : ℕ → ℕ → List Couple
couples_of number nets = (coupled nets (after number (sources nets + pins nets)) nets).couples

abbrev pub generated_net : ℕ → ℕ → ℕ → Net
generated_net number nets n = net_by number nets (driver_of number nets) (couples_of number nets) n

abbrev pub generated : ℕ → ℕ → Parts
generated number nets = classical_parts None (delays ∷ slews ∷ []) (each_below (generated_net number nets) nets) []
