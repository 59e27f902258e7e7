-- Two small designs, and windows of theirs, for the examples that are worked out by hand in the crates above.
use Rattle.std.specs.Prelude.{ℕ, true, false, List, [], ◌∷◌, codes, ℤ, pos, None}
use Rattle.xt_model.specs.declared.edge.Edge.TheVariants.{Rise, Fall}
use Rattle.xt_model.specs.declared.quad.Quad.{Quad}
use Rattle.xt_model.specs.declared.quad.Pair.{Pair}
use Rattle.xt_model.specs.declared.net.Coupling.{Coupling}
use Rattle.xt_model.specs.declared.net.SinkPin.{SinkPin}
use Rattle.xt_model.specs.declared.net.TimingArc.{TimingArc}
use Rattle.xt_model.specs.declared.net.Net.{Net}
use Rattle.xt_model.specs.Quads.{bottom}
use Rattle.xt_model.specs.Miller.{classical}
use Rattle.xt_model.specs.Parts.{Parts}
use Rattle.xt_model.specs.Tables.{TableParts}

abbrev pub quad : ℤ → ℤ → ℤ → ℤ → Quad
quad tlo thi slo shi = record { tlo = tlo; thi = thi; slo = slo; shi = shi }

abbrev pub on_rise : Quad → Pair
on_rise q = record { rise = q; fall = bottom }

abbrev pub on_fall : Quad → Pair
on_fall q = record { rise = bottom; fall = q }

abbrev pub never : Pair
never = record { rise = bottom; fall = bottom }

abbrev pub table : List ℤ → List ℤ → TableParts
table loads values = record { slews = pos 0 ∷ []; loads = loads; values = values }

abbrev pub source : List ℕ → Pair → List Coupling → List SinkPin → Net
source name given couplings sinks = record { name = name; input = true; load = pos 0; given = given; couplings = couplings; sinks = sinks; arcs = [] }

abbrev pub driven : List ℕ → List Coupling → TimingArc → Net
driven name couplings arc = record { name = name; input = false; load = pos 0; given = never; couplings = couplings; sinks = []; arcs = arc ∷ [] }

abbrev pub coupled : ℕ → ℤ → List Coupling
coupled to cap = (record { to = record { 0 = to }; cap = cap }) ∷ []

abbrev pub rising_from : ℕ → TimingArc
rising_from n = record { from = record { 0 = n }; sink = 0; input = Rise; output = Rise; delay = 0; slew = 1 }

abbrev pub falling_from : ℕ → TimingArc
falling_from n = record { from = record { 0 = n }; sink = 0; input = Fall; output = Fall; delay = 0; slew = 1 }

-- two sources, each coupled to the net that the other drives: whether the wires are slow decides whether they meet
abbrev pub cross : Parts
cross = record {
  period = None;
  tables = table (pos 0 ∷ []) (pos 500 ∷ []) ∷ table (pos 0 ∷ []) (pos 600 ∷ []) ∷ [];
  nets = source (codes "s") (on_rise (quad (pos 1000) (pos 1000) (pos 600) (pos 600))) (coupled 3 (pos 1000)) ((record { name = codes "c/A"; base = pos 0; coefs = pos 200000000 ∷ [] }) ∷ [])
      ∷ source (codes "t") (on_rise (quad (pos 1000) (pos 1000) (pos 600) (pos 600))) (coupled 2 (pos 1000)) ((record { name = codes "d/A"; base = pos 0; coefs = pos 200000000 ∷ [] }) ∷ [])
      ∷ driven (codes "c") [] (rising_from 0)
      ∷ driven (codes "d") [] (rising_from 1)
      ∷ [];
  checks = [];
  miller = classical;
}

abbrev pub cross_windows : ℤ → List Pair
cross_windows least =
    on_rise (quad (pos 1000) (pos 1000) (pos 600) (pos 600)) ∷ on_rise (quad (pos 1000) (pos 1000) (pos 600) (pos 600))
    ∷ on_rise (quad least (pos 1700) (pos 600) (pos 600)) ∷ on_rise (quad least (pos 1700) (pos 600) (pos 600)) ∷ []

-- two driven nets coupled to each other: whether they meet decides their loads
abbrev pub load_pair : ℤ → Parts
load_pair start = record {
  period = None;
  tables = table (pos 0 ∷ pos 10000 ∷ []) (pos 800 ∷ pos 2800 ∷ []) ∷ table (pos 0 ∷ []) (pos 0 ∷ []) ∷ [];
  nets = source (codes "p") (on_rise (quad (pos 0) (pos 0) (pos 0) (pos 0))) [] ((record { name = codes "a/A"; base = pos 0; coefs = [] }) ∷ [])
      ∷ source (codes "q") (on_fall (quad start start (pos 0) (pos 0))) [] ((record { name = codes "b/A"; base = pos 0; coefs = [] }) ∷ [])
      ∷ driven (codes "a") (coupled 3 (pos 1000)) (rising_from 0)
      ∷ driven (codes "b") (coupled 2 (pos 1000)) (falling_from 1)
      ∷ [];
  checks = [];
  miller = classical;
}

abbrev pub pair_windows : ℤ → Quad → Quad → List Pair
pair_windows start a b =
    on_rise (quad (pos 0) (pos 0) (pos 0) (pos 0)) ∷ on_fall (quad start start (pos 0) (pos 0)) ∷ on_rise a ∷ on_fall b ∷ []

abbrev pub pair_low : List Pair
pair_low = pair_windows (pos 100) (quad (pos 1000) (pos 1000) (pos 0) (pos 0)) (quad (pos 1100) (pos 1100) (pos 0) (pos 0))

abbrev pub pair_high : List Pair
pair_high = pair_windows (pos 100) (quad (pos 1000) (pos 1200) (pos 0) (pos 0)) (quad (pos 1100) (pos 1300) (pos 0) (pos 0))
