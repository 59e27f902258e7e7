-- What a small list of transitions leaves at a flip-flop and at a port, worked out by hand.
use Rattle.std.proofs.Common.{◌≡◌, ℕ, refl, Bool, true, false, List, [], ◌∷◌, ℤ, pos, ◌+ℤ◌, arith}
use Rattle.std.specs.Prelude.{neg_ℤ, codes, Some, None}
use Rattle.std.specs.Option.{IsSomeAnd}
use Rattle.xt_model.specs.declared.edge.Edge.TheVariants.{Rise}
use Rattle.xt_model.specs.declared.quad.Pair.{Pair}
use Rattle.xt_model.specs.declared.check.CheckPoint.{CheckPoint}
use Rattle.xt_model.specs.declared.check.CheckPoint.TheVariants.{Flop, Port}
use Rattle.xt_model.specs.declared.net.Net.{Net}
use Rattle.xt_model.specs.Miller.{classical}
use Rattle.xt_model.specs.Parts.{Parts}
use Rattle.xt_model.specs.Assign.{assigned}
use Rattle.xt_model.proofs.WorkedDesigns.{quad, on_rise, table, source}
use Rattle.xt_meaning.specs.Lookup.{table_value, greatest_over}
use Rattle.run_laws.specs.Transitions.{Transition}
use Rattle.slack_report.specs.Checks.{check_at}
use Rattle.slack_report.specs.Slacks.{slack_in}
use Rattle.slack_laws.specs.Arrivals.{ArrivesAt, Leave}

-- ---- the design: a port d of data and a port k of the clock, each with a wire of 200 fs to its sink, and a period of
-- 5000 fs; data needs 800 fs and a fifth of its slew
abbrev wired_port : List ℕ → Pair → Net
wired_port name given = source name given [] ((record { name = codes "r/D"; base = pos 200000000; coefs = [] }) ∷ [])

abbrev d_given : Pair
d_given = on_rise (quad (pos 1000) (pos 1300) (pos 700) (pos 700))

abbrev k_given : Pair
k_given = on_rise (quad (pos 400) (pos 450) (pos 100) (pos 100))

abbrev flop : Bool → CheckPoint
flop hold = Flop (codes "r/D") hold (record { 0 = 0 }) 0 (record { 0 = 1 }) 0 (Some 0) None

abbrev port : Bool → CheckPoint
port hold = Port (codes "y") hold (record { 0 = 0 }) 0 (Some (pos 300)) None

abbrev clocked : Parts
clocked = record {
  period = Some (pos 5000);
  tables = table (pos 0 ∷ pos 10000 ∷ []) (pos 800 ∷ pos 2800 ∷ []) ∷ [];
  nets = wired_port (codes "d") d_given ∷ wired_port (codes "k") k_given ∷ [];
  checks = flop false ∷ flop true ∷ port false ∷ port true ∷ [];
  miller = classical;
}

abbrev rising : ℕ → ℤ → ℤ → Transition
rising net time slew = record { net = net; edge = Rise; time = time; slew = slew }

-- data and the clock rise once each
abbrev rises : ℤ → ℤ → List Transition
rises datum clock = rising 0 datum (pos 700) ∷ rising 1 clock (pos 100) ∷ []

-- ---- arrivals: 200 later, with 440 more of slew
datum_comes : (datum clock : ℤ) → ArrivesAt clocked (rises datum clock) 0 Rise 0 (record { time = datum +ℤ pos 200; slew = pos 1140 })
datum_comes datum clock = record {
  x = rising 0 datum (pos 700);
  listed = (0, omega arith, refl);
  at_net = refl;
  at_edge = refl;
  w = pos 200;
  wire = record { factors = []; admitted = tt; delay = refl };
  time = refl;
  slew = refl;
}

clock_comes : (datum clock : ℤ) → ArrivesAt clocked (rises datum clock) 1 Rise 0 (record { time = clock +ℤ pos 200; slew = pos 540 })
clock_comes datum clock = record {
  x = rising 1 clock (pos 100);
  listed = (1, omega arith, refl);
  at_net = refl;
  at_edge = refl;
  w = pos 200;
  wire = record { factors = []; admitted = tt; delay = refl };
  time = refl;
  slew = refl;
}

-- ---- what is left
-- data at 1400, which it needs to be 1028 before the clock at 5620
setup_left : Leave clocked (rises (pos 1200) (pos 420)) (flop false) Rise (pos 3192)
unfolding table_value
setup_left = record {
  period = pos 5000;
  clocked = refl;
  datum = record { time = pos 1400; slew = pos 1140 };
  datum_arrives = datum_comes (pos 1200) (pos 420);
  clock = record { time = pos 620; slew = pos 540 };
  clock_arrives = clock_comes (pos 1200) (pos 420);
  leaves = refl;
}

-- data at 1400, where it is to stay as it was until 1028 after the clock at 620
hold_left : Leave clocked (rises (pos 1200) (pos 420)) (flop true) Rise (neg_ℤ (pos 248))
unfolding table_value
hold_left = record {
  period = pos 5000;
  clocked = refl;
  datum = record { time = pos 1400; slew = pos 1140 };
  datum_arrives = datum_comes (pos 1200) (pos 420);
  clock = record { time = pos 620; slew = pos 540 };
  clock_arrives = clock_comes (pos 1200) (pos 420);
  leaves = refl;
}

-- data at 1400 and 300 later outside: 3300 before the end of the period, and 1700 after its start
port_setup_left : Leave clocked (rises (pos 1200) (pos 420)) (port false) Rise (pos 3300)
port_setup_left = record {
  period = pos 5000;
  clocked = refl;
  datum = record { time = pos 1400; slew = pos 1140 };
  datum_arrives = datum_comes (pos 1200) (pos 420);
  leaves = refl;
}

port_hold_left : Leave clocked (rises (pos 1200) (pos 420)) (port true) Rise (pos 1700)
port_hold_left = record {
  period = pos 5000;
  clocked = refl;
  datum = record { time = pos 1400; slew = pos 1140 };
  datum_arrives = datum_comes (pos 1200) (pos 420);
  leaves = refl;
}

-- ---- the latest data with the earliest clock leaves what the slack is, 3072
worst_left : Leave clocked (rises (pos 1300) (pos 400)) (flop false) Rise (pos 3072)
unfolding table_value
worst_left = record {
  period = pos 5000;
  clocked = refl;
  datum = record { time = pos 1500; slew = pos 1140 };
  datum_arrives = datum_comes (pos 1300) (pos 400);
  clock = record { time = pos 600; slew = pos 540 };
  clock_arrives = clock_comes (pos 1300) (pos 400);
  leaves = refl;
}

worst_slack : IsSomeAnd (check_at 0 (flop false) Rise) (λ c. slack_in clocked (assigned (d_given ∷ k_given ∷ [])) c ≡ Some (pos 3072))
unfolding table_value greatest_over
worst_slack = refl
