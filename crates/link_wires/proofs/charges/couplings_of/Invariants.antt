use Rattle.std.proofs.Common.{◌≡◌, ◌++◌, length}
use Rattle.std.specs.Prelude.{filter_map, map}
use Rattle.spef_read.specs.declared.parasitics.Parasitics.{Parasitics}
use Rattle.link_rules.specs.Wires.{coupling_of}
use Rattle.link_wires.specs.Seen.{cap_by}
use Rattle.link_wires.proofs.charges.couplings_of.Given as goal

abbrev pub invariant-caps : goal.invariant-caps
invariant-caps l =
    (p : Parasitics) → l.couplings.items ++ filter_map coupling_of (map (cap_by p) l.caps) ≡ filter_map coupling_of (map (cap_by p) l.wire.caps.items)

abbrev pub decreases-caps : goal.decreases-caps
decreases-caps l = length l.caps
