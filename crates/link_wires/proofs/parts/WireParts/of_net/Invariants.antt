use Rattle.std.proofs.Common.{◌≡◌, take, map}
use Rattle.link_rules.specs.Wires.{capacitor_of}
use Rattle.link_wires.specs.Seen.{cap_by}
use Rattle.link_wires.proofs.parts.WireParts.of_net.Given as goal

abbrev pub invariant-loop-cap : goal.invariant-loop-cap
invariant-loop-cap l = record {
  same : l.nets ≡ l.fn.nets;
  value : map (cap_by l.fn.nets.parasitics) l.caps.items
      ≡ map (capacitor_of l.fn.nets.netlist l.fn.nets.parasitics l.net) (take l.cap-index l.text.caps);
}
