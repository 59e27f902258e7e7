use Rattle.std.proofs.Common.{◌∙◌, length, sym, ap, subst, arith}
use Rattle.std.specs.List.{All}
use Rattle.elmore_tree.specs.Sums.{IsSinkSums}
use Rattle.design_link.proofs.nets.formed_net.Goals as goal

pub sink_pins-requires : goal.sink_pins-requires
sink_pins-requires c = ap length c.into_vec-2.ensures ∙ (c.requires ∙ sym (ap length c.into_vec.ensures))

pub returns-clause-sums : goal.returns-clause-sums
returns-clause-sums c = subst (All IsSinkSums) c.into_vec-2.ensures c.in_ok-sinks.ensures.sums

pub returns-clause-name : goal.returns-clause-name
returns-clause-name c = c.bytes.ensures.sound

pub returns-clause-few : goal.returns-clause-few
returns-clause-few c = omega (arith, c.in_ok-sinks.ensures.few, ap length c.into_vec.ensures)
