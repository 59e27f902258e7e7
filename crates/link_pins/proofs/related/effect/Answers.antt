use Rattle.std.proofs.Common.{sym, ap, ◌∙◌}
use Rattle.link_pins.specs.Related.{effect}
use Rattle.link_pins.proofs.related.effect.Goals as goal

pub returns-in-Output : goal.returns-in-Output
returns-in-Output c = c.arcs_each.ensures (0, 0) ∙ sym (ap (λ r. effect r c.args.timing.now) c.in-Output.is)
