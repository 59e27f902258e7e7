use Rattle.std.proofs.Common.{List, ◌++◌, ◌∙◌, ap}
use Rattle.std.specs.Prelude.{flat_map}
use Rattle.xt_model.specs.declared.check.CheckPoint.{CheckPoint}
use Rattle.link_rules.specs.Checks.{pin_checks}
use Rattle.link_rules.specs.Pins.{pins}
use Rattle.link_pins.proofs.MadeLaws.{filled_so, circuit_so}
use Rattle.link_pins.proofs.joined.Joined.finish.Goals as goal

pub returns : goal.returns
returns c = λ given joined.
    circuit_so c.args.cells.now c.args.nets.now given _
    (c.from_vec.ensures
    ∙ (c.with_arcs-made.ensures ∙ filled_so c.args.cells.now c.args.nets.now given c.args.self.nets.items c.in_ok-rows.field-0.nets.items joined.nets c.in_ok-rows.ensures.arcs))
    (c.from_vec-2.ensures
    ∙ (c.in_ok-append.ensures.items
    ∙ (ap (λ (l : List CheckPoint). l ++ c.args.self.ports.items) c.in_ok-rows.ensures.checks
    ∙ ap (λ (l : List CheckPoint). flat_map (pin_checks c.args.cells.now c.args.nets.now) (pins c.args.cells.now c.args.nets.now) ++ l) joined.ports)))
