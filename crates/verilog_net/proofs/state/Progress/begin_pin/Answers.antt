use Rattle.std.proofs.Common.{refl, sym, ◌∙◌}
use Rattle.std.proofs.lemmas.Bool.{not-true, not-false}
use Rattle.name_numbers.specs.Names.{has_name}
use Rattle.verilog_net.specs.Meaning.{begin_pin}
use Rattle.verilog_net.proofs.state.Progress.begin_pin.Goals as goal

pub returns : goal.returns
unfolding begin_pin
returns c =
    let new = not-true (has_name c.args.name.now c.self.inside.pin_names) (sym c.in_ok-enter.ensures.fresh ∙ c.if-not-branch.false) in
    rw (← c.self.view_is, new, c.in_ok-enter.ensures.entered, new) refl

pub returns-then-not-branch : goal.returns-then-not-branch
unfolding begin_pin
returns-then-not-branch c =
    let seen = not-false (has_name c.args.name.now c.self.inside.pin_names) (sym c.in_ok-enter.ensures.fresh ∙ c.if-not-branch.true) in
    rw (← c.self.view_is, seen) refl
