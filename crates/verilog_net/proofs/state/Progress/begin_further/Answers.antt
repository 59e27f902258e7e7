use Rattle.std.proofs.Common.{refl, sym, ◌∙◌}
use Rattle.std.proofs.lemmas.Bool.{not-true, not-false}
use Rattle.name_numbers.specs.Names.{has_name}
use Rattle.verilog_net.specs.Meaning.{begin_further}
use Rattle.verilog_net.proofs.state.Progress.begin_further.Goals as goal

pub returns : goal.returns
unfolding begin_further
returns c =
    let new = not-true (has_name c.args.name.now c.self.inside.instance_names) (sym c.in_ok-fresh.ensures.fresh ∙ c.if-not-fresh.false) in
    rw (← c.self.view_is, new, c.in_ok-fresh.ensures.entered, new, c.clear.ensures) refl

pub returns-then-not-fresh : goal.returns-then-not-fresh
unfolding begin_further
returns-then-not-fresh c =
    let seen = not-false (has_name c.args.name.now c.self.inside.instance_names) (sym c.in_ok-fresh.ensures.fresh ∙ c.if-not-fresh.true) in
    rw (← c.self.view_is, seen) refl
