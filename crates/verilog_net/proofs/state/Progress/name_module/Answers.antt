use Rattle.std.proofs.Common.{◌≡◌, Bool, true, false, not, refl, sym, ◌∙◌}
use Rattle.name_numbers.specs.Names.{has_name}
use Rattle.verilog_net.specs.Meaning.{name_module}
use Rattle.verilog_net.proofs.state.Progress.name_module.Goals as goal

is_known : (known : Bool) → not known ≡ false → known ≡ true
is_known true e = refl
is_known false e = sym e

is_new : (known : Bool) → not known ≡ true → known ≡ false
is_new true e = sym e
is_new false e = refl

pub returns : goal.returns
unfolding name_module
returns c =
    let new = is_new (has_name c.args.name.now c.self.inside.modules) (sym c.in_ok-fresh.ensures.fresh ∙ c.if-not-fresh.false) in
    rw (← c.self.view_is, new, c.in_ok-fresh.ensures.entered, new, c.new.ensures.items, c.replace.ensures.after, c.new-2.ensures, c.replace-2.ensures.after, c.new-3.ensures) refl

pub returns-then-not-fresh : goal.returns-then-not-fresh
unfolding name_module
returns-then-not-fresh c =
    let known = is_known (has_name c.args.name.now c.self.inside.modules) (sym c.in_ok-fresh.ensures.fresh ∙ c.if-not-fresh.true) in
    rw (← c.self.view_is, known) refl
