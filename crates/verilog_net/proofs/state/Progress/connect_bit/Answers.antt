use Rattle.std.proofs.Common.{◌≡◌, Ok, refl, sym, subst}
use Rattle.text_forms.specs.Stops.{Changes}
use Rattle.verilog_net.specs.Meaning.{connect, connect_bit}
use Rattle.verilog_net.specs.declared.netlist.Wire.TheVariants.{Bit}
use Rattle.verilog_net.proofs.state.Progress.connect_bit.Goals as goal

pub returns : goal.returns
unfolding connect_bit
returns c =
    let meant : connect_bit c.args.name.now c.args.digits.now c.args.self.now ≡ Ok (connect (Bit c.in-Some.decl c.in-Some-Some.bit) c.args.self.now) =
    rw (← c.self.view_is, ← c.in-Some.ensures, c.if-not-net.false, c.in-Some-Some.is-0, ← c.number_of.ensures.value, c.in-Some-Some.is-1, ← c.has_bit.ensures, c.if-not-has_bit.false) refl in
    subst (Changes c.connect.result c.connect.new.self) (sym meant) c.connect.ensures

pub returns-in_default : goal.returns-in_default
unfolding connect_bit
returns-in_default c = rw (← c.self.view_is, ← c.in_default.ensures) refl

pub returns-then-not-net : goal.returns-then-not-net
unfolding connect_bit
returns-then-not-net c = rw (← c.self.view_is, ← c.in-Some.ensures, c.if-not-net.true) refl

pub returns-then-not-has_bit : goal.returns-then-not-has_bit
unfolding connect_bit
returns-then-not-has_bit c = rw (← c.self.view_is, ← c.in-Some.ensures, c.if-not-net.false, c.in-Some-Some.is-0, ← c.number_of.ensures.value, c.in-Some-Some.is-1, ← c.has_bit.ensures, c.if-not-has_bit.true) refl
