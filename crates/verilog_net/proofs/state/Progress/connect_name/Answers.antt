use Rattle.std.proofs.Common.{◌≡◌, ℕ, Option, Some, None, Ok, Err, true, false, refl, sym, subst}
use Rattle.std.specs.Option.{is_some}
use Rattle.xt_model.specs.declared.code.Code.TheVariants.{V3}
use Rattle.text_forms.specs.Stops.{Changes}
use Rattle.verilog_net.specs.Meaning.{State, connect, connect_found, connect_name}
use Rattle.verilog_net.specs.declared.netlist.Wire.TheVariants.{Bit, Whole}
use Rattle.verilog_net.proofs.state.Progress.connect_name.Goals as goal

as_one_bit : (decl : ℕ) (s : State) (range : Option (ℕ × ℕ)) → is_some range ≡ false → connect_found decl s range ≡ Ok (connect (Bit decl 0) s)
as_one_bit decl s None e = refl
as_one_bit decl s (Some range) e = cc

as_bus : (decl : ℕ) (s : State) (range : Option (ℕ × ℕ)) → is_some range ≡ true → s.single ≡ false → connect_found decl s range ≡ Ok (connect (Whole decl) s)
as_bus decl s None e f = cc
as_bus decl s (Some range) e f = rw f refl

no_bus : (decl : ℕ) (s : State) (range : Option (ℕ × ℕ)) → is_some range ≡ true → s.single ≡ true → connect_found decl s range ≡ Err V3
no_bus decl s None e f = cc
no_bus decl s (Some range) e f = rw f refl

pub returns-then-is_none : goal.returns-then-is_none
unfolding connect_name
returns-then-is_none c =
    let meant : connect_name c.args.name.now c.args.self.now ≡ Ok (connect (Bit c.in-Some.decl 0) c.args.self.now) =
    rw (← c.self.view_is, ← c.in-Some.ensures) (as_one_bit c.in-Some.decl _ c.in-Some.net.now.range c.if-is_none.ensures) in
    subst (Changes c.connect.result c.connect.new.self) (sym meant) c.connect.ensures

pub returns-in-Some : goal.returns-in-Some
unfolding connect_name
returns-in-Some c =
    let meant : connect_name c.args.name.now c.args.self.now ≡ Ok (connect (Whole c.in-Some.decl) c.args.self.now) =
    rw (← c.self.view_is, ← c.in-Some.ensures) (as_bus c.in-Some.decl _ c.in-Some.net.now.range c.if-is_none.ensures c.if-self.false) in
    subst (Changes c.connect-in-Some.result c.connect-in-Some.new.self) (sym meant) c.connect-in-Some.ensures

pub returns-then-self : goal.returns-then-self
unfolding connect_name
returns-then-self c =
    rw (← c.self.view_is, ← c.in-Some.ensures) (no_bus c.in-Some.decl _ c.in-Some.net.now.range c.if-is_none.ensures c.if-self.true)

pub returns-in-Some-named_bit : goal.returns-in-Some-named_bit
unfolding connect_name
returns-in-Some-named_bit c =
    let meant : connect_name c.args.name.now c.args.self.now
    ≡ Ok (connect (Bit c.in-Some-named_bit.decl c.in-Some-named_bit.bit) c.args.self.now) =
    rw (← c.self.view_is, ← c.in_default.ensures, ← c.in-Some-named_bit.ensures) refl in
    subst (Changes c.connect-in-Some-named_bit.result c.connect-in-Some-named_bit.new.self) (sym meant) c.connect-in-Some-named_bit.ensures
