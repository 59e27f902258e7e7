use Rattle.std.proofs.Common.{◌≡◌, ℕ, true, Option, Some, None, refl, sym, ◌∙◌, subst, arith}
use Rattle.text_forms.specs.Stops.{Changes}
use Rattle.verilog_net.specs.Meaning.{declare, declare_new}
use Rattle.verilog_net.specs.Nets.{same_range, named_bit}
use Rattle.verilog_net.proofs.state.Progress.declare.Goals as goal

ranges_agree : (a b : Option (ℕ × ℕ)) → same_range a b ≡ true → a ≡ b
ranges_agree None None e = refl
ranges_agree None (Some b) e = cc
ranges_agree (Some a) None e = cc
ranges_agree (Some a) (Some b) e = grind arith

pub returns : goal.returns
unfolding declare
returns c =
    let agree = ranges_agree c.in-Some.net.now.range c.self.inside.range (sym c.same_range.ensures ∙ c.if-not-same_range.false) in
    rw (← c.self.view_is, ← c.in-Some.ensures, ← c.in-Some-joined.ensures, ← c.same_range.ensures, c.if-not-same_range.false, c.in_ok-set.ensures.given, agree) refl

pub returns-in_default : goal.returns-in_default
unfolding declare
returns-in_default c =
    let meant : declare c.args.name.now c.args.self.now ≡ declare_new c.args.name.now c.args.self.now (named_bit c.args.name.now c.args.self.now.nets) =
    rw (← c.self.view_is, ← c.in_default.ensures) refl in
    subst (Changes c.declare_new.result c.declare_new.new.self) (sym meant) c.declare_new.ensures

pub returns-in_default-joined : goal.returns-in_default-joined
unfolding declare
returns-in_default-joined c = rw (← c.self.view_is, ← c.in-Some.ensures, ← c.in_default-joined.ensures) refl

pub returns-then-not-same_range : goal.returns-then-not-same_range
unfolding declare
returns-then-not-same_range c = rw (← c.self.view_is, ← c.in-Some.ensures, ← c.in-Some-joined.ensures, ← c.same_range.ensures, c.if-not-same_range.true) refl
