use Rattle.std.proofs.Common.{Result, Ok, Err, IfOk, map, ap, subst, ◌∙◌}
use Rattle.hier_flatten.specs.Tables.{IsTableOf}
use Rattle.hier_flatten.specs.Flat.{wire_of}
use Rattle.hier_flatten.specs.Walk.{scope_at}
use Rattle.hier_flatten.proofs.BelowLaws.{wires_are}
use Rattle.hier_flatten.proofs.below.wires_below.Goals as goal

if_ok : {A E : Type 0} (P Q : A → Type 0) → ((a : A) → P a → Q a) → (r : Result A E) → IfOk r P → IfOk r Q
if_ok P Q more (Ok a) h = more a h
if_ok P Q more (Err e) h = tt

pub returns : goal.returns
returns c = if_ok _ _ (λ wires are prefix.
    wires_are c.args.flat.now (scope_at prefix c.args.frame.now) c.args.instance.now c.args.inner.now c.in_ok-pins.pins wires.items
    (subst (λ ps. IsTableOf ps c.in_ok-pins.pins) c.as_slice.ensures c.in_ok-pins.ensures)
    (are ∙ ap (λ w. map (wire_of c.args.flat.now c.args.frame.now.nets.now w c.in_ok-pins.pins) c.args.inner.now.nets) c.as_slice-meant.ensures.value))
    c.wires_of.result c.wires_of.ensures
