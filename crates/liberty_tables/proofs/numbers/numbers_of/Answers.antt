use Rattle.std.proofs.Common.{◌≡◌, ap, ◌∙◌, rules}
use Rattle.std.proofs.lemmas.Int.{to_z-of_z}
use mir.Syntax.{w32}
use mir.Val.{to_z, of_z}
use Rattle.liberty_groups.specs.Trees.{entry_of}
use Rattle.liberty_tables.specs.Numbers.{numbers_of}
use Rattle.liberty_tables.proofs.NumberLaws.{values_turn, values_stop}
use Rattle.liberty_tables.proofs.numbers.numbers_of.Goals as goal

pub returns-then-not-branch : goal.returns-then-not-branch
returns-then-not-branch c =
    let same : to_z w32 (of_z w32 c.args.scale) ≡ c.args.scale = search (rules, to_z-of_z) in
    values_stop c.args.bytes.now _ c.in-Some.value.now _ c.in-Some.more.now _ _ c.in-Some.ensures.cases.0
    (rw c.if-not-branch.true at c.in_ok-add_value.ensures) c.values.invariant
    ∙ ap (λ scale. numbers_of c.args.bytes.now scale (entry_of c.args.attribute.now)) same

pub values-preserved : goal.values-preserved
values-preserved c =
    values_turn c.args.bytes.now _ c.in-Some.value.now _ c.in-Some.more.now _ _ c.add_value.new.numbers c.in-Some.ensures.cases.0
    (rw c.if-not-branch.false at c.in_ok-add_value.ensures) c.values.invariant
