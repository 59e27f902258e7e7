use Rattle.std.proofs.Common.{◌∙◌}
use Rattle.liberty_tables.proofs.PlainLaws.{all_held, held_before, escape_behind}
use Rattle.liberty_tables.proofs.contents.plain_string.Goals as goal

pub returns-in-None : goal.returns-in-None
returns-in-None c = all_held c.args.string.now c.in-None.ensures

pub returns-then-string-place-eq34 : goal.returns-then-string-place-eq34
returns-then-string-place-eq34 c =
    c.split_at.ensures.front
    ∙ held_before c.args.string.now c.in-Some.place c.in-Some.ensures.0.high c.in-Some.ensures.0.before c.if-string-place-eq34.true

pub returns-else-string-place-eq34 : goal.returns-else-string-place-eq34
returns-else-string-place-eq34 c =
    escape_behind c.args.string.now c.in-Some.place c.in-Some.ensures.0.high c.in-Some.ensures.0.before c.in-Some.ensures.1
    c.if-string-place-eq34.false
