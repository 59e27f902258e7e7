use Rattle.std.proofs.Common.{arith}
use Rattle.linked_text.proofs.ShortNumbers.{below_limit, none_short, past_limit}
use Rattle.linked_text.proofs.field.number_from.Goals as goal

pub returns-in_err-short_number-clause-value : goal.returns-in_err-short_number-clause-value
returns-in_err-short_number-clause-value c =
    rw c.from_residual.ensures (none_short c.args.limit c.args.field.now c.requires (omega (arith, c.if-field-gt-SHORT.false)) c.in_err-short_number.ensures)

pub returns-then-n-limit-clause-value : goal.returns-then-n-limit-clause-value
returns-then-n-limit-clause-value c =
    past_limit c.args.limit c.in_ok-short_number.field-0 c.args.field.now c.in_ok-short_number.ensures (omega (arith, c.if-n-limit.true, c.from-n.ensures))

pub returns-clause-value : goal.returns-clause-value
returns-clause-value c =
    rw c.from-n.ensures (below_limit c.args.limit c.in_ok-short_number.field-0 c.args.field.now c.in_ok-short_number.ensures (omega (arith, c.if-n-limit.false, c.from-n.ensures)))
