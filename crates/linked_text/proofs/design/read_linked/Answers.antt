use Rattle.linked_text.proofs.Refusals.{with_line_ok, with_line_only, with_line_refused, with_line_limited}
use Rattle.linked_text.proofs.design.read_linked.Goals as goal

pub returns-clause-ok : goal.returns-clause-ok
returns-clause-ok c = with_line_ok c.args.bytes.now c.read_with_line.result (rw c.in_ok-text.ensures.items at c.read_with_line.ensures)

pub returns-clause-only : goal.returns-clause-only
returns-clause-only c = with_line_only c.args.bytes.now c.read_with_line.result (rw c.in_ok-text.ensures.items at c.read_with_line.ensures)

pub returns-clause-refused : goal.returns-clause-refused
returns-clause-refused c = with_line_refused c.args.bytes.now c.read_with_line.result (rw c.in_ok-text.ensures.items at c.read_with_line.ensures)

pub returns-clause-limited : goal.returns-clause-limited
returns-clause-limited c = with_line_limited c.args.bytes.now c.read_with_line.result (rw c.in_ok-text.ensures.items at c.read_with_line.ensures)
