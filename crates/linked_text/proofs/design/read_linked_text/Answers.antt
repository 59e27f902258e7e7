use Rattle.linked_text.proofs.Refusals.{with_line_ok}
use Rattle.linked_text.proofs.design.read_linked_text.Goals as goal

pub returns-clause-ok : goal.returns-clause-ok
returns-clause-ok c = with_line_ok c.args.bytes.items c.read_with_line.result c.read_with_line.ensures
