use Rattle.linked_text.proofs.LineNumbers.{line_of_rest}
use Rattle.linked_text.proofs.laws.lines_are_counted.Goals as goal

pub returns : goal.returns
returns c = line_of_rest
