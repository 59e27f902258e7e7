use Rattle.failure_lines.proofs.line.write_line.Goals as goal

pub returns-in-Unwritten : goal.returns-in-Unwritten
returns-in-Unwritten g c = rw c.in-Unwritten.is c.write_pieces.ensures
