use Rattle.failure_lines.proofs.line.write_refusal.Goals as goal

pub returns-in-Words : goal.returns-in-Words
returns-in-Words g c = rw c.in-Words.is c.write_pieces.ensures

pub returns-in-File : goal.returns-in-File
returns-in-File g c = rw c.in-File.is c.write_file_refusal.ensures
