use Rattle.table_box.proofs.cell.Cell.is_rising.Goals as goal

pub returns : goal.returns
returns c = c.requires.rising
