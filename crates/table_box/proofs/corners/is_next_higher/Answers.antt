use Rattle.std.proofs.Common.{arith}
use Rattle.table_box.proofs.corners.is_next_higher.Goals as goal

pub overflow_add-column-end : goal.overflow_add-column-end
overflow_add-column-end c = let last = c.requires.last in let most = c.requires.table.loads.most in omega (arith, last, most)
