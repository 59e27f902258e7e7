-- Both products and their sum have room.
use Rattle.table_box.proofs.Small.{first_has_room, second_has_room, sum_has_room, sum_back}
use Rattle.table_box.proofs.cell.mixed.Goals as goal

pub overflow_mul-result : goal.overflow_mul-result
overflow_mul-result c = first_has_room _ _ _ _ c.requires.1 c.ranges.first c.ranges.second

pub overflow_mul-result-2 : goal.overflow_mul-result-2
overflow_mul-result-2 c = second_has_room _ _ _ _ c.requires.1 c.ranges.first c.ranges.second

pub overflow_add-result : goal.overflow_add-result
overflow_add-result c = sum_has_room _ _ _ _ c.requires.1 c.ranges.first c.ranges.second

pub returns : goal.returns
returns c = sum_back _ _ _ _ c.requires.1 c.ranges.first c.ranges.second
