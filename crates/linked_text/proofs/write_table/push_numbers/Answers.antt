use Rattle.std.proofs.Common.{refl}
use Rattle.linked_text.proofs.Pieces.{numbers_then}
use Rattle.linked_text.proofs.write_table.push_numbers.Goals as goal

pub returns : goal.returns
returns c = numbers_then _ _ _ _ _ _ _ _ refl refl c.in_ok-extend_from_slice.ensures.items c.in_ok-write_each.ensures c.in_ok-push.ensures.items
