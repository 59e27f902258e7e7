use Rattle.chaos_core.proofs.Kept.{new_kept}
use Rattle.chaos_core.proofs.memory.MemoryBoard.new.Goals as goal

pub invariant_of-result : goal.invariant_of-result
invariant_of-result c =
    new_kept c.args.design.now c.of.result.value c.args.direction c.args.start.now c.of-2.result.value _ _ c.of.ensures c.of-2.ensures c.in_ok-words.ensures.items c.nets.ensures.sound c.requires
    (rw c.pairs-pairs.ensures.value at c.in_ok-push_numbers.ensures)
