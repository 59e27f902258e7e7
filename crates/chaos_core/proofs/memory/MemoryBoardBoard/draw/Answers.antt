use Rattle.std.proofs.Common.{◌+◌, subst}
use Rattle.chaos_core.specs.Boards.{Draws}
use Rattle.chaos_core.specs.Memories.{Memory, knowledge_of}
use Rattle.chaos_core.proofs.Kept.{memory_at, draws_there}
use Rattle.chaos_core.proofs.memory.MemoryBoardBoard.draw.Goals as goal

pub returns-clause-draws : goal.returns-clause-draws
returns-clause-draws c =
    let i = c.self.inside in
    let m : Memory = memory_at i.design.value i.way i.start.value i.words.items i.next in
    subst (λ (v : Memory). Draws (knowledge_of v) i.next (knowledge_of (record m { next = i.next + 1 }))) c.self.view_is (draws_there m c.self.invariant)
