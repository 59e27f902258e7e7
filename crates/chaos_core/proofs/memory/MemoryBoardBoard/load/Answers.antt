use Rattle.std.proofs.Common.{subst}
use Rattle.chaos_core.specs.Boards.{Loads}
use Rattle.chaos_core.specs.Memories.{Memory, knowledge_of}
use Rattle.chaos_core.proofs.Kept.{memory_at, read_number, loads_there, word_inside}
use Rattle.chaos_core.proofs.memory.MemoryBoardBoard.load.Goals as goal

pub returns-clause-loads : goal.returns-clause-loads
returns-clause-loads c =
    let i = c.self.inside in
    let m : Memory = memory_at i.design.value i.way i.start.value i.words.items i.next in
    let inside = word_inside m c.args.self.now c.args.word c.self.view_is c.self.invariant c.requires.word in
    let at = read_number i.words.items c.args.word c.index.result.now inside c.index.ensures in
    subst (λ (v : Memory). Loads (knowledge_of v) c.args.word c.index.result.now (knowledge_of v)) c.self.view_is (loads_there m c.args.word c.index.result.now c.self.invariant at)
