use Rattle.std.proofs.Common.{◌%◌, ◌∙◌, sym, subst, set}
use Rattle.xt_meaning.specs.Words.{MovesUp}
use Rattle.chaos_core.specs.Boards.{Publishes}
use Rattle.chaos_core.specs.Memories.{Memory, knowledge_of}
use Rattle.chaos_core.proofs.Sight.{further_up}
use Rattle.chaos_core.proofs.Kept.{IsMoved, memory_at, moved_call}
use Rattle.chaos_core.proofs.memory.MemoryBoardBoard.raise.Goals as goal

-- what the code leaves
moved : (c : goal.After-self-1) → IsMoved (memory_at c.self.inside.design.value c.self.inside.way c.self.inside.start.value c.self.inside.words.items c.self.inside.next) c.args.self.now c.args.word
    c.index-before.result.now c.max.result
moved c =
    let i = c.self.inside in
    let m : Memory = memory_at i.design.value i.way i.start.value i.words.items i.next in
    let side = subst (λ (v : Memory). MovesUp v.setting.way (c.args.word % 2)) (sym c.self.view_is) c.requires.way in
    moved_call m c.args.self.now c.args.word c.args.value c.index-before.result.now c.max.result c.self.view_is c.self.invariant c.requires.word c.requires.value c.index-before.ensures
    (c.max.ensures ∙ sym (further_up i.way (c.args.word % 2) c.index-before.result.now c.args.value side))

pub invariant_of-self : goal.invariant_of-self
invariant_of-self c = (moved c).kept

pub returns-clause-seen : goal.returns-clause-seen
returns-clause-seen c = (moved c).kept.words.seen

pub returns-clause-publishes : goal.returns-clause-publishes
returns-clause-publishes c =
    let i = c.self.inside in
    let m : Memory = memory_at i.design.value i.way i.start.value i.words.items i.next in
    let l = knowledge_of (record m { words = set m.words c.args.word c.max.result }) in
    subst (λ x. Publishes (knowledge_of c.args.self.now) c.args.word c.index-before.result.now x l) c.max.ensures (moved c).publishes
