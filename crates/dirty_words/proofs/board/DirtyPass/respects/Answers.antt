use Rattle.std.proofs.Common.{subst}
use Rattle.chaos_core.specs.Boards.{IsSeen}
use Rattle.dirty_words.specs.Boards.{DirtyHolding}
use Rattle.dirty_words.proofs.board.DirtyPass.respects.Goals as goal

pub returns : goal.returns
returns c = subst (λ (h : DirtyHolding). IsSeen h.view.base.setting h.view.base.seen) c.self.view_is c.self.invariant.seen
