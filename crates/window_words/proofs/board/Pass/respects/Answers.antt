use Rattle.std.proofs.Common.{subst}
use Rattle.chaos_core.specs.Boards.{IsSeen}
use Rattle.window_words.specs.Boards.{Holding}
use Rattle.window_words.proofs.board.Pass.respects.Goals as goal

pub returns : goal.returns
returns c = subst (λ (h : Holding). IsSeen h.view.setting h.view.seen) c.self.view_is c.self.invariant.seen
