use Rattle.std.proofs.Common.{subst}
use Rattle.net_eval.specs.ReadLists.{AreReadLists}
use Rattle.dirty_words.specs.Boards.{DirtyId}
use Rattle.dirty_words.proofs.board.DirtyBoard.has_read_lists.Goals as goal

pub returns : goal.returns
returns c = subst (λ (b : DirtyId). AreReadLists b.run.setting.design b.run.lists) c.self.view_is c.self.invariant.2
