use Rattle.std.specs.Prelude.{max}
use Rattle.window_words.proofs.Holding.{knows_published}
use Rattle.window_words.proofs.seated.SeatedBoard.raise.Goals as goal

pub returns-clause-publishes : goal.returns-clause-publishes
returns-clause-publishes c =
    knows_published c.args.self.now.board.now c.args.self.now.pass c.raise.new.pass c.args.word c.raise.result (max c.raise.result c.args.value) c.args.self.now.own c.raise.ensures.own c.raise.ensures.published
