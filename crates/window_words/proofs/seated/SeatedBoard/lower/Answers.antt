use Rattle.std.specs.Prelude.{min}
use Rattle.window_words.proofs.Holding.{knows_published}
use Rattle.window_words.proofs.seated.SeatedBoard.lower.Goals as goal

pub returns-clause-publishes : goal.returns-clause-publishes
returns-clause-publishes c =
    knows_published c.args.self.now.board.now c.args.self.now.pass c.lower.new.pass c.args.word c.lower.result (min c.lower.result c.args.value) c.args.self.now.own c.lower.ensures.own c.lower.ensures.published
