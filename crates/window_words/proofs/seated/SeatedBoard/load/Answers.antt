use Rattle.window_words.proofs.Holding.{knows_loaded}
use Rattle.window_words.proofs.seated.SeatedBoard.load.Goals as goal

pub returns-clause-loads : goal.returns-clause-loads
returns-clause-loads c = knows_loaded c.args.self.now.board.now c.args.self.now.pass c.load.new.pass c.args.word c.load.result c.args.self.now.own c.load.ensures.own c.load.ensures.loaded
