use Rattle.window_words.proofs.Holding.{knows_drew}
use Rattle.window_words.proofs.seated.SeatedBoard.draw.Goals as goal

pub returns-clause-draws : goal.returns-clause-draws
returns-clause-draws c = knows_drew c.args.self.now.board.now c.args.self.now.pass c.draw.new.pass c.draw.result c.args.self.now.own c.draw.ensures.own c.requires c.draw.ensures.drew
