use Rattle.xtalk_top.proofs.edit_refusal.stop_of.Goals as goal

pub returns-in-Load : goal.returns-in-Load
returns-in-Load c = rw c.in-Load.is (c.overloaded.ensures c.args.line)
