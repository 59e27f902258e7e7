use Rattle.run_tests.proofs.starts.low.Goals as goal

pub returns : goal.returns
returns c = c.quiet.ensures.starts c.args.top.now c.requires.within
