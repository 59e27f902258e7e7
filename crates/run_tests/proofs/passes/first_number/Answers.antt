use Rattle.net_eval.proofs.Steady.{windows_read, windows_within}
use Rattle.run_tests.proofs.FirstWord.{first_word}
use Rattle.run_tests.proofs.passes.first_number.Goals as goal

pub eval-pair-requires-clause-words : goal.eval-pair-requires-clause-words
eval-pair-requires-clause-words c = windows_read c.args.design.now c.args.start.now 0 c.requires.start.windows.count c.nets.ensures.sound c.requires.some

pub eval-pair-requires-clause-room : goal.eval-pair-requires-clause-room
eval-pair-requires-clause-room c = windows_within c.args.design.now c.args.start.now 0 c.requires.start.within

pub returns : goal.returns
returns c =
    first_word c.args.design.now c.args.start.now c.eval-pair.result.rise c.number_of.result c.requires.start c.eval-pair.ensures.rise c.eval-pair.ensures.range.rise.tlo c.number_of.ensures
