use Rattle.call_meaning.proofs.EditSteps.{both_ok}
use Rattle.call_meaning.proofs.Within.{found_within, narrows_from}
use Rattle.xtalk_top.proofs.solution.solved_by.Goals as goal

pub both_from-requires-clause-low : goal.both_from-requires-clause-low
both_from-requires-clause-low g c =
    λ _ _. c.in_ok-bottom.ensures.starts c.args.top.now (narrows_from c.args.design.now c.args.top.now c.requires.sound c.requires.levelled c.requires.top).within

pub both_from-requires-clause-high : goal.both_from-requires-clause-high
both_from-requires-clause-high g c = λ _ _. narrows_from c.args.design.now c.args.top.now c.requires.sound c.requires.levelled c.requires.top

pub returns : goal.returns
returns g c =
    both_ok c.both_from.result _ _ _ (λ found least greatest. found_within c.args.design.now c.args.top.now found.low found.high c.requires.sound c.requires.levelled c.requires.top least.extreme greatest.extreme)
    c.both_from.ensures.least c.both_from.ensures.greatest
