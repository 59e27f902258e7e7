use Rattle.call_meaning.proofs.Within.{found_within, narrows_from}
use Rattle.xtalk_top.proofs.solution.solved_from.Goals as goal

pub both_at_once-requires-clause-low : goal.both_at_once-requires-clause-low
both_at_once-requires-clause-low g c =
    λ _ _. c.requires.begun.starts c.args.top.now (narrows_from c.args.design.now c.args.top.now c.requires.sound c.requires.levelled c.requires.top).within

pub both_at_once-requires-clause-high : goal.both_at_once-requires-clause-high
both_at_once-requires-clause-high g c = λ _ _. narrows_from c.args.design.now c.args.top.now c.requires.sound c.requires.levelled c.requires.top

pub returns : goal.returns
returns g c =
    let found = c.in_ok-found.found in
    found_within c.args.design.now c.args.top.now found.low found.high c.requires.sound c.requires.levelled c.requires.top c.in_ok-found.ensures.least.extreme c.in_ok-found.ensures.greatest.extreme
