use Rattle.chaos_core.proofs.Sparing.{answers_met, answers_still}
use Rattle.chaos_core.proofs.alike.answers_alike.Goals as goal

pub returns-then-is_still : goal.returns-then-is_still
returns-then-is_still g c = λ t.
    answers_still c.args.period (g.T.TwoTimes.earlier c.args.two.now) (g.T.TwoTimes.later c.args.two.now) c.args.net.0 c.args.other.0 (c.requires.still c.if-still.true) (c.is_still.ensures c.if-is_still.true)

pub returns : goal.returns
returns g c = λ t.
    let own = c.twice in
    let other = c.twice-2 in
    answers_met c.args.period (g.T.TwoTimes.earlier c.args.two.now) (g.T.TwoTimes.later c.args.two.now) c.args.net.0 c.args.other.0 own.result.before own.result.after other.result.before other.result.after
    own.ensures.before own.ensures.after other.ensures.before other.ensures.after (c.meet_alike.ensures t)
