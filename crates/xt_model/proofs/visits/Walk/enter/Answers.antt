use Rattle.std.proofs.Common.{length, ap, arith}
use Rattle.std.proofs.lemmas.List.{length_push}
use Rattle.xt_model.proofs.WalkSteps.{walk_enters}
use Rattle.xt_model.proofs.visits.Walk.enter.Goals as goal

pub returns-clause-walk : goal.returns-clause-walk
returns-clause-walk c =
    let r = c.requires in
    rw (c.in_ok-push.ensures.items)
    (walk_enters _ _ _ _ _ r.walk c.args.net c.len.result r.there r.waits r.fresh
    (omega (arith, c.push.new.self.ok.0, ap length (c.in_ok-push.ensures.items), length_push c.args.self.now.path.items c.args.net)) r.begins (λ some. (r.follows some).input))
