use Rattle.xtalk_top.proofs.solution.envelope_of.Goals as goal

pub returns-in-Ok-clause-top : goal.returns-in-Ok-clause-top
returns-in-Ok-clause-top g c = record { envelope = c.in-Ok.ensures.envelope; accepted = c.in-Ok.ensures.accepted }
