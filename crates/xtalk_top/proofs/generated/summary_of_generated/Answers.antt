use Rattle.xtalk_top.proofs.generated.summary_of_generated.Goals as goal

pub returns-in-Ok-clause-ok : goal.returns-in-Ok-clause-ok
returns-in-Ok-clause-ok g c = rw c.in-Ok.ensures.design at c.summary-text.ensures.ok

pub returns-in-Ok-clause-stop : goal.returns-in-Ok-clause-stop
returns-in-Ok-clause-stop g c = rw c.in-Ok.ensures.design at c.summary-text.ensures.stop
