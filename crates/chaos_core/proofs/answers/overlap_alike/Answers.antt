use Rattle.std.proofs.Common.{subst}
use Rattle.std.specs.Prelude.{IsTrue}
use Rattle.chaos_core.proofs.Telling.{alike_there}
use Rattle.chaos_core.proofs.answers.overlap_alike.Goals as goal

pub returns-then-overlap : goal.returns-then-overlap
returns-then-overlap c = λ t.
    alike_there c.args.period c.args.inner.now c.args.outer.now c.args.other.now c.requires.period c.requires.within (subst IsTrue c.overlap.ensures.value c.if-overlap.true)
