use Rattle.std.proofs.Common.{refl, arith}
use Rattle.xt_io.proofs.memory_sink.MemorySinkSink.write.Goals as goal

pub invariant_of-self : goal.invariant_of-self
invariant_of-self c = c.self.invariant

pub overflow_sub-left : goal.overflow_sub-left
overflow_sub-left c = omega (arith, c.len.ensures, c.self.invariant.1)

pub returns-clause-count : goal.returns-clause-count
returns-clause-count c = (
  omega (arith, c.requires, c.self.invariant.0, c.if-left-eq0.false, c.min.ensures, c.min-count.ensures),
  omega (arith, c.min.ensures, c.min-count.ensures),
)

pub returns-clause-counts : goal.returns-clause-counts
returns-clause-counts c = rw (← c.self.view_is) (omega arith)

pub returns-clause-kept : goal.returns-clause-kept
returns-clause-kept c = rw (← c.self.view_is) refl

pub returns-clause-took : goal.returns-clause-took
returns-clause-took c = rw (← c.self.view_is) (omega (arith, c.min.ensures, c.min-count.ensures, c.len.ensures, c.self.inside.written.ok.0))
