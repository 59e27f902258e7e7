use Rattle.std.proofs.Common.{◌<◌, refl, length, arith}
use Rattle.xt_meaning.specs.Words.{numbers_of}
use Rattle.net_eval.proofs.Steady.{steady_more, steady_all}
use Rattle.chaos_core.proofs.Telling.{marks_begun}
use Rattle.chaos_core.proofs.look.closed_by.Goals as goal

pub loop-net-init : goal.loop-net-init
loop-net-init c = record {
  marks = marks_begun c.args.design.now (numbers_of c.args.windows.now) c.args.marks.now c.begin_turn.new.self c.begin_turn.ensures.later c.begin_turn.ensures.rest c.requires.marks;
  steady = λ n low high. absurd (omega (arith, high));
}

pub loop-net-preserved : goal.loop-net-preserved
loop-net-preserved c = record {
  marks = c.is_steady.ensures.marks;
  steady = steady_more c.args.design.now c.args.windows.now 0 c.loop-net.net c.loop-net.invariant.steady (c.is_steady.ensures.steady.0 c.if-not-is_steady.false);
}

pub returns-clause-closed : goal.returns-clause-closed
returns-clause-closed c = (
  λ t. steady_all c.args.design.now c.args.windows.now c.requires.windows.count (λ n h. c.loop-net.invariant.steady n (omega arith) (let k = c.loop-net-test.false in let there : n < length c.nets.result.now = rw c.nets.ensures.value h in omega (arith, k, there))),
  λ h. refl,
)
