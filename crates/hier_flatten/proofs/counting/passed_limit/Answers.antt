use Rattle.std.proofs.Common.{subst, sym, ◌∙◌}
use Rattle.hier_flatten.specs.Walk.{AreLinked}
use Rattle.hier_flatten.proofs.WalkLaws.{linked_at_top}
use Rattle.hier_flatten.proofs.CountingLaws.{count_begun, count_carried, count_failed, counted_all}
use Rattle.hier_flatten.proofs.counting.passed_limit.Goals as goal

pub frames-init : goal.frames-init
frames-init c = record {
  linked = linked_at_top c.args.index.now c.in_ok-frame.frame c.new-stack.result c.push.new.self c.args.top.now.instances c.in_ok-frame.ensures.frame.1
      (c.in_ok-frame.ensures.links ∙ c.requires.links) c.new-stack.ensures c.in_ok-push.ensures;
  counting = count_begun c.args.index.now c.args.top.now c.in_ok-frame.frame c.new-stack.result c.push.new.self c.as_slice.result.now c.args.tally.now c.count_nets.new.tally
      c.requires.top c.in_ok-frame.ensures.frame c.new-stack.ensures c.in_ok-push.ensures (c.as_slice.ensures.value ∙ c.in_ok-frame.ensures.wires) c.requires.tally
      c.in_ok-count_nets.ensures;
}

pub step-requires : goal.step-requires
step-requires c = subst (AreLinked c.args.index.now) c.in-Some.ensures c.frames.invariant.linked

pub frames-preserved : goal.frames-preserved
frames-preserved c = record {
  linked = c.in_ok-passed.ensures.linked;
  counting = count_carried c.args.index.now c.args.top.now c.in-Some.frame c.frames.stack c.pop.new.self c.step.new.stack c.frames.tally c.step.new.tally c.in-Some.ensures
      c.frames.invariant.counting c.in_ok-passed.passed (sym c.is_some.ensures ∙ c.if-is_some.false) c.in_ok-passed.ensures.goes;
}

pub returns-then-is_some : goal.returns-then-is_some
returns-then-is_some c =
    count_failed c.args.index.now c.args.top.now c.in-Some.frame c.frames.stack c.pop.new.self c.step.new.stack c.frames.tally c.step.new.tally c.in-Some.ensures
    c.frames.invariant.counting c.in_ok-passed.passed (sym c.is_some.ensures ∙ c.if-is_some.true) c.in_ok-passed.ensures.goes

pub returns : goal.returns
returns c = counted_all c.args.index.now c.args.top.now c.frames.stack c.frames.tally c.in_default.ensures.0 c.frames.invariant.counting
