use Rattle.std.proofs.Common.{subst, ap, ◌∙◌, length}
use Rattle.std.proofs.lemmas.List.{length-take-le}
use Rattle.hier_flatten.specs.Walk.{AreLinked}
use Rattle.hier_flatten.proofs.WalkLaws.{walk_begun, walk_carried, walk_failed, linked_at_top}
use Rattle.hier_flatten.proofs.build.add_all.Goals as goal

pub frames-init : goal.frames-init
frames-init c =
    let begun = walk_begun c.args.index.now c.args.top.now c.in_ok-frame.frame c.new-stack.result c.push.new.self c.new-path.result.items c.enter_top.new.growing
    c.requires.top c.in_ok-frame.ensures.frame c.new-stack.ensures c.in_ok-push.ensures c.new-path.ensures.items c.in_ok-frame.ensures.growing in
    record {
      nested = begun.0;
      linked = linked_at_top c.args.index.now c.in_ok-frame.frame c.new-stack.result c.push.new.self c.args.top.now.instances c.in_ok-frame.ensures.frame.1
          (c.in_ok-frame.ensures.links ∙ c.requires.links) c.new-stack.ensures c.in_ok-push.ensures;
      walks = begun.1;
    }

pub step-requires-clause-linked : goal.step-requires-clause-linked
step-requires-clause-linked c = subst (AreLinked c.args.index.now) c.in-Some.ensures c.frames.invariant.linked

pub frames-preserved : goal.frames-preserved
frames-preserved c = record {
  nested = c.in_ok-what.ensures.nested;
  linked = c.in_ok-what.ensures.linked;
  walks = walk_carried c.args.index.now c.args.top.now c.in-Some.frame c.frames.stack c.pop.new.self c.step.new.stack c.frames.path.items c.truncate.new.self.items
      c.step.new.path.items c.frames.growing c.step.new.growing c.in-Some.ensures c.truncate.ensures.items c.frames.invariant.nested c.frames.invariant.walks
      (rw c.in_default-2.is at c.in_ok-what.ensures.goes);
}

pub returns-in-Some-2 : goal.returns-in-Some-2
returns-in-Some-2 c =
    walk_failed c.args.index.now c.args.top.now c.in-Some.frame c.frames.stack c.pop.new.self c.frames.path.items c.truncate.new.self.items c.frames.growing
    c.in-Some-2.what c.in-Some.ensures c.truncate.ensures.items c.frames.invariant.nested c.frames.invariant.walks (rw c.in-Some-2.is at c.in_ok-what.ensures.goes)

pub step-requires-clause-nested : goal.step-requires-clause-nested
step-requires-clause-nested c = (rw c.in-Some.ensures at c.frames.invariant.nested).1

pub step-requires-clause-path : goal.step-requires-clause-path
step-requires-clause-path c =
    ap length c.truncate.ensures.items
    ∙ length-take-le c.in-Some.frame.path c.frames.path.items (rw c.in-Some.ensures at c.frames.invariant.nested).0
