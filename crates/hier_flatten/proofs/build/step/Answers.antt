use Rattle.std.proofs.Common.{refl, ap, sym, subst, ◌∙◌, length}
use Rattle.hier_flatten.specs.Hierarchy.{links_of}
use Rattle.hier_flatten.specs.Walk.{AreNested}
use Rattle.hier_flatten.proofs.WalkLaws.{linked_on}
use Rattle.hier_flatten.proofs.RunLaws.{build_ended, build_less, build_passed, build_entered}
use Rattle.hier_flatten.proofs.build.step.Goals as goal

pub returns-in_default-clause-goes : goal.returns-in_default-clause-goes
returns-in_default-clause-goes c =
    (build_ended c.args.index.now c.args.frame c.args.stack.now c.args.path.now.items c.add_cells.new.path.items c.args.growing.now c.add_cells.new.growing
    c.next.result.0.now c.next.ensures.cells c.in_ok-add_cells.ensures.kept c.in_ok-add_cells.ensures.cells (rw c.in_default.is at c.next.ensures.next)).0

pub returns-in_default-clause-less : goal.returns-in_default-clause-less
returns-in_default-clause-less c =
    (build_ended c.args.index.now c.args.frame c.args.stack.now c.args.path.now.items c.add_cells.new.path.items c.args.growing.now c.add_cells.new.growing
    c.next.result.0.now c.next.ensures.cells c.in_ok-add_cells.ensures.kept c.in_ok-add_cells.ensures.cells (rw c.in_default.is at c.next.ensures.next)).1

pub returns-in-Some-limit-clause-goes : goal.returns-in-Some-limit-clause-goes
returns-in-Some-limit-clause-goes c =
    build_passed c.args.index.now c.args.frame c.args.stack.now c.args.path.now.items c.add_cells.new.path.items c.args.growing.now c.add_cells.new.growing
    c.next.result.0.now c.next.ensures.cells c.in_ok-add_cells.ensures.kept c.in_ok-add_cells.ensures.cells c.in-Some.next (rw c.in-Some.is at c.next.ensures.next)
    c.in-Some-limit.what (sym c.limit.ensures ∙ c.in-Some-limit.is)

pub returns-in-Some-limit-clause-less : goal.returns-in-Some-limit-clause-less
returns-in-Some-limit-clause-less c =
    build_less c.args.index.now c.args.frame c.args.stack.now c.args.path.now.items c.add_cells.new.path.items c.args.growing.now c.add_cells.new.growing
    c.next.result.0.now c.next.ensures.cells c.in_ok-add_cells.ensures.kept c.in_ok-add_cells.ensures.cells

pub returns-clause-goes : goal.returns-clause-goes
returns-clause-goes c =
    (build_entered c.args.index.now c.args.frame c.args.stack.now c.args.path.now.items c.add_cells.new.path.items c.args.growing.now c.add_cells.new.growing
    c.next.result.0.now c.next.ensures.cells c.in_ok-add_cells.ensures.kept c.in_ok-add_cells.ensures.cells c.in-Some.next (rw c.in-Some.is at c.next.ensures.next)
    _ c.in_ok-below.below c.push.new.self c.push-2.new.self c.enter.new.path.items c.enter.new.growing refl refl refl refl
    (sym c.limit.ensures ∙ c.in_default-limit.is) c.requires.path c.requires.nested c.in_ok-below.ensures.frame c.in_ok-push.ensures c.in_ok-push-2.ensures c.in_ok-below.ensures.path
    c.in_ok-below.ensures.growing).0

pub returns-clause-nested : goal.returns-clause-nested
returns-clause-nested c =
    (build_entered c.args.index.now c.args.frame c.args.stack.now c.args.path.now.items c.add_cells.new.path.items c.args.growing.now c.add_cells.new.growing
    c.next.result.0.now c.next.ensures.cells c.in_ok-add_cells.ensures.kept c.in_ok-add_cells.ensures.cells c.in-Some.next (rw c.in-Some.is at c.next.ensures.next)
    _ c.in_ok-below.below c.push.new.self c.push-2.new.self c.enter.new.path.items c.enter.new.growing refl refl refl refl
    (sym c.limit.ensures ∙ c.in_default-limit.is) c.requires.path c.requires.nested c.in_ok-below.ensures.frame c.in_ok-push.ensures c.in_ok-push-2.ensures c.in_ok-below.ensures.path
    c.in_ok-below.ensures.growing).1

pub returns-clause-less : goal.returns-clause-less
returns-clause-less c =
    (build_entered c.args.index.now c.args.frame c.args.stack.now c.args.path.now.items c.add_cells.new.path.items c.args.growing.now c.add_cells.new.growing
    c.next.result.0.now c.next.ensures.cells c.in_ok-add_cells.ensures.kept c.in_ok-add_cells.ensures.cells c.in-Some.next (rw c.in-Some.is at c.next.ensures.next)
    _ c.in_ok-below.below c.push.new.self c.push-2.new.self c.enter.new.path.items c.enter.new.growing refl refl refl refl
    (sym c.limit.ensures ∙ c.in_default-limit.is) c.requires.path c.requires.nested c.in_ok-below.ensures.frame c.in_ok-push.ensures c.in_ok-push-2.ensures c.in_ok-below.ensures.path
    c.in_ok-below.ensures.growing).2

pub returns-clause-linked : goal.returns-clause-linked
returns-clause-linked c =
    linked_on c.args.index.now c.args.frame _ c.in_ok-below.below c.args.stack.now c.push.new.self c.push-2.new.self c.requires.linked (rw c.in-Some.is at c.next.ensures.next).more
    (c.in_ok-below.ensures.links ∙ ((rw c.in-Some.is at c.next.ensures.next).below ∙ ap (links_of c.args.index.now) (sym c.in_ok-below.ensures.frame.rest)))
    c.in_ok-push.ensures c.in_ok-push-2.ensures

pub enter-requires-clause-limit : goal.enter-requires-clause-limit
enter-requires-clause-limit c = sym c.limit.ensures ∙ c.in_default-limit.is

pub enter-requires-clause-path : goal.enter-requires-clause-path
enter-requires-clause-path c = ap length c.in_ok-add_cells.ensures.kept ∙ c.requires.path

pub returns-in_default-clause-linked : goal.returns-in_default-clause-linked
returns-in_default-clause-linked c = c.requires.linked.1

pub returns-in_default-clause-nested : goal.returns-in_default-clause-nested
returns-in_default-clause-nested c =
    subst (λ n. AreNested n c.args.stack.now) (sym (ap length c.in_ok-add_cells.ensures.kept ∙ c.requires.path)) c.requires.nested

pub returns-in-Some-limit-clause-linked : goal.returns-in-Some-limit-clause-linked
returns-in-Some-limit-clause-linked c = c.requires.linked.1

pub returns-in-Some-limit-clause-nested : goal.returns-in-Some-limit-clause-nested
returns-in-Some-limit-clause-nested c =
    subst (λ n. AreNested n c.args.stack.now) (sym (ap length c.in_ok-add_cells.ensures.kept ∙ c.requires.path)) c.requires.nested
