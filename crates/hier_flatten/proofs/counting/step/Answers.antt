use Rattle.std.proofs.Common.{◌+◌, [], ◌++◌, length, replicate, refl, ap, sym, ◌∙◌}
use Rattle.std.proofs.lemmas.List.{length-replicate}
use Rattle.hier_flatten.specs.Hierarchy.{links_of}
use Rattle.hier_flatten.specs.Flat.{Counts, ranges_of, wires_below, own_nets}
use Rattle.hier_flatten.specs.Walk.{scope_at}
use Rattle.hier_flatten.proofs.WalkLaws.{linked_on}
use Rattle.hier_flatten.proofs.RunLaws.{run_ended}
use Rattle.hier_flatten.proofs.CountingLaws.{one_met, count_ended, count_passed, count_entered}
use Rattle.hier_flatten.proofs.counting.step.Goals as goal

pub returns-in_default-clause-goes : goal.returns-in_default-clause-goes
returns-in_default-clause-goes c =
    (count_ended c.args.index.now c.args.frame c.args.stack.now c.args.tally.now c.meet.new.self c.next.result.0.now c.next.ensures.cells
    (c.in_ok-meet.ensures ∙ ap (λ (k : Counts). record k { met = k.met + length c.next.result.0.now }) c.in_ok-count_names.ensures) (rw c.in_default.is at c.next.ensures.next)).0

pub returns-in_default-clause-less : goal.returns-in_default-clause-less
returns-in_default-clause-less c =
    (count_ended c.args.index.now c.args.frame c.args.stack.now c.args.tally.now c.meet.new.self c.next.result.0.now c.next.ensures.cells
    (c.in_ok-meet.ensures ∙ ap (λ (k : Counts). record k { met = k.met + length c.next.result.0.now }) c.in_ok-count_names.ensures) (rw c.in_default.is at c.next.ensures.next)).1

pub returns-in-Some-limit-clause-goes : goal.returns-in-Some-limit-clause-goes
returns-in-Some-limit-clause-goes c =
    count_passed c.args.index.now c.args.frame c.args.stack.now c.args.tally.now c.meet.new.self c.next.result.0.now c.next.ensures.cells
    (c.in_ok-meet.ensures ∙ ap (λ (k : Counts). record k { met = k.met + length c.next.result.0.now }) c.in_ok-count_names.ensures)
    c.in-Some.next (rw c.in-Some.is at c.next.ensures.next) c.in-Some-limit.what c.args.stack.now c.meet.new.self (sym c.limit.ensures ∙ c.in-Some-limit.is)

pub returns-in-Some-limit-clause-less : goal.returns-in-Some-limit-clause-less
returns-in-Some-limit-clause-less c =
    run_ended c.args.index.now c.args.tally.now c.meet.new.self c.args.frame c.args.stack.now (one_met c.args.index.now c.args.frame c.args.stack.now c.args.tally.now c.meet.new.self c.next.result.0.now c.next.ensures.cells
    (c.in_ok-meet.ensures ∙ ap (λ (k : Counts). record k { met = k.met + length c.next.result.0.now }) c.in_ok-count_names.ensures))

pub returns-clause-goes : goal.returns-clause-goes
returns-clause-goes c =
    (count_entered c.args.index.now c.args.frame c.args.stack.now c.args.tally.now c.meet.new.self c.next.result.0.now c.next.ensures.cells
    (c.in_ok-meet.ensures ∙ ap (λ (k : Counts). record k { met = k.met + length c.next.result.0.now }) c.in_ok-count_names.ensures)
    c.in-Some.next (rw c.in-Some.is at c.next.ensures.next) _ c.in_ok-below.below c.in_ok-below.wires.items c.count_nets.new.tally c.push.new.self c.push-2.new.self refl refl refl refl
    (sym c.limit.ensures ∙ c.in_default-limit.is)
    (λ prefix. c.in_ok-below.ensures.wires prefix
    ∙ ap (λ r. wires_below r (scope_at prefix c.args.frame) c.in-Some.next.instance.now c.in-Some.next.«module».now) c.ranges-2.ensures.ranges)
    (λ prefix len. rw c.ranges-2.ensures.ranges at (c.in_ok-below.ensures.frame prefix len))
    (c.in_ok-count_nets.ensures
    ∙ (ap (λ (k : Counts). record k { ranges = k.ranges ++ ranges_of (own_nets [] c.in-Some.next.«module».now.nets c.as_slice.result.now) }) c.in_ok-meet-2.ensures
    ∙ ap (λ w. record { ranges = c.meet.new.self.ranges ++ ranges_of (own_nets [] c.in-Some.next.«module».now.nets w); met = c.meet.new.self.met + 1 }) c.as_slice.ensures.value))
    c.in_ok-push.ensures c.in_ok-push-2.ensures).0

pub returns-clause-less : goal.returns-clause-less
returns-clause-less c =
    (count_entered c.args.index.now c.args.frame c.args.stack.now c.args.tally.now c.meet.new.self c.next.result.0.now c.next.ensures.cells
    (c.in_ok-meet.ensures ∙ ap (λ (k : Counts). record k { met = k.met + length c.next.result.0.now }) c.in_ok-count_names.ensures)
    c.in-Some.next (rw c.in-Some.is at c.next.ensures.next) _ c.in_ok-below.below c.in_ok-below.wires.items c.count_nets.new.tally c.push.new.self c.push-2.new.self refl refl refl refl
    (sym c.limit.ensures ∙ c.in_default-limit.is)
    (λ prefix. c.in_ok-below.ensures.wires prefix
    ∙ ap (λ r. wires_below r (scope_at prefix c.args.frame) c.in-Some.next.instance.now c.in-Some.next.«module».now) c.ranges-2.ensures.ranges)
    (λ prefix len. rw c.ranges-2.ensures.ranges at (c.in_ok-below.ensures.frame prefix len))
    (c.in_ok-count_nets.ensures
    ∙ (ap (λ (k : Counts). record k { ranges = k.ranges ++ ranges_of (own_nets [] c.in-Some.next.«module».now.nets c.as_slice.result.now) }) c.in_ok-meet-2.ensures
    ∙ ap (λ w. record { ranges = c.meet.new.self.ranges ++ ranges_of (own_nets [] c.in-Some.next.«module».now.nets w); met = c.meet.new.self.met + 1 }) c.as_slice.ensures.value))
    c.in_ok-push.ensures c.in_ok-push-2.ensures).1

pub returns-clause-linked : goal.returns-clause-linked
returns-clause-linked c =
    let made = c.in_ok-below.ensures.frame (replicate c.args.frame.path 0) (length-replicate c.args.frame.path 0) in
    linked_on c.args.index.now c.args.frame _ c.in_ok-below.below c.args.stack.now c.push.new.self c.push-2.new.self c.requires (rw c.in-Some.is at c.next.ensures.next).more
    (c.in_ok-below.ensures.links ∙ ((rw c.in-Some.is at c.next.ensures.next).below ∙ ap (links_of c.args.index.now) (sym made.rest)))
    c.in_ok-push.ensures c.in_ok-push-2.ensures

pub returns-in_default-clause-linked : goal.returns-in_default-clause-linked
returns-in_default-clause-linked c = c.requires.1

pub returns-in-Some-limit-clause-linked : goal.returns-in-Some-limit-clause-linked
returns-in-Some-limit-clause-linked c = c.requires.1
