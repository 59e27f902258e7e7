use Rattle.std.proofs.Common.{◌≡◌, ◌≤◌, ◌<◌, arith, length}
use Rattle.elmore_tree.specs.Paths.{resistors_in}
use Rattle.elmore_tree.proofs.FormLaws.{is_meshed, not_meshed, least_unreached}
use Rattle.elmore_tree.proofs.elmore.tree_steps.Goals as goal

pub returns-then-resistors_in-len-clause-fault : goal.returns-then-resistors_in-len-clause-fault
returns-then-resistors_in-len-clause-fault c =
    let t = c.args.tree.now in
    let e : c.resistors_in.result ≡ resistors_in c.in_ok-walked.walked.reached.items t.resistors = rw (c.deref.ensures.value, c.resistors.ensures.value) at c.resistors_in.ensures in
    let more : length c.in_ok-walked.walked.steps.items < resistors_in c.in_ok-walked.walked.reached.items t.resistors = omega (arith, e) in
    is_meshed t c.in_ok-walked.walked.reached.items c.in_ok-walked.walked.steps.items c.in_ok-walked.ensures more

pub returns-in-Some-clause-fault : goal.returns-in-Some-clause-fault
returns-in-Some-clause-fault c =
    let t = c.args.tree.now in
    let e : c.resistors_in.result ≡ resistors_in c.in_ok-walked.walked.reached.items t.resistors = rw (c.deref.ensures.value, c.resistors.ensures.value) at c.resistors_in.ensures in
    let first = rw (c.deref-2.ensures, c.deref-3.ensures.value) at c.in-Some.ensures in
    let tree : resistors_in c.in_ok-walked.walked.reached.items t.resistors ≤ length c.in_ok-walked.walked.steps.items = omega (arith, e) in (
      not_meshed t c.in_ok-walked.walked.reached.items c.in_ok-walked.walked.steps.items c.in_ok-walked.ensures tree,
      least_unreached t c.in_ok-needed.needed.items c.in_ok-walked.walked.reached.items c.in_ok-walked.walked.steps.items c.in-Some.node c.in_ok-walked.ensures c.in_ok-needed.ensures.each first,
    )

pub returns-clause-ok : goal.returns-clause-ok
returns-clause-ok c =
    let t = c.args.tree.now in
    let e : c.resistors_in.result ≡ resistors_in c.in_ok-walked.walked.reached.items t.resistors = rw (c.deref.ensures.value, c.resistors.ensures.value) at c.resistors_in.ensures in
    record {
      sound = c.resistors.ensures.sound;
      needed = c.in_ok-needed.needed.items;
      reached = c.in_ok-walked.walked.reached.items;
      walked = c.in_ok-walked.ensures;
      tree = omega (arith, e);
      each = c.in_ok-needed.ensures.each;
      all = rw (c.deref-2.ensures, c.deref-3.ensures.value) at c.in_default.ensures;
    }
