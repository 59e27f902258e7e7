use Rattle.std.proofs.Common.{◌<◌, length, arith}
use Rattle.net_eval.proofs.Looks.{looks_own, looks_more, looks_again, looks_all, looks_last, input_there}
use Rattle.net_eval.proofs.reads.look_at.Goals as goal

pub loop-arc-init : goal.loop-arc-init
loop-arc-init c =
    let some : 0 < length c.args.net.now.arcs = omega (arith, c.if-len-eq0.false, c.len.ensures) in
    let looked = looks_own _ _ _ _ c.requires.there some (rw c.clear.ensures.items at c.in_ok-push_around.ensures) in
    record { looked = looked; last = λ m near. looked.own m some near }

pub push_input-requires : goal.push_input-requires
push_input-requires c = input_there _ _ _ _ _ _ c.requires.sound c.as_slice-arc-items.ensures c.loop-arc-test.true

pub loop-arc-preserved : goal.loop-arc-preserved
loop-arc-preserved c =
    let looked = looks_more _ _ _ _ _ _ _ _ c.requires.there c.as_slice-arc-items.ensures c.loop-arc-test.true c.in_ok-push_input.ensures c.loop-arc.invariant.looked in
    record {
      looked = looked;
      last = looks_last _ _ _ _ _ _ _ c.as_slice-arc-items.ensures c.loop-arc-test.true looked;
    }

pub loop-arc-preserved-then-arc-last : goal.loop-arc-preserved-then-arc-last
loop-arc-preserved-then-arc-last c = record {
  looked = looks_again _ _ _ _ _ _ _ _ c.as_slice-arc-items.ensures c.loop-arc-test.true c.if-arc-last.true c.loop-arc.invariant.last c.loop-arc.invariant.looked;
  last = c.loop-arc.invariant.last;
}

pub returns : goal.returns
returns c = looks_all _ _ _ _ _ _ c.as_slice-arc-items.ensures c.loop-arc-test.false c.loop-arc.invariant.looked
