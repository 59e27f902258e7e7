use Rattle.std.proofs.Common.{◌≡◌, ◌+◌, Bool, sym, subst, arith}
use Rattle.chaos_core.specs.Boards.{nets_of}
use Rattle.window_words.proofs.Holding.{kept_found}
use Rattle.dirty_words.specs.Steps.{mark_of, Looked}
use Rattle.dirty_run.specs.Turns.{HasLooked}
use Rattle.dirty_run.proofs.LookTurns.{none_looked, looked_set, looked_unset, looked_alone, looked_free, looked_below, looked_rested, none_closed}
use Rattle.dirty_run.proofs.look.look.Goals.{then-marked, else-marked}
use Rattle.dirty_run.proofs.look.look.Goals as goal

pub marked-requires-clause-alone : goal.marked-requires-clause-alone
marked-requires-clause-alone c = looked_alone c.args.first.now.view c.loop-net.net c.loop-net.any c.loop-net.first.view c.loop-net.invariant.looked c.requires.alone

pub marked-requires-clause-there : goal.marked-requires-clause-there
marked-requires-clause-there c =
    let lt = c.loop-net-test.true in
    let all = c.requires.count in
    looked_below c.args.first.now.view c.loop-net.net c.loop-net.any c.loop-net.first.view c.loop-net.invariant.looked (omega (arith, lt, all))

pub loop-net-init : goal.loop-net-init
loop-net-init c = record {
  own = c.requires.own;
  looked = none_looked c.args.first.now.view;
  rested = λ some. absurd (omega (arith, some));
  closing = λ some. absurd (omega (arith, some));
}

pub loop-net-preserved : goal.loop-net-preserved
loop-net-preserved c =
    let v = c.args.first.now.view in
    let k = c.loop-net.net in
    let any = c.loop-net.any in
    let w = c.loop-net.first.view in
    let x = c.marked.new.first.view in
    let inv = c.loop-net.invariant in
    let free = c.requires.free in
    let looked : HasLooked v (k + 1) c.if-marked.any x = elim c.if-marked.branch [
      | then-marked t ↦ subst (λ (b : Bool). HasLooked v (k + 1) b x) (sym t.any-is) (looked_set v k any w x inv.looked free (subst (λ (b : Bool). Looked w k (mark_of b) x) t.if-marked.true c.marked.ensures.looked))
      | else-marked t ↦ subst (λ (b : Bool). HasLooked v (k + 1) b x) (sym t.any-is) (looked_unset v k any w x inv.looked free (subst (λ (b : Bool). Looked w k (mark_of b) x) t.if-marked.false c.marked.ensures.looked))
    ] in
    record {
      own = c.marked.ensures.own;
      looked = looked;
      rested = λ some. looked_rested v k any w inv.looked (mark_of c.marked.result) x c.respects.ensures c.marked.ensures.looked;
      closing = λ some all. c.marked.ensures.looked.closed (looked_free v (k + 1) c.if-marked.any x looked free) all;
    }

pub returns-clause-looked : goal.returns-clause-looked
returns-clause-looked c =
    let past = c.loop-net-test.false in
    let most = c.loop-net.auto.net-end in
    let end : c.loop-net.net ≡ c.args.nets = omega (arith, past, most) in
    subst (λ n. HasLooked c.args.first.now.view n c.loop-net.any c.loop-net.first.view) end c.loop-net.invariant.looked

pub returns-clause-kept : goal.returns-clause-kept
returns-clause-kept c =
    let past = c.loop-net-test.false in
    let all = c.requires.count in
    kept_found c.args.first.now.view.base c.respects.ensures (λ some. c.loop-net.invariant.rested (omega (arith, past, all, some)))

pub returns-clause-rested : goal.returns-clause-rested
returns-clause-rested c = λ some. let past = c.loop-net-test.false in c.loop-net.invariant.rested (omega (arith, past, some))

pub returns-clause-closed : goal.returns-clause-closed
returns-clause-closed c = λ none.
    let v = c.args.first.now.view in
    let past = c.loop-net-test.false in
    let most = c.loop-net.auto.net-end in
    let all = c.requires.count in
    let end : c.loop-net.net ≡ nets_of v.base.setting = omega (arith, past, most, all) in
    none_closed v c.loop-net.net c.loop-net.any c.loop-net.first.view c.loop-net.invariant.looked c.respects.ensures none end c.loop-net.invariant.closing
