use Rattle.std.proofs.Common.{sym, get_or, arith}
use Rattle.std.proofs.Math.ListN.{drop_of_length-le}
use Rattle.xt_model.specs.declared.net.NetId.{NetId}
use Rattle.net_eval.specs.ReadLists.{ids}
use Rattle.chaos_core.proofs.Places.{id_at, ids_count}
use Rattle.dirty_run.proofs.Paying.{none_paid, pays_next, paid_more, all_paid}
use Rattle.dirty_run.proofs.visit.pay.Goals as goal

pub loop-reader-init : goal.loop-reader-init
loop-reader-init c = record { own = c.requires.own; paying = none_paid c.args.pass.now.view (ids c.args.readers.now) c.requires.owed }

pub mark-requires-clause-owed : goal.mark-requires-clause-owed
mark-requires-clause-owed c =
    let readers = c.args.readers.now in
    let i = c.loop-reader.reader-index in
    let none : NetId = record { 0 = 0 } in
    let n = ids_count readers in
    let lt = c.loop-reader-test.true in
    pays_next c.args.pass.now.view (ids readers) i c.loop-reader.pass.view (get_or readers i none).0 (omega (arith, n, lt)) (sym (id_at readers i none lt)) c.loop-reader.invariant.paying

pub loop-reader-preserved : goal.loop-reader-preserved
loop-reader-preserved c =
    let readers = c.args.readers.now in
    let i = c.loop-reader.reader-index in
    let none : NetId = record { 0 = 0 } in
    let n = ids_count readers in
    let lt = c.loop-reader-test.true in
    record {
      own = c.mark.ensures.own;
      paying = paid_more c.args.pass.now.view (ids readers) i c.loop-reader.pass.view c.mark.new.pass.view (get_or readers i none).0 c.requires.once (omega (arith, n, lt)) (sym (id_at readers i none lt)) c.loop-reader.invariant.paying c.mark.ensures.view;
    }

pub returns-clause-paid : goal.returns-clause-paid
returns-clause-paid c =
    let readers = c.args.readers.now in
    let i = c.loop-reader.reader-index in
    let n = ids_count readers in
    let past = c.loop-reader-test.false in
    all_paid c.args.pass.now.view (ids readers) i c.loop-reader.pass.view (drop_of_length-le (ids readers) (omega (arith, n, past))) c.loop-reader.invariant.paying
