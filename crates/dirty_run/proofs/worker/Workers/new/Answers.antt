use Rattle.std.proofs.Common.{rules, sym, subst, ◌∙◌, ◌∷◌, [], ap, length, length-append, arith}
use Rattle.std.specs.List.{All}
use Rattle.std.proofs.lemmas.List.Elements.{All-push}
use Rattle.dirty_run.specs.Visits.{HasRoom}
use Rattle.dirty_run.proofs.worker.Workers.new.Goals as goal

pub loop-number-preserved : goal.loop-number-preserved
loop-number-preserved c =
    let P = HasRoom c.args.design.now c.args.lists.now in
    let items = c.loop-number.idle.items in
    let pushed = c.in_ok-push.ensures.items in
    let long = ap length pushed ∙ length-append items (c.in_ok-new.field-0 ∷ []) in
    let inv = c.loop-number.invariant in
    record {
      count = let count = inv.count in omega (arith, long, count);
      room = search rules;
      rooms = subst (All P) (sym pushed) (All-push P items c.in_ok-new.field-0 inv.rooms c.in_ok-new.ensures.room);
    }

pub loop-number-init : goal.loop-number-init
loop-number-init c =
    let items = c.in_ok-idle.ensures.items in
    record {
      count = ap length items;
      room = c.in_ok-idle.ensures.capacity;
      rooms = subst (All (HasRoom c.args.design.now c.args.lists.now)) (sym items) (λ k d h. absurd (omega (arith, h)));
    }

pub returns-clause-count : goal.returns-clause-count
returns-clause-count c =
    let count = c.loop-number.invariant.count in
    let past = c.loop-number-test.false in
    let end = c.loop-number.auto._number-end in
    omega (arith, count, past, end)

pub returns-clause-idle : goal.returns-clause-idle
returns-clause-idle c =
    let count = c.loop-number.invariant.count in
    let past = c.loop-number-test.false in
    let end = c.loop-number.auto._number-end in
    let none = ap length c.in_ok-seated.ensures.items in
    let room = c.loop-number.invariant.room in
    let capacity = c.in_ok-seated.ensures.capacity in
    let before = c.in_ok-before.ensures.count in
    record {
      roomy = record {
        all = omega (arith, count, end, none, room);
        passes = omega (arith, count, end, none, capacity);
        rooms = c.loop-number.invariant.rooms;
        before = c.in_ok-before.ensures.notes;
        count = omega (arith, count, end, none, before);
      };
      none = c.in_ok-seated.ensures.items;
    }
