use Rattle.std.proofs.Common.{refl, ◌≡◌, ◌+◌, ◌∷◌, [], sym, ap, subst, ◌∙◌, length, length-append, arith}
use Rattle.std.proofs.lemmas.List.Elements.{All-push, All-pop}
use Rattle.std.specs.List.{All}
use Rattle.std.specs.Prelude.{Some}
use Rattle.dirty_run.specs.declared.worker.SeatedWorker.{SeatedWorker}
use Rattle.dirty_run.specs.Visits.{HasRoom}
use Rattle.dirty_run.specs.Turns.{with_out}
use Rattle.dirty_run.specs.Rounds.{IsSent}
use Rattle.dirty_run.proofs.Parts.{IsSending, none_sent, sending_first, sending_free, sending_few, sending_more, sends_next, roomy_out}
use Rattle.dirty_run.proofs.round.send_out.Goals as goal

pub passes-init : goal.passes-init
passes-init g c =
    let v = c.args.first.now.view in
    let none : length c.args.workers.now.seated.items ≡ 0 = ap length c.requires.idle.none in
    record {
      own = c.requires.own;
      sending = subst (λ n. IsSending v n v) (sym none) (none_sent v);
      count = omega (arith, none);
      sent = subst (All (IsSent c.args.run.now.design.now c.args.run.now.lists.now c.args.first.now)) (sym c.requires.idle.none) (λ k d h. absurd (omega (arith, h)));
      roomy = c.requires.idle.roomy;
    }

pub split-pass-requires : goal.split-pass-requires
split-pass-requires g c =
    let v = c.args.first.now.view in
    let w = c.passes.first.view in
    let inv = c.passes.invariant in
    let n = length c.passes.workers.seated.items in
    record {
      own = inv.own;
      first = sending_first v w n inv.sending c.requires.first;
      free = sending_free v w n inv.sending c.requires.free;
      few =
          let few = c.requires.few in
          let count = inv.count in
          let popped : length c.passes.workers.idle.items ≡ length c.pop.new.self.items + 1 = ap length c.in-Some.ensures.items ∙ length-append c.pop.new.self.items (c.in-Some.worker ∷ []) in
          sending_few v w n inv.sending (omega (arith, few, count, popped));
    }

pub passes-preserved : goal.passes-preserved
passes-preserved g c =
    let d = c.args.run.now.design.now in
    let lists = c.args.run.now.lists.now in
    let v = c.args.first.now.view in
    let w = c.passes.first.view in
    let x = c.split-pass.new.first.view in
    let inv = c.passes.invariant in
    let n = length c.passes.workers.seated.items in
    let seated : SeatedWorker = record { pass = c.split-pass.result; worker = c.in-Some.worker } in
    let pushed = c.push_reserved.ensures.items in
    let long : length c.push_reserved.new.self.items ≡ n + 1 = ap length pushed ∙ length-append c.passes.workers.seated.items (seated ∷ []) in
    let popped : length c.passes.workers.idle.items ≡ length c.pop.new.self.items + 1 = ap length c.in-Some.ensures.items ∙ length-append c.pop.new.self.items (c.in-Some.worker ∷ []) in
    let both = All-pop (HasRoom d lists) c.passes.workers.idle.items c.pop.new.self.items (Some c.in-Some.worker) c.in-Some.ensures.items inv.roomy.rooms in
    let sent : IsSent d lists c.args.first.now seated = record {
      table = c.split-pass.ensures.own_other.table ∙ sym c.requires.own.table;
      view = c.split-pass.ensures.view_other ∙ sends_next v w n inv.sending;
      room = both.1;
    } in
    record {
      own = c.split-pass.ensures.own;
      sending = subst (λ m. IsSending v m x) (sym long) (sending_more v w n inv.sending x c.split-pass.ensures.view);
      count = let count = inv.count in omega (arith, count, long, popped);
      sent = subst (All (IsSent d lists c.args.first.now)) (sym pushed) (All-push (IsSent d lists c.args.first.now) c.passes.workers.seated.items seated inv.sent sent);
      roomy = roomy_out d lists c.passes.workers (record { idle = c.pop.new.self; seated = c.push_reserved.new.self; before = c.passes.workers.before }) refl popped long c.pop.ensures.capacity c.push_reserved.ensures.capacity both.0 inv.roomy;
    }

pub returns-clause-view : goal.returns-clause-view
returns-clause-view g c =
    let v = c.args.first.now.view in
    let inv = c.passes.invariant in
    let none : length c.passes.workers.idle.items ≡ 0 = sym c.passes.workers.idle.ok.0 ∙ c.in_default.ensures.cases.0 in
    let count = inv.count in
    let some = c.requires.some in
    let all : length c.passes.workers.seated.items ≡ length c.args.workers.now.idle.items = omega (arith, none, count) in
    subst (λ n. c.passes.first.view ≡ with_out v n) all (inv.sending.some (omega (arith, all, some)))
