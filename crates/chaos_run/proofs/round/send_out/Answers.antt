use Rattle.std.proofs.Common.{◌≡◌, ℕ, ◌+◌, ◌∷◌, ◌++◌, [], sym, ap, subst, ◌∙◌, List, length, length-append, arith}
use Rattle.std.specs.Prelude.{Some}
use Rattle.std.specs.List.{All}
use Rattle.std.proofs.lemmas.List.Elements.{All-push, All-pop}
use Rattle.xt_model.specs.declared.net.NetId.{NetId}
use Rattle.chaos_core.specs.Rounds.{HasRoom}
use Rattle.window_words.specs.declared.view.View.{View}
use Rattle.window_words.specs.Views.{sent_out, with_one_out}
use Rattle.window_words.specs.Boards.{Holding}
use Rattle.chaos_run.specs.declared.workers.SeatedWorker.{SeatedWorker}
use Rattle.chaos_run.specs.Rounds.{sent_of, with_out, pass_of, IsSent}
use Rattle.chaos_run.proofs.Parts.{no_items}
use Rattle.chaos_run.proofs.round.send_out.Goals as goal

none_out : (v : View) → v ≡ with_out v 0
none_out v =
    let out : v.out ≡ v.out + 0 = omega arith in
    let split : v.split ≡ v.split + 0 = omega arith in
    λ i. record v { out = out i; split = split i }

pub passes-init : goal.passes-init
passes-init g c =
    let v = c.args.first.now.view in
    let none : length c.args.workers.now.seated.items ≡ 0 = ap length c.requires.idle.none in
    record {
      own = c.requires.own;
      view = subst (λ (n : ℕ). v ≡ with_out v n) (sym none) (none_out v);
      count = omega (arith, none);
      sent = subst (All (IsSent c.args.run.now.lists.now c.args.first.now)) (sym c.requires.idle.none) (λ k d h. absurd (omega (arith, h)));
      roomy = c.requires.idle.roomy;
    }

pub split-pass-requires-clause-own : goal.split-pass-requires-clause-own
split-pass-requires-clause-own g c = c.passes.invariant.own

pub split-pass-requires-clause-first : goal.split-pass-requires-clause-first
split-pass-requires-clause-first g c = ap (λ (v : View). v.role) c.passes.invariant.view ∙ c.requires.first

pub split-pass-requires-clause-few : goal.split-pass-requires-clause-few
split-pass-requires-clause-few g c =
    let few = c.requires.few in
    let count = c.passes.invariant.count in
    let split = ap (λ (v : View). v.split) c.passes.invariant.view in
    let popped : length c.passes.workers.idle.items ≡ length c.pop.new.self.items + 1 = ap length c.in-Some.ensures.items ∙ length-append c.pop.new.self.items (c.in-Some.worker ∷ []) in
    omega (arith, few, count, split, popped)

pub push_reserved-requires : goal.push_reserved-requires
push_reserved-requires g c =
    let passes = c.passes.invariant.roomy.passes in
    let long = c.passes.workers.seated.ok.0 in
    let popped : length c.passes.workers.idle.items ≡ length c.pop.new.self.items + 1 = ap length c.in-Some.ensures.items ∙ length-append c.pop.new.self.items (c.in-Some.worker ∷ []) in
    omega (arith, passes, long, popped)

-- one pass more is out
one_out : (v w x : View) (n m : ℕ) → w ≡ with_out v n → x ≡ with_one_out w → m ≡ n + 1 → x ≡ with_out v m
one_out v w x n m before after more =
    let out : v.out + n + 1 ≡ v.out + m = omega (arith, more) in
    let split : v.split + n + 1 ≡ v.split + m = omega (arith, more) in
    let same : with_one_out (with_out v n) ≡ with_out v m = λ i. record v { out = out i; split = split i } in
    after ∙ (ap with_one_out before ∙ same)

-- and its worker is sent too
sent_more : (lists : List (List NetId)) (first : Holding) (xs ys : List SeatedWorker) (x : SeatedWorker) → ys ≡ xs ++ x ∷ [] → All (IsSent lists first) xs → pass_of x ≡ Some (sent_of first) → HasRoom lists x.worker
    → All (IsSent lists first) ys
sent_more lists first xs ys x pushed sent pass room = subst (All (IsSent lists first)) (sym pushed) (All-push (IsSent lists first) xs x sent (record { pass = pass; room = room }))

pub passes-preserved : goal.passes-preserved
passes-preserved g c =
    let lists = c.args.run.now.lists.now in
    let first : Holding = c.args.first.now in
    let inv = c.passes.invariant in
    let pushed = c.push_reserved.ensures.items in
    let long : length c.push_reserved.new.self.items ≡ length c.passes.workers.seated.items + 1 = ap length pushed ∙ length-append c.passes.workers.seated.items _ in
    let popped : length c.passes.workers.idle.items ≡ length c.pop.new.self.items + 1 = ap length c.in-Some.ensures.items ∙ length-append c.pop.new.self.items (c.in-Some.worker ∷ []) in
    let both = All-pop (HasRoom lists) c.passes.workers.idle.items c.pop.new.self.items (Some c.in-Some.worker) c.in-Some.ensures.items inv.roomy.rooms in
    let table = c.split-pass.ensures.own_other.table ∙ sym c.requires.own.table in
    let view = c.split-pass.ensures.view_other ∙ ap sent_out inv.view in
    let pass : c.split-pass.result ≡ sent_of first = λ i. record { table = table i; view = view i } in
    let idle = c.pop.ensures.capacity in
    let seated = c.push_reserved.ensures.capacity in
    record {
      own = c.split-pass.ensures.own;
      view = one_out first.view c.passes.first.view c.split-pass.new.first.view (length c.passes.workers.seated.items) (length c.push_reserved.new.self.items) inv.view c.split-pass.ensures.view long;
      count = let count = inv.count in omega (arith, count, long, popped);
      sent = sent_more lists first c.passes.workers.seated.items c.push_reserved.new.self.items _ pushed inv.sent (ap Some pass) both.1;
      roomy = record {
        all = let all = inv.roomy.all in omega (arith, all, long, popped, idle);
        passes = let passes = inv.roomy.passes in omega (arith, passes, long, popped, seated);
        rooms = both.0;
      };
    }

pub passes-smaller : goal.passes-smaller
passes-smaller g c =
    let popped : length c.passes.workers.idle.items ≡ length c.pop.new.self.items + 1 = ap length c.in-Some.ensures.items ∙ length-append c.pop.new.self.items (c.in-Some.worker ∷ []) in
    omega (arith, popped)

pub returns-clause-own : goal.returns-clause-own
returns-clause-own g c = c.passes.invariant.own

pub returns-clause-view : goal.returns-clause-view
returns-clause-view g c =
    let v = c.args.first.now.view in
    let none : length c.passes.workers.idle.items ≡ 0 = sym c.passes.workers.idle.ok.0 ∙ c.in_default.ensures.cases.0 in
    let count = c.passes.invariant.count in
    let all : length c.passes.workers.seated.items ≡ length c.args.workers.now.idle.items = omega (arith, none, count) in
    subst (λ (n : ℕ). c.passes.first.view ≡ with_out v n) all c.passes.invariant.view

pub returns-clause-count : goal.returns-clause-count
returns-clause-count g c =
    let none : length c.passes.workers.idle.items ≡ 0 = sym c.passes.workers.idle.ok.0 ∙ c.in_default.ensures.cases.0 in
    let count = c.passes.invariant.count in
    omega (arith, none, count)

pub returns-clause-none : goal.returns-clause-none
returns-clause-none g c = no_items c.pop.new.self.items (sym c.pop.new.self.ok.0 ∙ c.in_default.ensures.cases.1)

pub returns-clause-sent : goal.returns-clause-sent
returns-clause-sent g c = c.passes.invariant.sent

pub returns-clause-roomy : goal.returns-clause-roomy
returns-clause-roomy g c =
    let roomy = c.passes.invariant.roomy in
    let none = no_items c.pop.new.self.items (sym c.pop.new.self.ok.0 ∙ c.in_default.ensures.cases.1) in
    let gone : length c.pop.new.self.items ≡ 0 = ap length none in
    let capacity = c.in_default.ensures.capacity in
    record {
      all = let all = roomy.all in omega (arith, all, gone, capacity);
      passes = let passes = roomy.passes in omega (arith, passes, gone);
      rooms = subst (All (HasRoom c.args.run.now.lists.now)) (sym none) (λ k d h. absurd (omega (arith, h)));
    }
