use Rattle.std.proofs.Common.{◌≡◌, ℕ, ◌+◌, sym, subst, ◌∙◌, length, ◌∷◌, [], refl, ap, length-append, arith}
use Rattle.std.specs.Prelude.{Some}
use Rattle.std.proofs.lemmas.List.Elements.{All-pop}
use Rattle.chaos_core.specs.Runs.{Ran}
use Rattle.chaos_run.specs.declared.workers.SeatedWorker.{SeatedWorker}
use Rattle.window_words.specs.Boards.{Holding, IsOf, knowledge_of}
use Rattle.chaos_run.specs.Rounds.{sent_of, IsBack}
use Rattle.chaos_run.proofs.Parts.{roomy_back, no_items, pass_found}
use Rattle.chaos_run.proofs.Taken.{HasTaken, all_taken, none_taken, taken_more}
use Rattle.window_words.specs.declared.seated.Seated.{Seated}
use Rattle.window_words.specs.declared.view.View.{View}
use Rattle.chaos_run.proofs.round.take_back.Goals as goal

pub passes-preserved : goal.passes-preserved
passes-preserved g c =
    let inv = c.passes.invariant in
    let first : Holding = c.args.first.now in
    let now : Holding = c.passes.first in
    let later : Holding = c.join.new.first in
    let B = IsBack c.args.run.now.board.now c.args.run.now.design.now c.args.run.now.lists.now first in
    let x : SeatedWorker = c.in-Some.field-0 in
    let seat : Seated = c.in-Some-seated.seated in
    let both = All-pop B c.passes.workers.seated.items c.pop.new.self.items (Some x) c.in-Some.ensures.items inv.back in
    let same = pass_found x seat both.1.pass c.in-Some-seated.is both.1.there in
    let table = c.join.ensures.own.table ∙ sym inv.own.table in
    let popped = ap length c.in-Some.ensures.items ∙ length-append c.pop.new.self.items (x ∷ []) in
    let pushed : length c.push_reserved.new.self.items ≡ length c.passes.workers.idle.items + 1 = ap length c.push_reserved.ensures.items ∙ length-append c.passes.workers.idle.items (x.worker ∷ []) in
    record {
      own = c.join.ensures.own;
      first = ap (λ (v : View). v.role) c.join.ensures.view ∙ inv.first;
      out = let out = ap (λ (v : View). v.out) c.join.ensures.view in let before = inv.out in omega (arith, out, before, popped);
      split = ap (λ (v : View). v.split) c.join.ensures.view ∙ inv.split;
      count = let count = inv.count in omega (arith, count, pushed, popped);
      taken = λ order o.
          let ran = subst (λ (p : Holding). Ran order (knowledge_of (sent_of first)) (knowledge_of p)) (sym same) (both.1.ran order o) in
          let more = taken_more order (length c.passes.workers.idle.items) first now seat.pass (inv.taken order o) ran c.join.ensures.seen c.join.ensures.seen_other later table c.join.ensures.view in
          subst (λ (n : ℕ). HasTaken order n (knowledge_of first) (knowledge_of later)) (sym pushed) more;
      back = both.0;
      roomy = roomy_back c.args.run.now.lists.now c.passes.workers (record { idle = c.push_reserved.new.self; seated = c.pop.new.self }) x.worker x c.push_reserved.ensures.items c.in-Some.ensures.items c.push_reserved.ensures.capacity c.pop.ensures.capacity both.1.room inv.roomy;
    }

pub returns-clause-ran : goal.returns-clause-ran
returns-clause-ran g c = λ order o.
    let none : length c.passes.workers.seated.items ≡ 0 = sym c.passes.workers.seated.ok.0 ∙ c.in_default.ensures.cases.0 in
    let count = c.passes.invariant.count in
    let some = c.requires.some in
    all_taken order (length c.passes.workers.idle.items) (knowledge_of c.args.first.now) (knowledge_of c.passes.first) (omega (arith, none, count, some)) (c.passes.invariant.taken order o)

pub passes-init : goal.passes-init
passes-init g c =
    let k = knowledge_of c.args.first.now in
    let none : length c.args.workers.now.idle.items ≡ 0 = ap length c.requires.none in
    record {
      own = c.requires.own;
      first = c.requires.first;
      out = c.requires.out;
      split = refl;
      count = omega (arith, none);
      taken = λ order o. subst (λ (n : ℕ). HasTaken order n k k) (sym none) (none_taken order c.args.first.now c.requires.fresh);
      back = c.requires.back;
      roomy = c.requires.roomy;
    }

pub join-requires-clause-own : goal.join-requires-clause-own
join-requires-clause-own g c = c.passes.invariant.own

pub join-requires-clause-first : goal.join-requires-clause-first
join-requires-clause-first g c = c.passes.invariant.first

pub join-requires-clause-own_other : goal.join-requires-clause-own_other
join-requires-clause-own_other g c =
    let board = c.args.run.now.board.now in
    let B = IsBack board c.args.run.now.design.now c.args.run.now.lists.now c.args.first.now in
    let back = (All-pop B c.passes.workers.seated.items c.pop.new.self.items (Some c.in-Some.field-0) c.in-Some.ensures.items c.passes.invariant.back).1 in
    let same = pass_found c.in-Some.field-0 c.in-Some-seated.seated back.pass c.in-Some-seated.is back.there in
    subst (IsOf board) (sym same) back.own

pub join-requires-clause-other : goal.join-requires-clause-other
join-requires-clause-other g c = c.in-Some-seated.seated.other

pub push_reserved-requires : goal.push_reserved-requires
push_reserved-requires g c =
    let all = c.passes.invariant.roomy.all in
    let long = c.passes.workers.idle.ok.0 in
    let popped = ap length c.in-Some.ensures.items ∙ length-append c.pop.new.self.items (c.in-Some.field-0 ∷ []) in
    omega (arith, all, long, popped)

pub passes-smaller : goal.passes-smaller
passes-smaller g c =
    let popped = ap length c.in-Some.ensures.items ∙ length-append c.pop.new.self.items (c.in-Some.field-0 ∷ []) in
    omega (arith, popped)

pub returns-clause-own : goal.returns-clause-own
returns-clause-own g c = c.passes.invariant.own

pub returns-clause-alone : goal.returns-clause-alone
returns-clause-alone g c =
    let none : length c.passes.workers.seated.items ≡ 0 = sym c.passes.workers.seated.ok.0 ∙ c.in_default.ensures.cases.0 in
    (c.passes.invariant.first, c.passes.invariant.out ∙ none)

pub returns-clause-split : goal.returns-clause-split
returns-clause-split g c = c.passes.invariant.split

pub returns-clause-count : goal.returns-clause-count
returns-clause-count g c =
    let none : length c.passes.workers.seated.items ≡ 0 = sym c.passes.workers.seated.ok.0 ∙ c.in_default.ensures.cases.0 in
    let count = c.passes.invariant.count in
    omega (arith, none, count)

pub returns-clause-idle : goal.returns-clause-idle
returns-clause-idle g c =
    let roomy = c.passes.invariant.roomy in
    let none = no_items c.pop.new.self.items (sym c.pop.new.self.ok.0 ∙ c.in_default.ensures.cases.1) in
    let gone : length c.pop.new.self.items ≡ 0 = ap length none in
    let capacity = c.in_default.ensures.capacity in
    record {
      roomy = record {
        all = let all = roomy.all in omega (arith, all, gone);
        passes = let passes = roomy.passes in omega (arith, passes, gone, capacity);
        rooms = roomy.rooms;
      };
      none = none;
    }
