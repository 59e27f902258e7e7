use Rattle.std.proofs.Common.{refl, ◌≡◌, ℕ, ◌+◌, sym, ap, subst, length, arith, ◌∷◌, [], ◌∙◌, length-append}
use Rattle.std.specs.Prelude.{Some}
use Rattle.std.proofs.lemmas.List.Elements.{All-pop}
use Rattle.dirty_run.specs.declared.worker.SeatedWorker.{SeatedWorker}
use Rattle.dirty_run.specs.Turns.{HasGathered}
use Rattle.dirty_run.specs.Rounds.{IsBack}
use Rattle.dirty_run.proofs.Parts.{no_items, roomy_back}
use Rattle.dirty_run.proofs.Gathered.{none_gathered, gathered_more, ran_other, ran_free, joined_free}
use Rattle.dirty_words.specs.declared.view.DirtyView.{DirtyView}
use Rattle.dirty_run.proofs.round.take_back.Goals as goal

pub passes-init : goal.passes-init
passes-init g c =
    let v = c.args.first.now.view in
    let none : length c.args.workers.now.idle.items ≡ 0 = ap length c.requires.none in
    record {
      own = c.requires.own;
      first = c.requires.first;
      free = c.requires.free;
      out = c.requires.out;
      count = omega (arith, none);
      gathered = λ order o. subst (λ n. HasGathered order n v v) (sym none) (none_gathered order v c.respects.ensures c.requires.fresh);
      back = c.requires.back;
      roomy = c.requires.roomy;
    }

pub join-requires-clause-other : goal.join-requires-clause-other
join-requires-clause-other g c =
    let first = c.args.first.now in
    let B = IsBack c.args.run.now.board.now c.args.run.now.design.now c.args.run.now.lists.now first in
    let x : SeatedWorker = c.in-Some.field-0 in
    let both = All-pop B c.passes.workers.seated.items c.pop.new.self.items (Some x) c.in-Some.ensures.items c.passes.invariant.back in
    let ordered = c.requires.run.whole.ordered in
    ran_other ordered.0 first.view x.pass.view (both.1.ran ordered.0 ordered.1)

pub join-requires-clause-free_other : goal.join-requires-clause-free_other
join-requires-clause-free_other g c =
    let first = c.args.first.now in
    let B = IsBack c.args.run.now.board.now c.args.run.now.design.now c.args.run.now.lists.now first in
    let x : SeatedWorker = c.in-Some.field-0 in
    let both = All-pop B c.passes.workers.seated.items c.pop.new.self.items (Some x) c.in-Some.ensures.items c.passes.invariant.back in
    let ordered = c.requires.run.whole.ordered in
    ran_free ordered.0 first.view x.pass.view (both.1.ran ordered.0 ordered.1)

pub passes-preserved : goal.passes-preserved
passes-preserved g c =
    let inv = c.passes.invariant in
    let first = c.args.first.now in
    let now = c.passes.first in
    let later = c.join.new.first in
    let B = IsBack c.args.run.now.board.now c.args.run.now.design.now c.args.run.now.lists.now first in
    let x : SeatedWorker = c.in-Some.field-0 in
    let both = All-pop B c.passes.workers.seated.items c.pop.new.self.items (Some x) c.in-Some.ensures.items inv.back in
    let popped = ap length c.in-Some.ensures.items ∙ length-append c.pop.new.self.items (x ∷ []) in
    let pushed : length c.push_reserved.new.self.items ≡ length c.passes.workers.idle.items + 1 = ap length c.push_reserved.ensures.items ∙ length-append c.passes.workers.idle.items (x.worker ∷ []) in
    record {
      own = c.join.ensures.own;
      first = ap (λ (v : DirtyView). v.base.role) c.join.ensures.view ∙ inv.first;
      free = joined_free now.view x.pass.view later.view c.join.ensures.view inv.free;
      out = let out = ap (λ (v : DirtyView). v.base.out) c.join.ensures.view in let before = inv.out in omega (arith, out, before, popped);
      count = let count = inv.count in omega (arith, count, pushed, popped);
      gathered = λ order o.
          let more = gathered_more order (length c.passes.workers.idle.items) first.view now.view x.pass.view (inv.gathered order o) (both.1.ran order o) later.view c.join.ensures.view in
          subst (λ (n : ℕ). HasGathered order n first.view later.view) (sym pushed) more;
      back = both.0;
      roomy = roomy_back c.args.run.now.design.now c.args.run.now.lists.now c.passes.workers (record { idle = c.push_reserved.new.self; seated = c.pop.new.self; before = c.passes.workers.before }) x.worker x refl c.push_reserved.ensures.items c.in-Some.ensures.items c.push_reserved.ensures.capacity c.pop.ensures.capacity both.1.room inv.roomy;
    }

pub returns-clause-gathered : goal.returns-clause-gathered
returns-clause-gathered g c = λ order o.
    let inv = c.passes.invariant in
    let none : length c.passes.workers.seated.items ≡ 0 = sym c.passes.workers.seated.ok.0 ∙ c.in_default.ensures.cases.0 in
    let count = inv.count in
    let all : length c.passes.workers.idle.items ≡ length c.args.workers.now.seated.items = omega (arith, none, count) in
    subst (λ n. HasGathered order n c.args.first.now.view c.passes.first.view) all (inv.gathered order o)

pub join-requires-clause-own : goal.join-requires-clause-own
join-requires-clause-own g c = c.passes.invariant.own

pub join-requires-clause-first : goal.join-requires-clause-first
join-requires-clause-first g c = c.passes.invariant.first

pub join-requires-clause-free : goal.join-requires-clause-free
join-requires-clause-free g c = c.passes.invariant.free

pub join-requires-clause-own_other : goal.join-requires-clause-own_other
join-requires-clause-own_other g c =
    let B = IsBack c.args.run.now.board.now c.args.run.now.design.now c.args.run.now.lists.now c.args.first.now in
    let both = All-pop B c.passes.workers.seated.items c.pop.new.self.items (Some c.in-Some.field-0) c.in-Some.ensures.items c.passes.invariant.back in
    both.1.own

pub push_reserved-requires : goal.push_reserved-requires
push_reserved-requires g c =
    let all = c.passes.invariant.roomy.all in
    let long = c.passes.workers.idle.ok.0 in
    let popped = ap length c.in-Some.ensures.items ∙ length-append c.pop.new.self.items (c.in-Some.field-0 ∷ []) in
    omega (arith, all, long, popped)

pub passes-smaller : goal.passes-smaller
passes-smaller g c =
    let popped = ap length c.in-Some.ensures.items ∙ length-append c.pop.new.self.items (c.in-Some.field-0 ∷ []) in
    omega (arith, popped)

pub returns-clause-own : goal.returns-clause-own
returns-clause-own g c = c.passes.invariant.own

pub returns-clause-free : goal.returns-clause-free
returns-clause-free g c = c.passes.invariant.free

pub returns-clause-alone : goal.returns-clause-alone
returns-clause-alone g c =
    let none : length c.passes.workers.seated.items ≡ 0 = sym c.passes.workers.seated.ok.0 ∙ c.in_default.ensures.cases.0 in
    (c.passes.invariant.first, c.passes.invariant.out ∙ none)

pub returns-clause-count : goal.returns-clause-count
returns-clause-count g c =
    let none : length c.passes.workers.seated.items ≡ 0 = sym c.passes.workers.seated.ok.0 ∙ c.in_default.ensures.cases.0 in
    let count = c.passes.invariant.count in
    omega (arith, none, count)

pub returns-clause-idle : goal.returns-clause-idle
returns-clause-idle g c =
    let roomy = c.passes.invariant.roomy in
    let none = no_items c.pop.new.self.items (sym c.pop.new.self.ok.0 ∙ c.in_default.ensures.cases.1) in
    let gone : length c.pop.new.self.items ≡ 0 = ap length none in
    let capacity = c.in_default.ensures.capacity in
    record {
      roomy = record {
        all = let all = roomy.all in omega (arith, all, gone);
        passes = let passes = roomy.passes in omega (arith, passes, gone, capacity);
        rooms = roomy.rooms;
        before = roomy.before;
        count = let count = roomy.count in omega (arith, count, gone);
      };
      none = none;
    }
