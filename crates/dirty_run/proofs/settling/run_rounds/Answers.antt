use Rattle.std.proofs.Common.{◌≡◌, ◌+◌, ◌-◌, ◌<◌, refl, sym, ap, subst, ◌∙◌, length, arith}
use Rattle.xt_model.specs.Levels.{IsOrder}
use Rattle.xt_model.specs.Parts.{Parts}
use Rattle.chaos_core.specs.declared.setting.Setting.{Setting}
use Rattle.chaos_core.specs.Boards.{nets_of}
use Rattle.chaos_core.specs.Memories.{AreKept}
use Rattle.chaos_core.specs.Rounds.{HasCarried}
use Rattle.chaos_core.proofs.Settling.{made_more}
use Rattle.dirty_words.specs.Views.{Run}
use Rattle.dirty_run.proofs.LookTurns.{looked_alone, looked_free}
use Rattle.dirty_run.proofs.Rounds.{last_look, some_nets, all_clear, look_seen, look_made, look_nets, look_kept, look_closed, turn_carries, turn_moves, turn_made, turn_split}
use Rattle.dirty_run.proofs.Still.{turn_more, marked_more, turns_few, turns_fewer}
use Rattle.dirty_run.proofs.settling.run_rounds.Goals as goal

pub rounds-init : goal.rounds-init
rounds-init g c =
    let a = c.args.run.now.board.now.run.setting in
    let d = c.args.run.now.design.now in
    let v = c.args.first.now.view in
    let w = c.look-any.new.first.view in
    let n = length c.nets.result.now in
    let any = c.look-any.result in
    let own : v.base.setting ≡ a = ap (λ (r : Run). r.setting) c.requires.own.run in
    let look = c.look-any.ensures.looked in
    let design = c.requires.run.design in
    let all : n ≡ nets_of v.base.setting = ap length c.nets.ensures.value ∙ sym (look_nets a d v w n any own design look) in
    let made = look_made a d v w n any own design look in
    record {
      own = c.look-any.ensures.own;
      alone = looked_alone v n any w look c.requires.alone;
      free = looked_free v n any w look c.requires.free;
      idle = c.requires.idle;
      count = refl;
      last = last_look v n any w all look;
      kept = look_kept a d v w n any own design look c.look-any.ensures.kept;
      closed = look_closed a d v w n any own design look c.look-any.ensures.closed;
      moving = λ _. look_seen a d v w n any own design look;
      turns = look_seen a d v w n any own design look;
      split = λ lie. absurd (omega (arith, lie));
      made = omega (arith, made);
    }

pub prove-unreachable-requires : goal.prove-unreachable-requires
prove-unreachable-requires g c =
    let a = c.args.run.now.board.now.run.setting in
    let d = c.args.run.now.design.now in
    let v = c.args.first.now.view in
    let own : v.base.setting ≡ a = ap (λ (r : Run). r.setting) c.requires.own.run in
    let begun = subst (λ (x : Setting). AreKept x v.base.seen) own c.look-any.ensures.kept in
    let few = turns_fewer a d c.rounds.rounds c.bound-bound.result v.base.seen c.rounds.first.view.base.seen c.requires.run.design begun (c.rounds.invariant.moving c.rounds-test.true) c.bound-bound.ensures.value in
    omega (arith, few, c.if-prove.true)

pub rounds-smaller : goal.rounds-smaller
rounds-smaller g c =
    let a = c.args.run.now.board.now.run.setting in
    let d = c.args.run.now.design.now in
    let v = c.args.first.now.view in
    let own : v.base.setting ≡ a = ap (λ (r : Run). r.setting) c.requires.own.run in
    let begun = subst (λ (x : Setting). AreKept x v.base.seen) own c.look-any.ensures.kept in
    let few = turns_fewer a d c.rounds.rounds c.bound-bound.result v.base.seen c.rounds.first.view.base.seen c.requires.run.design begun (c.rounds.invariant.moving c.rounds-test.true) c.bound-bound.ensures.value in
    let less : c.bound-bound.result + 1 - (c.rounds.rounds + 1) < c.bound-bound.result + 1 - c.rounds.rounds = omega (arith, few) in
    less

pub rounds-preserved : goal.rounds-preserved
rounds-preserved g c =
    let a = c.args.run.now.board.now.run.setting in
    let d = c.args.run.now.design.now in
    let design = c.requires.run.design in
    let begin = c.args.first.now.view in
    let inv = c.rounds.invariant in
    let did = c.rounds-test.true in
    let any = c.rounds.any in
    let v = c.rounds.first.view in
    let w = c.round.new.first.view in
    let u = c.look-any-in-rounds.new.first.view in
    let more = c.look-any-in-rounds.result in
    let n = length c.nets.result.now in
    let count = length c.rounds.workers.idle.items in
    let look = c.look-any-in-rounds.ensures.looked in
    let first : begin.base.setting ≡ a = ap (λ (r : Run). r.setting) c.requires.own.run in
    let own : v.base.setting ≡ a = ap (λ (r : Run). r.setting) inv.own.run in
    let later : w.base.setting ≡ a = ap (λ (r : Run). r.setting) c.round.ensures.own.run in
    let nets : nets_of v.base.setting ≡ length d.nets = ap nets_of own ∙ ap (λ (x : Parts). length x.nets) design in
    let wide : nets_of w.base.setting ≡ length d.nets = ap nets_of later ∙ ap (λ (x : Parts). length x.nets) design in
    let all : n ≡ nets_of v.base.setting = ap length c.nets.ensures.value ∙ sym nets in
    let whole : n ≡ nets_of w.base.setting = ap length c.nets.ensures.value ∙ sym wide in
    let there = some_nets any v inv.last did in
    let rest = c.look-any-in-rounds.ensures.rested (omega (arith, there, all)) in
    let order = c.requires.run.whole.ordered.0 in
    let o : IsOrder v.base.setting.design.nets order = subst (λ (x : Parts). IsOrder x.nets order) (sym (ap (λ (x : Setting). x.design) own ∙ design)) c.requires.run.whole.ordered.1 in
    let gathered = c.round.ensures.gathered order c.requires.run.whole.ordered.1 in
    let some : 0 < count = let k = c.requires.some in let e = inv.count in omega (arith, k, e) in
    let begun = subst (λ (x : Setting). AreKept x begin.base.seen) first c.look-any.ensures.kept in
    let carried : HasCarried a v.base.seen u.base.seen = subst (λ (x : Setting). HasCarried x v.base.seen u.base.seen) own (turn_carries order any v w u count more inv.last gathered some o rest n all look) in
    let moves = turn_moves order any v w u count more inv.last gathered some o rest n all look in
    let made = turn_made order any v w u count more inv.last gathered some o rest n all look in
    record {
      own = c.look-any-in-rounds.ensures.own;
      alone = looked_alone w n more u look c.round.ensures.alone;
      free = looked_free w n more u look c.round.ensures.free;
      idle = c.round.ensures.idle;
      count = c.round.ensures.count ∙ inv.count;
      last = last_look w n more u whole look;
      kept = carried.kept;
      closed = look_closed a d w u n more later design look c.look-any-in-rounds.ensures.closed;
      moving = turn_more a c.rounds.rounds more begin.base.seen v.base.seen u.base.seen begun (inv.moving did) carried moves;
      turns = marked_more a c.rounds.rounds begin.base.seen v.base.seen u.base.seen (inv.moving did) carried;
      split = λ _. turn_split order any v w u count more inv.last gathered some o rest n all look ∙ inv.count;
      made = made_more begin.base.made v.base.made u.base.made (length d.nets) c.rounds.rounds inv.made (omega (arith, made, nets));
    }

pub returns-clause-clear : goal.returns-clause-clear
returns-clause-clear g c = λ net lt.
    let a = c.args.run.now.board.now.run.setting in
    let inv = c.rounds.invariant in
    let w = c.rounds.first.view in
    let nets : nets_of w.base.setting ≡ length c.args.run.now.design.now.nets = ap (λ (r : Run). nets_of r.setting) inv.own.run ∙ ap (λ (x : Parts). length x.nets) c.requires.run.design in
    all_clear c.rounds.any w net inv.last c.rounds-test.false (omega (arith, lt, nets))

pub returns-clause-few : goal.returns-clause-few
returns-clause-few g c = λ bound b.
    let a = c.args.run.now.board.now.run.setting in
    let v = c.args.first.now.view in
    let own : v.base.setting ≡ a = ap (λ (r : Run). r.setting) c.requires.own.run in
    let begun = subst (λ (x : Setting). AreKept x v.base.seen) own c.look-any.ensures.kept in
    turns_few a c.args.run.now.design.now c.rounds.rounds bound v.base.seen c.rounds.first.view.base.seen c.requires.run.design begun c.rounds.invariant.turns b

pub look-any-requires-clause-own : goal.look-any-requires-clause-own
look-any-requires-clause-own g c = c.requires.own

pub look-any-requires-clause-alone : goal.look-any-requires-clause-alone
look-any-requires-clause-alone g c = c.requires.alone

pub look-any-requires-clause-free : goal.look-any-requires-clause-free
look-any-requires-clause-free g c = c.requires.free

pub look-any-requires-clause-count : goal.look-any-requires-clause-count
look-any-requires-clause-count g c = ap length c.nets.ensures.value ∙ sym (ap (λ (r : Run). nets_of r.setting) c.requires.own.run ∙ ap (λ (x : Parts). length x.nets) c.requires.run.design)

pub look-any-requires-in-rounds-clause-own : goal.look-any-requires-in-rounds-clause-own
look-any-requires-in-rounds-clause-own g c = c.round.ensures.own

pub look-any-requires-in-rounds-clause-alone : goal.look-any-requires-in-rounds-clause-alone
look-any-requires-in-rounds-clause-alone g c = c.round.ensures.alone

pub look-any-requires-in-rounds-clause-free : goal.look-any-requires-in-rounds-clause-free
look-any-requires-in-rounds-clause-free g c = c.round.ensures.free

pub look-any-requires-in-rounds-clause-count : goal.look-any-requires-in-rounds-clause-count
look-any-requires-in-rounds-clause-count g c = ap length c.nets.ensures.value ∙ sym (ap (λ (r : Run). nets_of r.setting) c.round.ensures.own.run ∙ ap (λ (x : Parts). length x.nets) c.requires.run.design)

pub overflow_add-rounds : goal.overflow_add-rounds
overflow_add-rounds g c = let below = c.if-prove.false in let far = c.bound-bound.ensures.below in omega (arith, below, far)

pub round-requires-clause-run : goal.round-requires-clause-run
round-requires-clause-run g c = λ _ _. c.requires.run

pub round-requires-clause-own : goal.round-requires-clause-own
round-requires-clause-own g c = λ _ _. c.rounds.invariant.own

pub round-requires-clause-alone : goal.round-requires-clause-alone
round-requires-clause-alone g c = λ _ _. c.rounds.invariant.alone

pub round-requires-clause-free : goal.round-requires-clause-free
round-requires-clause-free g c = λ _ _. c.rounds.invariant.free

pub round-requires-clause-idle : goal.round-requires-clause-idle
round-requires-clause-idle g c = λ _ _. c.rounds.invariant.idle

pub round-requires-clause-some : goal.round-requires-clause-some
round-requires-clause-some g c = λ _ _. let same = c.rounds.invariant.count in let some = c.requires.some in omega (arith, same, some)

pub round-requires-clause-few : goal.round-requires-clause-few
round-requires-clause-few g c = λ _ _. let same = c.rounds.invariant.count in let few = c.requires.few in omega (arith, same, few)

pub returns-clause-own : goal.returns-clause-own
returns-clause-own g c = c.rounds.invariant.own

pub returns-clause-alone : goal.returns-clause-alone
returns-clause-alone g c = c.rounds.invariant.alone

pub returns-clause-free : goal.returns-clause-free
returns-clause-free g c = c.rounds.invariant.free

pub returns-clause-kept : goal.returns-clause-kept
returns-clause-kept g c = c.rounds.invariant.kept

pub returns-clause-closed : goal.returns-clause-closed
returns-clause-closed g c = c.rounds.invariant.closed c.rounds-test.false

pub returns-clause-split : goal.returns-clause-split
returns-clause-split g c = c.rounds.invariant.split

pub returns-clause-made : goal.returns-clause-made
returns-clause-made g c = c.rounds.invariant.made

pub returns-clause-turns : goal.returns-clause-turns
returns-clause-turns g c = c.rounds.invariant.turns
