use Rattle.std.proofs.Common.{arith}
use Rattle.std.proofs.lemmas.Result.{IfOk-weaker}
use Rattle.chaos_core.specs.declared.setting.Setting.{Setting}
use Rattle.chaos_run.proofs.Turned.{settles_from, turns_picked}
use Rattle.chaos_run.proofs.both.settle_from.Goals as goal

pub returns-then-workers-eq1-clause-closed : goal.returns-then-workers-eq1-clause-closed
returns-then-workers-eq1-clause-closed g c =
    let a : Setting = record { design = c.args.design.now; way = c.args.direction; start = c.args.start.now } in
    let o = c.requires.lists.ordered in
    IfOk-weaker c.settle_picked.result _ _ (λ settled h. settles_from a c.args.lists.now o.0 1 0 settled.windows settled.rounds (omega arith) c.requires.lists o.1 c.requires.start (h o.0 o.1))
    c.settle_picked.ensures.rounds

pub returns-then-workers-eq1-clause-turns : goal.returns-then-workers-eq1-clause-turns
returns-then-workers-eq1-clause-turns g c =
    let a : Setting = record { design = c.args.design.now; way = c.args.direction; start = c.args.start.now } in
    let o = c.requires.lists.ordered in
    IfOk-weaker c.settle_picked.result _ _ (λ settled h. turns_picked a c.args.lists.now o.0 1 0 settled.windows settled.rounds (omega arith) c.requires.lists o.1 c.requires.start (h o.0 o.1))
    c.settle_picked.ensures.rounds

pub settle_picked-requires-clause-start : goal.settle_picked-requires-clause-start
settle_picked-requires-clause-start g c = c.requires.start

pub settle_picked-requires-clause-lists : goal.settle_picked-requires-clause-lists
settle_picked-requires-clause-lists g c = c.requires.lists

pub settle_picked-requires-clause-some : goal.settle_picked-requires-clause-some
settle_picked-requires-clause-some g c = omega arith

pub settle_picked-requires-clause-few : goal.settle_picked-requires-clause-few
settle_picked-requires-clause-few g c = omega arith

pub returns-then-workers-eq1-clause-extreme : goal.returns-then-workers-eq1-clause-extreme
returns-then-workers-eq1-clause-extreme g c = c.settle_picked.ensures.extreme

pub returns-then-workers-eq1-clause-alone : goal.returns-then-workers-eq1-clause-alone
returns-then-workers-eq1-clause-alone g c = λ _. c.settle_picked.ensures.rounds

pub returns-then-workers-eq1-clause-consistent : goal.returns-then-workers-eq1-clause-consistent
returns-then-workers-eq1-clause-consistent g c = c.settle_picked.ensures.consistent

pub settle_from_in-requires-clause-room : goal.settle_from_in-requires-clause-room
settle_from_in-requires-clause-room g c = λ _ _. c.in_ok-room.ensures.room

pub settle_from_in-requires-clause-start : goal.settle_from_in-requires-clause-start
settle_from_in-requires-clause-start g c = λ _ _. c.requires.start

pub settle_from_in-requires-clause-lists : goal.settle_from_in-requires-clause-lists
settle_from_in-requires-clause-lists g c = λ _ _. c.requires.lists

pub settle_from_in-requires-clause-some : goal.settle_from_in-requires-clause-some
settle_from_in-requires-clause-some g c = λ _ _. let count = c.in_ok-room.ensures.count in let some = c.requires.some in omega (arith, count, some)

pub settle_from_in-requires-clause-few : goal.settle_from_in-requires-clause-few
settle_from_in-requires-clause-few g c = λ _ _. let count = c.in_ok-room.ensures.count in let few = c.requires.few in omega (arith, count, few)

pub returns-clause-extreme : goal.returns-clause-extreme
returns-clause-extreme g c = c.settle_from_in.ensures.extreme

pub returns-clause-closed : goal.returns-clause-closed
returns-clause-closed g c = c.settle_from_in.ensures.closed

pub returns-clause-few : goal.returns-clause-few
returns-clause-few g c = c.settle_from_in.ensures.few

pub returns-clause-turns : goal.returns-clause-turns
returns-clause-turns g c = c.settle_from_in.ensures.turns

pub returns-clause-consistent : goal.returns-clause-consistent
returns-clause-consistent g c = c.settle_from_in.ensures.consistent

pub returns-clause-alone : goal.returns-clause-alone
returns-clause-alone g c = λ one. let several = c.if-workers-eq1.false in absurd (omega (arith, one, several))
