use Rattle.std.proofs.Common.{arith}
use Rattle.std.proofs.lemmas.Result.{IfOk-weaker}
use Rattle.chaos_core.specs.declared.setting.Setting.{Setting}
use Rattle.dirty_run.proofs.Still.{alone_turns}
use Rattle.dirty_run.proofs.starting.settle_dirty_from.Goals as goal

pub returns-then-workers-eq1-clause-few : goal.returns-then-workers-eq1-clause-few
returns-then-workers-eq1-clause-few g c = IfOk-weaker c.settle_alone.result _ _ (λ settled h bound b. let few = h bound b in omega (arith, few)) c.settle_alone.ensures.few

pub returns-then-workers-eq1-clause-turns : goal.returns-then-workers-eq1-clause-turns
returns-then-workers-eq1-clause-turns g c =
    let a : Setting = record { design = c.args.design.now; way = c.args.direction; start = c.args.start.now } in
    let o = c.requires.lists.ordered in
    IfOk-weaker c.settle_alone.result _ _ (λ settled h. alone_turns a c.args.lists.now o.0 settled.windows settled.rounds c.requires.lists o.1 c.requires.start (h o.0 o.1)) c.settle_alone.ensures.rounds

pub settle_alone-requires-clause-start : goal.settle_alone-requires-clause-start
settle_alone-requires-clause-start g c = λ _ _. c.requires.start

pub settle_alone-requires-clause-lists : goal.settle_alone-requires-clause-lists
settle_alone-requires-clause-lists g c = λ _ _. c.requires.lists

pub settle_dirty_among-requires-clause-start : goal.settle_dirty_among-requires-clause-start
settle_dirty_among-requires-clause-start g c = λ _ _. c.requires.start

pub settle_dirty_among-requires-clause-lists : goal.settle_dirty_among-requires-clause-lists
settle_dirty_among-requires-clause-lists g c = λ _ _. c.requires.lists

pub settle_dirty_among-requires-clause-readers : goal.settle_dirty_among-requires-clause-readers
settle_dirty_among-requires-clause-readers g c = λ _ _. c.in_ok-readers.ensures c.args.design.now c.requires.lists

pub settle_dirty_among-requires-clause-some : goal.settle_dirty_among-requires-clause-some
settle_dirty_among-requires-clause-some g c = λ _ _. c.requires.some

pub settle_dirty_among-requires-clause-few : goal.settle_dirty_among-requires-clause-few
settle_dirty_among-requires-clause-few g c = λ _ _. c.requires.few

pub returns-then-workers-eq1-clause-extreme : goal.returns-then-workers-eq1-clause-extreme
returns-then-workers-eq1-clause-extreme g c = c.settle_alone.ensures.extreme

pub returns-then-workers-eq1-clause-consistent : goal.returns-then-workers-eq1-clause-consistent
returns-then-workers-eq1-clause-consistent g c = c.settle_alone.ensures.consistent

pub returns-clause-extreme : goal.returns-clause-extreme
returns-clause-extreme g c = c.settle_dirty_among.ensures.extreme

pub returns-clause-few : goal.returns-clause-few
returns-clause-few g c = c.settle_dirty_among.ensures.few

pub returns-clause-turns : goal.returns-clause-turns
returns-clause-turns g c = c.settle_dirty_among.ensures.turns

pub returns-clause-consistent : goal.returns-clause-consistent
returns-clause-consistent g c = c.settle_dirty_among.ensures.consistent
