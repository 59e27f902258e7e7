use Rattle.std.proofs.Common.{◌≡◌, ◌↔◌, refl, subst, List}
use Rattle.xt_model.specs.declared.direction.Direction.TheVariants.{Widen}
use Rattle.xt_model.specs.declared.quad.Pair.{Pair}
use Rattle.xt_meaning.specs.Fixpoint.{IsFixpoint}
use Rattle.xt_meaning.specs.Words.{numbers_of}
use Rattle.chaos_core.specs.Rounds.{AreTurns}
use Rattle.chaos_run.specs.Rounds.{SettlesAlone}
use Rattle.chaos_run.proofs.both.run_both.Goals as goal

pub settle_from-requires-clause-start : goal.settle_from-requires-clause-start
settle_from-requires-clause-start g c = λ _ _. c.in_ok-bottom.ensures.starts c.args.top.now c.requires.start.within

pub returns-clause-few : goal.returns-clause-few
returns-clause-few g c = λ bound b. (c.in_ok-low.ensures.few bound b, c.in_ok-high.ensures.few bound b)

pub returns-clause-consistent : goal.returns-clause-consistent
returns-clause-consistent g c = c.in_ok-high.ensures.consistent refl

pub settle_from-requires-clause-lists : goal.settle_from-requires-clause-lists
settle_from-requires-clause-lists g c = λ _ _. c.requires.lists

pub settle_from-requires-clause-some : goal.settle_from-requires-clause-some
settle_from-requires-clause-some g c = λ _ _. c.requires.some

pub settle_from-requires-clause-few : goal.settle_from-requires-clause-few
settle_from-requires-clause-few g c = λ _ _. c.requires.few

pub settle_from-requires-2-clause-start : goal.settle_from-requires-2-clause-start
settle_from-requires-2-clause-start g c = λ _ _. c.requires.start

pub settle_from-requires-2-clause-lists : goal.settle_from-requires-2-clause-lists
settle_from-requires-2-clause-lists g c = λ _ _. c.requires.lists

pub settle_from-requires-2-clause-some : goal.settle_from-requires-2-clause-some
settle_from-requires-2-clause-some g c = λ _ _. c.requires.some

pub settle_from-requires-2-clause-few : goal.settle_from-requires-2-clause-few
settle_from-requires-2-clause-few g c = λ _ _. c.requires.few

pub returns-clause-least : goal.returns-clause-least
returns-clause-least g c = c.in_ok-low.ensures.extreme

pub returns-clause-greatest : goal.returns-clause-greatest
returns-clause-greatest g c = c.in_ok-high.ensures.extreme

pub returns-clause-low_closed : goal.returns-clause-low_closed
returns-clause-low_closed g c = subst (λ (v : List Pair). (c.in_ok-low.low.rounds ≡ 0) ↔ IsFixpoint c.args.design.now v) c.in_ok-bottom.ensures.quiet c.in_ok-low.ensures.closed

pub returns-clause-high_closed : goal.returns-clause-high_closed
returns-clause-high_closed g c = c.in_ok-high.ensures.closed

pub returns-clause-low_turns : goal.returns-clause-low_turns
returns-clause-low_turns g c =
    let d = c.args.design.now in
    subst (λ (v : List Pair). AreTurns (record { design = d; way = Widen; start = v }) c.in_ok-low.low.rounds (numbers_of v) (numbers_of c.in_ok-low.low.windows)) c.in_ok-bottom.ensures.quiet c.in_ok-low.ensures.turns

pub returns-clause-high_turns : goal.returns-clause-high_turns
returns-clause-high_turns g c = c.in_ok-high.ensures.turns

pub returns-clause-low_alone : goal.returns-clause-low_alone
returns-clause-low_alone g c = λ one.
    let d = c.args.design.now in
    subst (λ (v : List Pair). SettlesAlone (record { design = d; way = Widen; start = v }) c.args.lists.now c.in_ok-low.low.windows c.in_ok-low.low.rounds) c.in_ok-bottom.ensures.quiet (c.in_ok-low.ensures.alone one)

pub returns-clause-high_alone : goal.returns-clause-high_alone
returns-clause-high_alone g c = c.in_ok-high.ensures.alone
