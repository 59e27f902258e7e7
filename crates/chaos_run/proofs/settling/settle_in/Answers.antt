use Rattle.std.proofs.Common.{List, ℕ, subst, length, sym, ap, ◌∙◌}
use Rattle.xt_model.specs.declared.direction.Direction.{Direction}
use Rattle.xt_meaning.specs.Laws.{IsExtremeFixpoint}
use Rattle.run_laws.proofs.Hulls.{within_greatest}
use Rattle.chaos_core.specs.Rounds.{AreTurns}
use Rattle.table_box.specs.Groups.{AreGroups}
use Rattle.chaos_run.proofs.settling.settle_in.Goals as goal

pub returns-clause-consistent : goal.returns-clause-consistent
returns-clause-consistent g c = λ narrow xs are.
    let d = c.args.design.now in
    let found = c.run_rounds-rounds.ensures in
    let within = found.fits.within in
    let o = c.requires.lists.ordered.1 in
    within_greatest d o.0 within.top c.run_rounds-rounds.new.windows xs c.requires.lists.sound o.1 within.envelope
    (subst (λ (way : Direction). IsExtremeFixpoint way d c.run_rounds-rounds.new.windows) narrow found.extreme) are

pub returns-clause-turns : goal.returns-clause-turns
returns-clause-turns g c =
    let found = c.run_rounds-rounds.ensures in
    subst (λ (words : List ℕ). AreTurns c.args.board.now.setting c.run_rounds-rounds.result c.args.first.now.view.seen words) found.seen found.turns

pub run_rounds-rounds-requires-clause-groups : goal.run_rounds-rounds-requires-clause-groups
run_rounds-rounds-requires-clause-groups g c = λ _ _. subst (AreGroups c.args.design.now.tables) (sym c.as_slice.ensures.value) c.requires.room.groups

pub run_rounds-rounds-requires-clause-run : goal.run_rounds-rounds-requires-clause-run
run_rounds-rounds-requires-clause-run g c = λ _ _. record { design = c.requires.design; way = c.requires.direction; whole = c.requires.lists }

pub run_rounds-rounds-requires-clause-own : goal.run_rounds-rounds-requires-clause-own
run_rounds-rounds-requires-clause-own g c = λ _ _. c.requires.own

pub run_rounds-rounds-requires-clause-alone : goal.run_rounds-rounds-requires-clause-alone
run_rounds-rounds-requires-clause-alone g c = λ _ _. c.requires.alone

pub run_rounds-rounds-requires-clause-idle : goal.run_rounds-rounds-requires-clause-idle
run_rounds-rounds-requires-clause-idle g c = λ _ _. c.requires.room.idle

pub run_rounds-rounds-requires-clause-some : goal.run_rounds-rounds-requires-clause-some
run_rounds-rounds-requires-clause-some g c = λ _ _. c.requires.some

pub run_rounds-rounds-requires-clause-few : goal.run_rounds-rounds-requires-clause-few
run_rounds-rounds-requires-clause-few g c = λ _ _. c.requires.few

pub run_rounds-rounds-requires-clause-count : goal.run_rounds-rounds-requires-clause-count
run_rounds-rounds-requires-clause-count g c = λ _ _. c.requires.room.count

pub run_rounds-rounds-requires-clause-before : goal.run_rounds-rounds-requires-clause-before
run_rounds-rounds-requires-clause-before g c = λ _ _. c.requires.room.before

pub run_rounds-rounds-requires-clause-unmoved : goal.run_rounds-rounds-requires-clause-unmoved
run_rounds-rounds-requires-clause-unmoved g c = λ _ _. ap length c.as_mut_slice.ensures.value ∙ c.requires.room.unmoved

pub run_rounds-rounds-requires-clause-marks : goal.run_rounds-rounds-requires-clause-marks
run_rounds-rounds-requires-clause-marks g c = λ _ _. ap length c.as_mut_slice-2.ensures.value ∙ c.requires.room.marks

pub returns-clause-own : goal.returns-clause-own
returns-clause-own g c = c.run_rounds-rounds.ensures.own

pub returns-clause-alone : goal.returns-clause-alone
returns-clause-alone g c = c.run_rounds-rounds.ensures.alone

pub returns-clause-extreme : goal.returns-clause-extreme
returns-clause-extreme g c = c.run_rounds-rounds.ensures.extreme

pub returns-clause-seen : goal.returns-clause-seen
returns-clause-seen g c = c.run_rounds-rounds.ensures.seen

pub returns-clause-closed : goal.returns-clause-closed
returns-clause-closed g c = c.run_rounds-rounds.ensures.closed

pub returns-clause-split : goal.returns-clause-split
returns-clause-split g c = c.run_rounds-rounds.ensures.split

pub returns-clause-few : goal.returns-clause-few
returns-clause-few g c = c.run_rounds-rounds.ensures.few

pub returns-clause-made : goal.returns-clause-made
returns-clause-made g c = c.run_rounds-rounds.ensures.made
