use Rattle.std.proofs.Common.{sym, ap, subst, ◌∙◌, length}
use Rattle.xt_model.specs.declared.direction.Direction.TheVariants.{Narrow, Widen}
use Rattle.xt_meaning.specs.Barrier.{IsFittingStart}
use Rattle.eco_warm.proofs.Begun.{high_start_fits, low_start_fits, same_count}
use Rattle.eco_warm.proofs.run_starts.starts.Goals as goal

pub prove-unreachable-requires : goal.prove-unreachable-requires
prove-unreachable-requires c =
    let count = same_count c.args.before.now c.args.after.now.design c.args.after.now.change c.requires.edit in
    c.if-prove.true (ap length c.nets.ensures.value ∙ (count ∙ (sym c.requires.high.fixpoint.windows.count ∙ sym (ap length c.pairs.ensures.value))))

pub returns-clause-low_fits : goal.returns-clause-low_fits
returns-clause-low_fits c =
    let new = c.args.after.now.design in
    subst (IsFittingStart Widen new) (sym c.in_ok-low_start.ensures)
    (low_start_fits c.args.before.now new c.args.after.now.change c.args.low.now c.args.top.now c.requires.edit c.nets.ensures.sound c.nets.ensures.levelled c.requires.low c.requires.envelope c.requires.accepted)

pub returns-clause-high_fits : goal.returns-clause-high_fits
returns-clause-high_fits c =
    let new = c.args.after.now.design in
    subst (IsFittingStart Narrow new) (sym c.in_ok-high_start.ensures)
    (high_start_fits c.args.before.now new c.args.after.now.change c.args.high.now c.args.top.now c.requires.edit c.nets.ensures.sound c.nets.ensures.levelled c.requires.high c.requires.envelope c.requires.accepted)
