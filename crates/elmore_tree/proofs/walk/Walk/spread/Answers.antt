use Rattle.std.proofs.Common.{◌<◌, length, get_or, sym, ◌∙◌, arith, inl, inr, rules}
use Rattle.std.proofs.lemmas.Bool.{or_cases}
use Rattle.elmore_tree.proofs.Bools.{eqb_is}
use Rattle.elmore_tree.proofs.Rows.{is_on_at, is_on_more, touched_within, across_joins_at, across_is_at}
use Rattle.elmore_tree.proofs.walk.Walk.spread.Goals as goal

pub offset_bounds-resistors-number : goal.offset_bounds-resistors-number
offset_bounds-resistors-number c =
    let touches = c.requires.touch _ (is_on_at c.args.around.now c.loop-number.number-index (omega arith)) in
    let lt : get_or c.args.around.now c.loop-number.number-index 0 < length c.resistors.result.now = rw c.resistors.ensures.value (touched_within c.args.tree.now _ _ touches) in
    search rules

pub bounds-resistors-number : goal.bounds-resistors-number
bounds-resistors-number c =
    let touches = c.requires.touch _ (is_on_at c.args.around.now c.loop-number.number-index (omega arith)) in
    rw c.resistors.ensures.value (touched_within c.args.tree.now _ _ touches)

pub reach-requires-clause-joins : goal.reach-requires-clause-joins
reach-requires-clause-joins c =
    let touches = c.requires.touch _ (is_on_at c.args.around.now c.loop-number.number-index (omega arith)) in
    across_joins_at c.args.tree.now _ _ _ _ _ c.resistors.ensures.value touches c.far_end-to.ensures

pub loop-number-preserved : goal.loop-number-preserved
loop-number-preserved c =
    let touches = c.requires.touch _ (is_on_at c.args.around.now c.loop-number.number-index (omega arith)) in
    record {
      walk = c.in_ok-reach.ensures.walk;
      steps = c.in_ok-reach.ensures.steps ∙ c.loop-number.invariant.steps;
      keeps = λ k h. c.in_ok-reach.ensures.keeps k (c.loop-number.invariant.keeps k h);
      each = λ j b on joins. elim (or_cases _ _ (sym (is_on_more c.args.around.now c.loop-number.number-index j (omega arith)) ∙ on)) [
        | inl earlier ↦ c.in_ok-reach.ensures.keeps b (c.loop-number.invariant.each j b earlier joins)
        | inr last ↦
            let here = rw (← eqb_is _ j last) at joins in
            rw (← across_is_at c.args.tree.now _ _ _ _ _ _ c.resistors.ensures.value touches c.far_end-to.ensures here) c.in_ok-reach.ensures.marks
      ];
    }
