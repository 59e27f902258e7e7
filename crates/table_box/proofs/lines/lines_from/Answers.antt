-- Each line passed lies at or below the number, and those behind the one that it lies below lie higher.
use Rattle.std.proofs.Common.{length, refl, subst, ℤ, to_z-of_z}
use Rattle.table_box.specs.Spans.{ReachUpTo}
use Rattle.table_box.proofs.Places.{not_below, reach_all, reach_to, reached_more}
use Rattle.table_box.proofs.lines.lines_from.Goals as goal

pub returns-then-is_below : goal.returns-then-is_below
returns-then-is_below c =
    let P : ℤ → Type 0 = λ y. ReachUpTo c.args.index.now y c.loop-line.line in
    subst P (to_z-of_z c.ranges.x) (reach_to _ _ _ c.requires.index c.loop-line-test.true c.loop-line.invariant (c.if-is_below.ensures.0 refl))

pub loop-line-preserved : goal.loop-line-preserved
loop-line-preserved c = reached_more _ _ _ c.loop-line.invariant (not_below _ _ _ c.is_below.ensures.1 c.if-is_below.false)

pub returns : goal.returns
returns c =
    let P : ℤ → Type 0 = λ y. ReachUpTo c.args.index.now y (length c.args.index.now) in
    subst P (to_z-of_z c.ranges.x) (reach_all _ _ _ c.loop-line-test.false c.loop-line.invariant)
