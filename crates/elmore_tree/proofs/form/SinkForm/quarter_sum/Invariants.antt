use Rattle.elmore_tree.specs.Quarters.{IsQuarterSum}
use Rattle.elmore_tree.proofs.form.SinkForm.quarter_sum.Given as goal

abbrev pub invariant-loop-index : goal.invariant-loop-index
invariant-loop-index l = IsQuarterSum l.self l.factors l.index l.sum
