use Rattle.std.proofs.Common.{◌≤◌, length}
use Rattle.xt_model.specs.Levels.{AreLevelled}
use Rattle.xt_model.specs.Sound.{IsSound}
use Rattle.call_meaning.specs.Outcome.{Outcome}
use Rattle.call_meaning.specs.Eco.{HasEnvelope, LinesMean, lines_of, most_edits}
use Rattle.xtalk_top.proofs.edits.after_edits.Given as goal

abbrev pub invariant-lines : goal.invariant-lines
invariant-lines l = record {
  leads : (o : Outcome) → LinesMean l.file (lines_of l.rest) l.count l.design o → LinesMean l.file (lines_of l.text) 0 l.fn.design o;
  sound : IsSound l.design;
  levelled : AreLevelled l.design.nets;
  top : HasEnvelope l.design l.top;
  few : l.count ≤ most_edits;
}

abbrev pub decreases-lines : goal.decreases-lines
decreases-lines l = length l.rest
