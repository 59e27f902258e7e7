use Rattle.std.proofs.Common.{◌<◌, length, reverse}
use Rattle.xt_model.specs.Levels.{IsLevel}
use Rattle.xt_model.specs.Quads.{IsLive}
use Rattle.xt_model.specs.Assign.{assigned}
use Rattle.aggressor_report.specs.Paths.{Lead}
use Rattle.aggressor_report.proofs.walk.worst_path.Given as goal

abbrev pub invariant-back : goal.invariant-back
invariant-back l = record {
  net : l.at.0 < length l.design.nets;
  live : IsLive (assigned l.windows l.at.0 l.at_edge);
  level : IsLevel l.design.nets l.at.0 l.level;
  steps : Lead l.late l.design (assigned l.windows) l.at.0 l.at_edge (reverse l.steps.items) l.fn.net.0 l.fn.edge;
}

abbrev pub decreases-back : goal.decreases-back
decreases-back l = l.level
