-- The worst check of a kind, and the path by which its data comes.
use Rattle.std.specs.Prelude.{◌≡◌, ℕ, Bool, true, false, not, List, Option, Some, None}
use Rattle.std.specs.List.{slice_get}
use Rattle.xt_model.specs.declared.check.CheckPoint.{CheckPoint}
use Rattle.xt_model.specs.Parts.{Parts}
use Rattle.xt_model.specs.declared.quad.Pair.{Pair}
use Rattle.xt_model.specs.Assign.{Assignment, assigned}
use Rattle.sink_windows.specs.Sinks.{wire_in}
use Rattle.slack_report.specs.declared.slack.Slack.{Slack}
use Rattle.slack_report.specs.Points.{data_net, data_number}
use Rattle.slack_report.specs.Kinds.{IsWorst, HasNone}
use Rattle.slack_report.specs.Slacks.{slacks}
use Rattle.aggressor_report.specs.Passages.{end_of}
use Rattle.aggressor_report.specs.Paths.{IsPath}
use Rattle.report_text.specs.declared.worst.WorstPath.{WorstPath}
use Rattle.report_text.specs.declared.checked.Checked.{Checked}

-- the worst of all checks of a kind, the path of its data in these windows, and the wire from the end of the path to
-- the place of the check: for setup the latest path and the greatest delay of the wire, for hold the earliest path and
-- the least
pub record IsWorstPath (d : Parts) (W : Assignment) (hold : Bool) (all : List Slack) (w : WorstPath) : Type 0 where
  pub number : ℕ
  pub worst : IsWorst d hold all number w.slack
  pub point : CheckPoint
  pub there : slice_get d.checks w.slack.point ≡ Some point
  pub path : IsPath (not hold) d W (data_net point).0 w.slack.edge w.path
  pub wire : w.wire ≡ end_of (not hold) (wire_in d W (data_net point).0 w.slack.edge (data_number point))

-- where all checks of the kind are idle there is none
abbrev pub IsWorstOf : Parts → Assignment → Bool → List Slack → Option WorstPath → Type 0
IsWorstOf d W hold all None = HasNone d hold all
IsWorstOf d W hold all (Some w) = IsWorstPath d W hold all w

-- the slacks of a design's checks in its least and its greatest windows, and the worst of each kind
pub record IsChecked (d : Parts) (low high : List Pair) (c : Checked) : Type 0 where
  pub slacks : c.slacks ≡ slacks d low high
  pub setup : IsWorstOf d (assigned high) false c.slacks c.setup
  pub hold : IsWorstOf d (assigned high) true c.slacks c.hold
