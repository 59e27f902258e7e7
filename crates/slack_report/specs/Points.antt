-- What a check point tells of itself.
use Rattle.std.specs.Prelude.{◌≡◌, ℕ, Bool, false, List, Some}
use Rattle.std.specs.List.{slice_get}
use Rattle.xt_model.specs.declared.net.NetId.{NetId}
use Rattle.xt_model.specs.declared.check.CheckPoint.{CheckPoint}
use Rattle.xt_model.specs.declared.check.CheckPoint.TheVariants.{Flop, Port}
use Rattle.xt_model.specs.Quads.{IsLive}
use Rattle.xt_model.specs.Parts.{Parts}
use Rattle.xt_model.specs.Assign.{Assignment}
use Rattle.slack_report.specs.declared.slack.Slack.{Slack}

abbrev pub point_name : CheckPoint → List ℕ
point_name (Flop name hold datum datum_sink clock clock_sink rise fall) = name
point_name (Port name hold net sink rise fall) = name

-- whether a check point tests hold, and not setup
abbrev pub is_hold : CheckPoint → Bool
is_hold (Flop name hold datum datum_sink clock clock_sink rise fall) = hold
is_hold (Port name hold net sink rise fall) = hold

-- the net whose data has to be in time
abbrev pub data_net : CheckPoint → NetId
data_net (Flop name hold datum datum_sink clock clock_sink rise fall) = datum
data_net (Port name hold net sink rise fall) = net

-- the number of the sink of that net where it has to be so
abbrev pub data_number : CheckPoint → ℕ
data_number (Flop name hold datum datum_sink clock clock_sink rise fall) = datum_sink
data_number (Port name hold net sink rise fall) = sink

-- a slack of a check point of the design; where it is not idle, the edge of the data switches in these windows
pub record IsAtPoint (d : Parts) (W : Assignment) (s : Slack) : Type 0 where
  pub point : CheckPoint
  pub there : slice_get d.checks s.point ≡ Some point
  pub switches : s.idle ≡ false → IsLive (W (data_net point).0 s.edge)
