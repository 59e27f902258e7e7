-- The lines on checks: how early data is for the places where it has to be in time.
use Rattle.std.specs.Prelude.{ℕ, Bool, if◌then◌else◌, List, [], ◌∷◌, map, codes, Option, Some, None}
use Rattle.std.specs.List.{slice_get}
use Rattle.xt_model.specs.declared.check.CheckPoint.{CheckPoint}
use Rattle.xt_model.specs.Parts.{Parts}
use Rattle.text_lines.specs.Lines.{Line}
use Rattle.text_lines.specs.Words.{edge_word, check_word}
use Rattle.xt_number.specs.Thousandths.{thousandths}
use Rattle.slack_report.specs.declared.slack.Slack.{Slack}
use Rattle.slack_report.specs.Points.{is_hold, point_name}

-- a check of the point of this name: its slack in the greatest windows and in the least, or that it is idle
abbrev pub slack_line : List ℕ → Bool → Slack → Line
slack_line name hold s =
    if s.idle then codes "check" ∷ name ∷ edge_word s.edge ∷ check_word hold ∷ codes "idle" ∷ []
    else codes "check" ∷ name ∷ edge_word s.edge ∷ check_word hold ∷ thousandths s.greatest ∷ thousandths s.least ∷ []

abbrev pub point_line : Slack → Option CheckPoint → Line
point_line s None = []
point_line s (Some p) = slack_line (point_name p) (is_hold p) s

-- the line of a check: its point, the edge of its data, its kind and its slacks
abbrev pub check_line : Parts → Slack → Line
check_line d s = point_line s (slice_get d.checks s.point)

-- one line for each of these checks
abbrev pub check_lines : Parts → List Slack → List Line
check_lines d slacks = map (check_line d) slacks
