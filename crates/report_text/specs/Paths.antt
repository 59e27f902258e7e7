-- The lines on the worst check of a kind and on the path of its data.
use Rattle.std.specs.Prelude.{◌<◌, ℤ, List, [], ◌∷◌, ◌++◌, length, map, codes, Option, Some, None}
use Rattle.std.specs.Prelude.{IfSome}
use Rattle.std.specs.List.{All, slice_get}
use Rattle.xt_model.specs.declared.check.CheckPoint.{CheckPoint}
use Rattle.xt_model.specs.Parts.{Parts}
use Rattle.text_lines.specs.Lines.{Line}
use Rattle.text_lines.specs.Words.{edge_word, check_word}
use Rattle.xt_number.specs.Thousandths.{thousandths}
use Rattle.slack_report.specs.declared.slack.Slack.{Slack}
use Rattle.slack_report.specs.Points.{is_hold, point_name}
use Rattle.aggressor_report.specs.declared.path.Path.{Path}
use Rattle.aggressor_report.specs.declared.path.PathStep.{PathStep}
use Rattle.report_text.specs.declared.worst.WorstPath.{WorstPath}
use Rattle.report_text.specs.declared.checked.Checked.{Checked}
use Rattle.report_text.specs.Names.{name_at}

abbrev pub worst_point_line : Slack → Option CheckPoint → Line
worst_point_line s None = []
worst_point_line s (Some p) =
    codes "path" ∷ check_word (is_hold p) ∷ point_name p ∷ edge_word s.edge ∷ thousandths s.greatest ∷ []

-- which check it is, with its slack
abbrev pub worst_line : Parts → Slack → Line
worst_line d s = worst_point_line s (slice_get d.checks s.point)

-- the edge of a source where the path begins, and when
abbrev pub source_line : Parts → Path → Line
source_line d p = codes "from" ∷ name_at d p.net.0 ∷ edge_word p.edge ∷ thousandths p.time ∷ []

-- the delays of the wire and of the cell that lead to an edge of a net
abbrev pub step_line : Parts → PathStep → Line
step_line d s =
    codes "step" ∷ name_at d s.net.0 ∷ edge_word s.edge
    ∷ codes "wire" ∷ thousandths s.wire ∷ codes "delay" ∷ thousandths s.delay ∷ []

-- the delay of the wire to the place of the check
abbrev pub end_line : ℤ → Line
end_line wire = codes "to" ∷ codes "wire" ∷ thousandths wire ∷ []

abbrev pub path_lines : Parts → WorstPath → List Line
path_lines d w =
    worst_line d w.slack ∷ source_line d w.path ∷ (map (step_line d) w.path.steps ++ end_line w.wire ∷ [])

-- none where there is no such check
abbrev pub worst_lines : Parts → Option WorstPath → List Line
worst_lines d None = []
worst_lines d (Some w) = path_lines d w

-- the check and the nets that these lines name are in the design
pub record IsOfDesign (d : Parts) (w : WorstPath) : Type 0 where
  pub point : w.slack.point < length d.checks
  pub source : w.path.net.0 < length d.nets
  pub steps : All (λ s. s.net.0 < length d.nets) w.path.steps

-- so are all that the lines on checks name
pub record AreOfDesign (d : Parts) (c : Checked) : Type 0 where
  pub slacks : All (λ s. s.point < length d.checks) c.slacks
  pub setup : IfSome c.setup (IsOfDesign d)
  pub hold : IfSome c.hold (IsOfDesign d)
