-- Slacks: how much later data could come, or how much earlier, and still be in time.
use Rattle.std.specs.Prelude.{ℕ, Bool, true, false, if◌then◌else◌, ℤ, pos, ◌+ℤ◌, ◌-ℤ◌, List, map, Option, Some, None}
use Rattle.std.specs.Option.{option_and_then, unwrap_or}
use Rattle.std.specs.List.{slice_get}
use Rattle.xt_model.specs.declared.edge.Edge.TheVariants.{Rise}
use Rattle.xt_model.specs.declared.quad.Quad.{Quad}
use Rattle.xt_model.specs.declared.quad.Pair.{Pair}
use Rattle.xt_model.specs.Parts.{Parts}
use Rattle.xt_model.specs.Assign.{Assignment, assigned}
use Rattle.xt_meaning.specs.Lookup.{Box}
use Rattle.xt_meaning.specs.Operator.{delay_range}
use Rattle.sink_windows.specs.Sinks.{sink_window}
use Rattle.slack_report.specs.declared.check.Check.{Check}
use Rattle.slack_report.specs.declared.check.Reference.{Reference}
use Rattle.slack_report.specs.declared.check.Reference.TheVariants.{Clock, Outside}
use Rattle.slack_report.specs.declared.slack.Slack.{Slack}
use Rattle.slack_report.specs.Checks.{checks_of}

-- the clock period; a design with checks has one
abbrev pub period_of : Parts → ℤ
period_of d = unwrap_or d.period (pos 0)

-- every whole slew of a clock by every whole slew of data
abbrev pub slews_box : Quad → Quad → Box
slews_box clock datum = record { s0 = clock.slo; s1 = clock.shi; c0 = datum.slo; c1 = datum.shi }

-- the time that data needs before or after a clock: the greatest value of the table over all these slews
abbrev pub constraint : Parts → ℕ → Quad → Quad → ℤ
constraint d table clock datum = (delay_range (slice_get d.tables table) (slews_box clock datum)).most

-- setup: the latest data comes before the earliest next clock, by at least what the data needs.
-- hold: the earliest data comes after the latest clock, by at least what the data needs
abbrev pub flop_slack : Bool → ℤ → ℤ → Quad → Quad → ℤ
flop_slack hold period need clock datum =
    if hold then (datum.tlo -ℤ clock.thi) -ℤ need else ((period +ℤ clock.tlo) -ℤ need) -ℤ datum.thi

-- the same at a port: setup against the next period, with this delay outside; hold against the period's start
abbrev pub port_slack : Bool → ℤ → ℤ → Quad → ℤ
port_slack hold period delay datum = if hold then datum.tlo +ℤ delay else (period -ℤ delay) -ℤ datum.thi

-- the slack of data against what it is checked for: a clock counts by its rise at its sink, and has no slack where it
-- never rises
abbrev pub slack_against : Parts → Assignment → Bool → Quad → Reference → Option ℤ
slack_against d W hold datum (Clock net sink table) =
    option_and_then
    (λ clock. Some (flop_slack hold (period_of d) (constraint d table clock.window datum) clock.window datum))
    (sink_window d W net.0 Rise sink)
slack_against d W hold datum (Outside delay) = Some (port_slack hold (period_of d) delay datum)

-- the slack of a check in these windows; none where its data or its clock never switches
abbrev pub slack_in : Parts → Assignment → Check → Option ℤ
slack_in d W c =
    option_and_then
    (λ datum. slack_against d W c.hold datum.window c.reference)
    (sink_window d W c.net.0 c.edge c.sink)

-- a check that is idle
abbrev pub idle_slack : Check → Slack
idle_slack c = record { point = c.point; edge = c.edge; idle = true; greatest = pos 0; least = pos 0 }

-- a check with its slack in the greatest windows and in the least; one without a slack in either is idle
abbrev pub slack_by : Check → Option ℤ → Option ℤ → Slack
slack_by c (Some greatest) (Some least) =
    record { point = c.point; edge = c.edge; idle = false; greatest = greatest; least = least }
slack_by c (Some greatest) None = idle_slack c
slack_by c None least = idle_slack c

abbrev pub slack_of : Parts → Assignment → Assignment → Check → Slack
slack_of d low high c = slack_by c (slack_in d high c) (slack_in d low c)

-- the slacks of a design's checks in its least and its greatest windows
abbrev pub slacks : Parts → List Pair → List Pair → List Slack
slacks d low high = map (slack_of d (assigned low) (assigned high)) (checks_of d)
