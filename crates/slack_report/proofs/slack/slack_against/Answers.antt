use Rattle.std.proofs.Common.{sym, subst, ◌∙◌, pos, ap, length, arith}
use Rattle.xt_model.specs.Assign.{assigned}
use Rattle.slack_report.specs.Checks.{IsSoundReference}
use Rattle.slack_report.proofs.Against.{kept_mag, table_at, against_clock}
use Rattle.std.specs.Prelude.{IfSome, Option}
use Rattle.xt_model.specs.Limits.{most_period}
use Rattle.xt_model.specs.Sound.{IsBetween, IsConstraint}
use Rattle.xt_model.specs.Tables.{IsTableNumber}
use Rattle.sink_windows.specs.declared.sink.SinkWindow.{SinkWindow}
use Rattle.slack_report.proofs.slack.slack_against.Goals as goal

pub returns-in-Some-clause-value : goal.returns-in-Some-clause-value
returns-in-Some-clause-value c =
    let d = c.args.design.now in
    let sound = subst (IsSoundReference d) c.in-Clock.is c.requires.reference in
    against_clock d (assigned c.args.windows.now) c.args.hold c.args.datum.now c.args.reference.now c.in-Clock.net c.in-Clock.sink c.in-Clock.table c.in-Some.clock c.index-tables-table.result _ c.flop_slack.result _ _
    c.in-Clock.is (sym c.in_ok-clock-in-Clock.ensures.value ∙ c.in-Some.is) (table_at _ _ _ _ c.tables.ensures.value sound.1 c.index-tables-table.is)
    (kept_mag c.flop_slack.result c.flop_slack.type_inv) c.flop_slack.ensures
    (kept_mag c.period.result c.period.type_inv ∙ c.period.ensures.value) (kept_mag c.needed-need.result c.needed-need.type_inv ∙ c.needed-need.ensures.value)

pub at-requires-clause-count : goal.at-requires-clause-count
at-requires-clause-count c = c.requires.count

pub at-requires-clause-within : goal.at-requires-clause-within
at-requires-clause-within c = c.requires.within

pub at-requires-clause-only : goal.at-requires-clause-only
at-requires-clause-only c = c.requires.only

pub at-requires-clause-sink : goal.at-requires-clause-sink
at-requires-clause-sink c = (subst (IsSoundReference c.args.design.now) c.in-Clock.is c.requires.reference).0

pub needed-need-requires-clause-datum : goal.needed-need-requires-clause-datum
needed-need-requires-clause-datum c = c.requires.datum

pub needed-need-requires-clause-clock : goal.needed-need-requires-clause-clock
needed-need-requires-clause-clock c = subst (λ (o : Option SinkWindow). IfSome o (λ s. IsConstraint s.window)) c.in-Some.is c.in_ok-clock-in-Clock.ensures.limits

pub flop_slack-requires-clause-datum : goal.flop_slack-requires-clause-datum
flop_slack-requires-clause-datum c = c.requires.datum

pub flop_slack-requires-clause-period : goal.flop_slack-requires-clause-period
flop_slack-requires-clause-period c = subst (IsBetween (pos 0) most_period) (sym (kept_mag c.period.result c.period.type_inv)) c.period.ensures.range

pub flop_slack-requires-clause-clock : goal.flop_slack-requires-clause-clock
flop_slack-requires-clause-clock c = subst (λ (o : Option SinkWindow). IfSome o (λ s. IsConstraint s.window)) c.in-Some.is c.in_ok-clock-in-Clock.ensures.limits

pub flop_slack-requires-clause-need : goal.flop_slack-requires-clause-need
flop_slack-requires-clause-need c = subst IsTableNumber (sym (kept_mag c.needed-need.result c.needed-need.type_inv)) c.needed-need.ensures.number

pub bounds-tables-table : goal.bounds-tables-table
bounds-tables-table c =
    let there = (subst (IsSoundReference c.args.design.now) c.in-Clock.is c.requires.reference).1 in
    let same = ap length c.tables.ensures.value in
    omega (arith, there, same)

pub port_slack-requires-clause-datum : goal.port_slack-requires-clause-datum
port_slack-requires-clause-datum c = c.requires.datum

pub port_slack-requires-clause-period : goal.port_slack-requires-clause-period
port_slack-requires-clause-period c = subst (IsBetween (pos 0) most_period) (sym (kept_mag c.period-in-Outside.result c.period-in-Outside.type_inv)) c.period-in-Outside.ensures.range

pub returns-in_default-clause-only : goal.returns-in_default-clause-only
returns-in_default-clause-only c = c.in_ok-clock-in-Clock.ensures.only

pub returns-in-Some-clause-only : goal.returns-in-Some-clause-only
returns-in-Some-clause-only c = c.in_ok-clock-in-Clock.ensures.only

pub returns-in-Outside-clause-only : goal.returns-in-Outside-clause-only
returns-in-Outside-clause-only c = c.requires.only
