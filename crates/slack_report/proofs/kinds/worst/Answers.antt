use Rattle.std.proofs.Common.{◌+◌, sym, ap, subst, ◌∙◌}
use Rattle.std.specs.Prelude.{Some}
use Rattle.std.proofs.lemmas.Bool.{iff_false}
use Rattle.std.proofs.lemmas.Option.{slice_get-get_or}
use Rattle.slack_report.proofs.Worsts.{IsWorstBefore, worst_kept, worst_more, worst_all}
use Rattle.slack_report.proofs.kinds.worst.Goals.{then-counts, else-counts}
use Rattle.slack_report.proofs.kinds.worst.Goals as goal

pub loop-slack-preserved : goal.loop-slack-preserved
loop-slack-preserved c =
    let d = c.args.design.now in
    let all = c.args.slacks.now in
    let i = c.loop-slack.slack-index in
    elim c.if-counts.branch [
      | then-counts w ↦
          subst (IsWorstBefore d c.args.hold all (i + 1)) (sym (w.worst-is ∙ ap (λ s. Some s) w.worse.ensures))
          (worst_more d c.args.hold all i _ c.loop-slack.worst (slice_get-get_or all i _ c.loop-slack-test.true) (c.counts.ensures.0 w.if-counts.true) c.loop-slack.invariant)
      | else-counts w ↦
          subst (IsWorstBefore d c.args.hold all (i + 1)) (sym w.worst-is)
          (worst_kept d c.args.hold all i _ c.loop-slack.worst (slice_get-get_or all i _ c.loop-slack-test.true) (iff_false c.counts.ensures w.if-counts.false) c.loop-slack.invariant)
    ]

pub returns : goal.returns
returns c = worst_all c.args.design.now c.args.hold c.args.slacks.now c.loop-slack.slack-index c.loop-slack.worst c.loop-slack-test.false c.loop-slack.invariant
