use Rattle.std.proofs.Common.{◌≡◌, sym, ap, subst, ◌∙◌, List, map}
use Rattle.std.specs.List.{All}
use Rattle.std.proofs.lemmas.List.Elements.{All-get_or}
use Rattle.xt_model.specs.declared.check.CheckPoint.{CheckPoint}
use Rattle.xt_model.specs.Assign.{assigned}
use Rattle.xt_model.specs.Sound.{IsSoundCheck}
use Rattle.slack_report.specs.Checks.{checks_from}
use Rattle.slack_report.specs.Slacks.{slack_of}
use Rattle.slack_report.proofs.Turns.{points_turn, points_end}
use Rattle.slack_report.proofs.slack.all_slacks.Goals as goal

pub push_edge-requires : goal.push_edge-requires
push_edge-requires c =
    let d = c.args.design.now in
    let points = c.checks-points.result.now in
    let all : All (IsSoundCheck d) points = rw c.checks-points.ensures.value c.checks-points.ensures.sound.checks in
    record {
      low_count = c.requires.low_count;
      low_within = c.requires.low_within;
      high_count = c.requires.high_count;
      high_within = c.requires.high_within;
      low_only = c.loop-number.invariant.low_only;
      high_only = c.loop-number.invariant.high_only;
      sound =
          subst (IsSoundCheck d) (sym c.index-points-number.is)
          (All-get_or (IsSoundCheck d) points c.loop-number.number c.index-points-number.result c.loop-number-test.true all);
    }

pub push_edge-requires-in-loop-number : goal.push_edge-requires-in-loop-number
push_edge-requires-in-loop-number c =
    let d = c.args.design.now in
    let points = c.checks-points.result.now in
    let all : All (IsSoundCheck d) points = rw c.checks-points.ensures.value c.checks-points.ensures.sound.checks in
    record {
      low_count = c.requires.low_count;
      low_within = c.requires.low_within;
      high_count = c.requires.high_count;
      high_within = c.requires.high_within;
      low_only = c.in_ok-push_edge.ensures.low_only;
      high_only = c.in_ok-push_edge.ensures.high_only;
      sound =
          subst (IsSoundCheck d) (sym c.index-points-number.is)
          (All-get_or (IsSoundCheck d) points c.loop-number.number c.index-points-number.result c.loop-number-test.true all);
    }

pub loop-number-preserved : goal.loop-number-preserved
loop-number-preserved c = record {
  so_far =
      points_turn (slack_of c.args.design.now (assigned c.args.low.now) (assigned c.args.high.now)) c.checks-points.result.now
      c.loop-number.number c.index-points-number.result c.loop-number.all.items c.push_edge.new.out.items
      c.push_edge-in-loop-number.new.out.items _ c.loop-number-test.true (rw c.index-points-number.is at c.in_ok-push_edge.ensures.slack)
      (rw c.index-points-number.is at c.in_ok-push_edge-2.ensures.slack) c.loop-number.invariant.so_far;
  low_only = c.in_ok-push_edge-2.ensures.low_only;
  high_only = c.in_ok-push_edge-2.ensures.high_only;
}

pub returns : goal.returns
returns c =
    let f = slack_of c.args.design.now (assigned c.args.low.now) (assigned c.args.high.now) in
    points_end f c.checks-points.result.now c.loop-number.number c.loop-number.all.items _ c.loop-number-test.false c.loop-number.invariant.so_far
    ∙ ap (λ (points : List CheckPoint). map f (checks_from 0 points)) c.checks-points.ensures.value
