use Rattle.report_text.proofs.CheckLines.{item_there, check_sound}
use Rattle.report_text.proofs.points.point_of.Goals as goal

pub returns : goal.returns
returns c =
    let d = c.args.design.now in
    record {
      there = item_there d.checks _ c.args.slack.now.point _ c.checks.ensures.value c.requires c.index-checks-slack.is;
      sound = check_sound d _ c.args.slack.now.point _ c.checks.ensures.sound c.checks.ensures.value c.requires c.index-checks-slack.is;
    }
