use Rattle.std.proofs.lemmas.Option.{slice_get_within}
use Rattle.xt_model.specs.Assign.{assigned}
use Rattle.report_text.proofs.CheckLines.{worst_placed}
use Rattle.report_text.proofs.worst.worst_of.Goals as goal

pub with_path-requires : goal.with_path-requires
with_path-requires c =
    let worst = c.in-Some.ensures in
    record {
      count = c.requires.count;
      within = c.requires.within;
      closed = c.requires.closed;
      placed = worst_placed c.args.design.now (assigned c.args.windows.now) c.args.hold c.args.slacks.now worst.0 c.in-Some.slack c.requires.placed worst.1;
      there = slice_get_within c.args.design.now.checks c.in-Some.slack.point worst.1.counts.point worst.1.counts.there;
      active = worst.1.counts.active;
    }

pub returns-in_ok-found-in-Some : goal.returns-in_ok-found-in-Some
returns-in_ok-found-in-Some c =
    let worst = c.in-Some.ensures in
    c.in_ok-found-in-Some.ensures c.args.slacks.now worst.0 worst.1

pub returns-in-None : goal.returns-in-None
returns-in-None c = c.in-None.ensures
