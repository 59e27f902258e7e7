use Rattle.std.proofs.Common.{refl, inr}
use Rattle.report_text.specs.Report.{IsReport}
use Rattle.xtalk_top.proofs.design_report.report_in.Goals as goal

pub write_report-requires : goal.write_report-requires
write_report-requires c =
    let found = c.requires in
    record {
      low_count = found.least.fixpoint.windows.count;
      low_within = found.low_within;
      high_count = found.greatest.fixpoint.windows.count;
      high_within = found.high_within;
      closed = found.greatest.fixpoint.fixed;
    }

pub returns-in-Ok-clause-ok : goal.returns-in-Ok-clause-ok
returns-in-Ok-clause-ok c =
    let found = c.requires in
    let report : IsReport c.args.kind c.args.design.now c.in-Ok.text.items = record {
      low = c.args.found.now.low;
      high = c.args.found.now.high;
      is_least = found.least;
      is_greatest = found.greatest;
      written = c.in-Ok.ensures;
    } in
    inr (found.keeps, (c.in-Ok.text.items, record { report = report; bounds = found.bounds }, refl))
