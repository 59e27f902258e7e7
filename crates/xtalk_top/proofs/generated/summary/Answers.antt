use Rattle.std.proofs.Common.{refl, inr}
use Rattle.report_text.specs.Summary.{IsSummary}
use Rattle.xtalk_top.proofs.generated.summary.Goals as goal

pub returns-in-Ok-clause-ok : goal.returns-in-Ok-clause-ok
returns-in-Ok-clause-ok g c =
    let found = c.in_ok-found.ensures.found in
    let written = c.in-Ok.ensures in
    let summary : IsSummary c.args.design.now c.in-Ok.text.items = record {
      pairs = written.0;
      depth = written.1;
      low = c.in_ok-found.found.low;
      high = c.in_ok-found.found.high;
      is_pairs = written.2;
      is_depth = written.3;
      is_least = found.least;
      is_greatest = found.greatest;
      written = written.4;
    } in
    inr (found.keeps, (c.in-Ok.text.items, record { summary = summary; bounds = found.bounds }, refl))
