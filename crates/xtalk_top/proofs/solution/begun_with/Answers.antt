use Rattle.xtalk_top.proofs.solution.begun_with.Goals as goal

pub returns : goal.returns
returns c = record {
  lists = c.in_ok-lists.ensures;
  starts = c.in_ok-bottom.ensures.starts;
  low = record { fits = c.in_ok-low.ensures.room; count = c.in_ok-low.ensures.count };
  high = record { fits = c.in_ok-high.ensures.room; count = c.in_ok-high.ensures.count };
}
