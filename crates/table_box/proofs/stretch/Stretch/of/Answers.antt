-- The lines at or below the least number lie at or below the greatest.
use Rattle.std.proofs.Common.{to_z-of_z, rules, tests}
use Rattle.table_box.proofs.Places.{reached_too}
use Rattle.table_box.proofs.stretch.Stretch.of.Goals as goal

pub lines_from-reached-requires-clause-reached : goal.lines_from-reached-requires-clause-reached
lines_from-reached-requires-clause-reached c =
    reached_too _ _ _ _ (rw (to_z-of_z c.ranges.from, to_z-of_z c.ranges.to) c.requires.ordered) c.lines_up_to-first.ensures

pub lines_up_to-first-requires : goal.lines_up_to-first-requires
lines_up_to-first-requires c = c.requires.index

pub lines_from-reached-requires-clause-index : goal.lines_from-reached-requires-clause-index
lines_from-reached-requires-clause-index c = c.requires.index

pub lines_from-reached-requires-clause-within : goal.lines_from-reached-requires-clause-within
lines_from-reached-requires-clause-within c = c.lines_up_to-first.ensures.within

pub lines_below-last-requires-clause-index : goal.lines_below-last-requires-clause-index
lines_below-last-requires-clause-index c = c.requires.index

pub lines_below-last-requires-clause-lines : goal.lines_below-last-requires-clause-lines
lines_below-last-requires-clause-lines c = c.lines_from-reached.ensures

pub among-start-requires-clause-index : goal.among-start-requires-clause-index
among-start-requires-clause-index c = c.requires.index

pub among-start-requires-clause-lines : goal.among-start-requires-clause-lines
among-start-requires-clause-lines c = c.lines_up_to-first.ensures

pub among-end-requires-clause-index : goal.among-end-requires-clause-index
among-end-requires-clause-index c = c.requires.index

pub among-end-requires-clause-lines : goal.among-end-requires-clause-lines
among-end-requires-clause-lines c = c.lines_from-reached.ensures

pub returns-then-last-first-clause-from : goal.returns-then-last-first-clause-from
returns-then-last-first-clause-from c = to_z-of_z c.ranges.from

pub returns-then-last-first-clause-to : goal.returns-then-last-first-clause-to
returns-then-last-first-clause-to c = to_z-of_z c.ranges.to

pub returns-then-last-first-clause-on_axis : goal.returns-then-last-first-clause-on_axis
returns-then-last-first-clause-on_axis c = record {
  ordered = rw (to_z-of_z c.ranges.from, to_z-of_z c.ranges.to) c.requires.ordered;
  single = c.are_same.ensures.0;
  start = c.among-start.ensures;
  end = c.among-end.ensures;
  first = c.lines_up_to-first.ensures;
  last = c.lines_below-last.ensures;
  none_between = search (rules, tests);
  one_cell = search (rules, tests);
}

pub returns-else-last-first-clause-from : goal.returns-else-last-first-clause-from
returns-else-last-first-clause-from c = to_z-of_z c.ranges.from

pub returns-else-last-first-clause-to : goal.returns-else-last-first-clause-to
returns-else-last-first-clause-to c = to_z-of_z c.ranges.to

pub returns-else-last-first-clause-on_axis : goal.returns-else-last-first-clause-on_axis
returns-else-last-first-clause-on_axis c = record {
  ordered = rw (to_z-of_z c.ranges.from, to_z-of_z c.ranges.to) c.requires.ordered;
  single = c.are_same.ensures.0;
  start = c.among-start.ensures;
  end = c.among-end.ensures;
  first = c.lines_up_to-first.ensures;
  last = c.lines_below-last.ensures;
  none_between = search (rules, tests);
  one_cell = search (rules, tests);
}
