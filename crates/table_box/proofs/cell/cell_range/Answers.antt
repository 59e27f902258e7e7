-- The cells of both ends: one, or two.
use Rattle.std.proofs.Common.{◌∙◌, refl, sym}
use Rattle.table_box.proofs.Places.{placed_sound}
use Rattle.table_box.proofs.Small.{alike_same, one_cell}
use Rattle.table_box.proofs.cell.cell_range.Goals as goal

pub of-requires-clause-slew : goal.of-requires-clause-slew
of-requires-clause-slew c = placed_sound _ _ _ c.requires.table.slews c.requires.slews.start

pub of-requires-clause-load : goal.of-requires-clause-load
of-requires-clause-load c = placed_sound _ _ _ c.requires.table.loads c.requires.loads.start

pub range-requires-clause-ends : goal.range-requires-clause-ends
range-requires-clause-ends c =
    let e = c.in_ok-first.ensures in let r = c.requires.loads in
    record {
      first = e.small;
      last = e.small;
      table = refl;
      slew = refl;
      loads = rw e.table r;
      start = rw e.load (alike_same _ _ (placed_sound _ _ _ c.requires.table.loads r.start));
      end = rw e.load (one_cell _ _ _ _ _ c.requires.table.loads r.start r.end (r.one_cell c.if-loads.true));
    }

pub of-requires-2-clause-load : goal.of-requires-2-clause-load
of-requires-2-clause-load c = placed_sound _ _ _ c.requires.table.loads c.requires.loads.end

pub range-requires-2-clause-ends : goal.range-requires-2-clause-ends
range-requires-2-clause-ends c =
    let e = c.in_ok-first.ensures in let f = c.in_ok-last.ensures in let r = c.requires.loads in
    record {
      first = e.small;
      last = f.small;
      table = f.table ∙ sym e.table;
      slew = f.slew ∙ sym e.slew;
      loads = rw e.table r;
      start = rw e.load (alike_same _ _ (placed_sound _ _ _ c.requires.table.loads r.start));
      end = rw f.load (alike_same _ _ (placed_sound _ _ _ c.requires.table.loads r.end));
    }
