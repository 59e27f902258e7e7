use Rattle.link_index.specs.Kept.{IsKept}
use Rattle.link_index.proofs.PlaceLaws.{zipped_turn, zipped_end}
use Rattle.link_index.proofs.places.all_kept.Goals as goal

pub cells-preserved : goal.cells-preserved
cells-preserved c =
    zipped_turn IsKept c.args.cells.now c.cells.kept.items c.push.new.self.items c.cells.rest.now _ c.cell-item.result c.in_ok-kept_of.field-0
    c.in-len1-up.len_at_least c.cell-item.is c.in_ok-push.ensures.items c.cells.invariant c.in_ok-kept_of.ensures

pub returns : goal.returns
returns c = zipped_end IsKept c.args.cells.now c.cells.kept.items c.cells.rest.now c.in_default.len_below c.cells.invariant
