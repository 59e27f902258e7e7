use Rattle.std.proofs.Common.{◌≡◌, ◌++◌, length, map}
use Rattle.hier_flatten.specs.Flat.{flat_instance, ranges_of}
use Rattle.hier_flatten.specs.Walk.{scope_of}
use Rattle.hier_flatten.proofs.below.add_cells.Given as goal

abbrev pub invariant-cells : goal.invariant-cells
invariant-cells l =
    let made = flat_instance (ranges_of l.initial.growing.nets) (scope_of l.initial.path.items l.frame) in
    record {
      grown : record l.growing { instances = l.growing.instances ++ map made l.rest }
          ≡ record l.initial.growing { instances = l.initial.growing.instances ++ map made l.cells };
      nets : l.growing.nets ≡ l.initial.growing.nets;
      path : l.path.items ≡ l.initial.path.items;
    }

abbrev pub decreases-cells : goal.decreases-cells
decreases-cells l = length l.rest
