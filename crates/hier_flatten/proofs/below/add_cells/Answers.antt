use Rattle.std.proofs.Common.{◌≡◌, ◌∷◌, [], ◌++◌, refl, ap, ◌∙◌}
use Rattle.hier_flatten.specs.Flat.{Flat, flat_instance, ranges_of}
use Rattle.hier_flatten.specs.Walk.{scope_of}
use Rattle.hier_flatten.proofs.SliceLaws.{nothing_left}
use Rattle.hier_flatten.proofs.BelowLaws.{cells_turn, cells_end}
use Rattle.hier_flatten.proofs.below.add_cells.Goals as goal

pub cells-preserved : goal.cells-preserved
cells-preserved c =
    let first = c.args.growing.now in
    let made = flat_instance (ranges_of first.nets) (scope_of c.args.path.now.items c.args.frame.now) in
    let grown : c.add_instance.new.self ≡ record c.cells.growing { instances = c.cells.growing.instances ++ c.in_ok-cell.cell ∷ [] } =
    c.in_ok-add_instance.ensures in
    let one : c.in_ok-cell.cell ≡ made c.instance-item.result =
    c.in_ok-cell.ensures.flat
    ∙ (ap (λ n. flat_instance (ranges_of n) (scope_of c.cells.path.items c.args.frame.now) c.instance-item.result) c.cells.invariant.nets
    ∙ ap (λ p. flat_instance (ranges_of first.nets) (scope_of p c.args.frame.now) c.instance-item.result) c.cells.invariant.path) in
    record {
      grown = cells_turn made c.cells.rest.now _ c.instance-item.result c.in_ok-cell.cell c.cells.growing c.add_instance.new.self _ c.in-len1-up.len_at_least
          c.instance-item.is one grown c.cells.invariant.grown;
      nets = ap (λ (f : Flat). f.nets) grown ∙ c.cells.invariant.nets;
      path = c.in_ok-cell.ensures.kept ∙ c.cells.invariant.path;
    }

pub returns-clause-cells : goal.returns-clause-cells
returns-clause-cells c =
    cells_end (flat_instance (ranges_of c.args.growing.now.nets) (scope_of c.args.path.now.items c.args.frame.now)) c.cells.rest.now c.cells.growing _
    (nothing_left c.cells.rest.now c.in_default.len_below) c.cells.invariant.grown

pub cells-init : goal.cells-init
cells-init c = record { grown = refl; nets = refl; path = refl }

pub returns-clause-kept : goal.returns-clause-kept
returns-clause-kept c = c.cells.invariant.path
