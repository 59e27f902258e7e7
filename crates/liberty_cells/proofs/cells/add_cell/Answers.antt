use Rattle.std.proofs.Common.{◌≡◌, refl, sym, ap, Bool, true, false, Ok}
use Rattle.std.specs.Prelude.{not}
use Rattle.name_numbers.specs.Names.{has_name}
use Rattle.liberty_cells.specs.Cells.{names_of, add_cell}
use Rattle.liberty_cells.proofs.cells.add_cell.Goals as goal

unknown : (fresh known : Bool) → fresh ≡ true → fresh ≡ not known → known ≡ false
unknown fresh true e f = cc
unknown fresh false e f = refl

pub returns-clause-exact : goal.returns-clause-exact
unfolding add_cell
returns-clause-exact c =
    let new : has_name c.in_ok-name.name.items (names_of c.args.cells.now.items) ≡ false =
    rw c.requires.seen (unknown c.in_ok-enter.field-0 _ c.if-not-branch.false (rw c.as_slice.ensures.value at c.in_ok-enter.ensures.fresh)) in
    rw (c.in_ok-name.ensures.exact, new, c.in_ok-pins.ensures, ← c.has_group.ensures) (ap (λ cells. Ok (c.pins_of.new.tables.items, cells)) (sym (rw c.new.ensures at c.in_ok-push.ensures.items)))
