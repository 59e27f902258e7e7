use Rattle.std.proofs.Common.{◌<◌, ℕ, List, length, nat_cmp, Err, sym, subst}
use Rattle.std.specs.List.Sorted.{IsBinarySearchResult}
use Rattle.liberty_cells.specs.Pins.{PinParts}
use Rattle.liberty_cells.specs.Firsts.{IsFirst}
use Rattle.liberty_cells.proofs.FirstLaws.{first_found}
use Rattle.liberty_cells.proofs.cell_pins.CellPins.first.Goals as goal

pub returns-in-Err : goal.returns-in-Err
returns-in-Err c =
    let s = c.self.inside in
    let lt : c.args.place < length s.pins.items = subst (λ (v : List PinParts). c.args.place < length v) (sym c.self.view_is) c.requires in
    let found : IsBinarySearchResult (λ y. nat_cmp y c.args.place) s.firsts.items (Err c.in-Err.after) =
    subst (λ (l : List ℕ). IsBinarySearchResult (λ y. nat_cmp y c.args.place) l (Err c.in-Err.after)) c.deref.ensures.value c.in-Err.ensures.position in
    subst (λ (v : List PinParts). IsFirst v c.args.place c.index.result.now) c.self.view_is
    (first_found s.pins.items s.firsts.items c.args.place c.in-Err.after _ c.index.result.now c.self.invariant lt c.if-after-gt0.true found c.index.ensures)
