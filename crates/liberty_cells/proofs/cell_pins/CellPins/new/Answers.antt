use Rattle.std.proofs.Common.{ℕ, List, Vec, Global, sym, subst}
use Rattle.liberty_cells.specs.Pins.{PinParts}
use Rattle.liberty_cells.specs.Firsts.{AreFirsts}
use Rattle.liberty_cells.proofs.FirstLaws.{no_firsts}
use Rattle.liberty_cells.proofs.cell_pins.CellPins.new.Goals as goal
use Rattle.liberty_cells.proofs.cell_pins.CellPins.new.Goals.{then-len, else-len}

pub invariant_of-result : goal.invariant_of-result
invariant_of-result c =
    let kept : AreFirsts c.args.pins.items c.if-len.firsts.items = elim c.if-len.branch [
      | then-len w ↦ subst (λ (v : Vec ℕ Global). AreFirsts c.args.pins.items v.items) (sym w.firsts-is) (no_firsts c.args.pins.items _ w.clear.ensures.items)
      | else-len w ↦ subst (λ (v : Vec ℕ Global). AreFirsts c.args.pins.items v.items) (sym w.firsts-is) c.requires
    ] in
    subst (λ (l : List PinParts). AreFirsts l c.shrink_to_fit-2.new.self.items) (sym c.shrink_to_fit.ensures.items)
    (subst (AreFirsts c.args.pins.items) (sym c.shrink_to_fit-2.ensures.items) kept)
