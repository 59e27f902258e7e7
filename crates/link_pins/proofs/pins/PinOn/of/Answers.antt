use Rattle.std.proofs.Common.{◌≡◌, ◌∙◌, get_or, Some, sym, ap}
use Rattle.std.proofs.lemmas.Option.{get_or_from_slice_get, slice_get_within}
use Rattle.liberty_cells.specs.declared.cell.Cell.{Cell}
use Rattle.liberty_cells.specs.declared.library.Library.{Library}
use Rattle.link_pins.specs.Seen.{pin_at}
use Rattle.link_pins.proofs.PinLaws.{some_is}
use Rattle.link_pins.proofs.PlaceLaws.{pin_parts}
use Rattle.link_pins.proofs.pins.PinOn.of.Goals as goal

pub bounds-as_slice-self : goal.bounds-as_slice-self
bounds-as_slice-self c =
    let q = some_is (pin_at c.args.cells.now c.args.self) c.requires in
    let cell = pin_parts c.args.cells.now c.args.self q.0 q.1 in
    let cells : c.as_slice.result.now ≡ c.args.cells.now.cells = c.as_slice.ensures ∙ ap (λ (l : Library). l.cells) c.library.ensures in
    rw cells (slice_get_within c.args.cells.now.cells c.args.self.cell cell.0 cell.1)

pub bounds-as_slice-self-2 : goal.bounds-as_slice-self-2
bounds-as_slice-self-2 c =
    let q = some_is (pin_at c.args.cells.now c.args.self) c.requires in
    let cell = pin_parts c.args.cells.now c.args.self q.0 q.1 in
    let cells : c.as_slice.result.now ≡ c.args.cells.now.cells = c.as_slice.ensures ∙ ap (λ (l : Library). l.cells) c.library.ensures in
    let read : get_or c.as_slice.result.now c.args.self.cell c.index-as_slice-self.result ≡ cell.0 =
    get_or_from_slice_get c.as_slice.result.now c.args.self.cell cell.0 c.index-as_slice-self.result (rw cells cell.1) in
    let pins : c.as_slice-2.result.now ≡ cell.0.pins = c.as_slice-2.ensures ∙ ap (λ (x : Cell). x.pins) read in
    rw pins (slice_get_within cell.0.pins c.args.self.pin q.0 cell.2)

pub returns : goal.returns
returns c =
    let q = some_is (pin_at c.args.cells.now c.args.self) c.requires in
    let cell = pin_parts c.args.cells.now c.args.self q.0 q.1 in
    let cells : c.as_slice.result.now ≡ c.args.cells.now.cells = c.as_slice.ensures ∙ ap (λ (l : Library). l.cells) c.library.ensures in
    let read : get_or c.as_slice.result.now c.args.self.cell c.index-as_slice-self.result ≡ cell.0 =
    get_or_from_slice_get c.as_slice.result.now c.args.self.cell cell.0 c.index-as_slice-self.result (rw cells cell.1) in
    let pins : c.as_slice-2.result.now ≡ cell.0.pins = c.as_slice-2.ensures ∙ ap (λ (x : Cell). x.pins) read in
    let pin : c.index-as_slice-self-2.result ≡ q.0 =
    c.index-as_slice-self-2.is ∙ get_or_from_slice_get c.as_slice-2.result.now c.args.self.pin q.0 c.index-as_slice-self-2.result (rw pins cell.2) in
    q.1 ∙ ap Some (sym pin)
