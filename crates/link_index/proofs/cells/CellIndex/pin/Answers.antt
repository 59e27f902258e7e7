use Rattle.std.proofs.Common.{◌≡◌, ◌<◌, length, get_or, Some, IfSome, sym, ap, ◌∙◌, refl, subst, arith}
use Rattle.std.specs.Prelude.{position}
use Rattle.std.specs.List.{slice_get}
use Rattle.std.specs.Option.{IsSomeAnd}
use Rattle.std.specs.Str.{bytes_eq}
use Rattle.std.proofs.lemmas.Option.{slice_get_read, slice_get-get_or}
use Rattle.std.proofs.lemmas.Slice.Zip.{AllZip-long}
use Rattle.liberty_cells.specs.declared.library.Library.{Library}
use Rattle.link_rules.specs.Pins.{pin_named}
use Rattle.link_index.specs.Cells.{at_place, pin_place, ArePlaced}
use Rattle.link_index.specs.Kept.{IsKept}
use Rattle.link_index.proofs.FirstLaws.{find_at_place, places_within}
use Rattle.link_index.proofs.PlaceLaws.{zipped_at}
use Rattle.link_index.proofs.cells.CellIndex.pin.Goals as goal

pub index-requires : goal.index-requires
index-requires c =
    omega (arith, c.requires, ap (λ l. length l.cells) c.self.view_is, AllZip-long _ _ _ c.self.invariant.each, c.self.inside.kept.ok.0)

pub get-requires : goal.get-requires
get-requires c =
    let cells = c.self.inside.library.now.cells in
    let d = c.index-as_slice-cell.result in
    let x = get_or cells c.args.cell d in
    let kept = c.index.result.now in
    let within : c.args.cell < length cells = omega (arith, c.requires, ap (λ l. length l.cells) c.self.view_is) in
    let at : slice_get cells c.args.cell ≡ Some x = slice_get-get_or cells c.args.cell d within in
    let pins = c.as_slice-pins.ensures ∙ ap (λ l. (get_or l c.args.cell d).pins) c.as_slice.ensures in
    let here : slice_get c.self.inside.kept.items c.args.cell ≡ Some kept =
    slice_get_read c.self.inside.kept.items _ c.args.cell kept refl (omega (arith, within, AllZip-long _ _ _ c.self.invariant.each)) c.index.ensures in
    let is : IsKept x kept =
    subst (λ o. IsSomeAnd o (λ y. IsKept y kept)) at (zipped_at IsKept cells c.self.inside.kept.items c.args.cell kept c.self.invariant.each here) in
    subst (λ ps. ArePlaced ps kept.pins) (sym pins) is.pins

pub returns-clause-place : goal.returns-clause-place
returns-clause-place c =
    let cells = c.self.inside.library.now.cells in
    let d = c.index-as_slice-cell.result in
    let x = get_or cells c.args.cell d in
    let within : c.args.cell < length cells = omega (arith, c.requires, ap (λ l. length l.cells) c.self.view_is) in
    let at : slice_get cells c.args.cell ≡ Some x = slice_get-get_or cells c.args.cell d within in
    let pins = c.as_slice-pins.ensures ∙ ap (λ l. (get_or l c.args.cell d).pins) c.as_slice.ensures in
    let value : c.get.result ≡ pin_place x c.args.name.now = c.get.ensures ∙ ap (position (λ p. bytes_eq c.args.name.now p.name)) pins in
    let P : Library → Type 0 = λ l. IsSomeAnd (slice_get l.cells c.args.cell) (λ y. c.get.result ≡ pin_place y c.args.name.now) in
    subst P c.self.view_is (subst (λ o. IsSomeAnd o (λ y. c.get.result ≡ pin_place y c.args.name.now)) (sym at) value)

pub returns-clause-named : goal.returns-clause-named
returns-clause-named c =
    let cells = c.self.inside.library.now.cells in
    let d = c.index-as_slice-cell.result in
    let x = get_or cells c.args.cell d in
    let within : c.args.cell < length cells = omega (arith, c.requires, ap (λ l. length l.cells) c.self.view_is) in
    let at : slice_get cells c.args.cell ≡ Some x = slice_get-get_or cells c.args.cell d within in
    let pins = c.as_slice-pins.ensures ∙ ap (λ l. (get_or l c.args.cell d).pins) c.as_slice.ensures in
    let value : c.get.result ≡ pin_place x c.args.name.now = c.get.ensures ∙ ap (position (λ p. bytes_eq c.args.name.now p.name)) pins in
    let P : Library → Type 0 = λ l. IsSomeAnd (slice_get l.cells c.args.cell) (λ y. pin_named y c.args.name.now ≡ at_place y.pins c.get.result) in
    subst P c.self.view_is (subst (λ o. IsSomeAnd o (λ y. pin_named y c.args.name.now ≡ at_place y.pins c.get.result)) (sym at)
    (find_at_place (λ p. bytes_eq c.args.name.now p.name) x.pins c.get.result (sym value)))

pub returns-clause-there : goal.returns-clause-there
returns-clause-there c =
    let cells = c.self.inside.library.now.cells in
    let d = c.index-as_slice-cell.result in
    let x = get_or cells c.args.cell d in
    let within : c.args.cell < length cells = omega (arith, c.requires, ap (λ l. length l.cells) c.self.view_is) in
    let at : slice_get cells c.args.cell ≡ Some x = slice_get-get_or cells c.args.cell d within in
    let pins = c.as_slice-pins.ensures ∙ ap (λ l. (get_or l c.args.cell d).pins) c.as_slice.ensures in
    let value : c.get.result ≡ pin_place x c.args.name.now = c.get.ensures ∙ ap (position (λ p. bytes_eq c.args.name.now p.name)) pins in
    let P : Library → Type 0 = λ l. IsSomeAnd (slice_get l.cells c.args.cell) (λ y. IfSome c.get.result (λ place. place < length y.pins)) in
    subst P c.self.view_is (subst (λ o. IsSomeAnd o (λ y. IfSome c.get.result (λ place. place < length y.pins))) (sym at)
    (places_within (λ p. bytes_eq c.args.name.now p.name) x.pins c.get.result (sym value)))
