use Rattle.std.proofs.Common.{◌≡◌, length, Some, ap, refl, subst, arith}
use Rattle.std.specs.List.{slice_get}
use Rattle.std.specs.Option.{IsSomeAnd}
use Rattle.std.proofs.lemmas.Option.{slice_get_read}
use Rattle.std.proofs.lemmas.Slice.Zip.{AllZip-long}
use Rattle.liberty_cells.specs.declared.library.Library.{Library}
use Rattle.link_rules.specs.Refusals.{is_odd_cell}
use Rattle.link_index.specs.Kept.{IsKept}
use Rattle.link_index.proofs.PlaceLaws.{zipped_at, some_and}
use Rattle.link_index.proofs.cells.CellIndex.is_odd.Goals as goal

pub index-requires : goal.index-requires
index-requires c =
    omega (arith, c.requires, ap (λ l. length l.cells) c.self.view_is, AllZip-long _ _ _ c.self.invariant.each, c.self.inside.kept.ok.0)

pub returns : goal.returns
returns c =
    let cells = c.self.inside.library.now.cells in
    let kept = c.index.result.now in
    let here : slice_get c.self.inside.kept.items c.args.cell ≡ Some kept =
    slice_get_read c.self.inside.kept.items _ c.args.cell kept refl
    (omega (arith, c.requires, ap (λ l. length l.cells) c.self.view_is, AllZip-long _ _ _ c.self.invariant.each)) c.index.ensures in
    let at = zipped_at IsKept cells c.self.inside.kept.items c.args.cell kept c.self.invariant.each here in
    let P : Library → Type 0 = λ l. IsSomeAnd (slice_get l.cells c.args.cell) (λ x. kept.odd ≡ is_odd_cell x) in
    subst P c.self.view_is (some_and (λ x. IsKept x kept) (λ x. kept.odd ≡ is_odd_cell x) (slice_get cells c.args.cell) (λ x k. k.odd) at)
