use Rattle.std.proofs.Common.{◌≡◌, Some, ◌∙◌}
use Rattle.std.specs.List.{slice_get}
use Rattle.link_index.proofs.OddLaws.{odd_by_itself, odd_by_first}
use Rattle.link_index.proofs.PlaceLaws.{read_there}
use Rattle.link_index.proofs.odd.is_odd_at.Goals as goal

pub returns-then-first-place : goal.returns-then-first-place
returns-then-first-place c = λ none.
    odd_by_first c.args.cell.now c.args.cell.now.pins c.args.place none c.first.result c.requires.place c.first.ensures c.if-first-place.true

pub returns : goal.returns
returns c = λ none.
    let here : slice_get c.args.cell.now.pins c.args.place ≡ Some c.index-as_slice-place.result =
    read_there c.args.cell.now.pins c.args.place _ _ c.requires.place (rw c.as_slice.ensures at c.index-as_slice-place.is) in
    c.is_odd_pin.ensures ∙ odd_by_itself c.args.cell.now c.args.cell.now.pins c.args.place none c.index-as_slice-place.result here
