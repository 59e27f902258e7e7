use Rattle.std.proofs.Common.{◌≡◌, Some, true, not, sym, ap, ◌∙◌, refl}
use Rattle.std.specs.List.{slice_get}
use Rattle.std.specs.Str.{bytes_eq}
use Rattle.liberty_cells.specs.declared.pin.Role.{Role}
use Rattle.liberty_cells.specs.declared.pin.Role.TheVariants as roles
use Rattle.link_rules.specs.Pins.{is_input}
use Rattle.link_rules.specs.Refusals.{is_no_input}
use Rattle.link_index.proofs.FirstLaws.{find_place, find_nowhere, place_within}
use Rattle.link_index.proofs.PlaceLaws.{read_there}
use Rattle.link_index.proofs.odd.is_no_input.Goals as goal

pub returns-in-None : goal.returns-in-None
returns-in-None c =
    sym (ap is_no_input (find_nowhere (λ p. bytes_eq c.args.name.now p.name) c.args.cell.now.pins (sym (c.requires.each c.args.name.now) ∙ sym c.in-None.ensures)))

pub returns-in-Input : goal.returns-in-Input
returns-in-Input c =
    let pins = c.args.cell.now.pins in
    let place = sym (c.requires.each c.args.name.now) ∙ sym c.in-Some.ensures in
    let here : slice_get pins c.in-Some.place.now ≡ Some c.index-as_slice-place.result =
    read_there pins c.in-Some.place.now _ _ (place_within (λ p. bytes_eq c.args.name.now p.name) pins c.in-Some.place.now place) (rw c.as_slice.ensures at c.index-as_slice-place.is) in
    sym (ap is_no_input (find_place (λ p. bytes_eq c.args.name.now p.name) pins c.in-Some.place.now place ∙ here)
    ∙ ap (λ r. not (is_input r)) (sym c.role.ensures ∙ c.in-Input.is))

no_input : (r : Role) → (r ≡ roles.Input → ⊥) → not (is_input r) ≡ true
no_input roles.Input h = absurd (h refl)
no_input roles.Output h = refl
no_input roles.Inout h = refl
no_input roles.Other h = refl

pub returns-in_default : goal.returns-in_default
returns-in_default c =
    let pins = c.args.cell.now.pins in
    let place = sym (c.requires.each c.args.name.now) ∙ sym c.in-Some.ensures in
    let here : slice_get pins c.in-Some.place.now ≡ Some c.index-as_slice-place.result =
    read_there pins c.in-Some.place.now _ _ (place_within (λ p. bytes_eq c.args.name.now p.name) pins c.in-Some.place.now place) (rw c.as_slice.ensures at c.index-as_slice-place.is) in
    let other : c.index-as_slice-place.result.role ≡ roles.Input → ⊥ = λ e. c.in_default.not-Input (c.role.ensures ∙ e) in
    sym (ap is_no_input (find_place (λ p. bytes_eq c.args.name.now p.name) pins c.in-Some.place.now place ∙ here) ∙ no_input _ other)
