use Rattle.std.proofs.Common.{◌≡◌, ℕ, ◌∷◌, [], ◌++◌, ◌∙◌, set, Some, refl, sym, ap, subst}
use Rattle.std.specs.List.{slice_get}
use Rattle.std.proofs.lemmas.Option.{slice_get_read}
use Rattle.link_pins.specs.Rows.{AreTimed}
use Rattle.link_pins.proofs.PinLaws.{parts_of, some_at}
use Rattle.link_pins.proofs.PlaceLaws.{pin_parts}
use Rattle.link_pins.proofs.RelatedLaws.{arcs_related}
use Rattle.link_pins.proofs.RowLaws.{timed_input, timed_output}
use Rattle.link_pins.proofs.timings.Timings.add_found.Goals as goal

pub returns-in_ok-add_pin_arcs : goal.returns-in_ok-add_pin_arcs
returns-in_ok-add_pin_arcs c = λ done d at are timed.
    let p = parts_of c.args.cells.now c.args.nets.now c.args.pin d at in
    let role = some_at _ _ d.pin p.pin c.is_output.ensures in
    let output = sym role ∙ c.if-is_output.true in
    let there : slice_get c.args.self.now.nets.items c.args.pin.net ≡ Some c.index_mut.result.now =
    slice_get_read c.args.self.now.nets.items _ c.args.pin.net c.index_mut.result.now refl c.requires.net c.index_mut.ensures.value in
    let x = pin_parts c.args.cells.now c.args.pin d.pin p.pin in
    let arcs = arcs_related c.args.cells.now c.args.nets.now c.args.pin.instance c.args.pin.cell c.args.places.now.at.items are x.0 x.1 d p.number output c.args.related.now
    (c.requires.found x.0 d.pin x.1 p.pin) in
    subst (λ (n : ℕ). AreTimed c.args.cells.now c.args.nets.now (done ++ d ∷ []) (set c.args.self.now.nets.items n (record { arcs = c.add_pin_arcs.new.arcs })) c.add_pin_checks.new.checks.items) p.net
    (timed_output c.args.cells.now c.args.nets.now done d c.args.self.now.nets.items c.index_mut.result.now (record { arcs = c.add_pin_arcs.new.arcs }) c.args.self.now.checks.items
    c.add_pin_checks.new.checks.items timed (ap (slice_get c.args.self.now.nets.items) p.net ∙ there) output
    (c.in_ok-add_pin_arcs.ensures
    ∙ ap (λ l. c.index_mut.result.now.arcs.items ++ l) arcs) (c.in_ok-add_pin_checks.ensures d at are))

pub returns-else-is_output : goal.returns-else-is_output
returns-else-is_output c = λ done d at are timed.
    let p = parts_of c.args.cells.now c.args.nets.now c.args.pin d at in
    let role = some_at _ _ d.pin p.pin c.is_output.ensures in
    timed_input c.args.cells.now c.args.nets.now done d c.args.self.now.nets.items c.args.self.now.checks.items c.add_pin_checks.new.checks.items timed (sym role ∙ c.if-is_output.false)
    (c.in_ok-add_pin_checks.ensures d at are)
