use Rattle.std.proofs.Common.{◌≡◌, List, ◌∷◌, [], ◌++◌, ◌∙◌, Bool, false, Vec, Global, Some, refl, sym, ap}
use Rattle.std.specs.Prelude.{Option, None, filter_map, option_map}
use Rattle.std.specs.Option.{option_to_list}
use Rattle.std.proofs.lemmas.List.{append-nil, take_all}
use Rattle.std.proofs.lemmas.Option.{same_Some, slice_get_within}
use Rattle.name_numbers.specs.Names.{Text}
use Rattle.xt_model.specs.declared.check.CheckPoint.{CheckPoint}
use Rattle.xt_model.specs.declared.check.CheckPoint.TheVariants as checks
use Rattle.liberty_cells.specs.declared.library.Library.{Library}
use Rattle.liberty_cells.specs.Pins.{PinParts}
use Rattle.verilog_net.specs.declared.netlist.Netlist.{Netlist}
use Rattle.link_rules.specs.Arcs.{sink_at}
use Rattle.link_rules.specs.Checks.{pin_checks}
use Rattle.link_rules.specs.Ends.{sink_name}
use Rattle.link_rules.specs.Pins.{Connected, is_input}
use Rattle.link_pins.specs.declared.arcs.SinkAt.{SinkAt}
use Rattle.link_pins.specs.Places.{place_of}
use Rattle.link_pins.proofs.ArcLaws.{made_more}
use Rattle.link_pins.proofs.PinLaws.{parts_of, some_at}
use Rattle.link_pins.proofs.PlaceLaws.{pin_parts}
use Rattle.link_pins.proofs.CheckLaws.{point, check_of, no_sink}
use Rattle.link_pins.proofs.RelatedLaws.{checks_related}
use Rattle.link_pins.proofs.checks.add_pin_checks.Goals as goal
use Rattle.link_pins.proofs.checks.add_pin_checks.Goals.{in-Some-clock_of+in_ok-end_of+in_ok-push, in_default-clock_of}

no_input : (library : Library) (netlist : Netlist) (d : Connected) → is_input d.pin.role ≡ false → pin_checks library netlist d ≡ []
no_input library netlist d none = rw none refl

pub returns-in_default : goal.returns-in_default
returns-in_default c = λ d at are.
    let p = parts_of c.args.cells.now c.args.nets.now c.args.pin d at in
    let same = same_Some c.of-part.result.now d.pin (sym c.of-part.ensures ∙ p.pin) in
    let name = c.bytes.ensures.value ∙ (c.name.ensures ∙ ap (λ (x : PinParts). x.name) same) in
    let none : sink_at c.args.cells.now c.args.nets.now c.args.pin.instance c.bytes.result.now ≡ None =
    sym (are.each c.bytes.result.now) ∙ (sym c.find.ensures ∙ ap (option_map place_of) c.in_default.is) in
    let own : sink_at c.args.cells.now c.args.nets.now d.instance d.pin.name ≡ None =
    ap (λ n. sink_at c.args.cells.now c.args.nets.now n d.pin.name) p.number ∙ (ap (sink_at c.args.cells.now c.args.nets.now c.args.pin.instance) (sym name) ∙ none) in
    sym (append-nil c.args.checks.now.items) ∙ ap (λ l. c.args.checks.now.items ++ l) (sym (no_sink c.args.cells.now c.args.nets.now d own))

pub loop-one-init : goal.loop-one-init
loop-one-init c = λ d at. sym (append-nil c.args.checks.now.items)

pub loop-one-preserved : goal.loop-one-preserved
loop-one-preserved c = λ d at.
    let r = c.one-item.result in
    let cur = c.loop-one.checks.items in
    let make : Option (Bool × SinkAt) → List CheckPoint = λ o. option_to_list (option_map (λ (k : Bool × SinkAt). point c.args.cells.now c.args.nets.now d r.timing.now k.0 c.in-Some.datum k.1) o) in
    let step : c.match-clock_of.checks.items ≡ cur ++ make c.clock_of.result = elim c.match-clock_of.branch [
      | in-Some-clock_of+in_ok-end_of+in_ok-push w ↦
          let named = w.into_name.ensures ∙ ap sink_name (some_at _ _ d at w.in_ok-end_of.ensures) in
          ap (λ (v : Vec CheckPoint Global). v.items) w.checks-is
          ∙ (w.in_ok-push.ensures.items
          ∙ (ap (λ (n : Text). cur ++ checks.Flop n w.in-Some-clock_of.hold (record { 0 = c.in-Some.datum.net }) c.in-Some.datum.sink (record { 0 = w.in-Some-clock_of.clock.net })
          w.in-Some-clock_of.clock.sink r.timing.now.rise r.timing.now.fall ∷ []) named
          ∙ ap (λ o. cur ++ make o) (sym w.in-Some-clock_of.is)))
      | in_default-clock_of w ↦
          ap (λ (v : Vec CheckPoint Global). v.items) w.checks-is ∙ (sym (append-nil cur) ∙ ap (λ o. cur ++ make o) (sym w.in_default-clock_of.is))
    ] in
    made_more (check_of c.args.cells.now c.args.nets.now d c.in-Some.datum c.args.places.now.at.items) c.args.related.now c.loop-one.one-index r c.args.checks.now.items cur
    c.match-clock_of.checks.items c.loop-one-test.true (c.loop-one.invariant d at)
    (step
    ∙ (ap (λ o. cur ++ make o) c.clock_of.ensures
    ∙ ap (λ x. cur ++ option_to_list (check_of c.args.cells.now c.args.nets.now d c.in-Some.datum c.args.places.now.at.items x)) c.one-item.is))

pub returns : goal.returns
returns c = λ d at are.
    let p = parts_of c.args.cells.now c.args.nets.now c.args.pin d at in
    let same = same_Some c.of-part.result.now d.pin (sym c.of-part.ensures ∙ p.pin) in
    let name = c.bytes.ensures.value ∙ (c.name.ensures ∙ ap (λ (x : PinParts). x.name) same) in
    let found : sink_at c.args.cells.now c.args.nets.now c.args.pin.instance c.bytes.result.now ≡ Some (place_of c.in-Some.datum) =
    sym (are.each c.bytes.result.now) ∙ (sym c.find.ensures ∙ ap (option_map place_of) c.in-Some.is) in
    let own : sink_at c.args.cells.now c.args.nets.now d.instance d.pin.name ≡ Some (place_of c.in-Some.datum) =
    ap (λ n. sink_at c.args.cells.now c.args.nets.now n d.pin.name) p.number ∙ (ap (sink_at c.args.cells.now c.args.nets.now c.args.pin.instance) (sym name) ∙ found) in
    let x = pin_parts c.args.cells.now c.args.pin d.pin p.pin in
    c.loop-one.invariant d at
    ∙ (ap (λ l. c.args.checks.now.items ++ filter_map (check_of c.args.cells.now c.args.nets.now d c.in-Some.datum c.args.places.now.at.items) l)
    (take_all c.loop-one.one-index c.args.related.now c.loop-one-test.false)
    ∙ ap (λ l. c.args.checks.now.items ++ l)
    (checks_related c.args.cells.now c.args.nets.now c.args.pin.instance c.args.pin.cell c.args.places.now.at.items are x.0 x.1 d p.number c.in-Some.datum own
    (sym (some_at _ _ d.pin p.pin c.is_input.ensures) ∙ c.if-not-is_input.false) c.args.related.now (c.requires.found x.0 d.pin x.1 p.pin)))

pub find-requires-clause-cell : goal.find-requires-clause-cell
find-requires-clause-cell c =
    let cell = pin_parts c.args.cells.now c.args.pin c.of-part.result.now c.of-part.ensures in
    slice_get_within c.args.cells.now.cells c.args.pin.cell cell.0 cell.1

pub end_of-requires-clause-there : goal.end_of-requires-clause-there
end_of-requires-clause-there c = c.requires.there

pub end_of-requires-clause-short : goal.end_of-requires-clause-short
end_of-requires-clause-short c = c.requires.short

pub returns-then-not-is_input : goal.returns-then-not-is_input
returns-then-not-is_input c = λ d at are.
    let p = parts_of c.args.cells.now c.args.nets.now c.args.pin d at in
    let none : is_input d.pin.role ≡ false = sym (some_at _ _ d.pin p.pin c.is_input.ensures) ∙ c.if-not-is_input.true in
    sym (append-nil c.args.checks.now.items) ∙ ap (λ l. c.args.checks.now.items ++ l) (sym (no_input c.args.cells.now c.args.nets.now d none))
