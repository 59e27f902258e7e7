use Rattle.std.proofs.Common.{◌≡◌, ◌∙◌, Some, length, sym, ap}
use Rattle.std.specs.Prelude.{None, option_map}
use Rattle.std.proofs.lemmas.Option.{same_Some}
use Rattle.std.specs.Option.{IsSomeAnd}
use Rattle.liberty_cells.specs.Pins.{PinParts}
use Rattle.verilog_net.specs.declared.netlist.Netlist.{Netlist}
use Rattle.link_rules.specs.Arcs.{sink_at}
use Rattle.link_rules.specs.Checks.{pin_checks}
use Rattle.link_rules.specs.Pins.{Connected}
use Rattle.link_pins.specs.Known.{IsCount}
use Rattle.link_pins.specs.Places.{place_of, AreEntered}
use Rattle.link_pins.specs.Related.{group_at, IsIndexed}
use Rattle.link_pins.specs.Seen.{connected_at}
use Rattle.link_pins.proofs.CheckLaws.{no_sink}
use Rattle.link_pins.proofs.KeptLaws.{group_for, index_for, to_some_and, with_ok}
use Rattle.link_pins.proofs.PinLaws.{parts_of, some_and, some_at, some_is}
use Rattle.link_pins.proofs.RelatedLaws.{checks_counted}
use Rattle.link_pins.proofs.counts.checks_at.Goals as goal

pub count_at-requires-clause-there : goal.count_at-requires-clause-there
count_at-requires-clause-there c =
    let cells = c.args.related.now.cells.items in
    let v = some_is (group_at cells c.args.pin) (c.requires.related.there c.args.pin c.requires.there) in
    to_some_and (group_at cells c.args.pin) IsIndexed v.0 v.1 (index_for c.args.cells.now cells c.requires.related c.args.pin c.requires.there v.0 v.1)

pub returns-in-None-clause-count : goal.returns-in-None-clause-count
returns-in-None-clause-count c = λ netlist d at are.
    let p = parts_of c.args.cells.now netlist c.args.pin d at in
    let same = same_Some c.of-part.result.now d.pin (sym c.of-part.ensures ∙ p.pin) in
    let name = c.bytes.ensures.value ∙ (c.name.ensures ∙ ap (λ (x : PinParts). x.name) same) in
    let none : sink_at c.args.cells.now netlist c.args.pin.instance c.bytes.result.now ≡ None =
    sym (are.each c.bytes.result.now) ∙ (sym c.find.ensures ∙ ap (option_map place_of) c.in-None.is) in
    let own : sink_at c.args.cells.now netlist d.instance d.pin.name ≡ None =
    ap (λ n. sink_at c.args.cells.now netlist n d.pin.name) p.number ∙ (ap (sink_at c.args.cells.now netlist c.args.pin.instance) (sym name) ∙ none) in
    ap length (sym (no_sink c.args.cells.now netlist d own))

pub returns-in-Some-clause-count : goal.returns-in-Some-clause-count
returns-in-Some-clause-count c =
    let cells = c.args.related.now.cells.items in
    with_ok c.count_at.result (λ n. IsSomeAnd (group_at cells c.args.pin) (IsCount c.args.places.now.at.items n))
    (λ n. (netlist : Netlist) (d : Connected) → connected_at c.args.cells.now netlist c.args.pin ≡ Some d
    → AreEntered c.args.cells.now netlist c.args.pin.instance c.args.pin.cell c.args.places.now.at.items → n ≡ length (pin_checks c.args.cells.now netlist d))
    (λ n is netlist d at are.
    let p = parts_of c.args.cells.now netlist c.args.pin d at in
    let same = same_Some c.of-part.result.now d.pin (sym c.of-part.ensures ∙ p.pin) in
    let name = c.bytes.ensures.value ∙ (c.name.ensures ∙ ap (λ (x : PinParts). x.name) same) in
    let found : sink_at c.args.cells.now netlist c.args.pin.instance c.bytes.result.now ≡ Some (place_of c.in-Some.field-0) =
    sym (are.each c.bytes.result.now) ∙ (sym c.find.ensures ∙ ap (option_map place_of) c.in-Some.is) in
    let own : sink_at c.args.cells.now netlist d.instance d.pin.name ≡ Some (place_of c.in-Some.field-0) =
    ap (λ n. sink_at c.args.cells.now netlist n d.pin.name) p.number ∙ (ap (sink_at c.args.cells.now netlist c.args.pin.instance) (sym name) ∙ found) in
    let v = some_and (group_at cells c.args.pin) (IsCount c.args.places.now.at.items n) is in
    let k = group_for c.args.cells.now cells c.requires.related netlist c.args.pin d at v.0 v.1 in
    v.2
    ∙ checks_counted c.args.cells.now netlist c.args.pin.instance c.args.pin.cell c.args.places.now.at.items are k.0 k.1 d p.number c.in-Some.field-0 own
    (sym (some_at _ _ d.pin p.pin c.is_input.ensures) ∙ c.if-not-is_input.false) v.0 k.2)
    c.count_at.ensures.count
