use Rattle.std.proofs.Common.{◌≡◌, ◌∙◌, Some, length, cond, sym, ap}
use Rattle.std.specs.Option.{IsSomeAnd}
use Rattle.verilog_net.specs.declared.netlist.Netlist.{Netlist}
use Rattle.link_rules.specs.Arcs.{pin_arcs}
use Rattle.link_rules.specs.Pins.{Connected}
use Rattle.link_pins.specs.Joined.{arc_count}
use Rattle.link_pins.specs.Known.{IsCount}
use Rattle.link_pins.specs.Places.{AreEntered}
use Rattle.link_pins.specs.Related.{group_at, IsIndexed}
use Rattle.link_pins.specs.Seen.{connected_at}
use Rattle.link_pins.proofs.KeptLaws.{group_for, index_for, to_some_and, with_ok}
use Rattle.link_pins.proofs.PinLaws.{parts_of, some_and, some_at, some_is}
use Rattle.link_pins.proofs.RelatedLaws.{arcs_counted}
use Rattle.link_pins.proofs.counts.arcs_at.Goals as goal

pub count_at-requires-clause-there : goal.count_at-requires-clause-there
count_at-requires-clause-there c =
    let cells = c.args.related.now.cells.items in
    let v = some_is (group_at cells c.args.pin) (c.requires.related.there c.args.pin c.requires.there) in
    to_some_and (group_at cells c.args.pin) IsIndexed v.0 v.1 (index_for c.args.cells.now cells c.requires.related c.args.pin c.requires.there v.0 v.1)

pub returns-then-is_output-clause-count : goal.returns-then-is_output-clause-count
returns-then-is_output-clause-count c =
    let cells = c.args.related.now.cells.items in
    with_ok c.count_at.result (λ n. IsSomeAnd (group_at cells c.args.pin) (IsCount c.args.places.now.at.items n))
    (λ n. (netlist : Netlist) (d : Connected) → connected_at c.args.cells.now netlist c.args.pin ≡ Some d
    → AreEntered c.args.cells.now netlist c.args.pin.instance c.args.pin.cell c.args.places.now.at.items → n ≡ arc_count c.args.cells.now netlist d)
    (λ n is netlist d at are.
    let p = parts_of c.args.cells.now netlist c.args.pin d at in
    let output = sym (some_at _ _ d.pin p.pin c.is_output.ensures) ∙ c.if-is_output.true in
    let v = some_and (group_at cells c.args.pin) (IsCount c.args.places.now.at.items n) is in
    let k = group_for c.args.cells.now cells c.requires.related netlist c.args.pin d at v.0 v.1 in
    v.2
    ∙ (arcs_counted c.args.cells.now netlist c.args.pin.instance c.args.pin.cell c.args.places.now.at.items are k.0 k.1 d p.number output v.0 k.2
    ∙ ap (λ b. cond b (length (pin_arcs c.args.cells.now netlist d)) 0) (sym output)))
    c.count_at.ensures.count
