use Rattle.std.proofs.Common.{◌≡◌, ◌∙◌, ap, sym, ◌++◌, map, Ok, SFits, w32, w64, to_z-of_z, rules}
use Rattle.std.specs.Prelude.{codes}
use Rattle.liberty_groups.specs.Trees.{tree_of, head_of}
use Rattle.liberty_tables.specs.Search.{attribute, contents}
use Rattle.liberty_cells.specs.Facts.{pin_of}
use Rattle.liberty_cells.specs.Kinds.{role_of}
use Rattle.liberty_cells.specs.Names.{some_names}
use Rattle.liberty_cells.specs.Pins.{add_pins, cap_of}
use Rattle.liberty_cells.proofs.FirstLaws.{group_entered}
use Rattle.liberty_cells.proofs.pins.add_pins.Goals as goal

pub returns-clause-exact : goal.returns-clause-exact
unfolding add_pins
returns-clause-exact c =
    let bytes = c.args.text.now.bytes.now in
    let t = tree_of c.args.group.now in
    let names : some_names (head_of t).line (contents bytes (head_of t)) ≡ Ok c.in_ok-names.names.items =
    rw (c.line.ensures, c.args-2.ensures) at c.in_ok-names.ensures in
    let scale : SFits w32 c.args.text.now.scales.cap = search rules in
    let value : SFits w64 c.in_ok-cap.cap = search rules in
    let cap : cap_of bytes c.args.text.now.scales.cap (attribute bytes (codes "capacitance") t) ≡ Ok c.in_ok-cap.cap =
    rw (c.attribute.ensures, to_z-of_z scale) at c.in_ok-cap.ensures in
    let role : c.in_ok-role.role ≡ role_of bytes (attribute bytes (codes "direction") t) =
    rw c.attribute-2.ensures at c.in_ok-role.ensures in
    let timings = rw role at c.in_ok-timings.ensures in
    rw (names, cap, timings)
    (ap (λ pins. Ok (c.timings_of.new.tables.items, pins))
    (ap (λ f. c.args.pins.now.items ++ map (pin_of f) c.in_ok-names.names.items) (sym (rw (role, to_z-of_z value) at c.in_ok-facts.ensures)) ∙ sym c.in_ok-add_named.ensures))

pub returns-clause-firsts : goal.returns-clause-firsts
returns-clause-firsts c =
    group_entered _ _ _ c.args.pins.now.items c.add_named.new.pins.items c.args.firsts.now.items c.push.new.self.items _ c.len.result c.requires.firsts c.in_ok-add_named.ensures
    (c.len.ensures ∙ c.args.pins.now.ok.0) c.in_ok-push.ensures.items
