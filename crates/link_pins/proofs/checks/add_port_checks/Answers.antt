use Rattle.std.proofs.Common.{◌++◌, ◌∙◌, true, false, sym, ap, append_assoc}
use Rattle.std.proofs.lemmas.List.{append-nil}
use Rattle.link_rules.specs.Checks.{side_check, set_checks}
use Rattle.link_pins.proofs.checks.add_port_checks.Goals as goal

pub add_side-requires : goal.add_side-requires
add_side-requires c = c.requires

pub returns-in_ok-add_side-2 : goal.returns-in_ok-add_side-2
returns-in_ok-add_side-2 c =
    let items = c.args.checks.now.items in
    let output = c.in-Some.set.output in
    let setup = side_check c.args.name.now false c.args.at.0 c.args.at.1 output.rise_max output.fall_max in
    let hold = side_check c.args.name.now true c.args.at.0 c.args.at.1 output.rise_min output.fall_min in
    c.in_ok-add_side-2.ensures
    ∙ (ap (λ l. l ++ hold) c.in_ok-add_side.ensures
    ∙ (append_assoc items setup hold ∙ ap (λ o. items ++ set_checks c.args.name.now c.args.at.0 c.args.at.1 o) c.in-Some.ensures.value))

pub returns-in_default : goal.returns-in_default
returns-in_default c =
    let items = c.args.checks.now.items in
    sym (append-nil items) ∙ ap (λ o. items ++ set_checks c.args.name.now c.args.at.0 c.args.at.1 o) c.in_default.ensures.value
