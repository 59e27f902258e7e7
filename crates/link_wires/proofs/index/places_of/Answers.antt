use Rattle.std.proofs.Common.{length, refl, ap, ◌∙◌, arith}
use Rattle.name_parts.specs.Parts.{whole}
use Rattle.spef_read.specs.declared.parasitics.WireText.{WireText}
use Rattle.link_rules.specs.Nodes.{text_of}
use Rattle.link_index.proofs.FirstLaws.{first_and_rest, places_all, places_one}
use Rattle.link_wires.proofs.index.places_of.Goals as goal

pub returns : goal.returns
returns c = record {
  each = places_all (λ w. text_of c.args.parasitics.now w.name) c.wires.places c.wires.place c.wires.rest.now c.args.parasitics.now.nets c.in_default.len_below c.wires.invariant.each;
}

pub wires-init : goal.wires-init
wires-init c =
    let len = ap length c.as_slice-rest.ensures in
    record { count = omega (arith, len); each = λ name. rw (c.new-places.ensures, c.as_slice-rest.ensures) refl }

pub wires-preserved : goal.wires-preserved
wires-preserved c =
    let p = c.args.parasitics.now in
    let rest = c.wires.rest.now in
    let x = c.wire-item.result in
    let some = c.in-len1-up.len_at_least in
    let len = ap length (first_and_rest rest x some) in
    let inv = c.wires.invariant in
    let named = c.text_of.ensures ∙ ap (λ (w : WireText). text_of p w.name) c.wire-item.is in
    record {
      count = omega (arith, inv.count, len);
      each = λ name. places_one (λ (w : WireText). text_of p w.name) c.wires.places c.set_first.new.table c.wires.place (whole c.text_of.result) rest x some named c.in_ok-set_first.ensures.given name ∙ inv.each name;
    }
