use Rattle.std.proofs.Common.{◌≡◌, Some, None, sym, ap, ◌∙◌}
use Rattle.std.specs.Str.{bytes_eq}
use Rattle.std.proofs.lemmas.Option.{slice_get-get_or}
use Rattle.name_numbers.specs.Names.{value_of}
use Rattle.link_rules.specs.Nodes.{text_of}
use Rattle.link_rules.specs.Wires.{listed}
use Rattle.link_index.proofs.FirstLaws.{place_within}
use Rattle.link_wires.proofs.NodeLaws.{listed_at}
use Rattle.link_wires.proofs.index.WireIndex.listed.Goals as goal

pub returns-in-None-get : goal.returns-in-None-get
returns-in-None-get c =
    let value : value_of c.args.pins.now.name c.self.inside.places ≡ None =
    ap (λ t. value_of t c.self.inside.places) (sym (c.of.ensures ∙ c.bytes.ensures.value)) ∙ sym c.in-None-get.ensures in
    sym (ap (λ i. listed i.netlist i.parasitics c.args.pins.now) (sym c.self.view_is)
    ∙ listed_at c.self.inside.nets.now c.self.inside.parasitics.now c.args.pins.now c.self.inside.places _ None c.self.invariant (sym c.in-Some.ensures) value)

pub returns-in-Some-get : goal.returns-in-Some-get
returns-in-Some-get c =
    let p = c.self.inside.parasitics.now in
    let name = c.args.pins.now.name in
    let value : value_of name c.self.inside.places ≡ Some c.in-Some-get.place.now =
    ap (λ t. value_of t c.self.inside.places) (sym (c.of.ensures ∙ c.bytes.ensures.value)) ∙ sym c.in-Some-get.ensures in
    let within = place_within (λ w. bytes_eq name (text_of p w.name)) p.nets c.in-Some-get.place.now (sym (c.self.invariant.each name) ∙ value) in
    let here = slice_get-get_or p.nets c.in-Some-get.place.now _ within ∙ ap Some (sym (rw c.as_slice.ensures at c.index-as_slice-place.is)) in
    sym (ap (λ i. listed i.netlist i.parasitics c.args.pins.now) (sym c.self.view_is)
    ∙ listed_at c.self.inside.nets.now p c.args.pins.now c.self.inside.places _ (Some c.in-Some-get.place.now) c.self.invariant (sym c.in-Some.ensures) value ∙ here)
