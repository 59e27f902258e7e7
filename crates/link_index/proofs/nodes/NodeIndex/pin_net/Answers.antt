use Rattle.std.proofs.Common.{◌≡◌, ◌<◌, length, get_or, Some, None, sym, ap, ◌∙◌, refl, subst, arith}
use Rattle.std.specs.List.{slice_get}
use Rattle.std.specs.Option.{IsSomeAnd}
use Rattle.std.specs.Str.{bytes_eq}
use Rattle.std.proofs.lemmas.Option.{slice_get_read, slice_get-get_or}
use Rattle.std.proofs.lemmas.Slice.Zip.{AllZip-long}
use Rattle.name_numbers.specs.Names.{value_of}
use Rattle.verilog_net.specs.declared.netlist.Instance.{Instance}
use Rattle.link_rules.specs.Nodes.{pin_net}
use Rattle.link_index.specs.declared.wires.PinWires.{PinWires}
use Rattle.link_index.specs.Nets.{AreWired}
use Rattle.link_index.proofs.FirstLaws.{place_within}
use Rattle.link_index.proofs.PlaceLaws.{zipped_at}
use Rattle.link_index.proofs.IndexLaws.{pin_nowhere, pin_is}
use Rattle.link_index.proofs.nodes.NodeIndex.pin_net.Goals as goal

pub returns-in_default : goal.returns-in_default
returns-in_default c =
    sym (ap (λ n. pin_net n c.args.owner.now c.args.pin.now) (sym c.self.view_is)
    ∙ pin_nowhere c.self.inside.nets.now c.self.inside.instances c.args.owner.now c.args.pin.now c.self.invariant.instances (sym c.in_default.ensures))

pub index-requires : goal.index-requires
index-requires c =
    let n = c.self.inside.nets.now in
    let place = place_within (λ i. bytes_eq c.args.owner.now i.name) n.instances c.in-Some.number.now
    (sym (c.self.invariant.instances.each c.args.owner.now) ∙ sym c.in-Some.ensures) in
    omega (arith, place, AllZip-long _ _ _ c.self.invariant.wires, c.self.inside.wires.ok.0)

pub get-requires-2 : goal.get-requires-2
get-requires-2 c =
    let n = c.self.inside.nets.now in
    let number = c.in-Some.number.now in
    let d = c.index-instances-place.result in
    let x = get_or n.instances number d in
    let kept = c.index.result.now in
    let place : c.in-Some.number.now < length n.instances = place_within (λ i. bytes_eq c.args.owner.now i.name) n.instances c.in-Some.number.now
    (sym (c.self.invariant.instances.each c.args.owner.now) ∙ sym c.in-Some.ensures) in
    let at : slice_get n.instances number ≡ Some x = slice_get-get_or n.instances number d place in
    let pins = c.as_slice-pins.ensures ∙ ap (λ l. (get_or l number d).pins) c.instances.ensures.value in
    let here : slice_get c.self.inside.wires.items c.in-Some.number.now ≡ Some kept =
    slice_get_read c.self.inside.wires.items _ c.in-Some.number.now kept refl (omega (arith, place, AllZip-long _ _ _ c.self.invariant.wires)) c.index.ensures in
    let wired : AreWired x.pins kept =
    subst (λ o. IsSomeAnd o (λ i. AreWired i.pins kept)) at
    (zipped_at (λ (i : Instance) (w : PinWires). AreWired i.pins w) n.instances c.self.inside.wires.items c.in-Some.number.now kept c.self.invariant.wires here) in
    subst (λ pins. AreWired pins kept) (sym pins) wired

pub returns-in-None : goal.returns-in-None
returns-in-None c =
    let n = c.self.inside.nets.now in
    let number = c.in-Some.number.now in
    let d = c.index-instances-place.result in
    let x = get_or n.instances number d in
    let place : c.in-Some.number.now < length n.instances = place_within (λ i. bytes_eq c.args.owner.now i.name) n.instances c.in-Some.number.now
    (sym (c.self.invariant.instances.each c.args.owner.now) ∙ sym c.in-Some.ensures) in
    let at : slice_get n.instances number ≡ Some x = slice_get-get_or n.instances number d place in
    let pins = c.as_slice-pins.ensures ∙ ap (λ l. (get_or l number d).pins) c.instances.ensures.value in
    sym (ap (λ n. pin_net n c.args.owner.now c.args.pin.now) (sym c.self.view_is)
    ∙ pin_is n c.self.inside.instances c.args.owner.now c.args.pin.now c.self.invariant.instances c.in-Some.number.now x None (sym c.in-Some.ensures) at
    (c.in-None.ensures ∙ ap (value_of c.args.pin.now) pins))

pub returns-in-Some-get : goal.returns-in-Some-get
returns-in-Some-get c =
    let n = c.self.inside.nets.now in
    let number = c.in-Some.number.now in
    let d = c.index-instances-place.result in
    let x = get_or n.instances number d in
    let place : c.in-Some.number.now < length n.instances = place_within (λ i. bytes_eq c.args.owner.now i.name) n.instances c.in-Some.number.now
    (sym (c.self.invariant.instances.each c.args.owner.now) ∙ sym c.in-Some.ensures) in
    let at : slice_get n.instances number ≡ Some x = slice_get-get_or n.instances number d place in
    let pins = c.as_slice-pins.ensures ∙ ap (λ l. (get_or l number d).pins) c.instances.ensures.value in
    c.net_of.ensures ∙ sym (ap (λ n. pin_net n c.args.owner.now c.args.pin.now) (sym c.self.view_is)
    ∙ pin_is n c.self.inside.instances c.args.owner.now c.args.pin.now c.self.invariant.instances c.in-Some.number.now x (Some c.in-Some-get.wire) (sym c.in-Some.ensures) at
    (c.in-Some-get.ensures ∙ ap (value_of c.args.pin.now) pins))
