use Rattle.std.proofs.Common.{◌≡◌, ◌∙◌, Some, refl, sym, ap}
use Rattle.std.specs.List.{slice_get}
use Rattle.std.proofs.lemmas.Option.{slice_get_read, slice_get_within, same_Some}
use Rattle.liberty_cells.specs.Pins.{PinParts}
use Rattle.verilog_net.specs.declared.netlist.Instance.{Instance}
use Rattle.verilog_net.specs.declared.netlist.Netlist.{Netlist}
use Rattle.link_pins.proofs.PinLaws.{some_is, of_some, parts_of}
use Rattle.link_pins.proofs.sinks.end_of.Goals as goal

pub pin-requires-clause-instance : goal.pin-requires-clause-instance
pin-requires-clause-instance c =
    let k = some_is _ c.requires.there in
    let short = of_some _ _ k.0 k.1 c.requires.short in
    let p = parts_of c.args.cells.now c.args.nets.now c.args.pin k.0 k.1 in
    let same : c.as_slice.result.now ≡ c.args.nets.now.instances = c.as_slice.ensures ∙ ap (λ (n : Netlist). n.instances) c.netlist.ensures.value in
    let read : slice_get c.as_slice.result.now c.args.pin.instance ≡ Some c.index-as_slice-pin.result =
    slice_get_read c.as_slice.result.now _ c.args.pin.instance c.index-as_slice-pin.result refl (slice_get_within c.as_slice.result.now c.args.pin.instance p.instance (rw same p.at)) c.index-as_slice-pin.is in
    let one : p.instance ≡ c.index-as_slice-pin.result = same_Some p.instance c.index-as_slice-pin.result (sym p.at ∙ (rw same at read)) in
    rw (c.bytes.ensures, ← one, ← p.owner) short.0

pub returns : goal.returns
returns c =
    let k = some_is _ c.requires.there in
    let p = parts_of c.args.cells.now c.args.nets.now c.args.pin k.0 k.1 in
    let same : c.as_slice.result.now ≡ c.args.nets.now.instances = c.as_slice.ensures ∙ ap (λ (n : Netlist). n.instances) c.netlist.ensures.value in
    let read : slice_get c.as_slice.result.now c.args.pin.instance ≡ Some c.index-as_slice-pin.result =
    slice_get_read c.as_slice.result.now _ c.args.pin.instance c.index-as_slice-pin.result refl (slice_get_within c.as_slice.result.now c.args.pin.instance p.instance (rw same p.at)) c.index-as_slice-pin.is in
    let one : p.instance ≡ c.index-as_slice-pin.result = same_Some p.instance c.index-as_slice-pin.result (sym p.at ∙ (rw same at read)) in
    let pin : c.of.result.now ≡ k.0.pin = same_Some c.of.result.now k.0.pin (sym c.of.ensures ∙ p.pin) in
    let owner : c.bytes.result.now ≡ k.0.owner = c.bytes.ensures ∙ (ap (λ (i : Instance). i.name) (sym one) ∙ sym p.owner) in
    let name : c.bytes-2.result.now ≡ k.0.pin.name = c.bytes-2.ensures.value ∙ (c.name.ensures ∙ ap (λ (q : PinParts). q.name) pin) in
    rw k.1 (rw (owner, name) at c.pin.ensures)

pub bounds-as_slice-pin : goal.bounds-as_slice-pin
bounds-as_slice-pin c =
    let k = some_is _ c.requires.there in
    let p = parts_of c.args.cells.now c.args.nets.now c.args.pin k.0 k.1 in
    let same : c.as_slice.result.now ≡ c.args.nets.now.instances = c.as_slice.ensures ∙ ap (λ (n : Netlist). n.instances) c.netlist.ensures.value in
    rw same (slice_get_within c.args.nets.now.instances c.args.pin.instance p.instance p.at)

pub pin-requires-clause-pin : goal.pin-requires-clause-pin
pin-requires-clause-pin c =
    let k = some_is _ c.requires.there in
    let short = of_some _ _ k.0 k.1 c.requires.short in
    let p = parts_of c.args.cells.now c.args.nets.now c.args.pin k.0 k.1 in
    let pin : c.of.result.now ≡ k.0.pin = same_Some c.of.result.now k.0.pin (sym c.of.ensures ∙ p.pin) in
    let name : c.bytes-2.result.now ≡ k.0.pin.name = c.bytes-2.ensures.value ∙ (c.name.ensures ∙ ap (λ (q : PinParts). q.name) pin) in
    rw name short.1
