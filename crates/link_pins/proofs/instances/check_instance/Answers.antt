use Rattle.std.proofs.Common.{◌∙◌, ℕ, List, sym, ap, subst}
use Rattle.std.specs.List.{All}
use Rattle.std.proofs.lemmas.Result.{err_from_is_err_and}
use Rattle.verilog_net.specs.declared.netlist.Wire.{Wire}
use Rattle.link_rules.specs.Refusals.{pin_fault}
use Rattle.text_forms.specs.Names.{IsShortName}
use Rattle.link_pins.proofs.FaultLaws.{found_as, error_tests, cell_is_missing, cell_is_odd, pins_decide, first_name, others, pin_turn, pin_found, no_pins}
use Rattle.link_pins.proofs.PinLaws.{some_and}
use Rattle.link_pins.proofs.instances.check_instance.Goals as goal

pub returns-in_default : goal.returns-in_default
returns-in_default c =
    cell_is_missing c.args.cells.now c.args.instance.now c.in_ok-from_slice.field-0 c.in_ok-from_slice-2.field-0 c.cell.result c.in_default.is
    (rw c.bytes.ensures at c.cell.ensures.place) (c.in_ok-from_slice.ensures ∙ c.bytes-name.ensures) (c.in_ok-from_slice-2.ensures ∙ c.bytes-in_default.ensures)

pub returns-then-is_odd : goal.returns-then-is_odd
returns-then-is_odd c =
    let odd = some_and _ _ c.is_odd.ensures in
    cell_is_odd c.args.cells.now c.args.instance.now c.cell.result c.in-Some.cell c.in-Some.is (rw c.bytes.ensures at c.cell.ensures.place) odd.0 odd.1
    c.in_ok-from_slice-3.field-0 c.in_ok-from_slice-4.field-0 (sym odd.2 ∙ c.if-is_odd.true)
    (c.in_ok-from_slice-3.ensures ∙ c.bytes-name.ensures) (c.in_ok-from_slice-4.ensures ∙ c.bytes-then-is_odd.ensures)

pub check_pin-requires-clause-pin : goal.check_pin-requires-clause-pin
check_pin-requires-clause-pin c =
    first_name c.pins.rest.now c.pin-item.result c.bytes-in-len1-up.result.now c.in-len1-up.len_at_least c.pins.invariant.names c.pin-item.is c.bytes-in-len1-up.ensures

pub returns-in_err-check_pin : goal.returns-in_err-check_pin
returns-in_err-check_pin c =
    let odd = some_and _ _ c.is_odd.ensures in
    let p = err_from_is_err_and c.from_residual-in_err-check_pin.result c.from_residual-in_err-check_pin.ensures.1 in
    let found = found_as _ _ _ (λ f h.
    pins_decide c.args.cells.now c.args.instance.now c.cell.result c.in-Some.cell c.in-Some.is (rw c.bytes.ensures at c.cell.ensures.place) odd.0 odd.1
    (sym odd.2 ∙ c.if-is_odd.false)
    ∙ (sym (c.pins.invariant.same odd.0 odd.1)
    ∙ pin_found odd.0 c.args.instance.now.name c.pins.rest.now c.pin-item.result c.bytes-name.result.now c.bytes-in-len1-up.result.now c.in-len1-up.len_at_least c.pin-item.is
    c.bytes-in-len1-up.ensures c.bytes-name.ensures f h)) (c.in_err-check_pin.ensures odd.0 odd.1) in
    error_tests _ _ c.in_err-check_pin.field-0.0 p.0 p.1 (sym p.2) found

pub pins-preserved : goal.pins-preserved
pins-preserved c = record {
  same = λ cell at.
      pin_turn cell c.args.instance.now.name c.pins.rest.now c.pin-item.result c.bytes-name.result.now c.bytes-in-len1-up.result.now c.in-len1-up.len_at_least c.pin-item.is
      c.bytes-in-len1-up.ensures c.bytes-name.ensures (c.in_ok-check_pin.ensures cell at)
      ∙ c.pins.invariant.same cell at;
  names = others (λ (p : List ℕ × Wire). IsShortName p.0) c.pins.rest.now c.pin-item.result c.in-len1-up.len_at_least c.pins.invariant.names;
}

pub returns : goal.returns
returns c =
    let odd = some_and _ _ c.is_odd.ensures in
    pins_decide c.args.cells.now c.args.instance.now c.cell.result c.in-Some.cell c.in-Some.is (rw c.bytes.ensures at c.cell.ensures.place) odd.0 odd.1
    (sym odd.2 ∙ c.if-is_odd.false)
    ∙ sym (c.pins.invariant.same odd.0 odd.1)
    ∙ no_pins odd.0 c.args.instance.now.name c.pins.rest.now c.in_default-rest.len_below

pub pins-init : goal.pins-init
pins-init c = record {
  same = λ x there. ap (pin_fault x c.args.instance.now.name) c.as_slice-rest.ensures;
  names = subst (All (λ (p : List ℕ × Wire). IsShortName p.0)) (sym c.as_slice-rest.ensures) c.requires.pins;
}

pub check_pin-requires-clause-cell : goal.check_pin-requires-clause-cell
check_pin-requires-clause-cell c = c.in-Some.ensures.there

pub check_pin-requires-clause-instance : goal.check_pin-requires-clause-instance
check_pin-requires-clause-instance c = rw c.bytes-name.ensures c.requires.name.name
