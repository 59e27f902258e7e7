use Rattle.link_pins.proofs.FaultLaws.{pin_is_there, pin_is_missing}
use Rattle.link_pins.proofs.PinLaws.{some_at}
use Rattle.link_pins.proofs.instances.check_pin.Goals as goal

pub returns-in-Some : goal.returns-in-Some
returns-in-Some c = λ cell at.
    pin_is_there cell c.args.instance.now c.args.pin.now c.pin.result c.in-Some.field-0 c.in-Some.is (some_at _ _ cell at c.pin.ensures.place)

pub returns-in_ok-from_slice-in-None-2 : goal.returns-in_ok-from_slice-in-None-2
returns-in_ok-from_slice-in-None-2 c = λ cell at.
    pin_is_missing cell c.args.instance.now c.args.pin.now c.in_ok-from_slice-in-None.field-0 c.in_ok-from_slice-in-None-2.field-0 c.pin.result c.in-None.is
    (some_at _ _ cell at c.pin.ensures.place) c.in_ok-from_slice-in-None.ensures c.in_ok-from_slice-in-None-2.ensures
