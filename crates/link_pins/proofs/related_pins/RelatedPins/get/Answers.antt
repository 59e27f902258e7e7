use Rattle.std.proofs.Common.{◌≡◌, ◌<◌, ◌∙◌, length, Some, ap, subst, arith}
use Rattle.std.specs.Prelude.{option_map}
use Rattle.std.specs.List.{slice_get}
use Rattle.liberty_cells.specs.declared.timing.Timing.{Timing}
use Rattle.link_pins.specs.declared.related_pins.NumberedPin.{NumberedPin}
use Rattle.link_pins.specs.Timed.{TimedPins}
use Rattle.link_pins.proofs.KeptLaws.{read_there}
use Rattle.link_pins.proofs.TimedLaws.{numbered_at, numbered_length}
use Rattle.link_pins.proofs.related_pins.RelatedPins.get.Goals as goal

pub index-one-requires : goal.index-one-requires
index-one-requires c =
    let s = c.self.inside in
    omega (arith, c.requires, ap (λ (v : TimedPins). length v.items) c.self.view_is, numbered_length s.timings.now s.pins.items c.self.invariant, s.pins.ok.0)

pub bounds-timings-one : goal.bounds-timings-one
bounds-timings-one c =
    let s = c.self.inside in
    let lt : c.args.place < length s.pins.items =
    omega (arith, c.requires, ap (λ (v : TimedPins). length v.items) c.self.view_is, numbered_length s.timings.now s.pins.items c.self.invariant) in
    let x = c.index-one.result.now in
    omega (arith, c.self.invariant c.args.place x lt, ap (λ (p : NumberedPin). p.timing) c.index-one.ensures)

pub returns : goal.returns
returns c =
    let s = c.self.inside in
    let ts = s.timings.now in
    let lt : c.args.place < length s.pins.items =
    omega (arith, c.requires, ap (λ (v : TimedPins). length v.items) c.self.view_is, numbered_length ts s.pins.items c.self.invariant) in
    let x = c.index-one.result.now in
    let t = c.index-timings-one.result in
    let less : x.timing < length ts = omega (arith, c.self.invariant c.args.place x lt, ap (λ (p : NumberedPin). p.timing) c.index-one.ensures) in
    let here : slice_get s.pins.items c.args.place ≡ Some x = read_there s.pins.items c.args.place x x lt c.index-one.ensures in
    let timed : slice_get ts x.timing ≡ Some t = read_there ts x.timing t t less c.index-timings-one.is in
    let P : TimedPins → Type 0 = λ v. slice_get v.items c.args.place ≡ Some (t, x.pin) in
    subst P c.self.view_is (numbered_at ts s.pins.items c.args.place x c.self.invariant here ∙ ap (option_map (λ (y : Timing). (y, x.pin))) timed)
