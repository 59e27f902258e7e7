-- What is entered for the pins of one instance.
use Rattle.std.proofs.Common.{◌≡◌, ℕ, ◌<◌, ◌≤◌, List, Some, sym, subst, arith}
use Rattle.std.specs.Prelude.{Option}
use Rattle.std.specs.List.{All, slice_get}
use Rattle.liberty_cells.specs.declared.library.Library.{Library}
use Rattle.verilog_net.specs.declared.netlist.Netlist.{Netlist}
use Rattle.link_rules.specs.Pins.{pins}
use Rattle.link_pins.specs.declared.arcs.SinkAt.{SinkAt}
use Rattle.link_pins.specs.declared.pins.PinOn.{PinOn}
use Rattle.link_pins.specs.Places.{AreEntries, AreEntered, IsPlaced, IsStretch}
use Rattle.link_pins.specs.Rows.{ArePlaces}
use Rattle.link_pins.specs.Seen.{ArePins, connected_at}
use Rattle.link_pins.proofs.DriverLaws.{paired_at}
use Rattle.link_pins.proofs.OrderLaws.{IsBoundary, own_pins}
use Rattle.link_pins.proofs.PinLaws.{element_at, parts_of}
use Rattle.link_pins.proofs.PlaceLaws.{pin_parts, same_cell, all_entered}

pub entered_for : (library : Library) (netlist : Netlist) (ps : List PinOn) (are : ArePins library netlist ps) (placed : All (IsPlaced library netlist) ps) (places : List ℕ)
    → ArePlaces (pins library netlist) places → (from to : ℕ) → IsStretch ps from to → IsBoundary library netlist from → (at : List (Option SinkAt)) → AreEntries library ps places from to at
    → (k : ℕ) (p : PinOn) → from ≤ k → k < to → slice_get ps k ≡ Some p → AreEntered library netlist p.instance p.cell at
entered_for library netlist ps are placed places known from to stretch before at entries k p least most h =
    let first = element_at ps from (omega (arith, stretch.some, stretch.most)) in
    let y = paired_at (connected_at library netlist) ps (pins library netlist) from first.0 are first.1 in
    let q = parts_of library netlist first.0 y.0 y.2 in
    let c = pin_parts library first.0 y.0.pin q.pin in
    let z = paired_at (connected_at library netlist) ps (pins library netlist) k p are h in
    let all : AreEntered library netlist first.0.instance first.0.cell at =
    all_entered library netlist ps are placed from to first.0 y.0 first.1 y.2 (own_pins library netlist ps are from to first.0 first.1 stretch before)
    (λ i r low high there. stretch.same i first.0 r low high first.1 there) c.0 c.1 places known at entries in
    let on : p.instance ≡ first.0.instance = stretch.same k first.0 p least most first.1 h in
    let cell : p.cell ≡ first.0.cell = same_cell library netlist ps are placed k from p first.0 z.0 y.0 h first.1 z.2 y.2 on in
    subst (λ (n : ℕ). AreEntered library netlist p.instance n at) (sym cell) (subst (λ (n : ℕ). AreEntered library netlist n first.0.cell at) (sym on) all)
