-- The first net with two drivers.
use Rattle.std.proofs.Common.{◌≡◌, ℕ, ◌+◌, ◌<◌, ◌≤◌, Bool, true, false, ◌∷◌, length, drop, get_or, Some, refl, sym, ap, ◌∙◌, arith}
use Rattle.std.specs.Prelude.{Option, None, nat_le, if◌then◌else◌}
use Rattle.std.specs.List.{slice_get}
use Rattle.std.proofs.lemmas.Bool.Decides.{nat_tests}
use Rattle.std.proofs.lemmas.List.{drop_more, drop_all}
use Rattle.std.proofs.lemmas.List.FromFn.{length-enumerate_from, get_or-enumerate_from}
use Rattle.std.proofs.lemmas.Option.{slice_get_within, get_or_from_slice_get}
use Rattle.liberty_cells.specs.declared.library.Library.{Library}
use Rattle.verilog_net.specs.declared.netlist.Netlist.{Netlist}
use Rattle.link_rules.specs.declared.fault.LinkFault.{LinkFault}
use Rattle.link_rules.specs.declared.fault.LinkFault.TheVariants as faults
use Rattle.link_rules.specs.declared.fault.LinkRefusal.TheVariants as refusals
use Rattle.verilog_net.specs.Bits.{Bit, bits}
use Rattle.link_rules.specs.Circuit.{Numbered, numbered, drivers_of}
use Rattle.link_rules.specs.Refusals.{drivers_fault, driver_fault}

module _ (library : Library) (netlist : Netlist) where
  -- what is left to be tested from the net of this number on
  abbrev pub faults_from : ℕ → Option LinkFault
  faults_from net = drivers_fault library netlist (drop net (numbered netlist))

  pub faults_begin : faults_from 0 ≡ driver_fault library netlist
  unfolding driver_fault
  faults_begin = refl

  module _ (net : ℕ) (b : Bit) (at : slice_get (bits netlist.nets) net ≡ Some b) where
    here : drop net (numbered netlist) ≡ (net, b) ∷ drop (net + 1) (numbered netlist)
    here =
        let within : net < length (bits netlist.nets) = slice_get_within (bits netlist.nets) net b at in
        let len : length (numbered netlist) ≡ length (bits netlist.nets) = length-enumerate_from 0 (bits netlist.nets) in
        drop_more (numbered netlist) net (net, b) (omega arith)
        ∙ ap (λ (n : Numbered). n ∷ drop (net + 1) (numbered netlist))
        (get_or-enumerate_from 0 (bits netlist.nets) net (net, b) within ∙ ap (λ k. (k, get_or (bits netlist.nets) net b)) (omega arith)
        ∙ ap (λ (x : Bit). (net, x)) (get_or_from_slice_get (bits netlist.nets) net b b at))

    step : faults_from net ≡ (if nat_le (length (drivers_of library netlist (net, b))) 1 then faults_from (net + 1) else Some (faults.Refused (refusals.K3 b.name)))
    step = ap (drivers_fault library netlist) here

    pub one_driver : false ≡ nat_le 2 (length (drivers_of library netlist (net, b))) → faults_from (net + 1) ≡ faults_from net
    one_driver single =
        let few : nat_le (length (drivers_of library netlist (net, b))) 1 ≡ true = grind (arith, nat_tests) in
        sym (step ∙ ap (λ (t : Bool). if t then faults_from (net + 1) else Some (faults.Refused (refusals.K3 b.name))) few)

    pub two_drivers : true ≡ nat_le 2 (length (drivers_of library netlist (net, b))) → faults_from net ≡ Some (faults.Refused (refusals.K3 b.name))
    two_drivers twice =
        let many : nat_le (length (drivers_of library netlist (net, b))) 1 ≡ false = grind (arith, nat_tests) in
        step ∙ ap (λ (t : Bool). if t then faults_from (net + 1) else Some (faults.Refused (refusals.K3 b.name))) many

  pub faults_end : (net : ℕ) → length (bits netlist.nets) ≤ net → faults_from net ≡ None
  faults_end net past =
      let len : length (numbered netlist) ≡ length (bits netlist.nets) = length-enumerate_from 0 (bits netlist.nets) in
      ap (drivers_fault library netlist) (drop_all net (numbered netlist) (omega arith))
