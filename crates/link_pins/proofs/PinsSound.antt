-- What all pins on nets keep: their names are short, and their nets are there.
use Rattle.std.proofs.Common.{◌≡◌, ℕ, zero, suc, ◌+◌, ◌<◌, true, List, [], ◌∷◌, length, Some, refl, arith}
use Rattle.std.specs.Prelude.{Option, None, filter_map, bytes_eq, option_and_then}
use Rattle.std.specs.List.{All, cons_option}
use Rattle.std.proofs.lemmas.List.Elements.{All-append, All-head, All-tail}
use Rattle.std.proofs.lemmas.Option.{none-some, same_Some}
use Rattle.std.proofs.lemmas.Slice.Eq.{bytes_eq-Decides}
use Rattle.name_numbers.specs.Names.{Text}
use Rattle.liberty_cells.specs.declared.cell.Cell.{Cell}
use Rattle.liberty_cells.specs.declared.library.Library.{Library}
use Rattle.liberty_cells.specs.Pins.{PinParts}
use Rattle.verilog_net.specs.declared.netlist.Instance.{Instance}
use Rattle.verilog_net.specs.declared.netlist.Netlist.{Netlist}
use Rattle.verilog_net.specs.declared.netlist.Wire.{Wire}
use Rattle.verilog_net.specs.declared.netlist.Wire.TheVariants as wires
use Rattle.verilog_net.specs.Nets.{Nets}
use Rattle.verilog_net.specs.Bits.{bits}
use Rattle.link_rules.specs.Bits.{is_bit, net_of}
use Rattle.link_rules.specs.Pins.{Connected, cell_named, pin_named, connected, pins_from, pins}
use Rattle.text_forms.specs.Names.{IsShortName}
use Rattle.verilog_net.specs.Sound.{IsSoundInstance, IsSoundNetlist}
use Rattle.link_pins.proofs.PinLaws.{placed_within, passes}

pub record IsFine (netlist : Netlist) (c : Connected) : Type 0 where
  pub owner : IsShortName c.owner
  pub name : IsShortName c.pin.name
  pub net : c.net < length (bits netlist.nets)

net_within : (nets : Nets) (w : Wire) (net : ℕ) → net_of nets w ≡ Some net → net < length (bits nets)
unfolding net_of
net_within nets wires.Open net h = absurd (none-some net h)
net_within nets wires.Constant net h = absurd (none-some net h)
net_within nets (wires.Bit decl bit) net h = placed_within (is_bit decl bit) (bits nets) net h
net_within nets (wires.Whole decl) net h = absurd (none-some net h)

module _ (library : Library) (netlist : Netlist) where
  one_fine : (number : ℕ) (i : Instance) (x : Text × Wire) (c : Connected) → IsShortName i.name → IsShortName x.0
      → connected library netlist number i x ≡ Some c → IsFine netlist c
  one_fine number i x c owner name h = by_cell (cell_named library i.cell) h
    where
      by_net : (pin : PinParts) → bytes_eq x.0 pin.name ≡ true → (o : Option ℕ) → net_of netlist.nets x.1 ≡ o
          → option_and_then (λ (net : ℕ). Some (record { instance = number; owner = i.name; pin = pin; net = net })) o ≡ Some c → IsFine netlist c
      by_net pin same None e k = absurd (none-some c k)
      by_net pin same (Some net) e k =
          let is : record { instance = number; owner = i.name; pin = pin; net = net } ≡ c = same_Some (record { instance = number; owner = i.name; pin = pin; net = net }) c k in
          let named : x.0 ≡ pin.name = (bytes_eq-Decides x.0 pin.name).0 same in
          rw (← is) (record { owner = owner; name = rw (← named) name; net = net_within netlist.nets x.1 net e })

      by_pin : (cell : Cell) (o : Option PinParts) → pin_named cell x.0 ≡ o
          → option_and_then (λ (pin : PinParts). option_and_then (λ (net : ℕ). Some (record { instance = number; owner = i.name; pin = pin; net = net })) (net_of netlist.nets x.1)) o ≡ Some c
          → IsFine netlist c
      by_pin cell None e k = absurd (none-some c k)
      by_pin cell (Some pin) e k = by_net pin (passes (λ p. bytes_eq x.0 p.name) cell.pins pin e) (net_of netlist.nets x.1) refl k

      by_cell : (o : Option Cell)
          → option_and_then (λ (cell : Cell). option_and_then (λ (pin : PinParts). option_and_then (λ (net : ℕ). Some (record { instance = number; owner = i.name; pin = pin; net = net })) (net_of netlist.nets x.1)) (pin_named cell x.0)) o ≡ Some c
          → IsFine netlist c
      by_cell None k = absurd (none-some c k)
      by_cell (Some cell) k = by_pin cell (pin_named cell x.0) refl k

  with_one : (o : Option Connected) (rest : List Connected) → ((c : Connected) → o ≡ Some c → IsFine netlist c) → All (IsFine netlist) rest → All (IsFine netlist) (cons_option o rest)
  with_one None rest h all = all
  with_one (Some c) rest h all = All-append (IsFine netlist) (c ∷ []) rest (λ k d lt. one k d lt) all
    where
      one : All (IsFine netlist) (c ∷ [])
      one zero d lt = h c refl
      one (suc k) d lt = absurd (omega arith)

  instance_fine : (number : ℕ) (i : Instance) → IsShortName i.name → (xs : List (Text × Wire)) → All (λ x. IsShortName x.0) xs
      → All (IsFine netlist) (filter_map (connected library netlist number i) xs)
  instance_fine number i owner [] names = λ k d lt. absurd (omega arith)
  instance_fine number i owner (x ∷ xs) names =
      with_one (connected library netlist number i x) (filter_map (connected library netlist number i) xs)
      (λ c h. one_fine number i x c owner (All-head (λ y. IsShortName y.0) x xs names) h)
      (instance_fine number i owner xs (All-tail (λ y. IsShortName y.0) x xs names))

  all_from : (number : ℕ) (is : List Instance) → All IsSoundInstance is → All (IsFine netlist) (pins_from library netlist number is)
  all_from number [] sound = λ k d lt. absurd (omega arith)
  all_from number (i ∷ is) sound =
      let s : IsSoundInstance i = All-head IsSoundInstance i is sound in
      All-append (IsFine netlist) (filter_map (connected library netlist number i) i.pins) (pins_from library netlist (number + 1) is)
      (instance_fine number i s.name i.pins s.pins) (all_from (number + 1) is (All-tail IsSoundInstance i is sound))

  -- all pins on nets are so
  pub pins_fine : IsSoundNetlist netlist → All (IsFine netlist) (pins library netlist)
  unfolding pins
  pins_fine sound = all_from 0 netlist.instances sound.instances
