-- The pins on nets stand in the order of their instances.
use Rattle.std.proofs.Common.{◌≡◌, ◌≢◌, ℕ, zero, suc, ◌+◌, ◌<◌, ◌≤◌, List, [], ◌∷◌, ◌++◌, length, Some, refl, sym, ap, ◌∙◌, arith, inl, inr, ◌⊎◌}
use Rattle.std.specs.Prelude.{Option, None, filter_map, option_and_then}
use Rattle.std.specs.List.{slice_get, cons_option}
use Rattle.std.proofs.lemmas.Bool.{cases_lt, cases_eq}
use Rattle.std.proofs.lemmas.Option.{none-some, same_Some, slice_get_within}
use Rattle.name_numbers.specs.Names.{Text}
use Rattle.liberty_cells.specs.declared.cell.Cell.{Cell}
use Rattle.liberty_cells.specs.declared.library.Library.{Library}
use Rattle.liberty_cells.specs.Pins.{PinParts}
use Rattle.verilog_net.specs.declared.netlist.Instance.{Instance}
use Rattle.verilog_net.specs.declared.netlist.Netlist.{Netlist}
use Rattle.verilog_net.specs.declared.netlist.Wire.{Wire}
use Rattle.link_rules.specs.Bits.{net_of}
use Rattle.link_rules.specs.Pins.{Connected, cell_named, pin_named, connected, pins_from, pins}
use Rattle.link_pins.specs.declared.pins.PinOn.{PinOn}
use Rattle.link_pins.specs.Places.{IsStretch}
use Rattle.link_pins.specs.Seen.{ArePins, connected_at}
use Rattle.link_pins.proofs.DriverLaws.{paired_at, same_length}
use Rattle.link_pins.proofs.PinLaws.{element_at, parts_of}

-- what stands in two lists one behind the other
at_append : {X : Type 0} (xs ys : List X) (i : ℕ) (z : X) → slice_get (xs ++ ys) i ≡ Some z
    → (slice_get xs i ≡ Some z) ⊎ ((j : ℕ) × (i ≡ length xs + j) × (slice_get ys j ≡ Some z))
at_append [] ys i z h = inr (i, omega arith, h)
at_append (x ∷ xs) ys zero z h = inl h
at_append {X} (x ∷ xs) ys (suc i) z h = by (at_append xs ys i z h)
  where
    by : (slice_get xs i ≡ Some z) ⊎ ((j : ℕ) × (i ≡ length xs + j) × (slice_get ys j ≡ Some z))
        → (slice_get (x ∷ xs) (suc i) ≡ Some z) ⊎ ((j : ℕ) × (suc i ≡ length (x ∷ xs) + j) × (slice_get ys j ≡ Some z))
    by (inl e) = inl e
    by (inr e) = inr (e.0, omega (arith, e.1), e.2)

module _ (library : Library) (netlist : Netlist) where
  numbered_so : (number : ℕ) (i : Instance) (x : Text × Wire) (c : Connected) → connected library netlist number i x ≡ Some c → c.instance ≡ number
  numbered_so number i x c h = by_cell (cell_named library i.cell) h
    where
      by_net : (pin : PinParts) (o : Option ℕ)
          → option_and_then {U = Connected} (λ (net : ℕ). Some (record { instance = number; owner = i.name; pin = pin; net = net })) o ≡ Some c → c.instance ≡ number
      by_net pin None k = absurd (none-some c k)
      by_net pin (Some net) k =
          let is : record { instance = number; owner = i.name; pin = pin; net = net } ≡ c = same_Some (record { instance = number; owner = i.name; pin = pin; net = net }) c k in
          sym (ap (λ (d : Connected). d.instance) is)

      by_pin : (o : Option PinParts)
          → option_and_then {U = Connected} (λ (pin : PinParts). option_and_then {U = Connected} (λ (net : ℕ). Some (record { instance = number; owner = i.name; pin = pin; net = net })) (net_of netlist.nets x.1)) o ≡ Some c
          → c.instance ≡ number
      by_pin None k = absurd (none-some c k)
      by_pin (Some pin) k = by_net pin (net_of netlist.nets x.1) k

      by_cell : (o : Option Cell)
          → option_and_then {U = Connected} (λ (cell : Cell). option_and_then {U = Connected} (λ (pin : PinParts). option_and_then {U = Connected} (λ (net : ℕ). Some (record { instance = number; owner = i.name; pin = pin; net = net })) (net_of netlist.nets x.1)) (pin_named cell x.0)) o ≡ Some c
          → c.instance ≡ number
      by_cell None k = absurd (none-some c k)
      by_cell (Some cell) k = by_pin (pin_named cell x.0) k

  all_so : (number : ℕ) (i : Instance) (xs : List (Text × Wire)) (k : ℕ) (c : Connected) → slice_get (filter_map (connected library netlist number i) xs) k ≡ Some c → c.instance ≡ number
  all_so number i [] k c h = absurd (omega (arith, slice_get_within [] k c h))
  all_so number i (x ∷ xs) k c h = by (connected library netlist number i x) refl k h (λ m g. all_so number i xs m c g)
    where
      by : (o : Option Connected) → connected library netlist number i x ≡ o → (m : ℕ) → slice_get (cons_option o (filter_map (connected library netlist number i) xs)) m ≡ Some c
          → ((m : ℕ) → slice_get (filter_map (connected library netlist number i) xs) m ≡ Some c → c.instance ≡ number) → c.instance ≡ number
      by None e m g later = later m g
      by (Some d) e zero g later = numbered_so number i x c (e ∙ g)
      by (Some d) e (suc m) g later = later m g

  least_from : (number : ℕ) (is : List Instance) (k : ℕ) (c : Connected) → slice_get (pins_from library netlist number is) k ≡ Some c → number ≤ c.instance
  least_from number [] k c h = absurd (omega (arith, slice_get_within [] k c h))
  least_from number (i ∷ is) k c h = by (at_append (filter_map (connected library netlist number i) i.pins) (pins_from library netlist (number + 1) is) k c h) (λ j g. least_from (number + 1) is j c g)
    where
      by : (slice_get (filter_map (connected library netlist number i) i.pins) k ≡ Some c)
          ⊎ ((j : ℕ) × (k ≡ length (filter_map (connected library netlist number i) i.pins) + j) × (slice_get (pins_from library netlist (number + 1) is) j ≡ Some c))
          → ((j : ℕ) → slice_get (pins_from library netlist (number + 1) is) j ≡ Some c → number + 1 ≤ c.instance) → number ≤ c.instance
      by (inl e) later = omega (arith, all_so number i i.pins k c e)
      by (inr e) later = omega (arith, later e.0 e.2)

  in_order : (number : ℕ) (is : List Instance) (k m : ℕ) (c d : Connected) → k ≤ m → slice_get (pins_from library netlist number is) k ≡ Some c
      → slice_get (pins_from library netlist number is) m ≡ Some d → c.instance ≤ d.instance
  in_order number [] k m c d le a b = absurd (omega (arith, slice_get_within [] k c a))
  in_order number (i ∷ is) k m c d le a b = by (at_append (filter_map (connected library netlist number i) i.pins) (pins_from library netlist (number + 1) is) k c a) (at_append (filter_map (connected library netlist number i) i.pins) (pins_from library netlist (number + 1) is) m d b)
      (λ x y less u v. in_order (number + 1) is x y c d less u v)
    where
      by : (slice_get (filter_map (connected library netlist number i) i.pins) k ≡ Some c) ⊎ ((j : ℕ) × (k ≡ length (filter_map (connected library netlist number i) i.pins) + j) × (slice_get (pins_from library netlist (number + 1) is) j ≡ Some c))
          → (slice_get (filter_map (connected library netlist number i) i.pins) m ≡ Some d) ⊎ ((j : ℕ) × (m ≡ length (filter_map (connected library netlist number i) i.pins) + j) × (slice_get (pins_from library netlist (number + 1) is) j ≡ Some d))
          → ((x y : ℕ) → x ≤ y → slice_get (pins_from library netlist (number + 1) is) x ≡ Some c → slice_get (pins_from library netlist (number + 1) is) y ≡ Some d → c.instance ≤ d.instance)
          → c.instance ≤ d.instance
      by (inl e) (inl f) later = omega (arith, all_so number i i.pins k c e, all_so number i i.pins m d f)
      by (inl e) (inr f) later = omega (arith, all_so number i i.pins k c e, least_from (number + 1) is f.0 d f.2)
      by (inr e) (inl f) later = absurd (omega (arith, le, e.1, slice_get_within (filter_map (connected library netlist number i) i.pins) m d f))
      by (inr e) (inr f) later = later e.0 f.0 (omega (arith, le, e.1, f.1)) e.2 f.2

  pub ordered : (k m : ℕ) (c d : Connected) → k ≤ m → slice_get (pins library netlist) k ≡ Some c → slice_get (pins library netlist) m ≡ Some d → c.instance ≤ d.instance
  unfolding pins
  ordered k m c d le a b = in_order 0 netlist.instances k m c d le a b

  -- the pins before a place are of earlier instances than those from it on
  abbrev pub IsBoundary : ℕ → Type 0
  IsBoundary from = (i j : ℕ) (c d : Connected) → i < from → from ≤ j → slice_get (pins library netlist) i ≡ Some c → slice_get (pins library netlist) j ≡ Some d → c.instance < d.instance

  pub starts : IsBoundary 0
  starts i j c d lt le a b = absurd (omega (arith, lt))

  module _ (ps : List PinOn) (are : ArePins library netlist ps) (from to : ℕ) (first : PinOn) (begins : slice_get ps from ≡ Some first) (stretch : IsStretch ps from to) where
    abbrev all : List Connected
    all = pins library netlist

    same_count : length ps ≡ length all
    same_count = same_length (connected_at library netlist) (λ (x : Connected). Some x) ps all are

    number_of : (i : ℕ) (p : PinOn) (c : Connected) → slice_get ps i ≡ Some p → slice_get all i ≡ Some c → c.instance ≡ p.instance
    number_of i p c a b =
        let y = paired_at (connected_at library netlist) ps all i p are a in
        (parts_of library netlist p c (y.2 ∙ ap Some (same_Some y.0 c (sym y.1 ∙ b)))).number

    pin_of : (i : ℕ) (c : Connected) → slice_get all i ≡ Some c → (p : PinOn) × (slice_get ps i ≡ Some p) × (c.instance ≡ p.instance)
    pin_of i c h =
        let p = element_at ps i (omega (arith, same_count, slice_get_within all i c h)) in
        (p.0, p.1, number_of i p.0 c p.1 h)

    pub next_boundary : IsBoundary from → IsBoundary to
    next_boundary before i j c d lt le a b = elim (cases_lt i from) [
      | inl less ↦ before i j c d less (omega (arith, stretch.some)) a b
      | inr more ↦
          let p = pin_of i c a in
          let one : p.0.instance ≡ first.instance = stretch.same i first p.0 more lt begins p.1 in
          let e = element_at all to (omega (arith, le, slice_get_within all j d b)) in
          let q = pin_of to e.0 e.1 in
          let other : q.0.instance ≢ first.instance = stretch.next first q.0 begins q.1 in
          let up : c.instance ≤ e.0.instance = ordered i to c e.0 (omega (arith, lt)) a e.1 in
          let on : e.0.instance ≤ d.instance = ordered to j e.0 d le e.1 b in
          elim (cases_eq q.0.instance first.instance) [
            | inl equal ↦ absurd (other equal)
            | inr differ ↦ omega (arith, p.2, one, q.2, up, on, differ)
          ]
    ]

    -- its pins stand nowhere else
    pub own_pins : IsBoundary from → (i : ℕ) (c : Connected) → slice_get all i ≡ Some c → c.instance ≡ first.instance → (from ≤ i) × (i < to)
    own_pins before i c h same =
        let f = element_at all from (omega (arith, same_count, slice_get_within ps from first begins)) in
        let is : f.0.instance ≡ first.instance = number_of from first f.0 begins f.1 in (
          elim (cases_lt i from) [
            | inl less ↦ absurd (omega (arith, before i from c f.0 less (omega arith) h f.1, is, same))
            | inr more ↦ more
          ],
          elim (cases_lt i to) [
            | inl less ↦ less
            | inr more ↦ absurd (omega (arith, next_boundary before from i f.0 c stretch.some more f.1 h, is, same))
          ],
        )
