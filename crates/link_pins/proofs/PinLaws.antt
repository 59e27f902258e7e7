-- The pins that instances have on nets, by places.
use Rattle.std.proofs.Common.{◌≡◌, ℕ, suc, ◌+◌, ◌<◌, ◌≤◌, Bool, true, false, cond, List, [], ◌∷◌, ◌++◌, length, map, take, Some, refl, sym, ap, ◌∙◌, arith, inl, inr, append_assoc}
use Rattle.std.specs.Prelude.{Option, None, IsSome, IfSome, find, position, nat_lt, filter_map, option_and_then, bytes_eq}
use Rattle.std.specs.List.{slice_get, position_or_len, cons_option}
use Rattle.std.specs.Option.{option_to_list, IsSomeAnd}
use Rattle.std.proofs.lemmas.Bool.{false≢true}
use Rattle.std.proofs.lemmas.Bool.Decides.{nat_tests}
use Rattle.std.proofs.lemmas.List.{append-nil, map-append, take_more, take_all, length-take-le}
use Rattle.std.proofs.lemmas.List.Folds.{find_at}
use Rattle.std.proofs.lemmas.Option.{slice_get_past, slice_get_within, slice_get_cases, get_or_from_slice_get, same_Some, none-some}
use Rattle.name_numbers.specs.Names.{Text}
use Rattle.liberty_cells.specs.declared.cell.Cell.{Cell}
use Rattle.liberty_cells.specs.declared.library.Library.{Library}
use Rattle.liberty_cells.specs.Pins.{PinParts}
use Rattle.verilog_net.specs.declared.netlist.Instance.{Instance}
use Rattle.verilog_net.specs.declared.netlist.Netlist.{Netlist}
use Rattle.verilog_net.specs.declared.netlist.Wire.{Wire}
use Rattle.link_rules.specs.Bits.{net_of}
use Rattle.link_rules.specs.Pins.{Connected, cell_named, pin_named, connected, pins_from, pins}
use Rattle.link_index.specs.Cells.{cell_place, pin_place}
use Rattle.link_pins.specs.declared.pins.PinOn.{PinOn}
use Rattle.link_pins.specs.Seen.{pin_at, connected_at}

-- what is found is what stands at the first place
find_by : {A : Type 0} (p : A → Bool) (xs : List A) (b : Bool) → nat_lt (position_or_len p xs) (length xs) ≡ b
    → slice_get xs (position_or_len p xs) ≡ option_and_then (slice_get xs) (cond b (Some (position_or_len p xs)) None)
find_by p xs true e = refl
find_by p xs false e =
    let past : length xs ≤ position_or_len p xs = grind (arith, nat_tests) in
    slice_get_past xs (position_or_len p xs) past

pub find_placed : {A : Type 0} (p : A → Bool) (xs : List A) → find p xs ≡ option_and_then (slice_get xs) (position p xs)
find_placed p xs = find_at p xs ∙ find_by p xs (nat_lt (position_or_len p xs) (length xs)) refl

pub find_none : {A : Type 0} (p : A → Bool) (xs : List A) → position p xs ≡ None → find p xs ≡ None
find_none p xs e = find_placed p xs ∙ ap (option_and_then (slice_get xs)) e

pub find_some : {A : Type 0} (p : A → Bool) (xs : List A) (i : ℕ) → position p xs ≡ Some i → find p xs ≡ slice_get xs i
find_some p xs i e = find_placed p xs ∙ ap (option_and_then (slice_get xs)) e

-- what is found passes the test
pub passes : {A : Type 0} (p : A → Bool) (xs : List A) (y : A) → find p xs ≡ Some y → p y ≡ true
passes p [] y h = absurd (none-some y h)
passes p (x ∷ xs) y h = by (p x) refl h (passes p xs y)
  where
    by : (b : Bool) → p x ≡ b → cond b (Some x) (find p xs) ≡ Some y → (find p xs ≡ Some y → p y ≡ true) → p y ≡ true
    by true e k more = let same : x ≡ y = same_Some x y k in ap p (sym same) ∙ e
    by false e k more = more k

-- a place that is found is within the list
placed_by : {A : Type 0} (p : A → Bool) (xs : List A) (i : ℕ) (b : Bool) → nat_lt (position_or_len p xs) (length xs) ≡ b
    → cond b (Some (position_or_len p xs)) None ≡ Some i → i < length xs
placed_by p xs i true e h =
    let same : position_or_len p xs ≡ i = same_Some (position_or_len p xs) i h in
    let lt : position_or_len p xs < length xs = grind (arith, nat_tests) in
    omega arith
placed_by p xs i false e h = absurd (none-some i h)

pub placed_within : {A : Type 0} (p : A → Bool) (xs : List A) (i : ℕ) → position p xs ≡ Some i → i < length xs
placed_within p xs i h = placed_by p xs i (nat_lt (position_or_len p xs) (length xs)) refl h

pub element_at : {A : Type 0} (xs : List A) (i : ℕ) → i < length xs → (x : A) × (slice_get xs i ≡ Some x)
element_at xs i h =
    elim ((slice_get_cases xs i).1) [
      | inl found ↦ (found.0, found.2)
      | inr past ↦ absurd (omega (arith, past.0))
    ]

-- what a clause says of a value that is there
pub some_and : {X : Type 0} (o : Option X) (P : X → Type 0) → IsSomeAnd o P → (x : X) × (o ≡ Some x) × P x
some_and None P h = absurd h
some_and (Some x) P h = (x, refl, h)

pub some_at : {X : Type 0} (o : Option X) (P : X → Type 0) (x : X) → o ≡ Some x → IsSomeAnd o P → P x
some_at o P x e h = rw e at h

-- a connection by what is found for it
module _ (library : Library) (netlist : Netlist) (number : ℕ) (i : Instance) (x : Text × Wire) (cell : Cell) (named : cell_named library i.cell ≡ Some cell) where
  abbrev on : PinParts → ℕ → Connected
  on pin net = record { instance = number; owner = i.name; pin = pin; net = net }

  found_on : (pin : PinParts) (net : ℕ) → pin_named cell x.0 ≡ Some pin → net_of netlist.nets x.1 ≡ Some net → connected library netlist number i x ≡ Some (on pin net)
  found_on pin net a b = rw (named, a, b) refl

  found_no_pin : pin_named cell x.0 ≡ None → connected library netlist number i x ≡ None
  found_no_pin a = rw (named, a) refl

  found_no_net : net_of netlist.nets x.1 ≡ None → connected library netlist number i x ≡ None
  found_no_net b = rw (named, b) (by (pin_named cell x.0))
    where
      by : (o : Option PinParts) → option_and_then {U = Connected} (λ (pin : PinParts). None) o ≡ None
      by None = refl
      by (Some p) = refl

placed_on : (library : Library) (netlist : Netlist) (number cell place net : ℕ) (i : Instance) (c : Cell) (p : PinParts) → slice_get netlist.instances number ≡ Some i
    → slice_get library.cells cell ≡ Some c → slice_get c.pins place ≡ Some p
    → connected_at library netlist (record { instance = number; cell = cell; pin = place; net = net }) ≡ Some (record { instance = number; owner = i.name; pin = p; net = net })
placed_on library netlist number cell place net i c p a b d = rw (a, b, d) refl

module _ (library : Library) (netlist : Netlist) (number : ℕ) (instance : Instance) (at : slice_get netlist.instances number ≡ Some instance)
    (cell : ℕ) (is : cell_place library instance.cell ≡ Some cell) where
  -- the cell at the place is that of the instance
  cell_there : (c : Cell) × (slice_get library.cells cell ≡ Some c)
  cell_there = element_at library.cells cell (placed_within (λ c. bytes_eq instance.cell c.name) library.cells cell is)

  cell_is : cell_named library instance.cell ≡ Some cell_there.0
  cell_is = find_some (λ c. bytes_eq instance.cell c.name) library.cells cell is ∙ cell_there.1

  module _ (connection : Text × Wire) where
    -- a pin that the cell does not have, and one that is on no net
    no_pin : IsSomeAnd (slice_get library.cells cell) (λ c. None ≡ pin_place c connection.0) → connected library netlist number instance connection ≡ None
    no_pin h =
        let s = some_and (slice_get library.cells cell) (λ (c : Cell). None ≡ pin_place c connection.0) h in
        let same : s.0 ≡ cell_there.0 = same_Some s.0 cell_there.0 (sym s.1 ∙ cell_there.1) in
        let none : pin_named cell_there.0 connection.0 ≡ None = find_none (λ p. bytes_eq connection.0 p.name) cell_there.0.pins (sym (rw same at s.2)) in
        found_no_pin library netlist number instance connection cell_there.0 cell_is none

    off_net : None ≡ net_of netlist.nets connection.1 → connected library netlist number instance connection ≡ None
    off_net h = found_no_net library netlist number instance connection cell_there.0 cell_is (sym h)

    -- one that is on a net, by its places
    on_net : (place net : ℕ) → IsSomeAnd (slice_get library.cells cell) (λ c. Some place ≡ pin_place c connection.0) → Some net ≡ net_of netlist.nets connection.1
        → (c : Connected) × (connected library netlist number instance connection ≡ Some c)
        × (connected_at library netlist (record { instance = number; cell = cell; pin = place; net = net }) ≡ Some c)
    on_net place net h on =
        let s = some_and (slice_get library.cells cell) (λ (c : Cell). Some place ≡ pin_place c connection.0) h in
        let same : s.0 ≡ cell_there.0 = same_Some s.0 cell_there.0 (sym s.1 ∙ cell_there.1) in
        let placed : pin_place cell_there.0 connection.0 ≡ Some place = sym (rw same at s.2) in
        let pin = element_at cell_there.0.pins place (placed_within (λ p. bytes_eq connection.0 p.name) cell_there.0.pins place placed) in
        let named : pin_named cell_there.0 connection.0 ≡ Some pin.0 = find_some (λ p. bytes_eq connection.0 p.name) cell_there.0.pins place placed ∙ pin.1 in (
          record { instance = number; owner = instance.name; pin = pin.0; net = net },
          found_on library netlist number instance connection cell_there.0 cell_is pin.0 net named (sym on),
          placed_on library netlist number cell place net instance cell_there.0 pin.0 at cell_there.1 pin.1,
        )

    abbrev seen : List PinOn → List (Option Connected)
    seen ps = map (connected_at library netlist) ps

    abbrev found : List (Option Connected)
    found = map Some (option_to_list (connected library netlist number instance connection))

    -- what is added for it
    pub adds_no_pin : (ps : List PinOn) → IsSomeAnd (slice_get library.cells cell) (λ c. None ≡ pin_place c connection.0) → seen ps ≡ seen ps ++ found
    adds_no_pin ps h = rw (no_pin h) (sym (append-nil (seen ps)))

    pub adds_off_net : (ps : List PinOn) → None ≡ net_of netlist.nets connection.1 → seen ps ≡ seen ps ++ found
    adds_off_net ps h = rw (off_net h) (sym (append-nil (seen ps)))

    pub adds_on_net : (ps new : List PinOn) (place net : ℕ) → IsSomeAnd (slice_get library.cells cell) (λ c. Some place ≡ pin_place c connection.0)
        → Some net ≡ net_of netlist.nets connection.1 → new ≡ ps ++ (record { instance = number; cell = cell; pin = place; net = net }) ∷ [] → seen new ≡ seen ps ++ found
    adds_on_net ps new place net h on push =
        let both = on_net place net h on in
        ap seen push ∙ map-append (connected_at library netlist) ps ((record { instance = number; cell = cell; pin = place; net = net }) ∷ [])
        ∙ rw (both.1, both.2) refl

-- an instance of a cell that is not there has no pins
pub no_cell_pins : (library : Library) (netlist : Netlist) (number : ℕ) (i : Instance) → cell_named library i.cell ≡ None → (xs : List (Text × Wire))
    → filter_map (connected library netlist number i) xs ≡ []
no_cell_pins library netlist number i none [] = refl
no_cell_pins library netlist number i none (x ∷ xs) =
    let here : connected library netlist number i x ≡ None = rw none refl in
    ap (λ o. cons_option o (filter_map (connected library netlist number i) xs)) here ∙ no_cell_pins library netlist number i none xs

-- the first elements of a list, and one more
pub take_next : {X : Type 0} (i : ℕ) (xs : List X) (x : X) → slice_get xs i ≡ Some x → take (i + 1) xs ≡ take i xs ++ x ∷ []
take_next i xs x h = take_more xs i x (slice_get_within xs i x h) ∙ ap (λ y. take i xs ++ y ∷ []) (get_or_from_slice_get xs i x x h)

module _ (library : Library) (netlist : Netlist) where
  from-append : (number : ℕ) (xs ys : List Instance) → pins_from library netlist number (xs ++ ys) ≡ pins_from library netlist number xs ++ pins_from library netlist (number + length xs) ys
  from-append number [] ys = ap (λ k. pins_from library netlist k ys) (omega arith)
  from-append number (x ∷ xs) ys =
      ap (λ l. filter_map (connected library netlist number x) x.pins ++ l)
      (from-append (number + 1) xs ys ∙ ap (λ k. pins_from library netlist (number + 1) xs ++ pins_from library netlist k ys) (omega arith))
      ∙ sym (append_assoc (filter_map (connected library netlist number x) x.pins) (pins_from library netlist (number + 1) xs) (pins_from library netlist (number + suc (length xs)) ys))

  -- the pins of one instance more
  from_more : (is : List Instance) (k : ℕ) (i : Instance) → slice_get is k ≡ Some i
      → pins_from library netlist 0 (take (k + 1) is) ≡ pins_from library netlist 0 (take k is) ++ filter_map (connected library netlist k i) i.pins
  from_more is k i at =
      let within : k < length is = slice_get_within is k i at in
      let len : 0 + length (take k is) ≡ k = omega (arith, length-take-le k is (omega arith)) in
      ap (pins_from library netlist 0) (take_next k is i at)
      ∙ from-append 0 (take k is) (i ∷ [])
      ∙ ap (λ m. pins_from library netlist 0 (take k is) ++ pins_from library netlist m (i ∷ [])) len
      ∙ ap (λ l. pins_from library netlist 0 (take k is) ++ l) (append-nil (filter_map (connected library netlist k i) i.pins))

  pub instances_more : (is : List Instance) (k : ℕ) (i : Instance) (now next : List (Option Connected)) → slice_get is k ≡ Some i
      → now ≡ map Some (pins_from library netlist 0 (take k is)) → next ≡ now ++ map Some (filter_map (connected library netlist k i) i.pins)
      → next ≡ map Some (pins_from library netlist 0 (take (k + 1) is))
  instances_more is k i now next at so_far step =
      step ∙ ap (λ l. l ++ map Some (filter_map (connected library netlist k i) i.pins)) so_far
      ∙ sym (map-append Some (pins_from library netlist 0 (take k is)) (filter_map (connected library netlist k i) i.pins))
      ∙ ap (map Some) (sym (from_more is k i at))

  pub instances_all : (k : ℕ) (now : List (Option Connected)) → length netlist.instances ≤ k
      → now ≡ map Some (pins_from library netlist 0 (take k netlist.instances)) → now ≡ map Some (pins library netlist)
  unfolding pins
  instances_all k now past so_far = so_far ∙ ap (λ (is : List Instance). map Some (pins_from library netlist 0 is)) (take_all k netlist.instances past)

-- the parts of a pin that is meant
pub record Parts (library : Library) (netlist : Netlist) (p : PinOn) (c : Connected) : Type 0 where
  pub instance : Instance
  pub at : slice_get netlist.instances p.instance ≡ Some instance
  pub pin : pin_at library p ≡ Some c.pin
  pub owner : c.owner ≡ instance.name
  pub number : c.instance ≡ p.instance
  pub net : c.net ≡ p.net

pub parts_of : (library : Library) (netlist : Netlist) (p : PinOn) (c : Connected) → connected_at library netlist p ≡ Some c → Parts library netlist p c
parts_of library netlist p c h = by_instance (slice_get netlist.instances p.instance) refl h
  where
    by_pin : (i : Instance) → slice_get netlist.instances p.instance ≡ Some i → (o : Option PinParts) → pin_at library p ≡ o
        → option_and_then {U = Connected} (λ (pin : PinParts). Some (record { instance = p.instance; owner = i.name; pin = pin; net = p.net })) o ≡ Some c → Parts library netlist p c
    by_pin i at None e k = absurd (none-some c k)
    by_pin i at (Some q) e k =
        let same : record { instance = p.instance; owner = i.name; pin = q; net = p.net } ≡ c = same_Some (record { instance = p.instance; owner = i.name; pin = q; net = p.net }) c k in
        rw (← same) (record { instance = i; at = at; pin = e; owner = refl; number = refl; net = refl })

    by_instance : (o : Option Instance) → slice_get netlist.instances p.instance ≡ o
        → option_and_then {U = Connected} (λ (i : Instance). option_and_then {U = Connected} (λ (pin : PinParts). Some (record { instance = p.instance; owner = i.name; pin = pin; net = p.net })) (pin_at library p)) o ≡ Some c
        → Parts library netlist p c
    by_instance None e k = absurd (none-some c k)
    by_instance (Some i) e k = by_pin i e (pin_at library p) refl k

pub some_is : {X : Type 0} (o : Option X) → IsSome o → (x : X) × (o ≡ Some x)
some_is None h = absurd (false≢true h)
some_is (Some x) h = (x, refl)

-- what holds of a value that is there
pub of_some : {X : Type 0} (o : Option X) (P : X → Type 0) (x : X) → o ≡ Some x → IfSome o P → P x
of_some o P x e h = rw e at h

pub to_some : {X : Type 0} (o : Option X) (P : X → Type 0) (x : X) → o ≡ Some x → P x → IfSome o P
to_some o P x e h = rw e h

-- no pin, as what stands past the end of a list
abbrev pub nothing : PinOn
nothing = record { instance = 0; cell = 0; pin = 0; net = 0 }
