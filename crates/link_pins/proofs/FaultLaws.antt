-- First faults, one test after another.
use Rattle.std.proofs.Common.{◌≡◌, ℕ, true, false, Result, Err, List, length, get_or, refl, sym, ap, ◌∙◌, subst, ◌≤◌, ◌<◌, arith, Some}
use Rattle.std.specs.Prelude.{Option, None, is_none, bytes_eq, if◌then◌else◌}
use Rattle.std.specs.List.{All, slice_get}
use Rattle.std.proofs.lemmas.Option.{none-some}
use Rattle.std.proofs.lemmas.List.Elements.{All-tail}
use Rattle.xt_model.specs.Names.{IsName}
use Rattle.name_numbers.specs.Names.{Text}
use Rattle.liberty_cells.specs.declared.cell.Cell.{Cell}
use Rattle.liberty_cells.specs.declared.library.Library.{Library}
use Rattle.liberty_cells.specs.Pins.{PinParts}
use Rattle.verilog_net.specs.declared.netlist.Instance.{Instance}
use Rattle.verilog_net.specs.declared.netlist.Wire.{Wire}
use Rattle.link_rules.specs.declared.fault.LinkFault.{LinkFault}
use Rattle.link_rules.specs.declared.fault.LinkFault.TheVariants as faults
use Rattle.link_rules.specs.declared.fault.LinkRefusal.TheVariants as refusals
use Rattle.link_rules.specs.Limits.{or_fault}
use Rattle.link_rules.specs.Pins.{cell_named, pin_named}
use Rattle.link_rules.specs.Refusals.{is_odd_cell, pin_fault, cell_fault, instances_fault}
use Rattle.text_forms.specs.Names.{IsShortName}
use Rattle.link_index.specs.Cells.{cell_place, pin_place}
use Rattle.link_index.proofs.FirstLaws.{first_and_rest, rest_of, no_items}
use Rattle.link_pins.specs.Answers.{IsFound, Tests, missing_pin}
use Rattle.link_pins.proofs.PinLaws.{find_none, find_some, placed_within, element_at}

-- a fault that is found in one way is found in another
pub found_as : (a b : Option LinkFault) (fault : LinkFault) → ((f : LinkFault) → a ≡ Some f → b ≡ Some f) → IsFound a fault → IsFound b fault
found_as a b faults.NoMemory h x = tt
found_as a b (faults.Refused r) h x = h (faults.Refused r) x
found_as a b (faults.Limit what name value) h x = h (faults.Limit what name value) x

module _ (cell : Cell) (instance : Text) where
  miss_none : (pin : Text) (o : Option PinParts) (rest : Option LinkFault) → missing_pin instance pin o ≡ None
      → (if is_none o then Some (faults.Refused (refusals.K2 instance pin)) else rest) ≡ rest
  miss_none pin None rest h = absurd (none-some (faults.Refused (refusals.K2 instance pin)) (sym h))
  miss_none pin (Some p) rest h = refl

  miss_some : (pin : Text) (o : Option PinParts) (rest : Option LinkFault) (f : LinkFault) → missing_pin instance pin o ≡ Some f
      → (if is_none o then Some (faults.Refused (refusals.K2 instance pin)) else rest) ≡ Some f
  miss_some pin None rest f h = h
  miss_some pin (Some p) rest f h = absurd (none-some f h)

  -- a pin more that is there, and the first one that is not
  pub pin_there : (rest : List (Text × Wire)) (d : Text × Wire) → 1 ≤ length rest → missing_pin instance (get_or rest 0 d).0 (pin_named cell (get_or rest 0 d).0) ≡ None
      → pin_fault cell instance (rest_of rest) ≡ pin_fault cell instance rest
  pin_there rest d some h =
      sym (miss_none (get_or rest 0 d).0 (pin_named cell (get_or rest 0 d).0) (pin_fault cell instance (rest_of rest)) h)
      ∙ sym (ap (pin_fault cell instance) (first_and_rest rest d some))

  pub pin_missing : (rest : List (Text × Wire)) (d : Text × Wire) (f : LinkFault) → 1 ≤ length rest → missing_pin instance (get_or rest 0 d).0 (pin_named cell (get_or rest 0 d).0) ≡ Some f
      → pin_fault cell instance rest ≡ Some f
  pin_missing rest d f some h =
      ap (pin_fault cell instance) (first_and_rest rest d some)
      ∙ miss_some (get_or rest 0 d).0 (pin_named cell (get_or rest 0 d).0) (pin_fault cell instance (rest_of rest)) f h

  pub no_pins : (rest : List (Text × Wire)) → length rest < 1 → pin_fault cell instance rest ≡ None
  no_pins rest none = ap (pin_fault cell instance) (no_items rest none)

module _ (library : Library) where
  abbrev fault_of : Instance → Option LinkFault
  fault_of i = cell_fault i (cell_named library i.cell)

  or_none : (a b : Option LinkFault) → a ≡ None → or_fault a b ≡ b
  or_none a b h = ap (λ o. or_fault o b) h

  or_some : (a b : Option LinkFault) (f : LinkFault) → a ≡ Some f → or_fault a b ≡ Some f
  or_some a b f h = ap (λ o. or_fault o b) h

  pub instance_accepted : (rest : List Instance) (d : Instance) → 1 ≤ length rest → fault_of (get_or rest 0 d) ≡ None
      → instances_fault library (rest_of rest) ≡ instances_fault library rest
  instance_accepted rest d some h =
      sym (or_none (fault_of (get_or rest 0 d)) (instances_fault library (rest_of rest)) h)
      ∙ sym (ap (instances_fault library) (first_and_rest rest d some))

  pub instance_refused : (rest : List Instance) (d : Instance) (f : LinkFault) → 1 ≤ length rest → fault_of (get_or rest 0 d) ≡ Some f
      → instances_fault library rest ≡ Some f
  instance_refused rest d f some h =
      ap (instances_fault library) (first_and_rest rest d some)
      ∙ or_some (fault_of (get_or rest 0 d)) (instances_fault library (rest_of rest)) f h

  pub no_instances : (rest : List Instance) → length rest < 1 → instances_fault library rest ≡ None
  no_instances rest none = ap (instances_fault library) (no_items rest none)

-- a pin of a cell by its place
pub pin_is_there : (cell : Cell) (instance pin : Text) (o : Option ℕ) (k : ℕ) → o ≡ Some k → o ≡ pin_place cell pin → missing_pin instance pin (pin_named cell pin) ≡ None
pin_is_there cell instance pin o k some place =
    let placed : pin_place cell pin ≡ Some k = sym place ∙ some in
    let named = element_at cell.pins k (placed_within (λ p. bytes_eq pin p.name) cell.pins k placed) in
    ap (missing_pin instance pin) (find_some (λ p. bytes_eq pin p.name) cell.pins k placed ∙ named.1)

pub pin_is_missing : (cell : Cell) (instance pin a b : Text) (o : Option ℕ) → o ≡ None → o ≡ pin_place cell pin → a ≡ instance → b ≡ pin
    → missing_pin instance pin (pin_named cell pin) ≡ Some (faults.Refused (refusals.K2 a b))
pin_is_missing cell instance pin a b o none place ea eb =
    rw (ea, eb) (ap (missing_pin instance pin) (find_none (λ p. bytes_eq pin p.name) cell.pins (sym place ∙ none)))

-- the cell of an instance by its place
pub cell_is_missing : (library : Library) (i : Instance) (a b : Text) (o : Option ℕ) → o ≡ None → o ≡ cell_place library i.cell → a ≡ i.name → b ≡ i.cell
    → cell_fault i (cell_named library i.cell) ≡ Some (faults.Refused (refusals.K1 a b))
cell_is_missing library i a b o none place ea eb =
    rw (ea, eb) (ap (cell_fault i) (find_none (λ c. bytes_eq i.cell c.name) library.cells (sym place ∙ none)))

module _ (library : Library) (i : Instance) (o : Option ℕ) (k : ℕ) (some : o ≡ Some k) (place : o ≡ cell_place library i.cell) (cell : Cell) (at : slice_get library.cells k ≡ Some cell) where
  cell_is : cell_named library i.cell ≡ Some cell
  cell_is = find_some (λ c. bytes_eq i.cell c.name) library.cells k (sym place ∙ some) ∙ at

  pub cell_is_odd : (a b : Text) → is_odd_cell cell ≡ true → a ≡ i.name → b ≡ i.cell
      → cell_fault i (cell_named library i.cell) ≡ Some (faults.Refused (refusals.K9 a b))
  cell_is_odd a b odd ea eb = rw (ea, eb) (ap (cell_fault i) cell_is ∙ rw odd refl)

  -- the pins decide of a cell that is taken
  pub pins_decide : is_odd_cell cell ≡ false → cell_fault i (cell_named library i.cell) ≡ pin_fault cell i.name i.pins
  pins_decide not_odd = ap (cell_fault i) cell_is ∙ rw not_odd refl

-- the first name of those that are left, and the others
pub first_name : (rest : List (Text × Wire)) (d : Text × Wire) (bytes : Text) → 1 ≤ length rest → All (λ p. IsShortName p.0) rest → d ≡ get_or rest 0 d → bytes ≡ d.0 → IsName bytes
first_name rest d bytes some names item is =
    let n : IsShortName d.0 = subst (λ (p : Text × Wire). IsShortName p.0) (sym item) (names 0 d (omega arith)) in
    subst IsName (sym is) n.name

pub others : {X : Type 0} (P : X → Type 0) (rest : List X) (d : X) → 1 ≤ length rest → All P rest → All P (rest_of rest)
others P rest d some all = All-tail P (get_or rest 0 d) (rest_of rest) (subst (All P) (first_and_rest rest d some) all)

-- the first pin of those that are left, by its name
module _ (cell : Cell) (instance : Text) (rest : List (Text × Wire)) (d : Text × Wire) (name bytes : Text) (some : 1 ≤ length rest) (item : d ≡ get_or rest 0 d) (is : bytes ≡ d.0) (own : name ≡ instance) where
  abbrev test : Text → Text → Option LinkFault
  test n m = missing_pin n m (pin_named cell m)

  tested : test name bytes ≡ test instance (get_or rest 0 d).0
  tested = ap (λ n. test n bytes) own ∙ ap (test instance) (is ∙ ap (λ (p : Text × Wire). p.0) item)

  pub pin_turn : test name bytes ≡ None → pin_fault cell instance (rest_of rest) ≡ pin_fault cell instance rest
  pin_turn h = pin_there cell instance rest d some (sym tested ∙ h)

  pub pin_found : (f : LinkFault) → test name bytes ≡ Some f → pin_fault cell instance rest ≡ Some f
  pin_found f h = pin_missing cell instance rest d f some (sym tested ∙ h)

-- an error of a test
pub error_tests : (found : Option LinkFault) (r : Result (Unit {0}) LinkFault) (fault e : LinkFault) → r ≡ Err e → fault ≡ e → IsFound found fault → Tests found r
error_tests found r fault e is same h = rw is (found_err found e (subst (IsFound found) same h))
  where
    found_err : (found : Option LinkFault) (e : LinkFault) → IsFound found e → Tests {A = Unit {0}} found (Err e)
    found_err found e h = h
