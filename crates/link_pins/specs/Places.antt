-- The sinks that the pins of one instance are, by the places of the pins in its cell.
use Rattle.std.specs.Prelude.{◌≡◌, ◌≢◌, ℕ, ◌<◌, ◌≤◌, Bool, true, false, ◌&&◌, ◌⊎◌, List, length, set}
use Rattle.std.specs.Prelude.{Option, Some, None, is_none, is_some, if◌then◌else◌}
use Rattle.std.specs.List.{All, Contains, slice_get, slice_index, slice_index_or}
use Rattle.xt_model.specs.Options.{◌>>=◌}
use Rattle.name_numbers.specs.Names.{Text}
use Rattle.liberty_cells.specs.declared.cell.Cell.{Cell}
use Rattle.liberty_cells.specs.declared.library.Library.{Library}
use Rattle.liberty_cells.specs.Pins.{PinParts}
use Rattle.verilog_net.specs.declared.netlist.Instance.{Instance}
use Rattle.verilog_net.specs.declared.netlist.Netlist.{Netlist}
use Rattle.link_rules.specs.Arcs.{Place, sink_at}
use Rattle.link_rules.specs.Pins.{is_input}
use Rattle.link_index.specs.Cells.{cell_place, pin_place}
use Rattle.link_pins.specs.declared.arcs.Places.{Places}
use Rattle.link_pins.specs.declared.arcs.SinkAt.{SinkAt}
use Rattle.link_pins.specs.declared.pins.PinOn.{PinOn}
use Rattle.link_pins.specs.Seen.{pin_at}

-- a sink by its numbers
abbrev pub place_of : SinkAt → Place
place_of s = (s.net, s.sink)

-- what is entered for the first pin of this name in a cell
abbrev pub entered : Library → ℕ → List (Option SinkAt) → Text → Option Place
entered library cell at name = do
  c ← slice_get library.cells cell
  k ← pin_place c name
  s ← slice_index_or at k None
  Some (place_of s)

-- for each name there is entered what sink the input pin of this name of an instance is
pub record AreEntered (library : Library) (netlist : Netlist) (instance cell : ℕ) (at : List (Option SinkAt))
    : Type 0 where
  pub each : (name : Text) → entered library cell at name ≡ sink_at library netlist instance name

-- there is room for the pins of each cell
abbrev pub HasRoom : Library → List (Option SinkAt) → Type 0
HasRoom library at = All (λ c. length c.pins ≤ length at) library.cells

-- whether a sink is entered at a place
abbrev pub is_sink : List (Option SinkAt) → ℕ → Bool
is_sink at k = is_some (slice_index_or at k None)

-- the places at which sinks are entered are listed, and no others
pub record AreListed (p : Places) : Type 0 where
  pub each : (i k : ℕ) → slice_get p.pins.items i ≡ Some k → is_sink p.at.items k ≡ true
  pub all : (k : ℕ) → is_sink p.at.items k ≡ true → Contains p.pins.items k

-- nothing is entered
abbrev pub IsClear : List (Option SinkAt) → Type 0
IsClear at = (k : ℕ) → slice_index_or at k None ≡ None

-- whether it is an input pin
abbrev pub has_input_role : Option PinParts → Bool
has_input_role None = false
has_input_role (Some q) = is_input q.role

-- what is entered once this pin is, which has this place among the sinks of its net
abbrev pub with_pin : Library → PinOn → ℕ → List (Option SinkAt) → List (Option SinkAt)
with_pin library p place at =
    if has_input_role (pin_at library p) && is_none (slice_index_or at p.pin None)
    then set at p.pin (Some (record { net = p.net; sink = place }))
    else at

-- the first input pin at place k of the cell, of the pins from one on, has number i
pub record IsFirstInput (library : Library) (ps : List PinOn) (from k i : ℕ) (p : PinOn) : Type 0 where
  pub least : from ≤ i
  pub at : slice_get ps i ≡ Some p
  pub pin : p.pin ≡ k
  pub input : has_input_role (pin_at library p) ≡ true
  pub first : (j : ℕ) (q : PinOn) → from ≤ j → j < i → slice_get ps j ≡ Some q → q.pin ≡ k
      → has_input_role (pin_at library q) ≡ false

-- what stands at place k: the first input pin there, of the pins from one to before another, or none
abbrev pub IsEntry : Library → List PinOn → List ℕ → (from to k : ℕ) → Option SinkAt → Type 0
IsEntry library ps places from to k None =
    (i : ℕ) (p : PinOn) → from ≤ i → i < to → slice_get ps i ≡ Some p → p.pin ≡ k
    → has_input_role (pin_at library p) ≡ false
IsEntry library ps places from to k (Some s) =
    (i : ℕ) × (p : PinOn) × (i < to) × IsFirstInput library ps from k i p × (place_of s ≡ (p.net, slice_index places i))

abbrev pub AreEntries : Library → List PinOn → List ℕ → (from to : ℕ) → List (Option SinkAt) → Type 0
AreEntries library ps places from to at = (k : ℕ) → IsEntry library ps places from to k (slice_index_or at k None)

-- what is entered stands at the places of these pins
abbrev pub AreThose : List PinOn → (from to : ℕ) → List (Option SinkAt) → Type 0
AreThose ps from to at =
    (k : ℕ) → (slice_index_or at k None ≡ None)
    ⊎ ((i : ℕ) × (p : PinOn) × (from ≤ i) × (i < to) × (slice_get ps i ≡ Some p) × (p.pin ≡ k))

-- a pin has the place of the first cell of its instance's cell's name, and that of the first pin of its name there
pub record IsPlaced (library : Library) (netlist : Netlist) (p : PinOn) : Type 0 where
  pub cell : (i : Instance) → slice_get netlist.instances p.instance ≡ Some i → cell_place library i.cell ≡ Some p.cell
  pub pin : (c : Cell) (q : PinParts) → slice_get library.cells p.cell ≡ Some c → slice_get c.pins p.pin ≡ Some q
      → pin_place c q.name ≡ Some p.pin

-- the pins from one to before another are of one instance, and the next is of another
pub record IsStretch (ps : List PinOn) (from to : ℕ) : Type 0 where
  pub some : from < to
  pub most : to ≤ length ps
  pub same : (i : ℕ) (p q : PinOn) → from ≤ i → i < to → slice_get ps from ≡ Some p → slice_get ps i ≡ Some q
      → q.instance ≡ p.instance
  pub next : (p q : PinOn) → slice_get ps from ≡ Some p → slice_get ps to ≡ Some q → q.instance ≢ p.instance
