-- The related pins of timing groups, by their places in the cell.
use Rattle.std.specs.Prelude.{◌≡◌, ℕ, suc, ◌<◌, ◌==◌, Bool, List, [], ◌∷◌, length, map, filter, flat_map, filter_map}
use Rattle.std.specs.Prelude.{Option, Some, IsSome, is_some, None, option_map, if◌then◌else◌}
use Rattle.std.specs.List.{Contains, slice_get, slice_index_or, sum_by}
use Rattle.std.specs.List.Sorted.{IsStrictlyIncreasing}
use Rattle.std.specs.Option.{IsSomeAnd}
use Rattle.xt_model.specs.Options.{◌>>=◌}
use Rattle.xt_model.specs.declared.net.TimingArc.{TimingArc}
use Rattle.liberty_cells.specs.declared.cell.Cell.{Cell}
use Rattle.liberty_cells.specs.declared.library.Library.{Library}
use Rattle.liberty_cells.specs.declared.pin.Role.{Role}
use Rattle.liberty_cells.specs.declared.pin.Role.TheVariants as roles
use Rattle.liberty_cells.specs.declared.timing.Timing.{Timing}
use Rattle.liberty_cells.specs.Pins.{PinParts}
use Rattle.link_rules.specs.Arcs.{Place, arcs_from}
use Rattle.link_rules.specs.Checks.{side_of}
use Rattle.link_index.specs.Cells.{pin_place}
use Rattle.link_pins.specs.declared.arcs.SinkAt.{SinkAt}
use Rattle.link_pins.specs.declared.pins.PinOn.{PinOn}
use Rattle.link_pins.specs.declared.related.CellGroups.{CellGroups}
use Rattle.link_pins.specs.declared.related.PinCount.{PinCount}
use Rattle.link_pins.specs.declared.related.PinGroup.{PinGroup}
use Rattle.link_pins.specs.declared.related.RelatedPin.{RelatedPin}
use Rattle.link_pins.specs.Places.{place_of, is_sink}
use Rattle.link_pins.specs.Timed.{TimedPlace, with_timing}
use Rattle.link_pins.specs.Seen.{pin_at}

-- a related pin with its timing group
abbrev pub related_of : RelatedPin → TimedPlace
related_of r = (r.timing.now, r.pin)

-- how many arcs (into an output pin) or check points (of an input pin) a timing group has from one related pin
abbrev pub effect : Role → Timing → ℕ
effect roles.Output t = length (arcs_from t (Some (0, 0)))
effect roles.Input t = if is_some (side_of t.kind) then 1 else 0
effect _ t = 0

-- the related pins of a timing group that has an effect, those that the cell has, by name, in order
abbrev pub group_related : Cell → Role → Timing → List TimedPlace
group_related c role t = if effect role t == 0 then [] else map (with_timing t) (filter_map (pin_place c) t.related)

-- those of a pin: timing groups in order, related pins in order
abbrev pub pin_related : Cell → Role → List Timing → List TimedPlace
pin_related c role ts = flat_map (group_related c role) ts

abbrev pub AreRelated : Cell → PinParts → List TimedPlace → Type 0
AreRelated c p rs = rs ≡ pin_related c p.role p.timings

-- the counts of the pins that pass a test, added up
abbrev pub counted : (ℕ → Bool) → List PinCount → ℕ
counted g counts = sum_by (λ u. if g u.pin then u.count else 0) counts

-- the effects of the related pins that pass a test, added up
abbrev pub effects : (ℕ → Bool) → Role → List TimedPlace → ℕ
effects g role rs = sum_by (λ s. if g s.1 then effect role s.0 else 0) rs

-- the counts by pins are those of the related pins one by one, whichever pins count
abbrev pub IsCounted : Role → PinGroup → Type 0
IsCounted role v = (g : ℕ → Bool) → counted g v.counts.items ≡ effects g role v.related.items

-- the places of the elements that pass a test, where the first is at place n
abbrev pub places_of : {X : Type 0} → (X → Bool) → ℕ → List X → List ℕ
places_of t n [] = []
places_of t n (x ∷ xs) = if t x then n ∷ places_of t (suc n) xs else places_of t (suc n) xs

-- counts of these pins, in order
abbrev pub ArePinsOf : List PinCount → List ℕ → Type 0
ArePinsOf counts pins = map (λ u. u.pin) counts ≡ pins

-- nothing is counted
abbrev pub IsUncounted : PinCount → Type 0
IsUncounted u = (u.count ≡ 0) × (u.places ≡ [])

-- a place among the related pins is among those of a pin's count
pub record HasPlace (counts : List PinCount) (own i : ℕ) : Type 0 where
  pub at : ℕ
  pub count : PinCount
  pub there : slice_get counts at ≡ Some count
  pub same : count.pin ≡ own
  pub place : Contains count.places i

-- each related pin has its place among those of its pin's count, and no place is among those of another's
pub record ArePlaced (rs : List TimedPlace) (pins : List ℕ) (counts : List PinCount) : Type 0 where
  pub same : ArePinsOf counts pins
  pub places : (i : ℕ) (r : TimedPlace) → slice_get rs i ≡ Some r → HasPlace counts r.1 i
  pub none : (k i : ℕ) (u : PinCount) → slice_get counts k ≡ Some u → Contains u.places i
      → IsSomeAnd (slice_get rs i) (λ r. r.1 ≡ u.pin)

-- these are the counts of related pins, and their places
pub record HaveCounts (role : Role) (rs : List TimedPlace) (pins : List ℕ) (counts : List PinCount) : Type 0 where
  pub sums : (g : ℕ → Bool) → counted g counts ≡ effects g role rs
  pub placed : ArePlaced rs pins counts

-- the pins of a group in order, and the places of its related pins
pub record IsIndexed (v : PinGroup) : Type 0 where
  pub rising : IsStrictlyIncreasing v.pins.items
  pub placed : ArePlaced v.related.items v.pins.items v.counts.items

-- the related pins of a pin, and their counts
pub record IsGroup (c : Cell) (p : PinParts) (v : PinGroup) : Type 0 where
  pub related : AreRelated c p v.related.items
  pub counts : IsCounted p.role v
  pub index : IsIndexed v

-- for each of the first pins of a cell a group that is there, which is that of the pin
pub record AreGroups (c : Cell) (g : CellGroups) : Type 0 where
  pub within : (k n : ℕ) → slice_get g.of.items k ≡ Some n → n < length g.groups.items
  pub each : (k : ℕ) (p : PinParts) (n : ℕ) (v : PinGroup) → slice_get c.pins k ≡ Some p
      → slice_get g.of.items k ≡ Some n → slice_get g.groups.items n ≡ Some v → IsGroup c p v

-- the same for all its pins
pub record AreAllGroups (c : Cell) (g : CellGroups) : Type 0 where
  pub count : length g.of.items ≡ length c.pins
  pub groups : AreGroups c g

-- the group of a number in a cell, and the number of a pin's
abbrev pub group_numbered : List CellGroups → ℕ → ℕ → Option PinGroup
group_numbered cells cell n = do
  g ← slice_get cells cell
  slice_get g.groups.items n

abbrev pub number_at : List CellGroups → PinOn → Option ℕ
number_at cells p = do
  g ← slice_get cells p.cell
  slice_get g.of.items p.pin

-- the group that is kept for a pin
abbrev pub group_at : List CellGroups → PinOn → Option PinGroup
group_at cells p = do
  g ← slice_get cells p.cell
  n ← slice_get g.of.items p.pin
  slice_get g.groups.items n

-- for each pin of the library its group is kept
pub record AreKept (library : Library) (cells : List CellGroups) : Type 0 where
  pub there : (p : PinOn) → IsSome (pin_at library p) → IsSome (group_at cells p)
  pub each : (p : PinOn) (c : Cell) (q : PinParts) (v : PinGroup) → slice_get library.cells p.cell ≡ Some c
      → pin_at library p ≡ Some q → group_at cells p ≡ Some v → IsGroup c q v

-- ---- what they are where sinks are entered for the pins of an instance

-- the sink that is entered at a place
abbrev pub sink_of : List (Option SinkAt) → ℕ → Option Place
sink_of at k = option_map place_of (slice_index_or at k None)

-- the arcs from a related pin
abbrev pub arcs_of : List (Option SinkAt) → RelatedPin → List TimingArc
arcs_of at r = arcs_from r.timing.now (sink_of at r.pin)

-- whether a related pin is a sink that is entered
abbrev pub is_sink_at : List (Option SinkAt) → TimedPlace → Bool
is_sink_at at s = is_sink at s.1

-- those of the related pins of a pin that are sinks
abbrev pub AreFound : Library → List (Option SinkAt) → PinOn → List RelatedPin → Type 0
AreFound library at p rs = (c : Cell) (q : PinParts) → slice_get library.cells p.cell ≡ Some c
    → pin_at library p ≡ Some q → map related_of rs ≡ filter (is_sink_at at) (pin_related c q.role q.timings)

-- whether a check against a related pin is one of hold, and the sink that the pin is
abbrev pub clock_at : List (Option SinkAt) → TimedPlace → Option (Bool × SinkAt)
clock_at at s = do
  hold ← side_of s.0.kind
  clock ← slice_index_or at s.1 None
  Some (hold, clock)

abbrev pub clock_of : List (Option SinkAt) → RelatedPin → Option (Bool × SinkAt)
clock_of at r = clock_at at (related_of r)
