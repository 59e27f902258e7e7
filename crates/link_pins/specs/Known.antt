-- What was found for instances, by the numbers of groups in their cells.
use Rattle.std.specs.Prelude.{◌≡◌, ℕ, ◌==◌, ◌&&◌, ◌<◌, ◌≤◌, List, map, filter, Option, Some, None, if◌then◌else◌}
use Rattle.std.specs.Global.{Vec}
use Rattle.std.specs.List.{slice_get}
use Rattle.link_pins.specs.declared.arcs.SinkAt.{SinkAt}
use Rattle.link_pins.specs.declared.known.KnownAt.{KnownAt}
use Rattle.link_pins.specs.declared.related.CellGroups.{CellGroups}
use Rattle.link_pins.specs.declared.related.PinGroup.{PinGroup}
use Rattle.link_pins.specs.declared.related.RelatedPin.{RelatedPin}
use Rattle.link_pins.specs.Places.{is_sink}
use Rattle.link_pins.specs.Related.{related_of, counted, is_sink_at, group_numbered}

abbrev pub known_by : {T : Type 0} → ℕ → ℕ → Option (Option (KnownAt T)) → Option T
known_by cell from None = None
known_by cell from (Some None) = None
known_by cell from (Some (Some k)) = if k.from == from && k.cell == cell then Some k.value else None

-- what was found for the group of a number, of a cell, for the instance whose pins begin at a place
abbrev pub known : {T : Type 0} → List (Option (KnownAt T)) → (number cell from : ℕ) → Option T
known of number cell from = known_by cell from (slice_get of number)

-- all was found for instances whose pins begin before a place
abbrev pub AreBefore : {T : Type 0} → ℕ → List (Option (KnownAt T)) → Type 0
AreBefore {T} from of = (n c f : ℕ) (x : T) → known of n c f ≡ Some x → f < from

-- what was found for the instance whose pins begin at a place is right for the group, and none is of a later one
pub record AreRight {T : Type 0} (R : T → PinGroup → Type 0) (cells : List CellGroups) (from : ℕ)
    (of : List (Option (KnownAt T))) : Type 0 where
  pub most : (n c f : ℕ) (x : T) → known of n c f ≡ Some x → f ≤ from
  pub right : (n c : ℕ) (x : T) (v : PinGroup) → known of n c from ≡ Some x → group_numbered cells c n ≡ Some v → R x v

-- the count of a group, where these sinks are entered
abbrev pub IsCount : List (Option SinkAt) → ℕ → PinGroup → Type 0
IsCount at n v = n ≡ counted (is_sink at) v.counts.items

-- the related pins of a group that are sinks
abbrev pub AreSinksOf : List (Option SinkAt) → Vec RelatedPin → PinGroup → Type 0
AreSinksOf at rs v = map related_of rs.items ≡ filter (is_sink_at at) v.related.items
