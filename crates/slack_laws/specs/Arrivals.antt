-- Transitions at the sinks of their nets, and what they leave at a check point. These definitions know of no windows.
use Rattle.std.specs.Prelude.{◌≡◌, ℕ, Bool, if◌then◌else◌, ℤ, pos, ◌+ℤ◌, ◌-ℤ◌, ◌≤ℤ◌, List, Option, Some, None}
use Rattle.std.specs.List.{Contains, slice_get}
use Rattle.std.specs.Option.{IsSomeAnd}
use Rattle.xt_model.specs.declared.edge.Edge.{Edge}
use Rattle.xt_model.specs.declared.edge.Edge.TheVariants.{Rise, Fall}
use Rattle.xt_model.specs.declared.table.Table.{Table}
use Rattle.xt_model.specs.declared.check.CheckPoint.{CheckPoint}
use Rattle.xt_model.specs.declared.check.CheckPoint.TheVariants.{Flop, Port}
use Rattle.xt_model.specs.Parts.{Parts}
use Rattle.xt_meaning.specs.Lookup.{table_value}
use Rattle.xt_meaning.specs.Wires.{slew_growth}
use Rattle.run_laws.specs.Transitions.{Transition, IsWireDelay}

-- a transition as it comes to a sink of its net: when, and with what slew there, in fs
pub record Arrival : Type 0 where
  pub time : ℤ
  pub slew : ℤ

-- so a transition of the list at this net and edge comes to a sink of it: after a wire delay that is admitted for it
pub record ArrivesAt (d : Parts) (xs : List Transition) (net : ℕ) (edge : Edge) (sink : ℕ) (a : Arrival) : Type 0 where
  pub x : Transition
  pub listed : Contains xs x
  pub at_net : x.net ≡ net
  pub at_edge : x.edge ≡ edge
  pub w : ℤ
  pub wire : IsSomeAnd (slice_get d.nets x.net) (IsWireDelay d xs x sink w)
  pub time : a.time ≡ (x.time +ℤ w)
  pub slew : a.slew ≡ (x.slew +ℤ slew_growth w)

-- the time that data needs before or after a rise of the clock: a table's value at the slews that the two arrive with
abbrev pub constraint_at : Option Table → Arrival → Arrival → ℤ
constraint_at None clock datum = pos 0
constraint_at (Some t) clock datum = table_value t clock.slew datum.slew

-- setup: from when data comes to the time `need` before the next rise of the clock, which is a period after this one.
-- hold: from the time `need` after this rise of the clock to when data comes
abbrev pub flop_leaves : Bool → ℤ → ℤ → Arrival → Arrival → ℤ
flop_leaves hold period need clock datum =
    if hold then (datum.time -ℤ clock.time) -ℤ need else ((period +ℤ clock.time) -ℤ need) -ℤ datum.time

-- setup: from when data comes to the end of this delay outside to the end of the period.
-- hold: from the start of the period to when data comes to the end of this delay
abbrev pub port_leaves : Bool → ℤ → ℤ → Arrival → ℤ
port_leaves hold period delay datum = if hold then datum.time +ℤ delay else (period -ℤ delay) -ℤ datum.time

-- an arrival of data at a sink of its net and one of a rise of the clock at a sink of its own leave this much, with the
-- table of this number; a design with checks has a period
pub record LeaveAtFlop (d : Parts) (xs : List Transition) (hold : Bool) (net : ℕ) (edge : Edge) (sink : ℕ)
    (clock_net clock_sink : ℕ) (left : ℤ) (table : ℕ) : Type 0 where
  pub period : ℤ
  pub clocked : d.period ≡ Some period
  pub datum : Arrival
  pub datum_arrives : ArrivesAt d xs net edge sink datum
  pub clock : Arrival
  pub clock_arrives : ArrivesAt d xs clock_net Rise clock_sink clock
  pub leaves : left ≡ flop_leaves hold period (constraint_at (slice_get d.tables table) clock datum) clock datum

-- an arrival of data at a port leaves this much, with this delay outside
pub record LeaveAtPort (d : Parts) (xs : List Transition) (hold : Bool) (net : ℕ) (edge : Edge) (sink : ℕ)
    (left delay : ℤ) : Type 0 where
  pub period : ℤ
  pub clocked : d.period ≡ Some period
  pub datum : Arrival
  pub datum_arrives : ArrivesAt d xs net edge sink datum
  pub leaves : left ≡ port_leaves hold period delay datum

-- transitions of the list leave this much at a check point, at an edge of its data that has a table or a delay there
abbrev pub Leave : Parts → List Transition → CheckPoint → Edge → ℤ → Type 0
Leave d xs (Flop name hold net sink clock clock_sink rise fall) Rise left =
    IsSomeAnd rise (LeaveAtFlop d xs hold net.0 Rise sink clock.0 clock_sink left)
Leave d xs (Flop name hold net sink clock clock_sink rise fall) Fall left =
    IsSomeAnd fall (LeaveAtFlop d xs hold net.0 Fall sink clock.0 clock_sink left)
Leave d xs (Port name hold net sink rise fall) Rise left = IsSomeAnd rise (LeaveAtPort d xs hold net.0 Rise sink left)
Leave d xs (Port name hold net sink rise fall) Fall left = IsSomeAnd fall (LeaveAtPort d xs hold net.0 Fall sink left)

-- they keep the check of an edge at a check point: they leave nothing below 0
abbrev pub Keep : Parts → List Transition → CheckPoint → Edge → Type 0
Keep d xs p e = (left : ℤ) → Leave d xs p e left → pos 0 ≤ℤ left
