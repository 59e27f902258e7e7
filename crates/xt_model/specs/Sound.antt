-- What makes the parts of a design sound: no reference leads nowhere, each quantity keeps its range, and the
-- design keeps its limits.
use Rattle.std.specs.Prelude.{◌≡◌, ◌≢◌, ℕ, ◌+◌, ◌*◌, ◌<◌, ◌≤◌, ◌^◌, ◌⊎◌, ℤ, pos, neg_ℤ, ◌≤ℤ◌, ◌+ℤ◌, ◌*ℤ◌, List, []}
use Rattle.std.specs.Prelude.{◌∷◌, length, Option, Some, IfSome, IsSome}
use Rattle.std.specs.List.{All, slice_get, sum_by}
use Rattle.std.specs.Option.{IsSomeAnd, option_map, unwrap_or}
use Rattle.xt_model.specs.declared.quad.Quad.{Quad}
use Rattle.xt_model.specs.declared.quad.Pair.{Pair}
use Rattle.xt_model.specs.declared.net.Coupling.{Coupling}
use Rattle.xt_model.specs.declared.net.SinkPin.{SinkPin}
use Rattle.xt_model.specs.declared.net.TimingArc.{TimingArc}
use Rattle.xt_model.specs.declared.net.Net.{Net}
use Rattle.xt_model.specs.declared.check.CheckPoint.{CheckPoint}
use Rattle.xt_model.specs.declared.check.CheckPoint.TheVariants.{Flop, Port}
use Rattle.xt_model.specs.Quads.{bottom, IsLive}
use Rattle.xt_model.specs.Names.{IsName}
use Rattle.xt_model.specs.Tables.{IsTable}
use Rattle.xt_model.specs.Limits.{most_time, most_slew, most_cap, most_product, most_delay, most_period, most_nets}
use Rattle.xt_model.specs.Limits.{most_tables, most_checks, most_couplings, most_coefficients, most_arcs, most_reads}
use Rattle.xt_model.specs.Miller.{IsMiller}
use Rattle.xt_model.specs.Parts.{Parts}

-- a number from low to high
pub record IsBetween (low high x : ℤ) : Type 0 where
  pub least : low ≤ℤ x
  pub most : x ≤ℤ high

-- a time in fs is at most 2^46 in size
abbrev pub IsTime : ℤ → Type 0
IsTime x = IsBetween (neg_ℤ most_time) most_time x

-- a slew in fs is 0 to 2^40
abbrev pub IsSlew : ℤ → Type 0
IsSlew x = IsBetween (pos 0) most_slew x

-- a capacitance in aF is 0 to 2^46
abbrev pub IsCap : ℤ → Type 0
IsCap x = IsBetween (pos 0) most_cap x

-- a product of resistance and capacitance in milliohms times aF is 0 to 2^102
abbrev pub IsProduct : ℤ → Type 0
IsProduct x = IsBetween (pos 0) most_product x

-- the times and slews of a live window are in their ranges
pub record IsConstraint (q : Quad) : Type 0 where
  pub live : IsLive q
  pub tlo : IsTime q.tlo
  pub thi : IsTime q.thi
  pub slo : IsSlew q.slo
  pub shi : IsSlew q.shi

-- what is given for an edge of a source: that it never switches, or a live window
abbrev pub IsGiven : Quad → Type 0
IsGiven q = (q ≡ bottom) ⊎ IsConstraint q

-- a net with arcs is given nothing
abbrev pub LeavesGiven : Pair → List TimingArc → Type 0
LeavesGiven p [] = Unit {0}
LeavesGiven p (a ∷ more) = (p.rise ≡ bottom) × (p.fall ≡ bottom)

-- a coupling of the net number `own` leads to another net that is there
pub record IsSoundCoupling (d : Parts) (own : ℕ) (k : Coupling) : Type 0 where
  pub there : k.to.0 < length d.nets
  pub other : k.to.0 ≢ own
  pub cap : IsCap k.cap

-- a sink has one coefficient for each of the net's couplings
pub record IsSoundSink (couplings : ℕ) (s : SinkPin) : Type 0 where
  pub name : IsName s.name
  pub base : IsProduct s.base
  pub count : length s.coefs ≡ couplings
  pub coefs : All IsProduct s.coefs

-- the net has a sink of this number
abbrev pub HasSink : Parts → ℕ → ℕ → Type 0
HasSink d net sink = IsSomeAnd (slice_get d.nets net) (λ n. sink < length n.sinks)

pub record IsSoundArc (d : Parts) (a : TimingArc) : Type 0 where
  pub sink : HasSink d a.from.0 a.sink
  pub delay : a.delay < length d.tables
  pub slew : a.slew < length d.tables

-- the sum of the net's coupling capacitors
abbrev pub coupling_sum : List Coupling → ℤ
coupling_sum [] = pos 0
coupling_sum (k ∷ more) = k.cap +ℤ coupling_sum more

-- the load of a net with every coupling counted twice, which is its greatest
abbrev pub greatest_load : Net → ℤ
greatest_load n = n.load +ℤ (pos 2 *ℤ coupling_sum n.couplings)

-- the net number `own`; the number of a sink fits 32 bits
pub record IsSoundNet (d : Parts) (own : ℕ) (n : Net) : Type 0 where
  pub name : IsName n.name
  pub load : IsCap n.load
  pub rise : IsGiven n.given.rise
  pub fall : IsGiven n.given.fall
  pub derived : LeavesGiven n.given n.arcs
  pub couplings : All (IsSoundCoupling d own) n.couplings
  pub sinks : All (IsSoundSink (length n.couplings)) n.sinks
  pub arcs : All (IsSoundArc d) n.arcs
  pub few_sinks : length n.sinks < 2 ^ 32
  pub most_load : greatest_load n ≤ℤ most_cap

-- a constraint table of a check, where it has one, is there
abbrev pub IsTableOption : Parts → Option ℕ → Type 0
IsTableOption d o = IfSome o (λ t. t < length d.tables)

-- an external delay in fs is at most 2^40 in size
abbrev pub IsDelayOption : Option ℤ → Type 0
IsDelayOption o = IfSome o (IsBetween (neg_ℤ most_delay) most_delay)

abbrev pub IsSoundCheck : Parts → CheckPoint → Type 0
IsSoundCheck d (Flop name hold datum datum_sink clock clock_sink rise fall) =
    IsName name × HasSink d datum.0 datum_sink × HasSink d clock.0 clock_sink
    × IsTableOption d rise × IsTableOption d fall
IsSoundCheck d (Port name hold net sink rise fall) =
    IsName name × HasSink d net.0 sink × IsDelayOption rise × IsDelayOption fall

-- how many wire coefficients a net has
abbrev pub coefficients_of : Net → ℕ
coefficients_of n = length n.sinks * length n.couplings

-- how many couplings the net of this number has
abbrev pub couplings_at : Parts → ℕ → ℕ
couplings_at d net = unwrap_or (option_map (λ n. length n.couplings) (slice_get d.nets net)) 0

-- how many nets and couplings one evaluation of a net with arcs looks at; a source looks at none
abbrev pub reads_by : Parts → ℕ → List TimingArc → ℕ
reads_by d own [] = 0
reads_by d own (a ∷ more) = 1 + own + sum_by (λ b. 1 + couplings_at d b.from.0) (a ∷ more)

abbrev pub reads_of : Parts → Net → ℕ
reads_of d n = reads_by d (length n.couplings) n.arcs

-- no two nets have the same name
pub record HasOwnNames (nets : List Net) : Type 0 where
  pub differ : (i j : ℕ) (n m : Net) → i < j → slice_get nets i ≡ Some n → slice_get nets j ≡ Some m → n.name ≢ m.name

-- the limits on the size of a design
pub record IsWithinLimits (d : Parts) : Type 0 where
  pub nets : length d.nets ≤ most_nets
  pub tables : length d.tables ≤ most_tables
  pub checks : length d.checks ≤ most_checks
  pub couplings : sum_by (λ n. length n.couplings) d.nets ≤ most_couplings
  pub coefficients : sum_by coefficients_of d.nets ≤ most_coefficients
  pub arcs : sum_by (λ n. length n.arcs) d.nets ≤ most_arcs
  pub reads : sum_by (reads_of d) d.nets ≤ most_reads

-- a period in fs is 1 to 2^40, and checks need one
pub record IsPeriod (d : Parts) : Type 0 where
  pub range : IfSome d.period (IsBetween (pos 1) most_period)
  pub there : 0 < length d.checks → IsSome d.period

pub record IsSound (d : Parts) : Type 0 where
  pub tables : All IsTable d.tables
  pub nets : (i : ℕ) → IfSome (slice_get d.nets i) (IsSoundNet d i)
  pub names : HasOwnNames d.nets
  pub checks : All (IsSoundCheck d) d.checks
  pub limits : IsWithinLimits d
  pub period : IsPeriod d
  pub miller : IsMiller d.miller
