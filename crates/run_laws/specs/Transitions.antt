-- Transitions that explain one another: the times and slews that the signals of a design can have together. These
-- definitions know of no windows and of no operator.
use Rattle.std.specs.Prelude.{◌≡◌, ℕ, ◌⊎◌, ℤ, pos, ◌+ℤ◌, ◌-ℤ◌, ◌≤ℤ◌, List, [], ◌∷◌, Option, Some, None}
use Rattle.std.specs.List.{All, Contains, slice_get}
use Rattle.std.specs.Option.{IsSomeAnd}
use Rattle.xt_model.specs.declared.edge.Edge.{Edge}
use Rattle.xt_model.specs.declared.quad.Quad.{Quad}
use Rattle.xt_model.specs.declared.table.Table.{Table}
use Rattle.xt_model.specs.declared.net.Coupling.{Coupling}
use Rattle.xt_model.specs.declared.net.TimingArc.{TimingArc}
use Rattle.xt_model.specs.declared.net.Net.{Net}
use Rattle.xt_model.specs.Quads.{quad_at, other_edge}
use Rattle.xt_model.specs.Parts.{Parts}
use Rattle.xt_meaning.specs.Lookup.{table_value, slew_value}
use Rattle.xt_meaning.specs.Wires.{load_of, wire_delay, slew_growth}
use Rattle.xt_meaning.specs.Overlap.{half_up, Meet}

-- a net switches: which way, when at its driver, and with what slew there, in fs
pub record Transition : Type 0 where
  pub net : ℕ
  pub edge : Edge
  pub time : ℤ
  pub slew : ℤ

-- the first and the last moment at which it is under way
abbrev pub starts : Transition → ℤ
starts x = x.time -ℤ half_up x.slew

abbrev pub ends : Transition → ℤ
ends x = x.time +ℤ half_up x.slew

-- the two are under way at one moment; with a clock period, at one moment of the period
abbrev pub AreTogether : Option ℤ → Transition → Transition → Type 0
AreTogether period x y = Meet period (starts x) (ends x) (starts y) (ends y)

-- a transition of the list at this net and edge is under way together with x
pub record MeetsOneAt (d : Parts) (xs : List Transition) (x : Transition) (net : ℕ) (edge : Edge) : Type 0 where
  pub other : Transition
  pub listed : Contains xs other
  pub at_net : other.net ≡ net
  pub at_edge : other.edge ≡ edge
  pub together : AreTogether d.period x other

-- a factor of coupling k that is admitted for x: the middle one always, the low one where x meets a transition of the
-- aggressor the same way, and the high one where x meets one of the aggressor the other way
abbrev pub IsAdmitted : Parts → List Transition → Transition → Coupling → ℕ → Type 0
IsAdmitted d xs x k m =
    (m ≡ d.miller.mid) ⊎ (((m ≡ d.miller.low) × MeetsOneAt d xs x k.to.0 x.edge)
    ⊎ ((m ≡ d.miller.high) × MeetsOneAt d xs x k.to.0 (other_edge x.edge)))

-- one admitted factor for each coupling, whatever those of the others are
abbrev pub AreAdmitted : Parts → List Transition → Transition → List Coupling → List ℕ → Type 0
AreAdmitted d xs x [] [] = Unit {0}
AreAdmitted d xs x [] (m ∷ ms) = ⊥
AreAdmitted d xs x (k ∷ ks) [] = ⊥
AreAdmitted d xs x (k ∷ ks) (m ∷ ms) = IsAdmitted d xs x k m × AreAdmitted d xs x ks ms

-- w is a delay of the wire to a sink of `net`, at factors that are admitted for the transition x of this net
pub record IsWireDelay (d : Parts) (xs : List Transition) (x : Transition) (sink : ℕ) (w : ℤ) (net : Net) : Type 0 where
  pub factors : List ℕ
  pub admitted : AreAdmitted d xs x net.couplings factors
  pub delay : w ≡ wire_delay factors net sink

-- c is a load of `net`, at factors that are admitted for the transition x of this net
pub record IsLoad (d : Parts) (xs : List Transition) (x : Transition) (c : ℤ) (net : Net) : Type 0 where
  pub factors : List ℕ
  pub admitted : AreAdmitted d xs x net.couplings factors
  pub load : c ≡ load_of factors net

-- the delay and the slew of a cell at slew s and load c; a slew below 0 counts as 0
abbrev pub cell_delay : Option Table → ℤ → ℤ → ℤ
cell_delay None s c = pos 0
cell_delay (Some t) s c = table_value t s c

abbrev pub cell_slew : Option Table → ℤ → ℤ → ℤ
cell_slew None s c = pos 0
cell_slew (Some t) s c = slew_value t s c

-- over arc a of `net`, transition y of the input net makes transition x: after a wire delay w, at a load c
pub record IsMadeBy (d : Parts) (xs : List Transition) (net : Net) (x : Transition) (a : TimingArc) (y : Transition)
    : Type 0 where
  pub input_net : y.net ≡ a.from.0
  pub input_edge : y.edge ≡ a.input
  pub output_edge : a.output ≡ x.edge
  pub w : ℤ
  pub wire : IsSomeAnd (slice_get d.nets y.net) (IsWireDelay d xs y a.sink w)
  pub c : ℤ
  pub load : IsLoad d xs x c net
  pub time : x.time ≡ ((y.time +ℤ w) +ℤ cell_delay (slice_get d.tables a.delay) (y.slew +ℤ slew_growth w) c)
  pub slew : x.slew ≡ cell_slew (slice_get d.tables a.slew) (y.slew +ℤ slew_growth w) c

-- some transition of the list makes x over one of these arcs of `net`
pub record IsMadeOver (d : Parts) (xs : List Transition) (net : Net) (x : Transition) (arcs : List TimingArc)
    : Type 0 where
  pub arc : TimingArc
  pub among : Contains arcs arc
  pub cause : Transition
  pub listed : Contains xs cause
  pub made : IsMadeBy d xs net x arc cause

-- the time and the slew of x are within these bounds
pub record LiesIn (q : Quad) (x : Transition) : Type 0 where
  pub tlo : q.tlo ≤ℤ x.time
  pub thi : x.time ≤ℤ q.thi
  pub slo : q.slo ≤ℤ x.slew
  pub shi : x.slew ≤ℤ q.shi

-- at a source, x is within what is given; at another net, an arc explains it
abbrev pub IsExplainedBy : Parts → List Transition → Net → Transition → List TimingArc → Type 0
IsExplainedBy d xs net x [] = LiesIn (quad_at net.given x.edge) x
IsExplainedBy d xs net x (a ∷ more) = IsMadeOver d xs net x (a ∷ more)

abbrev pub IsExplained : Parts → List Transition → Transition → Type 0
IsExplained d xs x = IsSomeAnd (slice_get d.nets x.net) (λ net. IsExplainedBy d xs net x net.arcs)

-- the transitions of the list explain one another
abbrev pub AreConsistent : Parts → List Transition → Type 0
AreConsistent d xs = All (IsExplained d xs) xs
