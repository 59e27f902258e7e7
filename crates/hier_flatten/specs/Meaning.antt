-- What the modules of a text mean together: a flat netlist, or the first of the refusals.
use Rattle.std.specs.Prelude.{◌≡◌, ℕ, List, Option, Some, None, Result, Ok, Err, if◌then◌else◌}
use Rattle.xt_model.specs.declared.fault.LimitKind.{LimitKind}
use Rattle.xt_model.specs.declared.code.Code.TheVariants.{V1, V5, V7, V8, V9}
use Rattle.verilog_net.specs.declared.netlist.Netlist.{Netlist}
use Rattle.hier_flatten.specs.declared.fault.FlatFault.{FlatFault}
use Rattle.hier_flatten.specs.declared.fault.FlatFault.TheVariants as faults
use Rattle.hier_flatten.specs.Hierarchy.{Hierarchy, IsHierarchy, SomeContainsItself, top_of}
use Rattle.hier_flatten.specs.Fits.{misfit}
use Rattle.hier_flatten.specs.Flat.{Flat, built}
use Rattle.hier_flatten.specs.Names.{has_equal_names, has_long_name}

-- what modules mean
abbrev pub Outcome : Type 0
Outcome = Result Netlist FlatFault

-- the flat netlist, unless two of its names are equal or one is too long
abbrev pub named : ℕ → Netlist → Flat → Outcome
named last top flat =
    if has_equal_names flat.nets flat.instances then Err (faults.Refused last V5)
    else if has_long_name flat.nets flat.instances then Err (faults.Refused last V1)
    else Ok (record { «module» = top.«module»; nets = flat.nets; instances = flat.instances })

-- the flat netlist, unless a limit is passed
abbrev pub within_limits : ℕ → Netlist → Result Flat LimitKind → Outcome
within_limits last top (Err what) = Err (faults.Limit what)
within_limits last top (Ok flat) = named last top flat

-- the one top's flat netlist; without one top there is none
abbrev pub TopMeans : List Netlist → ℕ → Option Netlist → Outcome → Type 0
TopMeans modules last None o = o ≡ Err (faults.Refused last V9)
TopMeans modules last (Some top) o =
    (h : Hierarchy) × IsHierarchy modules top.instances h × (o ≡ within_limits last top (built top h))

-- a module that contains itself has none
pub data HierarchyMeans (modules : List Netlist) (last : ℕ) (o : Outcome) : Type 0 where
  circular : SomeContainsItself modules → o ≡ Err (faults.Refused 1 V8) → HierarchyMeans modules last o
  finite : (SomeContainsItself modules → ⊥) → TopMeans modules last (top_of modules) o → HierarchyMeans modules last o

-- a connection that does not fit comes before all else
abbrev pub unless_misfit : Option ℕ → List Netlist → ℕ → Outcome → Type 0
unless_misfit (Some line) modules last o = o ≡ Err (faults.Refused line V7)
unless_misfit None modules last o = HierarchyMeans modules last o

-- what the modules of a text mean whose last line this is
unfoldable pub FlatMeans : List Netlist → ℕ → Outcome → Type 0
FlatMeans modules last o = unless_misfit (misfit modules) modules last o

-- the answer is what the modules mean, or want of memory
abbrev pub AnswersFlat : Outcome → (Outcome → Type 0) → Type 0
AnswersFlat (Ok flat) Means = Means (Ok flat)
AnswersFlat (Err faults.NoMemory) Means = Unit {0}
AnswersFlat (Err (faults.Refused line code)) Means = Means (Err (faults.Refused line code))
AnswersFlat (Err (faults.Limit what)) Means = Means (Err (faults.Limit what))
