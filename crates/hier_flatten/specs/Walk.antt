-- The walk through the hierarchy: modules at paths whose instances are being added, the innermost first.
use Rattle.std.specs.Prelude.{◌≡◌, ℕ, ◌+◌, ◌-◌, ◌*◌, ◌≤◌, List, [], ◌∷◌, ◌++◌, length, take}
use Rattle.std.specs.Prelude.{Option, Some, None, Result, Ok, Err}
use Rattle.name_numbers.specs.Names.{Text}
use Rattle.xt_model.specs.Limits.{most_instances}
use Rattle.xt_model.specs.Results.{◌>>=◌}
use Rattle.xt_model.specs.declared.fault.LimitKind.{LimitKind}
use Rattle.verilog_net.specs.declared.netlist.Instance.{Instance}
use Rattle.verilog_net.specs.declared.netlist.Netlist.{Netlist}
use Rattle.verilog_net.specs.Nets.{Nets}
use Rattle.hier_flatten.specs.declared.below.Frame.{Frame}
use Rattle.hier_flatten.specs.declared.index.Next.{Next}
use Rattle.hier_flatten.specs.Hierarchy.{Hierarchy, IsHierarchy, module_of, links_of}
use Rattle.hier_flatten.specs.Search.{most_in}
use Rattle.hier_flatten.specs.Flat.{Scope, Flat, Ranges, ranges_of, Counts, counts_of, IsCounted}
use Rattle.hier_flatten.specs.Flat.{flat_below, prefix_below, scope_below}
use Rattle.hier_flatten.specs.Names.{AreApart}

-- the module of a frame, whose names have this before them
abbrev pub scope_at : Text → Frame → Scope
scope_at prefix f = record { prefix = prefix; nets = f.nets.now; meant = f.meant.items }

-- the module of a frame at its path
abbrev pub scope_of : Text → Frame → Scope
scope_of path f = scope_at (take f.path path) f

-- the frame of a module at an instance
pub record IsEntered (flat : Ranges) (s : Scope) (i : Instance) (m : Netlist) (f : Frame) : Type 0 where
  pub scope : scope_at (prefix_below s.prefix i.name) f ≡ scope_below flat s i m
  pub rest : f.rest.now ≡ m.instances
  pub path : f.path ≡ length (prefix_below s.prefix i.name)

-- the instances that are left have these numbers of modules
abbrev pub AreLinked : List Netlist → List Frame → Type 0
AreLinked modules [] = Unit {0}
AreLinked modules (f ∷ fs) = (f.links.now ≡ links_of modules f.rest.now) × AreLinked modules fs

-- the next of these instances, one of a module, with what is below it and after it
pub record IsNext (modules : List Netlist) (left : List Instance) (n : Next) : Type 0 where
  pub first : left ≡ n.instance.now ∷ n.more.instances.now
  pub named : module_of modules n.instance.now.cell ≡ Some n.«module».now
  pub inside : n.below.instances.now ≡ n.«module».now.instances
  pub below : n.below.links.now ≡ links_of modules n.«module».now.instances
  pub more : n.more.links.now ≡ links_of modules n.more.instances.now

-- each path goes on from the one of the frame outside
abbrev pub AreNested : ℕ → List Frame → Type 0
AreNested bound [] = Unit {0}
AreNested bound (f ∷ more) = (f.path ≤ bound) × AreNested f.path more

-- what is below the instances that are left
abbrev pub AreHierarchies : List Netlist → List Frame → List Hierarchy → Type 0
AreHierarchies modules [] [] = Unit {0}
AreHierarchies modules (f ∷ fs) (h ∷ hs) = IsHierarchy modules f.rest.now h × AreHierarchies modules fs hs
AreHierarchies modules _ _ = ⊥

-- the flat netlist once all of this has been added
abbrev pub rest_flat : List Hierarchy → List Frame → Text → Flat → Result Flat LimitKind
rest_flat (h ∷ hs) (f ∷ fs) path flat = flat_below h (scope_of path f) flat >>= rest_flat hs fs path
rest_flat _ _ path flat = Ok flat

-- what is left comes to the same as what was left before
pub record Comes (modules : List Netlist) (old : List Frame) (path : Text) (flat : Flat) (new : List Frame)
    (path' : Text) (flat' : Flat) : Type 0 where
  pub each : (hs : List Hierarchy) → AreHierarchies modules old hs
      → (hs' : List Hierarchy) × AreHierarchies modules new hs'
      × (rest_flat hs old path flat ≡ rest_flat hs' new path' flat')

-- what is left passes a limit
abbrev pub Passes : List Netlist → List Frame → Text → Flat → LimitKind → Type 0
Passes modules fs path flat what =
    (hs : List Hierarchy) → AreHierarchies modules fs hs → rest_flat hs fs path flat ≡ Err what

-- the innermost of what is left was added: it passes a limit, or comes to the same as before
abbrev pub AddedOn : List Netlist → List Frame → Text → Flat → List Frame → Text → Flat → Option LimitKind → Type 0
AddedOn modules old path flat new path' flat' None = Comes modules old path flat new path' flat'
AddedOn modules old path flat new path' flat' (Some what) = Passes modules old path flat what

-- ---- counting

-- what is left, of a flat netlist so far of which this is counted
pub record IsCountedSo (modules : List Netlist) (old : List Frame) (path : Text) (flat : Flat) (new : List Frame)
    (counts : Counts) : Type 0 where
  pub path' : Text
  pub flat' : Flat
  pub counted : counts_of flat' ≡ counts
  pub nested : AreNested (length path') new
  pub comes : Comes modules old path flat new path' flat'

-- the innermost of what is left was counted on: it passes a limit, or comes to the same as before; whatever the path
-- and the flat netlist are of which this is counted
abbrev pub CountedOn : List Netlist → Frame → List Frame → Counts → List Frame → Counts → Option LimitKind → Type 0
CountedOn modules f fs counts new counts' None =
    (path : Text) (flat : Flat) → counts_of flat ≡ counts → length path ≡ f.path → AreNested f.path fs
    → IsCountedSo modules (f ∷ fs) path flat new counts'
CountedOn modules f fs counts new counts' (Some what) =
    (path : Text) (flat : Flat) → counts_of flat ≡ counts → Passes modules (f ∷ fs) path flat what

-- ---- how much is left to add
abbrev pub left_in : List Frame → ℕ
left_in [] = 0
left_in (f ∷ more) = length f.rest.now + 1 + left_in more

abbrev pub room_in : Counts → ℕ
room_in counts = most_instances + 1 - counts.met

unfoldable pub work : List Netlist → Counts → List Frame → ℕ
work modules counts fs = room_in counts * most_in modules + left_in fs

-- ---- the whole walk

-- a top's flat netlist, or the limit that it passes
abbrev pub Builds : List Netlist → Netlist → (Hierarchy → Result Flat LimitKind) → Result Flat LimitKind → Type 0
Builds modules top built r = (h : Hierarchy) × IsHierarchy modules top.instances h × (built h ≡ r)

-- the limit that it passes, or that it passes none
abbrev pub Decides : List Netlist → Netlist → (Hierarchy → Result Flat LimitKind) → Option LimitKind → Type 0
Decides modules top built None = (flat : Flat) × Builds modules top built (Ok flat)
Decides modules top built (Some what) = Builds modules top built (Err what)

-- what is kept of the flat netlist as it is built: its nets in a table and those after it, their ranges and their bits
pub record IsGrown (table more : Nets) (ranges : Ranges) (bits met : ℕ) : Type 0 where
  pub kept : ranges ≡ ranges_of (table ++ more)
  pub counted : IsCounted ranges bits
  pub entered : met ≤ most_instances
  pub apart : AreApart table more
