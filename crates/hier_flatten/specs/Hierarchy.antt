-- Modules and their instances. An instance is one of a module where its cell's name is that of a module of the text.
use Rattle.std.specs.Prelude.{◌≡◌, ℕ, zero, suc, ◌+◌, Bool, not, List, [], ◌∷◌, ◌++◌, map, Option, Some, None}
use Rattle.std.specs.List.{slice_get, list_any, filter}
use Rattle.std.specs.Str.{bytes_eq}
use Rattle.name_numbers.specs.Names.{Text, value_of}
use Rattle.xt_model.specs.Options.{◌>>=◌}
use Rattle.verilog_net.specs.declared.netlist.Instance.{Instance}
use Rattle.verilog_net.specs.declared.netlist.Netlist.{Netlist}

-- the names of modules with their numbers, counted on from `at`
abbrev pub numbered : ℕ → List Netlist → List (Text × ℕ)
numbered at [] = []
numbered at (m ∷ more) = (m.«module», at) ∷ numbered (at + 1) more

-- the number of the module with this name
abbrev pub module_number : List Netlist → Text → Option ℕ
module_number modules name = value_of name (numbered 0 modules)

-- the module with this name; a cell of the library is none
abbrev pub module_of : List Netlist → Text → Option Netlist
module_of modules name = module_number modules name >>= slice_get modules

abbrev pub cells_by : Option ℕ → ℕ → ℕ
cells_by None more = suc more
cells_by (Some number) more = 0

-- of each of these instances the number of its module
abbrev pub links_of : List Netlist → List Instance → List (Option ℕ)
links_of modules is = map (λ i. module_number modules i.cell) is

-- how many of these, each without a number, come before the first one with a number
abbrev pub cells_in : List (Option ℕ) → ℕ
cells_in [] = 0
cells_in (link ∷ links) = cells_by link (cells_in links)

-- how many of these instances, each of a cell, come before the first one of a module
abbrev pub cells_before : List Netlist → List Instance → ℕ
cells_before modules is = cells_in (links_of modules is)

-- ---- what is below instances

-- instances with what is below them: a cell's and those after it; a module's, what is below it, and those after it
pub data Hierarchy : Type 0 where
  ends : Hierarchy
  cell : Instance → Hierarchy → Hierarchy
  inner : Instance → Netlist → Hierarchy → Hierarchy → Hierarchy

-- these instances have this below them
abbrev pub IsHierarchy : List Netlist → List Instance → Hierarchy → Type 0
IsHierarchy modules [] ends = Unit {0}
IsHierarchy modules (i ∷ is) (cell j more) =
    (i ≡ j) × (module_of modules i.cell ≡ None) × IsHierarchy modules is more
IsHierarchy modules (i ∷ is) (inner j m below more) =
    (i ≡ j) × (module_of modules i.cell ≡ Some m) × IsHierarchy modules m.instances below × IsHierarchy modules is more
IsHierarchy modules _ _ = ⊥

abbrev pub HasHierarchy : List Netlist → List Instance → Type 0
HasHierarchy modules is = (h : Hierarchy) × IsHierarchy modules is h

-- all that is below the module of this number comes to an end
abbrev pub IsFinite : List Netlist → ℕ → Type 0
IsFinite modules number = (m : Netlist) → slice_get modules number ≡ Some m → HasHierarchy modules m.instances

-- ---- a module that contains itself

-- the module of number a has an instance of the module of number b
pub record Contains (modules : List Netlist) (a b : ℕ) : Type 0 where
  pub holder : Netlist
  pub there : slice_get modules a ≡ Some holder
  pub before : List Instance
  pub instance : Instance
  pub after : List Instance
  pub among : holder.instances ≡ before ++ instance ∷ after
  pub named : module_number modules instance.cell ≡ Some b

-- module b is this many steps below module a
abbrev pub IsBelow : List Netlist → ℕ → ℕ → ℕ → Type 0
IsBelow modules zero a b = a ≡ b
IsBelow modules (suc steps) a b = (c : ℕ) × IsBelow modules steps a c × Contains modules c b

-- some module contains itself at some depth
pub record SomeContainsItself (modules : List Netlist) : Type 0 where
  pub number : ℕ
  pub steps : ℕ
  pub below : IsBelow modules (suc steps) number number

-- ---- the top

-- some instance of some module has this name for its cell
abbrev pub is_instanced : List Netlist → Text → Bool
is_instanced modules name = list_any (λ m. list_any (λ i. bytes_eq name i.cell) m.instances) modules

-- the modules that no instance is of
abbrev pub tops : List Netlist → List Netlist
tops modules = filter (λ m. not (is_instanced modules m.«module»)) modules

-- the top, where it is the only one
abbrev pub only : List Netlist → Option Netlist
only (m ∷ []) = Some m
only _ = None

unfoldable pub top_of : List Netlist → Option Netlist
top_of modules = only (tops modules)
