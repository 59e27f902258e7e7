-- The search for a module that contains itself: what is true of its marks and of the modules that are being looked
-- through.
use Rattle.std.specs.Prelude.{◌≡◌, ℕ, ◌+◌, ◌*◌, Bool, true, false, List, [], ◌∷◌, ◌++◌, length, Some}
use Rattle.std.specs.List.{AllByRecursion, slice_get}
use Rattle.std.proofs.Common.{◌⊎◌}
use Rattle.verilog_net.specs.declared.netlist.Instance.{Instance}
use Rattle.verilog_net.specs.declared.netlist.Netlist.{Netlist}
use Rattle.hier_flatten.specs.declared.circle.Mark.{Mark}
use Rattle.hier_flatten.specs.declared.circle.Mark.TheVariants as marks
use Rattle.hier_flatten.specs.declared.circle.Visit.{Visit}
use Rattle.hier_flatten.specs.Hierarchy.{HasHierarchy, IsFinite, Contains, SomeContainsItself}

-- the module of this number is being looked through
abbrev pub IsOn : ℕ → List Visit → Type 0
IsOn number [] = ⊥
IsOn number (p ∷ more) = (p.number ≡ number) ⊎ IsOn number more

-- instances of a module of which some are left: where these come to an end, so do all
pub record IsVisit (modules : List Netlist) (p : Visit) : Type 0 where
  pub holder : Netlist
  pub there : slice_get modules p.number ≡ Some holder
  pub passed : List Instance
  pub whole : holder.instances ≡ passed ++ p.rest.now
  pub below : HasHierarchy modules p.rest.now → HasHierarchy modules holder.instances

-- each module has an instance of the one that was entered after it
abbrev pub IsChain : List Netlist → List Visit → Type 0
IsChain modules [] = Unit {0}
IsChain modules (p ∷ []) = Unit {0}
IsChain modules (p ∷ q ∷ more) = Contains modules q.number p.number × IsChain modules (q ∷ more)

pub record IsSearch (modules : List Netlist) (ms : List Mark) (stack : List Visit) : Type 0 where
  pub count : length ms ≡ length modules
  pub done : (number : ℕ) → slice_get ms number ≡ Some marks.Done → IsFinite modules number
  pub on : (number : ℕ) → slice_get ms number ≡ Some marks.Open → IsOn number stack
  pub places : AllByRecursion (IsVisit modules) stack
  pub chain : IsChain modules stack

-- what was entered stays so
abbrev pub AreMet : List Mark → List Mark → Type 0
AreMet old new =
    (number : ℕ) → (slice_get old number ≡ Some marks.New → ⊥) → slice_get new number ≡ Some marks.New → ⊥

-- a module contains itself, or else this
abbrev pub Looked : List Netlist → Type 0 → Bool → Type 0
Looked modules Else true = SomeContainsItself modules
Looked modules Else false = Else

-- ---- how much is left to look at
abbrev pub new_in : List Mark → ℕ
new_in [] = 0
new_in (marks.New ∷ more) = 1 + new_in more
new_in (mark ∷ more) = new_in more

-- no module has more instances than this, and two
abbrev pub most_in : List Netlist → ℕ
most_in [] = 2
most_in (m ∷ more) = length m.instances + most_in more

abbrev pub left_in : List Visit → ℕ
left_in [] = 0
left_in (p ∷ more) = length p.rest.now + 1 + left_in more

unfoldable pub work : List Netlist → List Mark → List Visit → ℕ
work modules ms stack = new_in ms * most_in modules + left_in stack
