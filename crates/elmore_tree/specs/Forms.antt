-- What the coefficients of a wire are, and why it has none.
use Rattle.std.specs.Prelude.{◌≡◌, ℕ, pos, List, map, IsTrue}
use Rattle.elmore_tree.specs.declared.form.WireForm.{WireForm}
use Rattle.elmore_tree.specs.declared.fault.TreeFault.{TreeFault}
use Rattle.elmore_tree.specs.declared.fault.TreeFault.TheVariants.{NotTree, NotReached, NoMemory}
use Rattle.elmore_tree.specs.Trees.{TreeParts, ground_sum, is_needed}
use Rattle.elmore_tree.specs.Paths.{IsPath, IsJoined, IsMeshed, IsLeastUnreached}
use Rattle.elmore_tree.specs.Sums.{ArePaths, sink_sums}

-- the load is all capacitance to ground, and each sink has its sums over these paths
pub record IsFormBy (t : TreeParts) (paths : ℕ → List ℕ) (form : WireForm) : Type 0 where
  pub load : form.load ≡ pos (ground_sum t.ground)
  pub sinks : form.sinks ≡ map (sink_sums t paths) t.sinks

-- there is one path from the root to each node that is joined to it
abbrev pub HasOnePathEach : TreeParts → Type 0
HasOnePathEach t = (k : ℕ) (p q : List ℕ) → IsPath t k p → IsPath t k q → p ≡ q

-- the form of a tree of which each needed node is reached: there is one path to each node, and whatever names
-- the paths, the form has the sums over them
pub record IsFormOf (t : TreeParts) (form : WireForm) : Type 0 where
  pub tree : IsMeshed t → ⊥
  pub reached : (k : ℕ) → IsTrue (is_needed t k) → IsJoined t k
  pub once : HasOnePathEach t
  pub paths : (paths : ℕ → List ℕ) × ArePaths t paths
  pub sums : (paths : ℕ → List ℕ) → ArePaths t paths → IsFormBy t paths form

-- a tree that reaches each node that has to be reached
pub record IsAcceptedTree (t : TreeParts) : Type 0 where
  pub tree : IsMeshed t → ⊥
  pub reached : (k : ℕ) → IsTrue (is_needed t k) → IsJoined t k

-- why the wire has no form: it is no tree, or a needed node is not reached; want of memory is always free
abbrev pub IsFaultOf : TreeParts → TreeFault → Type 0
IsFaultOf t NotTree = IsMeshed t
IsFaultOf t (NotReached node) = (IsMeshed t → ⊥) × IsLeastUnreached t node
IsFaultOf t NoMemory = Unit {0}
