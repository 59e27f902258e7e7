-- Faults of wires: of their trees, and of what they may have at most.
use Rattle.std.specs.Prelude.{◌≡◌, ℕ, ◌<◌, Bool, List, length, Option, Some, None, if◌then◌else◌}
use Rattle.std.specs.List.{slice_get}
use Rattle.name_numbers.specs.Names.{Text}
use Rattle.elmore_tree.specs.declared.fault.TreeFault.{TreeFault}
use Rattle.elmore_tree.specs.declared.fault.TreeFault.TheVariants as trees
use Rattle.link_rules.specs.declared.fault.LinkFault.{LinkFault}
use Rattle.link_rules.specs.declared.fault.LinkFault.TheVariants as faults
use Rattle.link_rules.specs.declared.fault.LinkRefusal.TheVariants as refusals
use Rattle.xt_model.specs.declared.fault.LimitKind.TheVariants as limits
use Rattle.elmore_tree.specs.Trees.{TreeParts, IsSoundTree}
use Rattle.xt_model.specs.Limits.{most_nodes}
use Rattle.elmore_tree.specs.Forms.{IsFaultOf}
use Rattle.link_rules.specs.Limits.{or_fault, passed, most_load, greatest_load}
use Rattle.link_rules.specs.declared.circuit.NetPins.{NetPins}
use Rattle.link_rules.specs.Wires.{Wire, tree_by}

-- the node of the fault is there
abbrev pub IsThere : List Text → TreeFault → Type 0
IsThere nodes (trees.NotReached k) = k < length nodes
IsThere nodes _ = Unit {0}

-- the fault of the tree of a net, by the names of the net and of the node
abbrev pub IsLinkFaultOf : Text → List Text → TreeFault → LinkFault → Type 0
IsLinkFaultOf net nodes trees.NotTree link_fault = link_fault ≡ faults.Refused (refusals.K5 net)
IsLinkFaultOf net nodes (trees.NotReached k) link_fault =
    (node : Text) × (slice_get nodes k ≡ Some node) × (link_fault ≡ faults.Refused (refusals.K6 net node))
IsLinkFaultOf net nodes trees.NoMemory link_fault = link_fault ≡ faults.NoMemory

-- the fault of the tree of a net, as one of linking; want of memory is always free
abbrev pub IsTreeFault : TreeParts → Text → List Text → LinkFault → Type 0
IsTreeFault t net nodes faults.NoMemory = Unit {0}
IsTreeFault t net nodes (faults.Refused r) =
    (fault : TreeFault) × IsFaultOf t fault × IsLinkFaultOf net nodes fault (faults.Refused r)
IsTreeFault t net nodes (faults.Limit what name value) = ⊥

-- the limit that a net passes: of its nodes, where its wire is listed, then of its load
abbrev pub limit_by : Bool → Text → ℕ → ℕ → Option LinkFault
limit_by listed name nodes load =
    or_fault (if listed then passed limits.Nodes (Some name) nodes most_nodes else None)
    (passed limits.Load (Some name) load most_load)

-- the limit that is passed; want of memory is always free
abbrev pub IsLimit : Option LinkFault → LinkFault → Type 0
IsLimit limit faults.NoMemory = Unit {0}
IsLimit limit fault = limit ≡ Some fault

-- the limit that a net of these nodes and this wire passes
abbrev pub limit_at : Bool → NetPins → List Text → Wire → Option LinkFault
limit_at listed p nodes w = limit_by listed p.name (length nodes) (greatest_load (tree_by nodes p.sinks w))

-- the tree of a net that passes no limit
pub record IsTreeWithin (listed : Bool) (p : NetPins) (nodes : List Text) (w : Wire) (t : TreeParts) : Type 0 where
  pub tree : t ≡ tree_by nodes p.sinks w
  pub sound : IsSoundTree t
  pub limit : limit_at listed p nodes w ≡ None
