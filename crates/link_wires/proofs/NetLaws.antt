-- What the wire of a net is, from what is found and counted.
use Rattle.std.proofs.Common.{◌≡◌, ℕ, ◌<◌, Bool, true, false, cond, List, [], ◌++◌, length, map, refl, sym, ap, subst, ◌∙◌, arith}
use Rattle.std.specs.Prelude.{Option, Some, None, IfSome, is_some, option_to_list, nat_le}
use Rattle.std.specs.List.{slice_get}
use Rattle.std.specs.Str.{bytes_eq}
use Rattle.std.proofs.lemmas.Bool.{false≢true}
use Rattle.std.proofs.lemmas.List.{length-map}
use Rattle.name_numbers.specs.Names.{Text}
use Rattle.verilog_net.specs.declared.netlist.Netlist.{Netlist}
use Rattle.spef_read.specs.declared.parasitics.WireText.{WireText}
use Rattle.spef_read.specs.declared.parasitics.Parasitics.{Parasitics}
use Rattle.elmore_tree.specs.declared.fault.TreeFault.{TreeFault}
use Rattle.elmore_tree.specs.declared.fault.TreeFault.TheVariants as trees
use Rattle.elmore_tree.specs.Trees.{TreeParts, IsSoundTree}
use Rattle.elmore_tree.specs.Forms.{IsFaultOf, IsAcceptedTree}
use Rattle.elmore_tree.specs.Paths.{IsMeshed, IsLeastUnreached}
use Rattle.xt_model.specs.declared.fault.LimitKind.{LimitKind}
use Rattle.xt_model.specs.declared.fault.LimitKind.TheVariants as limits
use Rattle.link_rules.specs.declared.circuit.Sink.{Sink}
use Rattle.link_rules.specs.declared.circuit.NetPins.{NetPins}
use Rattle.link_rules.specs.declared.fault.LinkFault.{LinkFault}
use Rattle.link_rules.specs.declared.fault.LinkFault.TheVariants as faults
use Rattle.link_rules.specs.declared.fault.LinkRefusal.{LinkRefusal}
use Rattle.link_rules.specs.Ends.{NetEnd, end_name}
use Rattle.link_rules.specs.Nodes.{text_of}
use Rattle.spef_read.specs.Sound.{IsSoundWire, AreSoundParasitics}
use Rattle.link_rules.specs.Wires.{Wire, has_resistors, names_on, end_nodes, listed_by, listed, wire_in, wire_of, nodes_of, tree_by, tree_of, couplings_of}
use Rattle.link_rules.specs.Bare as bare
use Rattle.xt_model.specs.Limits.{most_nodes}
use Rattle.link_rules.specs.Limits.{or_fault, passed, most_load, greatest_load}
use Rattle.link_rules.specs.Refusals.{net_limit}
use Rattle.link_wires.specs.declared.wire.NetWire.{NetWire}
use Rattle.link_wires.specs.WireFaults.{IsThere, IsLinkFaultOf, IsTreeFault, IsLimit, IsTreeWithin, limit_by, limit_at}
use Rattle.link_wires.specs.Within.{IsWireWithin, IsFaultWithin}
use Rattle.link_wires.specs.Wires.{IsNumbered, IsWireOf, IsNetFault}
use Rattle.link_wires.proofs.ListLaws.{numbered_by}
use Rattle.link_wires.proofs.NeedLaws.{needed_there}
use Rattle.link_wires.proofs.PlaceLaws.{entered, fold_enters, fold_grows}
use Rattle.link_wires.proofs.SoundLaws.{found_has}

module _ (n : Netlist) (p : Parasitics) where
  -- a wire that is listed is one of the parasitics
  pub listed_sound : AreSoundParasitics p → (pins : NetPins) → IfSome (listed n p pins) (IsSoundWire p)
  listed_sound sound pins = by pins.driver
    where
      by : (d : Option NetEnd) → IfSome (listed_by n p pins.name d) (IsSoundWire p)
      by None = tt
      by (Some e) = found_has (IsSoundWire p) (λ w. bytes_eq pins.name (text_of p w.name)) p.nets sound.wires

  pub wire_is : (net : ℕ) (pins : NetPins) → wire_of n p net pins ≡ wire_in n p net (listed n p pins)
  unfolding wire_of
  wire_is net pins = refl

  -- a net that is not listed has no resistors
  pub unlisted_bare : (net : ℕ) (o : Option WireText) → is_some o ≡ false → has_resistors (wire_in n p net o) ≡ false
  unlisted_bare net None h = refl
  unlisted_bare net (Some w) h = absurd (false≢true (sym h))

  -- where nodes are apart there is a driver, so there are more nodes than sinks
  apart_by : (net delimiter : ℕ) (name : Text) (sinks : List Sink) (d : Option NetEnd) → has_resistors (wire_in n p net (listed_by n p name d)) ≡ true
      → length sinks < length (map (end_name delimiter) (option_to_list d) ++ map (λ (s : Sink). end_name delimiter s.end) sinks)
  apart_by net delimiter name sinks None h = absurd (false≢true h)
  apart_by net delimiter name sinks (Some e) h = let len = length-map sinks (λ (s : Sink). end_name delimiter s.end) in omega (arith, len)

  pub net_numbered : (net : ℕ) (pins : NetPins)
      → IsNumbered (entered (end_nodes p.delimiter pins) (names_on (wire_in n p net (listed n p pins)))) pins.sinks (wire_in n p net (listed n p pins))
  net_numbered net pins =
      let w : Wire = wire_in n p net (listed n p pins) in
      let ends : List Text = end_nodes p.delimiter pins in
      numbered_by (entered ends (names_on w)) pins.sinks w
      (λ h. let few = apart_by net p.delimiter pins.name pins.sinks pins.driver h in let more = fold_grows (names_on w) ends in omega (arith, few, more))
      (fold_enters (names_on w) ends)

pub nodes_are : (delimiter : ℕ) (pins : NetPins) (w : Wire) → nodes_of delimiter pins w ≡ entered (end_nodes delimiter pins) (names_on w)
unfolding nodes_of
nodes_are delimiter pins w = refl

pub tree_is : (delimiter : ℕ) (pins : NetPins) (w : Wire) → tree_of delimiter pins w ≡ tree_by (nodes_of delimiter pins w) pins.sinks w
unfolding tree_of
tree_is delimiter pins w = refl

-- the node of a fault is there: without resistors the tree has its root alone, which is reached
pub fault_there : (nodes : List Text) (ends : List Sink) (w : Wire) → IsSoundTree (tree_by nodes ends w) → (fault : TreeFault) → IsFaultOf (tree_by nodes ends w) fault → IsThere nodes fault
fault_there nodes ends w sound trees.NotTree h = tt
fault_there nodes ends w sound trees.NoMemory h = tt
fault_there nodes ends w sound (trees.NotReached k) h =
    let least = h.1 in
    within (has_resistors w) (needed_there (tree_by nodes ends w) k sound least.needed) (λ root. least.outside ([], root))
  where
    within : (b : Bool) → k < cond b (length nodes) 1 → (k ≡ 0 → ⊥) → k < length nodes
    within true lt apart = lt
    within false lt apart = absurd (apart (omega (arith, lt)))

-- ---- limits are no refusals
abbrev is_refused : Option LinkFault → Bool
is_refused None = false
is_refused (Some (faults.Refused r)) = true
is_refused (Some (faults.Limit what name value)) = false
is_refused (Some faults.NoMemory) = false

or_plain : (a b : Option LinkFault) → is_refused a ≡ false → is_refused b ≡ false → is_refused (or_fault a b) ≡ false
or_plain (Some f) b h k = h
or_plain None b h k = k

passed_plain : (what : LimitKind) (name : Option Text) (value most : ℕ) → is_refused (passed what name value most) ≡ false
passed_plain what name value most = by (nat_le value most)
  where
    by : (b : Bool) → is_refused (cond b None (Some (faults.Limit what name value))) ≡ false
    by true = refl
    by false = refl

cond_plain : (b : Bool) (o : Option LinkFault) → is_refused o ≡ false → is_refused (cond b o None) ≡ false
cond_plain true o h = h
cond_plain false o h = refl

limit_plain : (listed : Bool) (name : Text) (nodes load : ℕ) → is_refused (limit_by listed name nodes load) ≡ false
limit_plain listed name nodes load =
    or_plain _ _ (cond_plain listed _ (passed_plain limits.Nodes (Some name) nodes most_nodes)) (passed_plain limits.Load (Some name) load most_load)

-- ---- the wire of a net whose nodes are known
module _ (listed : Bool) (pins : NetPins) (nodes : List Text) (w : Wire) where
  pub limit_within : (fault : LinkFault) → IsLimit (limit_at listed pins nodes w) fault → IsFaultWithin listed pins nodes w fault
  limit_within faults.NoMemory h = tt
  limit_within (faults.Refused r) h = absurd (false≢true (sym (limit_plain listed pins.name (length nodes) (greatest_load (tree_by nodes pins.sinks w))) ∙ ap is_refused h))
  limit_within (faults.Limit what name value) h = h

  pub tree_fault_within : (t : TreeParts) → IsTreeWithin listed pins nodes w t → (fault : LinkFault) → IsTreeFault t pins.name nodes fault → IsFaultWithin listed pins nodes w fault
  tree_fault_within t h faults.NoMemory f = tt
  tree_fault_within t h (faults.Refused r) f = (h.limit, subst (λ x. IsTreeFault x pins.name nodes (faults.Refused r)) h.tree f)
  tree_fault_within t h (faults.Limit what name value) f = absurd f

pub tree_fault : (t : TreeParts) (net : Text) (nodes : List Text) (fault : TreeFault) → IsFaultOf t fault → (link_fault : LinkFault) → IsLinkFaultOf net nodes fault link_fault → IsTreeFault t net nodes link_fault
tree_fault t net nodes trees.NotTree cause link_fault e = subst (IsTreeFault t net nodes) (sym e) (trees.NotTree, cause, refl)
tree_fault t net nodes (trees.NotReached k) cause link_fault e = subst (IsTreeFault t net nodes) (sym e.2) (trees.NotReached k, cause, (e.0, e.1, refl))
tree_fault t net nodes trees.NoMemory cause link_fault e = subst (IsTreeFault t net nodes) (sym e) tt

-- ---- the wire of a net
net_limit_is : (n : Netlist) (p : Parasitics) (x : bare.Numbered) → net_limit n p x ≡ limit_at (is_some (listed n p x.1)) x.1 (bare.nodes n p x) (bare.wire n p x)
unfolding net_limit tree_of
net_limit_is n p x = refl

module _ (n : Netlist) (p : Parasitics) (net : ℕ) (pins : NetPins) (parts : Wire) (nodes : List Text) (here : Bool)
    (w : parts ≡ wire_of n p net pins) (ns : nodes ≡ nodes_of p.delimiter pins (wire_of n p net pins)) (s : here ≡ is_some (listed n p pins)) where
  limit_here : net_limit n p (net, pins) ≡ limit_at here pins nodes parts
  limit_here = rw (s, ns, w) (net_limit_is n p (net, pins))

  tree_here : tree_by nodes pins.sinks parts ≡ bare.tree n p (net, pins)
  tree_here =
      ap (λ x. tree_by x pins.sinks parts) ns
      ∙ (ap (λ x. tree_by (nodes_of p.delimiter pins (wire_of n p net pins)) pins.sinks x) w ∙ sym (tree_is p.delimiter pins (wire_of n p net pins)))

  pub is_wire : (made : NetWire) → IsWireWithin here pins nodes parts made → IsWireOf n p (net, pins) made
  is_wire made h = record {
    couplings = h.couplings ∙ ap couplings_of w;
    tree = h.tree.tree ∙ tree_here;
    accepted = record { limit = limit_here ∙ h.tree.limit; wire = subst IsAcceptedTree (h.tree.tree ∙ tree_here) h.accepted };
  }

  refused : (r : LinkRefusal) (fault : TreeFault) → limit_at here pins nodes parts ≡ None → IsFaultOf (tree_by nodes pins.sinks parts) fault → IsLinkFaultOf pins.name nodes fault (faults.Refused r)
      → IsNetFault n p (net, pins) (faults.Refused r)
  refused r trees.NoMemory free f e = subst (IsNetFault n p (net, pins)) (sym e) tt
  refused r trees.NotTree free f e = subst (IsNetFault n p (net, pins)) (sym e) (limit_here ∙ free, refl, subst IsMeshed tree_here f)
  refused r (trees.NotReached k) free f e =
      let at : slice_get (bare.nodes n p (net, pins)) k ≡ Some e.0 = ap (λ x. slice_get x k) (sym ns) ∙ e.1 in
      subst (IsNetFault n p (net, pins)) (sym e.2)
      (limit_here ∙ free, refl, subst (λ x. IsMeshed x → ⊥) tree_here f.0, (k, subst (λ x. IsLeastUnreached x k) tree_here f.1, at))

  pub is_fault : (fault : LinkFault) → IsFaultWithin here pins nodes parts fault → IsNetFault n p (net, pins) fault
  is_fault faults.NoMemory h = tt
  is_fault (faults.Refused r) h = refused r h.1.0 h.0 h.1.1 h.1.2
  is_fault (faults.Limit what name value) h = limit_here ∙ h
