-- The wire of a net: its capacitors and resistors, its nodes in order, and the tree whose Elmore form it has.
use Rattle.std.specs.Prelude.{ℕ, ◌+◌, ◌==◌, Bool, false, not, ◌||◌, List, [], ◌∷◌, ◌++◌, length, map, fold}
use Rattle.std.specs.Prelude.{find, flat_map, filter_map, ℤ, pos, ◌+ℤ◌, Option, Some, None, option_map}
use Rattle.std.specs.Prelude.{option_to_list}
use Rattle.std.specs.Prelude.{bytes_eq, if◌then◌else◌}
use Rattle.name_numbers.specs.Names.{Text, with_name, number_of}
use Rattle.xt_model.specs.declared.net.Coupling.{Coupling}
use Rattle.verilog_net.specs.declared.netlist.Netlist.{Netlist}
use Rattle.spef_read.specs.declared.parasitics.CapText.{CapText}
use Rattle.spef_read.specs.declared.parasitics.ResText.{ResText}
use Rattle.spef_read.specs.declared.parasitics.WireText.{WireText}
use Rattle.spef_read.specs.declared.parasitics.Parasitics.{Parasitics}
use Rattle.elmore_tree.specs.declared.part.Resistor.{Resistor}
use Rattle.elmore_tree.specs.declared.part.Tap.{Tap}
use Rattle.elmore_tree.specs.Trees.{TreeParts}
use Rattle.verilog_net.specs.Bits.{rising}
use Rattle.link_rules.specs.declared.circuit.Sink.{Sink}
use Rattle.link_rules.specs.declared.circuit.NetPins.{NetPins}
use Rattle.link_rules.specs.Ends.{NetEnd, end_name}
use Rattle.link_rules.specs.Nodes.{text_of, node_net}

-- a capacitor of a net: its own node, the net to which it couples, if any, and its value in aF
pub record Capacitor : Type 0 where
  pub node : Text
  pub to : Option ℕ
  pub value : ℤ

-- a resistor of a net between two nodes, in milliohms
pub record NamedResistor : Type 0 where
  pub a : Text
  pub b : Text
  pub value : ℤ

-- the wire of a net: its total in aF, its capacitors and its resistors
pub record Wire : Type 0 where
  pub total : ℤ
  pub caps : List Capacitor
  pub resistors : List NamedResistor

-- nothing is known of a net's wire
abbrev pub no_wire : Wire
no_wire = record { total = pos 0; caps = []; resistors = [] }

-- the net is this one
abbrev pub is_net : ℕ → Option ℕ → Bool
is_net net None = false
is_net net (Some found) = found == net

-- the net to which a node on this net couples one of net `net`: another one that is known
abbrev pub coupled : ℕ → Option ℕ → Option ℕ
coupled net None = None
coupled net (Some found) = if found == net then None else Some found

module _ (netlist : Netlist) (parasitics : Parasitics) where
  abbrev pub net_at : Text → Option ℕ
  net_at name = node_net netlist parasitics.delimiter name

  -- of two nodes the first that is on the net is the capacitor's own, and the first where none is
  abbrev pub own_first : ℕ → Text → Text → Bool
  own_first net a b = is_net net (net_at a) || not (is_net net (net_at b))

  -- where the other node is on another known net the capacitor couples to that net, else it is to ground
  abbrev pub capacitor_by : ℕ → Text → Option Text → ℤ → Capacitor
  capacitor_by net a None value = record { node = a; to = None; value = value }
  capacitor_by net a (Some b) value =
      if own_first net a b
      then record { node = a; to = coupled net (net_at b); value = value }
      else record { node = b; to = coupled net (net_at a); value = value }

  abbrev pub capacitor_of : ℕ → CapText → Capacitor
  capacitor_of net c =
      capacitor_by net (text_of parasitics c.a) (option_map (text_of parasitics) c.b) c.value

  abbrev pub named_resistor_of : ResText → NamedResistor
  named_resistor_of r = record { a = text_of parasitics r.a; b = text_of parasitics r.b; value = r.value }

  abbrev pub wire_in : ℕ → Option WireText → Wire
  wire_in net None = no_wire
  wire_in net (Some w) = record {
    total = w.total;
    caps = map (capacitor_of net) w.caps;
    resistors = map named_resistor_of w.resistors;
  }

  -- what the parasitics have under a name
  abbrev pub wire_named : Text → Option WireText
  wire_named name = find (λ w. bytes_eq name (text_of parasitics w.name)) parasitics.nets

  -- the wire that is listed for a net: one without a driver has none
  abbrev pub listed_by : Text → Option NetEnd → Option WireText
  listed_by name None = None
  listed_by name (Some driver) = wire_named name

  abbrev pub listed : NetPins → Option WireText
  listed p = listed_by p.name p.driver

  unfoldable pub wire_of : ℕ → NetPins → Wire
  wire_of net p = wire_in net (listed p)

-- ---- nodes

-- the names of nodes in capacitors and resistors, as they appear
abbrev pub names_on : Wire → List Text
names_on w = map (λ c. c.node) w.caps ++ flat_map (λ r. r.a ∷ r.b ∷ []) w.resistors

-- the nodes of the driver and of the sinks, with the delimiter before the pin
abbrev pub end_nodes : ℕ → NetPins → List Text
end_nodes delimiter p =
    map (end_name delimiter) (option_to_list p.driver) ++ map (λ s. end_name delimiter s.end) p.sinks

-- the nodes of a net in order: the driver, the sinks, then the others as they appear
unfoldable pub nodes_of : ℕ → NetPins → Wire → List Text
nodes_of delimiter p w = fold (λ nodes name. with_name name nodes) (end_nodes delimiter p) (names_on w)

-- without resistors all nodes are one
abbrev pub has_resistors : Wire → Bool
has_resistors w = not (length w.resistors == 0)

-- how many nodes the tree of a net has
abbrev pub node_count : List Text → Wire → ℕ
node_count nodes w = if has_resistors w then length nodes else 1

-- the number of a node in the tree, and that of the node of a sink
abbrev pub node_at : List Text → Wire → Text → ℕ
node_at nodes w name = if has_resistors w then number_of name nodes else 0

abbrev pub sink_node : Wire → ℕ → ℕ
sink_node w k = if has_resistors w then 1 + k else 0

-- ---- capacitance to ground, and couplings

-- a capacitance in aF at a node
abbrev pub Charge : Type 0
Charge = ℕ × ℤ

-- the capacitances of sinks, from a number of a sink on
abbrev pub sink_charges : Wire → ℕ → List Sink → List Charge
sink_charges w k [] = []
sink_charges w k (s ∷ more) = (sink_node w k, s.cap) ∷ sink_charges w (k + 1) more

-- a capacitor without a coupling is ground at its own node
abbrev pub ground_by : ℕ → ℤ → Option ℕ → Option Charge
ground_by node value None = Some (node, value)
ground_by node value (Some net) = None

abbrev pub ground_charge : List Text → Wire → Capacitor → Option Charge
ground_charge nodes w c = ground_by (node_at nodes w c.node) c.value c.to

-- without capacitors the total is ground at the driver
abbrev pub total_charges : Wire → List Capacitor → List Charge
total_charges w [] = (0, w.total) ∷ []
total_charges w (c ∷ more) = []

-- all capacitances to ground
abbrev pub charges_of : List Text → List Sink → Wire → List Charge
charges_of nodes sinks w =
    sink_charges w 0 sinks ++ filter_map (ground_charge nodes w) w.caps ++ total_charges w w.caps

-- the capacitance to ground at a node: the sum of those that are there
abbrev pub sum_at : List Charge → ℕ → ℤ
sum_at [] node = pos 0
sum_at (c ∷ more) node = if c.0 == node then c.1 +ℤ sum_at more node else sum_at more node

-- a capacitor with a coupling: an entry of the net for each, in order, and a tap of its tree at its own node
abbrev pub coupling_of : Capacitor → Option Coupling
coupling_of c = option_map (λ net. record { to = record { 0 = net }; cap = c.value }) c.to

abbrev pub tap_of : List Text → Wire → Capacitor → Option Tap
tap_of nodes w c = option_map (λ net. record { node = node_at nodes w c.node; cap = c.value }) c.to

unfoldable pub couplings_of : Wire → List Coupling
couplings_of w = filter_map coupling_of w.caps

-- ---- the tree

abbrev pub resistor_of : List Text → NamedResistor → Resistor
resistor_of nodes r = record { a = number_of r.a nodes; b = number_of r.b nodes; value = r.value }

-- the tree of a net's wire with these capacitances to ground; its root is the driver
abbrev pub tree_with : (ground : List ℤ) → List Text → List Sink → Wire → TreeParts
tree_with ground nodes sinks w = record {
  nodes = node_count nodes w;
  root = 0;
  resistors = map (resistor_of nodes) w.resistors;
  ground = ground;
  taps = filter_map (tap_of nodes w) w.caps;
  sinks = map (sink_node w) (rising 0 (length sinks));
}

-- each node has the sum of the capacitances to ground that are there
abbrev pub tree_by : List Text → List Sink → Wire → TreeParts
tree_by nodes sinks w =
    tree_with (map (sum_at (charges_of nodes sinks w)) (rising 0 (node_count nodes w))) nodes sinks w

unfoldable pub tree_of : ℕ → NetPins → Wire → TreeParts
tree_of delimiter p w = tree_by (nodes_of delimiter p w) p.sinks w
