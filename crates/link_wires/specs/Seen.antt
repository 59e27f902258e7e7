-- The parts of a wire by the numbers of names, as contracts see them.
use Rattle.std.specs.Prelude.{◌≡◌, ℕ, List, [], ◌∷◌, map, Option, Some}
use Rattle.std.specs.List.{slice_get}
use Rattle.name_numbers.specs.Names.{Text}
use Rattle.spef_read.specs.declared.parasitics.ResText.{ResText}
use Rattle.spef_read.specs.declared.parasitics.Parasitics.{Parasitics}
use Rattle.link_rules.specs.Nodes.{text_of, node_net}
use Rattle.link_rules.specs.Wires.{Capacitor, NamedResistor, Wire}
use Rattle.link_wires.specs.declared.parts.CapAt.{CapAt}
use Rattle.link_wires.specs.declared.parts.WireParts.{WireParts}
use Rattle.link_wires.specs.Places.{Extracted}

-- the nets that were looked up are those of the nodes
pub record AreNetsOf (e : Extracted) (nets : List (Option (Option ℕ))) : Type 0 where
  pub each : (k : ℕ) (net : Option ℕ) → slice_get nets k ≡ Some (Some net)
      → net ≡ node_net e.netlist e.parasitics.delimiter (text_of e.parasitics (record { number = k }))

module _ (p : Parasitics) where
  -- the name of a capacitor's own node, and those of a resistor's two nodes
  abbrev pub cap_node : CapAt → Text
  cap_node c = text_of p c.node

  abbrev pub both_nodes : ResText → List Text
  both_nodes r = text_of p r.a ∷ text_of p r.b ∷ []

  -- a capacitor, a resistor and a wire by the names of their nodes
  abbrev pub cap_by : CapAt → Capacitor
  cap_by c = record { node = text_of p c.node; to = c.to; value = c.value }

  abbrev pub resistor_by : ResText → NamedResistor
  resistor_by r = record { a = text_of p r.a; b = text_of p r.b; value = r.value }

  abbrev pub wire_by : WireParts → Wire
  wire_by w = record {
    total = w.total;
    caps = map cap_by w.caps.items;
    resistors = map resistor_by w.resistors.now;
  }
