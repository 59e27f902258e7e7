-- Whose net a node of parasitics is on.
use Rattle.std.specs.Prelude.{ℕ, ◌==◌, [], ◌∷◌, find, position, Option, Some, None, unwrap_or, option_map}
use Rattle.std.specs.Prelude.{bytes_eq, if◌then◌else◌}
use Rattle.std.specs.List.{slice_get}
use Rattle.std.specs.Option.{option_or}
use Rattle.xt_model.specs.Options.{◌>>=◌}
use Rattle.name_numbers.specs.Names.{Text, value_of}
use Rattle.verilog_net.specs.declared.netlist.Netlist.{Netlist}
use Rattle.spef_read.specs.declared.parasitics.NameId.{NameId}
use Rattle.spef_read.specs.declared.parasitics.Parasitics.{Parasitics}
use Rattle.verilog_net.specs.Bits.{bits}
use Rattle.link_rules.specs.Bits.{net_of}

-- the bytes of a name of parasitics
abbrev pub text_of : Parasitics → NameId → Text
text_of parasitics name = unwrap_or (option_map (λ e. e.0) (slice_get parasitics.names name.number)) []

-- the bytes before the last delimiter and those after it
abbrev pub split_here : ℕ → ℕ → Text → Option (Text × Text) → Option (Text × Text)
split_here delimiter b more (Some cut) = Some (b ∷ cut.0, cut.1)
split_here delimiter b more None = if b == delimiter then Some ([], more) else None

abbrev pub split_last : ℕ → Text → Option (Text × Text)
split_last delimiter [] = None
split_last delimiter (b ∷ more) = split_here delimiter b more (split_last delimiter more)

module _ (netlist : Netlist) where
  -- the net of a name: bits of buses by their own names
  abbrev pub net_named : Text → Option ℕ
  net_named name = position (λ b. bytes_eq name b.name) (bits netlist.nets)

  -- the net on which a pin of an instance is, by both names
  abbrev pub pin_net : Text → Text → Option ℕ
  pin_net owner pin = do
    instance ← find (λ i. bytes_eq owner i.name) netlist.instances
    wire ← value_of pin instance.pins
    net_of netlist.nets wire

  abbrev pub cut_net : Option (Text × Text) → Option ℕ
  cut_net None = None
  cut_net (Some cut) = option_or (pin_net cut.0 cut.1) (net_named cut.0)

  -- the net of a node, by the first of three ways that finds one: a pin behind the last delimiter of the instance
  -- before it; the net of the name before the last delimiter; the net of the whole name
  unfoldable pub node_net : ℕ → Text → Option ℕ
  node_net delimiter name = option_or (cut_net (split_last delimiter name)) (net_named name)
