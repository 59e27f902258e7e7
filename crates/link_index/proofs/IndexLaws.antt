-- What an index finds is what its netlist has.
use Rattle.std.specs.Prelude.{◌≡◌, refl, ℕ, List, Option, Some, None, option_map, position}
use Rattle.std.specs.List.{slice_get}
use Rattle.std.specs.Str.{bytes_eq}
use Rattle.std.proofs.Common.{sym, ap, ◌∙◌}
use Rattle.std.proofs.lemmas.Option.{slice_get-map}
use Rattle.xt_model.specs.Options.{◌>>=◌}
use Rattle.name_numbers.specs.Names.{Text, found, value_of}
use Rattle.name_numbers.proofs.NameLaws.{position_mapped}
use Rattle.verilog_net.specs.declared.netlist.Instance.{Instance}
use Rattle.verilog_net.specs.declared.netlist.Netlist.{Netlist}
use Rattle.verilog_net.specs.declared.netlist.Wire.{Wire}
use Rattle.verilog_net.specs.Bits.{bits}
use Rattle.link_rules.specs.Bits.{net_of}
use Rattle.link_rules.specs.Nodes.{net_named, pin_net}
use Rattle.link_index.specs.Nets.{HasNames, HaveNumbers}
use Rattle.link_index.proofs.FirstLaws.{find_place, find_nowhere}
use Rattle.link_index.proofs.PlaceLaws.{found_place}

-- the net of a name
pub named_is : (n : Netlist) (table : List (Text × Unit {0})) (name : Text) → HasNames n.nets table
    → net_named n name ≡ option_map (λ f. f.0) (found name table)
named_is n table name h =
    position_mapped (bytes_eq name) (λ b. b.name) (bits n.nets) ∙ ap (position (bytes_eq name)) (sym h) ∙ sym (found_place name table)

-- the name of a net
pub name_is : (n : Netlist) (table : List (Text × Unit {0})) (k : ℕ) → HasNames n.nets table
    → option_map (λ b. b.name) (slice_get (bits n.nets) k) ≡ option_map (λ e. e.0) (slice_get table k)
name_is n table k h =
    sym (slice_get-map (λ b. b.name) (bits n.nets) k) ∙ ap (λ l. slice_get l k) (sym h) ∙ slice_get-map (λ e. e.0) table k

module _ (n : Netlist) (numbers : List (Text × ℕ)) (owner pin : Text) (have : HaveNumbers n.instances numbers) where
  -- no instance of this name
  pub pin_nowhere : value_of owner numbers ≡ None → pin_net n owner pin ≡ None
  pin_nowhere h = rw (find_nowhere (λ i. bytes_eq owner i.name) n.instances (sym (have.each owner) ∙ h)) refl

  -- what the pin of the instance of this name is connected to
  pub pin_is : (i : ℕ) (x : Instance) (wire : Option Wire) → value_of owner numbers ≡ Some i → slice_get n.instances i ≡ Some x
      → wire ≡ value_of pin x.pins → pin_net n owner pin ≡ (wire >>= net_of n.nets)
  pin_is i x wire h at e =
      rw (find_place (λ i. bytes_eq owner i.name) n.instances i (sym (have.each owner) ∙ h), at) (ap (λ o. o >>= net_of n.nets) (sym e))
