-- Tables of named values.
use Rattle.std.specs.Prelude.{◌≡◌, ℕ, List, map, Option, Some, None}
use Rattle.name_numbers.specs.Names.{Text, value_of, with_value}
use Rattle.verilog_net.specs.declared.netlist.Netlist.{Netlist}
use Rattle.hier_flatten.specs.Hierarchy.{numbered, links_of}

module _ {V : Type 0} where
  abbrev pub unless_held : Text → V → List (Text × V) → Option V → List (Text × V)
  unless_held name v table None = with_value name v table
  unless_held name v table (Some held) = table

  -- a table once a name has this value, unless it has one
  abbrev pub with_first : Text → V → List (Text × V) → List (Text × V)
  with_first name v table = unless_held name v table (value_of name table)

-- under each name a table has the first of these values
pub record IsTableOf {V : Type 0} (entries table : List (Text × V)) : Type 0 where
  pub each : (name : Text) → value_of name table ≡ value_of name entries

-- what is kept beside the modules of a text: their numbers by name, and of each one's instances the modules' numbers
pub record IsIndexed (modules : List Netlist) (numbers : List (Text × ℕ)) (kept : List (List (Option ℕ))) : Type 0 where
  pub table : IsTableOf (numbered 0 modules) numbers
  pub links : kept ≡ map (λ m. links_of modules m.instances) modules
