-- The names of a flat netlist: no two are equal, and none is too long.
use Rattle.std.specs.Prelude.{◌≡◌, ℕ, nat_lt, ◌==◌, ◌&&◌, ◌||◌, not, Bool, true, false}
use Rattle.std.specs.Prelude.{List, [], ◌∷◌, ◌++◌, length, map}
use Rattle.std.specs.Prelude.{Option, Some, None}
use Rattle.std.specs.List.{list_any}
use Rattle.name_numbers.specs.Names.{Text, has_name}
use Rattle.xt_model.specs.Limits.{most_text_name}
use Rattle.verilog_net.specs.declared.netlist.Net.{Net}
use Rattle.verilog_net.specs.declared.netlist.Instance.{Instance}
use Rattle.verilog_net.specs.declared.netlist.Netlist.{Netlist}
use Rattle.verilog_net.specs.Nets.{Nets, NetBit, named_bit}

-- some name is also one of those after it
abbrev pub is_repeated : List Text → Bool
is_repeated [] = false
is_repeated (name ∷ more) = has_name name more || is_repeated more

abbrev pub is_some_bit : Option NetBit → Bool
is_some_bit None = false
is_some_bit (Some bit) = true

abbrev pub is_scalar : Option (ℕ × ℕ) → Bool
is_scalar None = true
is_scalar (Some range) = false

-- a net of one bit has the name of a bit of a bus
abbrev pub has_bit_name : Nets → Text × Net → Bool
has_bit_name nets net = is_scalar net.1.range && is_some_bit (named_bit net.0 nets)

-- two nets, two bits or two instances have one name
unfoldable pub has_equal_names : Nets → List Instance → Bool
has_equal_names nets instances =
    is_repeated (map (λ net. net.0) nets)
    || (list_any (has_bit_name nets) nets || is_repeated (map (λ i. i.name) instances))

abbrev pub is_long : Text → Bool
is_long name = nat_lt most_text_name (length name)

-- a net or an instance has a name of more than 1,024 bytes
unfoldable pub has_long_name : Nets → List Instance → Bool
has_long_name nets instances =
    list_any (λ net. is_long net.0) nets || list_any (λ i. is_long i.name) instances

-- ---- what the code keeps

-- a table of the nets before the first one that has the name of an earlier one, and that one with those after it
abbrev pub AreApart : Nets → Nets → Type 0
AreApart table [] = is_repeated (map (λ net. net.0) table) ≡ false
AreApart table (net ∷ more) = is_repeated (map (λ n. n.0) (table ++ net ∷ more)) ≡ true

-- a table of these nets, or two of them have one name
abbrev pub IsTabled : Nets → Option Nets → Type 0
IsTabled nets None = is_repeated (map (λ net. net.0) nets) ≡ true
IsTabled nets (Some table) = (is_repeated (map (λ net. net.0) nets) ≡ false) × (table ≡ nets)

-- ---- names that are apart by those of the modules alone
abbrev pub is_slash : ℕ → Bool
is_slash byte = byte == 47

abbrev pub has_slash : Text → Bool
has_slash name = list_any is_slash name

-- the instances of a module have names of their own without a `/`
abbrev pub has_plain_names : Netlist → Bool
has_plain_names m =
    not (list_any (λ i. has_slash i.name) m.instances) && not (is_repeated (map (λ i. i.name) m.instances))
