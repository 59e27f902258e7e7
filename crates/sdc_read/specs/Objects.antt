-- The objects that a list stands for. A list that is no list of ports, a name that no port has, and a port of the other
-- direction are refused (C6).
use Rattle.std.specs.Prelude.{ℕ, zero, suc, Bool, true, false, not, ◌&&◌, ◌||◌, ◌==◌, if◌then◌else◌}
use Rattle.std.specs.Prelude.{List, [], ◌∷◌, ◌++◌, length, Option, Some, None, is_some, Result, Ok, Err}
use Rattle.std.specs.Fmt.{decimal}
use Rattle.std.specs.List.{list_all, slice_get}
use Rattle.std.specs.Str.{bytes_eq}
use Rattle.xt_model.specs.declared.code.Code.{Code}
use Rattle.xt_model.specs.declared.code.Code.TheVariants.{C6}
use Rattle.verilog_net.specs.declared.netlist.Net.{Net}
use Rattle.verilog_net.specs.declared.netlist.PortRole.{PortRole}
use Rattle.verilog_net.specs.declared.netlist.PortRole.TheVariants.{Input, Output}
use Rattle.verilog_net.specs.declared.port.PortFound.{PortFound}
use Rattle.verilog_net.specs.declared.port.PortFound.TheVariants as found_ports
use Rattle.verilog_net.specs.Nets.{Nets}
use Rattle.verilog_net.specs.Ports.{bits_of, port_of}
use Rattle.sdc_words.specs.Items.{items_of}
use Rattle.sdc_words.specs.Words.{Text, NamesText, One, Many, WordText}
use Rattle.sdc_words.specs.Words as words
use Rattle.xt_model.specs.Results.{◌>>=◌}
use Rattle.sdc_read.specs.declared.change.Change.{Change}
use Rattle.sdc_read.specs.declared.constraints.Clock.{Clock}
use Rattle.sdc_read.specs.declared.ports.PortBit.{PortBit}
use Rattle.sdc_read.specs.declared.source.SourceBits.{SourceBits}
use Rattle.sdc_read.specs.declared.source.SourceBits.TheVariants as sources
use Rattle.sdc_read.specs.Ports.{Ports}
use Rattle.sdc_read.specs.Changes.{Bits, role_for, over_first, change_bits}

-- the names of a list
abbrev pub names_in : NamesText → List Text
names_in (One name) = name ∷ []
names_in (Many names) = items_of names

-- the names in a list of ports
abbrev pub port_names : WordText → Option NamesText
port_names (words.Bare name) = Some (One name)
port_names (words.Braced names) = Some (Many names)
port_names (words.Ports names) = Some names
port_names _ = None

-- the names in a list of clocks
abbrev pub clock_names : WordText → Option NamesText
clock_names (words.Bare name) = Some (One name)
clock_names (words.Braced names) = Some (Many names)
clock_names (words.Clocks names) = Some names
clock_names _ = None

-- the direction of all ports in a list
abbrev pub all_of : WordText → Option PortRole
all_of words.AllInputs = Some Input
all_of words.AllOutputs = Some Output
all_of _ = None

-- ---- bits of ports

-- both are one direction
abbrev pub same_role : PortRole → PortRole → Bool
same_role Input Input = true
same_role Output Output = true
same_role _ _ = false

-- the bits that stand for a name, if they are of ports of this direction
abbrev pub bits_if : PortRole → PortFound → Option Bits
bits_if wanted found_ports.Absent = None
bits_if wanted (found_ports.Bits decl first last role) =
    if same_role wanted role then Some (decl, first, last) else None

-- the bits of the port of this direction with this name
unfoldable pub named_bits : PortRole → Nets → Text → Option Bits
named_bits wanted nets name = bits_if wanted (port_of name nets)

abbrev pub bits_in : PortRole → ℕ → Option (Text × Net) → Option Bits
bits_in wanted i (Some e) = bits_if wanted (bits_of i e.1)
bits_in wanted i None = None

-- the bits of a net, if it is a port of this direction
unfoldable pub net_bits : PortRole → Nets → ℕ → Option Bits
net_bits wanted nets i = bits_in wanted i (slice_get nets i)

-- bits, if there are some, behind others
abbrev pub behind : Option Bits → List Bits → List Bits
behind (Some b) bs = bs ++ b ∷ []
behind None bs = bs

-- the ports of this direction, in order of their nets
unfoldable pub ports_of : PortRole → Nets → List Bits
ports_of wanted nets = over_first (λ i. behind (net_bits wanted nets i)) (length nets) []

-- each of a list in turn
abbrev pub over_all : {A B : Type 0} → (B → A → A) → List B → A → A
over_all f [] s = s
over_all f (x ∷ xs) s = over_all f xs (f x s)

abbrev pub is_some_listed : List Bits → Bool
is_some_listed [] = false
is_some_listed (b ∷ bs) = true

-- some number below one passes a test
abbrev pub any_below : (ℕ → Bool) → ℕ → Bool
any_below p zero = false
any_below p (suc n) = any_below p n || p n

-- some net is a port of this direction
unfoldable pub has_role : PortRole → Nets → Bool
has_role wanted nets = any_below (λ i. is_some (net_bits wanted nets i)) (length nets)

-- ---- ports that a command changes

abbrev pub change_found : Option PortBit → Change → Option Bits → Ports → Result Ports Code
change_found clock c (Some b) ps = Ok (change_bits clock c b ps)
change_found clock c None ps = Err C6

-- the ports with these names, one after another
abbrev pub change_names : Nets → Option PortBit → Change → List Text → Ports → Result Ports Code
change_names nets clock c [] ps = Ok ps
change_names nets clock c (name ∷ names) ps =
    change_found clock c (named_bits (role_for c) nets name) ps >>= change_names nets clock c names

abbrev pub change_if : Option PortBit → Change → Option Bits → Ports → Ports
change_if clock c (Some b) ps = change_bits clock c b ps
change_if clock c None ps = ps

-- all ports of the direction, in order of their nets
unfoldable pub change_all : Nets → Option PortBit → Change → Ports → Ports
change_all nets clock c ps =
    over_first (λ i. change_if clock c (net_bits (role_for c) nets i)) (length nets) ps

-- all ports of a direction, which is the one that is wanted unless there are none
abbrev pub change_role : Nets → Option PortBit → Change → PortRole → Ports → Result Ports Code
change_role nets clock c role ps =
    if same_role (role_for c) role then Ok (change_all nets clock c ps)
    else if has_role role nets then Err C6
    else Ok ps

abbrev pub change_as : Nets → Option PortBit → Change → Option NamesText → Option PortRole → Ports → Result Ports Code
change_as nets clock c (Some names) role ps = change_names nets clock c (names_in names) ps
change_as nets clock c None (Some role) ps = change_role nets clock c role ps
change_as nets clock c None None ps = Err C6

-- the ports of a list
unfoldable pub change_objects : Nets → Option PortBit → Change → WordText → Ports → Result Ports Code
change_objects nets clock c w ps = change_as nets clock c (port_names w) (all_of w) ps

-- ---- clocks

abbrev pub knows : Option Clock → Option NamesText → Bool
knows (Some clock) (Some names) =
    not (length (names_in names) == 0) && list_all (bytes_eq clock.name) (names_in names)
knows _ _ = false

-- a list of clocks that are all known: each name is that of the clock, and there is one at least
unfoldable pub knows_clock : Option Clock → WordText → Bool
knows_clock clock w = knows clock (clock_names w)

-- bits behind others, of which no more than one may stand in the list of a clock's source
abbrev pub with_bits : Bits → SourceBits → SourceBits
with_bits b sources.Nothing =
    if b.1 == b.2 then sources.One (record { decl = b.0; bit = b.1 }) else sources.Several
with_bits b _ = sources.Several

abbrev pub source_found : Option Bits → SourceBits → Result SourceBits Code
source_found (Some b) s = Ok (with_bits b s)
source_found None s = Err C6

abbrev pub source_names : Nets → List Text → SourceBits → Result SourceBits Code
source_names nets [] s = Ok s
source_names nets (name ∷ names) s = source_found (named_bits Input nets name) s >>= source_names nets names

abbrev pub source_if : Option Bits → SourceBits → SourceBits
source_if (Some b) s = with_bits b s
source_if None s = s

unfoldable pub source_all : Nets → SourceBits
source_all nets = over_first (λ i. source_if (net_bits Input nets i)) (length nets) sources.Nothing

-- exactly one bit
abbrev pub one_bit : SourceBits → Result PortBit Code
one_bit (sources.One at) = Ok at
one_bit _ = Err C6

abbrev pub source_as : Nets → Option NamesText → Option PortRole → Result SourceBits Code
source_as nets (Some names) role = source_names nets (names_in names) sources.Nothing
source_as nets None (Some Input) = Ok (source_all nets)
source_as nets None _ = Err C6

-- the one bit of an input that a list stands for; a name that stands twice counts twice
unfoldable pub source_of : Nets → WordText → Result PortBit Code
source_of nets w = source_as nets (port_names w) (all_of w) >>= one_bit

abbrev pub bit_text : ℕ → Text → Option (ℕ × ℕ) → Text
bit_text bit name None = name
bit_text bit name (Some range) = name ++ 91 ∷ [] ++ decimal bit ++ 93 ∷ []

abbrev pub name_of_bit : ℕ → Option (Text × Net) → Text
name_of_bit bit None = []
name_of_bit bit (Some e) = bit_text bit e.0 e.1.range

-- the name of a bit of a port: bit k of a bus `a` has the name `a[k]`
unfoldable pub bit_name : Nets → PortBit → Text
bit_name nets at = name_of_bit at.bit (slice_get nets at.decl)
