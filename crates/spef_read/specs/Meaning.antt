-- What the forms of a SPEF text mean, one after another. A state has what the header and the name map said, the nets
-- that ended, and of the net that is being read what its section said so far.
use Rattle.std.specs.Prelude.{ℕ, Bool, ◌||◌, ◌&&◌, List, [], ◌∷◌, ◌++◌, length, drop, codes, ◌==◌}
use Rattle.std.specs.Prelude.{ℤ, pos, int_le, ◌+ℤ◌, Option, Some, None, is_some, Result, Ok, Err}
use Rattle.std.specs.Prelude.{if◌then◌else◌}
use Rattle.std.specs.Str.{str_eq_ignore_ascii_case}
use Rattle.name_numbers.specs.Names.{found, with_value}
use Rattle.xt_model.specs.declared.code.Code.{Code}
use Rattle.xt_model.specs.declared.code.Code.TheVariants.{S1, S3, S4, S5, S6}
use Rattle.xt_number.specs.Value.{fixed, power_of, without_zeros}
use Rattle.xt_number.specs.declared.fault.NumberFault.{NumberFault}
use Rattle.spef_read.specs.declared.item.Separator.{Separator}
use Rattle.spef_read.specs.declared.item.Separator.TheVariants as separators
use Rattle.spef_read.specs.declared.item.Quantity.{Quantity}
use Rattle.spef_read.specs.declared.item.Quantity.TheVariants as quantities
use Rattle.spef_read.specs.declared.marks.Marks.{Marks}
use Rattle.spef_read.specs.declared.parasitics.NameId.{NameId}
use Rattle.spef_read.specs.declared.parasitics.CapText.{CapText}
use Rattle.spef_read.specs.declared.parasitics.ResText.{ResText}
use Rattle.spef_read.specs.declared.parasitics.WireText.{WireText}
use Rattle.spef_read.specs.Words.{Text, counted}
use Rattle.spef_read.specs.Forms.{Item}
use Rattle.spef_read.specs.Forms as grammar
use Rattle.spef_read.specs.Names.{NameMap, plain_marks, whole_name, pair_name}

-- the names of a text in order of first use, each with the number of the net that has it
abbrev pub Names : Type 0
Names = List (Text × Option ℕ)

pub record State : Type 0 where
  -- the marks of names
  pub marks : Marks
  -- the unit that is being read: what it is of, and the power of ten before it
  pub quantity : Quantity
  pub power : ℤ
  -- a capacitance (a resistance) of the text times ten to this power is one in aF (in mΩ)
  pub cap_scale : Option ℤ
  pub res_scale : Option ℤ
  -- the name map, and the number of the pair that is being read
  pub map : NameMap
  pub index : Text
  pub names : Names
  -- the nets that ended
  pub nets : List WireText
  -- the net that is being read
  pub net : NameId
  pub total : ℤ
  pub caps : List CapText
  pub resistors : List ResText
  -- the element that is being read: its first node, and the second node of a capacitor and of a resistor
  pub first : NameId
  pub cap_second : Option NameId
  pub res_second : NameId

-- the first name of a text
abbrev pub first_name : NameId
first_name = record { number = 0 }

-- nothing has been read
abbrev pub nothing : State
nothing = record {
  marks = plain_marks;
  quantity = quantities.Time;
  power = pos 0;
  cap_scale = None;
  res_scale = None;
  map = [];
  index = [];
  names = [];
  nets = [];
  net = first_name;
  total = pos 0;
  caps = [];
  resistors = [];
  first = first_name;
  cap_second = None;
  res_second = first_name;
}

-- ---- the header

-- the marks with another divider or delimiter
abbrev pub with_separator : Separator → ℕ → Marks → Marks
with_separator separators.Divider b m = record m { divider = b }
with_separator separators.Delimiter b m = record m { delimiter = b }

-- a mark of names is one byte
abbrev pub set_separator : Separator → Text → State → Result State Code
set_separator which (b ∷ []) s = Ok (record s { marks = with_separator which b s.marks })
set_separator which _ s = Err S1

-- two brackets that belong together
abbrev pub are_brackets : ℕ → ℕ → Bool
are_brackets left right = left == 91 && right == 93 || (left == 60 && right == 62 || left == 40 && right == 41)

abbrev pub brackets_by : ℕ → ℕ → State → Result State Code
brackets_by left right s =
    if are_brackets left right then Ok (record s { marks = record s.marks { left = left; right = right } }) else Err S1

-- the brackets of a bus's bit, in one word
abbrev pub set_pair : Text → State → Result State Code
set_pair (left ∷ right ∷ []) s = brackets_by left right s
set_pair _ s = Err S1

-- the brackets of a bus's bit, in two words
abbrev pub set_brackets : Text → Text → State → Result State Code
set_brackets (left ∷ []) (right ∷ []) s = brackets_by left right s
set_brackets _ _ s = Err S1

abbrev pub number_as : Quantity → State → Option ℤ → Result State Code
number_as quantity s (Some power) = Ok (record s { quantity = quantity; power = power })
number_as quantity s None = Err S1

-- the number of a unit is a power of ten
unfoldable pub unit_number : Quantity → Text → State → Result State Code
unit_number quantity word s = number_as quantity s (power_of word)

-- the word is this one, in any case
abbrev pub is_same : Text → Text → Bool
is_same word other = str_eq_ignore_ascii_case word other

-- one of two words, in any case, with a power of ten for each
abbrev pub one_of : Text → Text → ℤ → Text → ℤ → Option ℤ
one_of word first p second q = if is_same word first then Some p else if is_same word second then Some q else None

-- the power of ten by which a unit is counted: in aF, in mΩ, and for other quantities not at all
unfoldable pub unit_power : Quantity → Text → Option ℤ
unit_power quantities.Time word = one_of word (codes "NS") (pos 0) (codes "PS") (pos 0)
unit_power quantities.Capacitance word = one_of word (codes "PF") (pos 6) (codes "FF") (pos 3)
unit_power quantities.Resistance word = one_of word (codes "KOHM") (pos 6) (codes "OHM") (pos 3)
unit_power quantities.Inductance word = Some (pos 0)

-- the unit of a quantity is known; those of time and inductance are not kept
abbrev pub with_scale : Quantity → ℤ → State → State
with_scale quantities.Capacitance scale s = record s { cap_scale = Some scale }
with_scale quantities.Resistance scale s = record s { res_scale = Some scale }
with_scale _ scale s = s

abbrev pub unit_as : State → Option ℤ → Result State Code
unit_as s (Some power) = Ok (with_scale s.quantity (power +ℤ s.power) s)
unit_as s None = Err S4

-- a unit
unfoldable pub set_unit : Text → State → Result State Code
set_unit word s = unit_as s (unit_power s.quantity word)

-- the units of capacitance and resistance are both known; a net, and the end of the text, want them
unfoldable pub with_units : State → Result State Code
with_units s = if is_some s.cap_scale && is_some s.res_scale then Ok s else Err S4

-- ---- names

abbrev pub index_as : Text → State → Option (ℕ × Text) → Result State Code
index_as index s (Some entry) = Err S5
index_as index s None = Ok (record s { index = index })

-- the number of a pair, behind its `*`; zeros in front do not tell two numbers apart
unfoldable pub pair_number : Text → State → Result State Code
pair_number word s = index_as (without_zeros (drop 1 word)) s (found (without_zeros (drop 1 word)) s.map)

abbrev pub pair_as : State → Result Text Code → Result State Code
pair_as s (Ok name) = Ok (record s { map = with_value s.index name s.map })
pair_as s (Err code) = Err code

-- the name of a pair
unfoldable pub end_pair : Text → State → Result State Code
end_pair word s = pair_as s (pair_name s.marks word)

abbrev pub enter_as : Text → State → Option (ℕ × Option ℕ) → NameId × State
enter_as name s (Some entry) = (record { number = entry.0 }, s)
enter_as name s None = (record { number = length s.names }, record s { names = with_value name None s.names })

-- a name is used: which one of the text's names it is
abbrev pub enter : State → Result Text Code → Result (NameId × State) Code
enter s (Ok name) = Ok (enter_as name s (found name s.names))
enter s (Err code) = Err code

-- the name of a node
unfoldable pub node : Text → State → Result (NameId × State) Code
node word s = enter s (whole_name s.marks s.map word)

-- ---- nets

-- the name of a net, which no other net has
abbrev pub net_as : Text → State → Option (ℕ × Option ℕ) → Result State Code
net_as name s (Some (number, Some other)) = Err S6
net_as name s (Some (number, None)) = Ok (record s {
  net = record { number = number };
  names = with_value name (Some (length s.nets)) s.names;
})
net_as name s None = Ok (record s {
  net = record { number = length s.names };
  names = with_value name (Some (length s.nets)) s.names;
})

abbrev pub net_by : State → Result Text Code → Result State Code
net_by s (Ok name) = net_as name s (found name s.names)
net_by s (Err code) = Err code

unfoldable pub net_name : Text → State → Result State Code
net_name word s = net_by s (whole_name s.marks s.map word)

-- a value from 0 on
abbrev pub value_as : Result ℤ NumberFault → Result ℤ Code
value_as (Ok value) = if int_le (pos 0) value then Ok value else Err S3
value_as (Err fault) = Err S3

-- a value of the text, where its unit is known
unfoldable pub value_of : Text → Option ℤ → Result ℤ Code
value_of word (Some scale) = value_as (fixed (counted word) scale)
value_of word None = Err S4

abbrev pub total_as : State → Result ℤ Code → Result State Code
total_as s (Ok value) = Ok (record s { total = value })
total_as s (Err code) = Err code

-- the total capacitance of a net
abbrev pub net_total : Text → State → Result State Code
net_total word s = total_as s (value_of word s.cap_scale)

abbrev pub first_as : Result (NameId × State) Code → Result State Code
first_as (Ok e) = Ok (record e.1 { first = e.0; cap_second = None })
first_as (Err code) = Err code

-- the first node of an element
abbrev pub first_node : Text → State → Result State Code
first_node word s = first_as (node word s)

abbrev pub cap_second_as : Result (NameId × State) Code → Result State Code
cap_second_as (Ok e) = Ok (record e.1 { cap_second = Some e.0 })
cap_second_as (Err code) = Err code

-- the second node of a capacitor
abbrev pub cap_node : Text → State → Result State Code
cap_node word s = cap_second_as (node word s)

abbrev pub res_second_as : Result (NameId × State) Code → Result State Code
res_second_as (Ok e) = Ok (record e.1 { res_second = e.0 })
res_second_as (Err code) = Err code

-- the second node of a resistor
abbrev pub res_node : Text → State → Result State Code
res_node word s = res_second_as (node word s)

abbrev pub cap_as : State → Result ℤ Code → Result State Code
cap_as s (Ok value) =
    Ok (record s { caps = s.caps ++ record { a = s.first; b = s.cap_second; value = value } ∷ [] })
cap_as s (Err code) = Err code

-- the value of a capacitor, which ends it
abbrev pub cap_value : Text → State → Result State Code
cap_value word s = cap_as s (value_of word s.cap_scale)

abbrev pub res_as : State → Result ℤ Code → Result State Code
res_as s (Ok value) =
    Ok (record s { resistors = s.resistors ++ record { a = s.first; b = s.res_second; value = value } ∷ [] })
res_as s (Err code) = Err code

-- the value of a resistor, which ends it
abbrev pub res_value : Text → State → Result State Code
res_value word s = res_as s (value_of word s.res_scale)

-- the net as it is, once it ended
abbrev pub net_of : State → WireText
net_of s = record { name = s.net; total = s.total; caps = s.caps; resistors = s.resistors }

abbrev pub end_net : State → State
end_net s = record s { nets = s.nets ++ net_of s ∷ []; caps = []; resistors = [] }

-- what a form means
unfoldable pub means : Item → State → Result State Code
means grammar.Nothing s = Ok s
means (grammar.Refused code) s = Err code
means (grammar.Separator_is which word) s = set_separator which word s
means (grammar.Pair word) s = set_pair word s
means (grammar.Brackets_are left right) s = set_brackets left right s
means (grammar.UnitNumber quantity word) s = unit_number quantity word s
means (grammar.Unit_is word) s = set_unit word s
means (grammar.PairNumber word) s = pair_number word s
means (grammar.PairName word) s = end_pair word s
means grammar.NetBegins s = with_units s
means (grammar.NetName word) s = net_name word s
means (grammar.Total word) s = net_total word s
means (grammar.FirstNode word) s = first_node word s
means (grammar.CapNode word) s = cap_node word s
means (grammar.ResNode word) s = res_node word s
means (grammar.CapValue word) s = cap_value word s
means (grammar.ResValue word) s = res_value word s
means grammar.NetEnds s = Ok (end_net s)
means grammar.TextEnds s = with_units s
