-- The sorts of tokens of a SPEF text.
use Rattle.std.specs.Prelude.{ℕ, Bool, ◌||◌, List, [], ◌∷◌, codes, ◌==◌, if◌then◌else◌}
use Rattle.std.specs.Char.{is_ascii_digit}
use Rattle.std.specs.List.{list_all}
use Rattle.std.specs.Str.{bytes_eq}
use Rattle.text_forms.specs.Forms.{Token}
use Rattle.text_forms.specs.Tokens.{sorted_tokens}
use Rattle.xt_lex.specs.declared.rules.Rules.TheVariants.{Spef}
use Rattle.xt_lex.specs.declared.token.Kind.{Kind}
use Rattle.xt_lex.specs.declared.token.Kind.TheVariants as kinds
use Rattle.spef_read.specs.declared.sort.Sort.{Sort}
use Rattle.spef_read.specs.declared.sort.Sort.TheVariants as sorts
use Rattle.spef_read.specs.Words.{Text, are_digits, is_value, is_bracket}

-- a sort's place among the sorts
abbrev pub sort_number : Sort → ℕ
sort_number sorts.Spef = 0
sort_number sorts.Title = 1
sort_number sorts.Flow = 2
sort_number sorts.Separator = 3
sort_number sorts.Brackets = 4
sort_number sorts.Unit = 5
sort_number sorts.NameMap = 6
sort_number sorts.Skipped = 7
sort_number sorts.Net = 8
sort_number sorts.Unsupported = 9
sort_number sorts.Inductances = 10
sort_number sorts.Confidence = 11
sort_number sorts.Connections = 12
sort_number sorts.Capacitors = 13
sort_number sorts.Resistors = 14
sort_number sorts.NetEnd = 15
sort_number sorts.Connection = 16
sort_number sorts.Index = 17
sort_number sorts.Starred = 18
sort_number sorts.Digits = 19
sort_number sorts.Value = 20
sort_number sorts.Bracket = 21
sort_number sorts.Word = 22
sort_number sorts.Text = 23
sort_number sorts.End = 24

-- both are one sort
abbrev pub same_sort : Sort → Sort → Bool
same_sort a b = sort_number a == sort_number b

-- the words behind `*` of items of the header with one string
abbrev pub is_title : Text → Bool
is_title word =
    bytes_eq word (codes "DESIGN") || (bytes_eq word (codes "DATE") || (bytes_eq word (codes "VENDOR")
    || (bytes_eq word (codes "PROGRAM") || bytes_eq word (codes "VERSION"))))

-- the words behind `*` of the two marks of names
abbrev pub is_separator : Text → Bool
is_separator word = bytes_eq word (codes "DIVIDER") || bytes_eq word (codes "DELIMITER")

-- the words behind `*` of the units
abbrev pub is_unit : Text → Bool
is_unit word =
    bytes_eq word (codes "T_UNIT") || (bytes_eq word (codes "C_UNIT") || (bytes_eq word (codes "R_UNIT")
    || bytes_eq word (codes "L_UNIT")))

-- the words behind `*` of the sections that are skipped
abbrev pub is_skipped : Text → Bool
is_skipped word =
    bytes_eq word (codes "PORTS") || (bytes_eq word (codes "PHYSICAL_PORTS")
    || (bytes_eq word (codes "POWER_NETS") || bytes_eq word (codes "GROUND_NETS")))

-- the words behind `*` of the sections that are not taken
abbrev pub is_unsupported : Text → Bool
is_unsupported word =
    bytes_eq word (codes "R_NET") || (bytes_eq word (codes "D_PNET") || (bytes_eq word (codes "R_PNET")
    || (bytes_eq word (codes "DEFINE") || bytes_eq word (codes "PDEFINE"))))

-- the words behind `*` with which connections begin
abbrev pub is_connection : Text → Bool
is_connection word = bytes_eq word (codes "P") || (bytes_eq word (codes "I") || bytes_eq word (codes "N"))

-- what a word behind `*` of a net's section is
abbrev pub net_sort : Text → Sort
net_sort word =
    if bytes_eq word (codes "D_NET") then sorts.Net
    else if bytes_eq word (codes "CONN") then sorts.Connections
    else if bytes_eq word (codes "CAP") then sorts.Capacitors
    else if bytes_eq word (codes "RES") then sorts.Resistors
    else if bytes_eq word (codes "END") then sorts.NetEnd
    else if bytes_eq word (codes "V") then sorts.Confidence
    else if bytes_eq word (codes "INDUC") then sorts.Inductances
    else sorts.Starred

-- what a word behind `*` is that may stand outside the sections of nets
abbrev pub outer_sort : Text → Sort
outer_sort word =
    if bytes_eq word (codes "SPEF") then sorts.Spef
    else if is_title word then sorts.Title
    else if bytes_eq word (codes "DESIGN_FLOW") then sorts.Flow
    else if is_separator word then sorts.Separator
    else if bytes_eq word (codes "BUS_DELIMITER") then sorts.Brackets
    else if is_unit word then sorts.Unit
    else if bytes_eq word (codes "NAME_MAP") then sorts.NameMap
    else if is_skipped word then sorts.Skipped
    else if is_unsupported word then sorts.Unsupported
    else net_sort word

-- what a word of letters behind `*` is
abbrev pub keyword_sort : Text → Sort
keyword_sort word = if is_connection word then sorts.Connection else outer_sort word

-- digits behind `*` are an index, and with more behind them a name's beginning
abbrev pub index_sort : Text → Sort
index_sort more = if list_all is_ascii_digit more then sorts.Index else sorts.Starred

-- what `*` is with these bytes behind it
unfoldable pub starred_sort : Text → Sort
starred_sort [] = sorts.Starred
starred_sort (b ∷ more) = if is_ascii_digit b then index_sort more else keyword_sort (b ∷ more)

-- what a word without a `*` in front is
abbrev pub plain_sort : Text → Sort
plain_sort word =
    if are_digits word then sorts.Digits
    else if is_value word then sorts.Value
    else if is_bracket word then sorts.Bracket
    else sorts.Word

-- what a word is
unfoldable pub word_sort : Text → Sort
word_sort [] = sorts.Word
word_sort (b ∷ more) = if b == 42 then starred_sort more else plain_sort (b ∷ more)

-- what a token is by its kind
abbrev pub sort_by : Kind → Text → Sort
sort_by kinds.Text text = sorts.Text
sort_by _ text = word_sort text

-- the tokens of a whole text and its end
abbrev pub spef_tokens : List ℕ → List (Token Sort)
spef_tokens bytes = sorted_tokens sort_by sorts.End Spef bytes
