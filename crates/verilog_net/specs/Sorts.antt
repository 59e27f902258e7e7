-- The sorts of tokens of a structural Verilog text.
use Rattle.std.specs.Prelude.{ℕ, Bool, ◌||◌, List, [], ◌∷◌}
use Rattle.std.specs.Prelude.{codes, ◌==◌, if◌then◌else◌}
use Rattle.std.specs.Char.{is_ascii_digit}
use Rattle.std.specs.Str.{bytes_eq}
use Rattle.text_forms.specs.Forms.{Token}
use Rattle.text_forms.specs.Names.{is_name}
use Rattle.text_forms.specs.Tokens.{sorted_tokens}
use Rattle.xt_lex.specs.Bytes.{begins}
use Rattle.xt_lex.specs.declared.rules.Rules.TheVariants.{Verilog}
use Rattle.xt_lex.specs.declared.token.Kind.{Kind}
use Rattle.xt_lex.specs.declared.token.Kind.TheVariants as kinds
use Rattle.verilog_net.specs.declared.sort.Sort.{Sort}
use Rattle.verilog_net.specs.declared.sort.Sort.TheVariants as sorts

-- a sort's place among the sorts
abbrev pub sort_number : Sort → ℕ
sort_number sorts.Module = 0
sort_number sorts.Endmodule = 1
sort_number sorts.Direction = 2
sort_number sorts.NetType = 3
sort_number sorts.Unsupported = 4
sort_number sorts.Name = 5
sort_number sorts.Number = 6
sort_number sorts.Constant = 7
sort_number sorts.LeftParen = 8
sort_number sorts.RightParen = 9
sort_number sorts.LeftBracket = 10
sort_number sorts.RightBracket = 11
sort_number sorts.LeftBrace = 12
sort_number sorts.Comma = 13
sort_number sorts.Semicolon = 14
sort_number sorts.Colon = 15
sort_number sorts.Dot = 16
sort_number sorts.Other = 17
sort_number sorts.End = 18

-- both are one sort
abbrev pub same_sort : Sort → Sort → Bool
same_sort a b = sort_number a == sort_number b

-- `input` or `output`
abbrev pub is_direction : List ℕ → Bool
is_direction word = bytes_eq word (codes "input") || bytes_eq word (codes "output")

-- `wire`, `tri`, `supply0` or `supply1`
abbrev pub is_net_type : List ℕ → Bool
is_net_type word =
    bytes_eq word (codes "wire") || (bytes_eq word (codes "tri")
    || (bytes_eq word (codes "supply0") || bytes_eq word (codes "supply1")))

-- the words of what is not read: continuous assignments, ports of both directions, parameters, behaviour
abbrev pub is_unsupported : List ℕ → Bool
is_unsupported word =
    bytes_eq word (codes "assign") || (bytes_eq word (codes "inout") || (bytes_eq word (codes "parameter")
    || (bytes_eq word (codes "always") || (bytes_eq word (codes "initial") || (bytes_eq word (codes "reg")
    || (bytes_eq word (codes "function") || (bytes_eq word (codes "task") || bytes_eq word (codes "generate"))))))))

-- a name, where the bytes may be one
abbrev pub name_sort : List ℕ → Sort
name_sort name = if is_name name then sorts.Name else sorts.Other

-- digits are a number, with a `'` behind the first of them a constant
abbrev pub digits_sort : List ℕ → Sort
digits_sort more = if begins 39 more then sorts.Constant else sorts.Number

-- what a word of letters is
abbrev pub letters_sort : List ℕ → Sort
letters_sort word =
    if bytes_eq word (codes "module") then sorts.Module
    else if bytes_eq word (codes "endmodule") then sorts.Endmodule
    else if is_direction word then sorts.Direction
    else if is_net_type word then sorts.NetType
    else if is_unsupported word then sorts.Unsupported
    else name_sort word

-- what a word is: its first byte tells digits from letters
unfoldable pub word_sort : List ℕ → Sort
word_sort [] = sorts.Other
word_sort (b ∷ more) = if is_ascii_digit b then digits_sort more else letters_sort (b ∷ more)

-- what a mark is
unfoldable pub mark_sort : List ℕ → Sort
mark_sort mark =
    if bytes_eq mark (codes "(") then sorts.LeftParen
    else if bytes_eq mark (codes ")") then sorts.RightParen
    else if bytes_eq mark (codes "[") then sorts.LeftBracket
    else if bytes_eq mark (codes "]") then sorts.RightBracket
    else if bytes_eq mark (codes "{") then sorts.LeftBrace
    else if bytes_eq mark (codes ",") then sorts.Comma
    else if bytes_eq mark (codes ";") then sorts.Semicolon
    else if bytes_eq mark (codes ":") then sorts.Colon
    else if bytes_eq mark (codes ".") then sorts.Dot
    else if bytes_eq mark (codes "#") then sorts.Unsupported
    else sorts.Other

-- what a token is, by its kind; the bytes of an escaped name are those behind its backslash
abbrev pub sort_by : Kind → List ℕ → Sort
sort_by kinds.Word text = word_sort text
sort_by kinds.Mark text = mark_sort text
sort_by kinds.Escaped text = name_sort text
sort_by _ text = sorts.Other

-- the tokens of a whole text and its end
abbrev pub netlist_tokens : List ℕ → List (Token Sort)
netlist_tokens bytes = sorted_tokens sort_by sorts.End Verilog bytes
