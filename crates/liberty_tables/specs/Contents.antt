-- The bytes of a Liberty text: words, strings, and what stands in them.
use Rattle.std.specs.Prelude.{ℕ, Bool, true, false, ◌&&◌, ◌||◌, nat_le, List, [], ◌∷◌, ◌++◌, length, ◌==◌}
use Rattle.std.specs.Prelude.{if◌then◌else◌}
use Rattle.std.specs.List.{slice_range}
use Rattle.xt_lex.specs.Bytes.{is_white}
use Rattle.liberty_groups.specs.declared.span.Span.{Span}

-- the bytes at a place of a text
abbrev pub text_in : List ℕ → Span → List ℕ
text_in bytes span =
    if nat_le span.from span.to && nat_le span.to (length bytes) then slice_range bytes span.from span.to else []

-- what a string holds, behind its opening quote: a backslash is dropped and the byte behind it is kept, but a newline
-- behind a backslash is a space
abbrev pub unquoted : Bool → List ℕ → List ℕ
unquoted kept [] = []
unquoted true (b ∷ more) = (if b == 10 then 32 else b) ∷ unquoted false more
unquoted false (b ∷ more) =
    if b == 34 then [] else if b == 92 then unquoted true more else b ∷ unquoted false more

-- whether a backslash stands in a string, behind its opening quote and before the closing one
abbrev pub has_escape : List ℕ → Bool
has_escape [] = false
has_escape (b ∷ more) = if b == 34 then false else if b == 92 then true else has_escape more

-- whether a word or a string holds other bytes than those that stand there
abbrev pub is_changed : List ℕ → Bool
is_changed [] = false
is_changed (b ∷ more) = if b == 34 then has_escape more else false

-- what a word or a string holds
unfoldable pub held_by : List ℕ → List ℕ
held_by [] = []
held_by (b ∷ more) = if b == 34 then unquoted false more else b ∷ more

-- what the word or the string at a place holds
abbrev pub content : List ℕ → Span → List ℕ
content bytes span = held_by (text_in bytes span)

-- white space separates items, and commas separate numbers
abbrev pub separates : Bool → ℕ → Bool
separates commas b = is_white b || (commas && b == 44)

-- an item that has ended, before further ones; an empty one is none
abbrev pub item_and : List ℕ → List (List ℕ) → List (List ℕ)
item_and [] items = items
item_and (b ∷ bs) items = (b ∷ bs) ∷ items

-- the items of some bytes: the longest runs without a separator, the first of them behind the bytes `begun`
abbrev pub items_from : Bool → List ℕ → List ℕ → List (List ℕ)
items_from commas begun [] = item_and begun []
items_from commas begun (b ∷ more) =
    if separates commas b then item_and begun (items_from commas [] more)
    else items_from commas (begun ++ b ∷ []) more

-- the numbers in a word or a string, as they are written
abbrev pub numbers_in : List ℕ → List (List ℕ)
numbers_in bytes = items_from true [] bytes

-- the names in a string
abbrev pub names_in : List ℕ → List (List ℕ)
names_in bytes = items_from false [] bytes
