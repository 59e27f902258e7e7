-- The items of a list in braces, which white space separates.
use Rattle.std.specs.Prelude.{ℕ, Bool, ◌||◌, List, [], ◌∷◌, ◌++◌, if◌then◌else◌}
use Rattle.xt_lex.specs.Bytes.{is_white, joins_lines}

-- white space, to which a backslash that joins two lines belongs
unfoldable pub separates : ℕ → List ℕ → Bool
separates b more = is_white b || joins_lines b more

-- an item that has ended, before further ones; an empty one is none
abbrev pub item_and : List ℕ → List (List ℕ) → List (List ℕ)
item_and [] items = items
item_and (b ∷ bs) items = (b ∷ bs) ∷ items

-- the items of some bytes: the longest runs without white space, the first of them behind the bytes `begun`
abbrev pub items_from : List ℕ → List ℕ → List (List ℕ)
items_from begun [] = item_and begun []
items_from begun (b ∷ more) =
    if separates b more then item_and begun (items_from [] more) else items_from (begun ++ b ∷ []) more

-- the items of a list
abbrev pub items_of : List ℕ → List (List ℕ)
items_of bytes = items_from [] bytes
