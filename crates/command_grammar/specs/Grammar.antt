-- The grammar of a command line: the form of the words after a command's own, and what words of that form give.
use Rattle.std.specs.Prelude.{ℕ, ◌==◌, Bool, true, false, not, ◌&&◌, if◌then◌else◌}
use Rattle.std.specs.Prelude.{List, [], ◌∷◌, Option, Some, None, option_and_then, option_map}
use Rattle.std.specs.Option.{option_map_or}
use Rattle.std.specs.List.{find, list_any}
use Rattle.std.specs.Str.{bytes_eq}
use Rattle.clap.specs.Lexer.{long_of}

abbrev pub Text : Type 0
Text = List ℕ

-- ---- forms

-- what may follow the word of a command: the names of the positional words, in their order, and of the options
pub record CommandForm : Type 0 where
  pub positionals : List Text
  pub options : List Text

-- ---- one word

-- a word that can be a positional word or a value: it is not empty and does not begin with a dash
abbrev pub is_plain : Text → Bool
is_plain [] = false
is_plain (b ∷ more) = not (b == 45)

-- an option has the name
abbrev pub has_option : List Text → Text → Bool
has_option options name = list_any (λ o. bytes_eq o name) options

-- the word is `--name` or `--name=value`, where an option has that name and the value is plain
abbrev pub is_option : List Text → Text × Option Text → Bool
is_option options p = has_option options p.0 && option_map_or is_plain p.1 true

-- the name in the word of an option, and the value after a first `=`, where there is one
abbrev pub option_of : List Text → Text → Option (Text × Option Text)
option_of options word = option_and_then (λ p. if is_option options p then Some p else None) (long_of word)

-- ---- the words after the command

-- a name and the word that it has: an option's value, or a positional word
abbrev pub Item : Type 0
Item = Text × Text

-- one more item before the others
abbrev pub in_front : Item → Option (List Item) → Option (List Item)
in_front item rest = option_map (λ is. item ∷ is) rest

-- a positional word has the next name
abbrev pub positional_items : List Text → Text → (List Text → Option (List Item)) → Option (List Item)
positional_items [] word rest = None
positional_items (name ∷ left) word rest = in_front (name, word) (rest left)

-- an option has its value after `=`, or in the next word
abbrev pub option_items : Option (Text × Option Text) → (Option Text → Option (List Item)) → Option (List Item)
option_items None rest = None
option_items (Some (name, Some value)) rest = in_front (name, value) (rest None)
option_items (Some (name, None)) rest = rest (Some name)

-- the items of the words, where this option waits for its value, and these names are left for positional words
abbrev pub items_from : List Text → Option Text → List Text → List Text → Option (List Item)
items_from options None names [] = Some []
items_from options (Some name) names [] = None
items_from options None names (word ∷ rest) =
    if is_plain word then positional_items names word (λ left. items_from options None left rest)
    else option_items (option_of options word) (λ waits. items_from options waits names rest)
items_from options (Some name) names (word ∷ rest) =
    if is_plain word then in_front (name, word) (items_from options None names rest) else None

abbrev pub items_of : CommandForm → List Text → Option (List Item)
items_of form words = items_from form.options None form.positionals words

-- there is an item of the name
abbrev pub has_name : Text → List Item → Bool
has_name name items = list_any (λ i. bytes_eq i.0 name) items

-- the word of the item of the name
abbrev pub value_of : List Item → Text → Option Text
value_of items name = option_map (λ i. i.1) (find (λ i. bytes_eq i.0 name) items)

-- no name has two items
abbrev pub are_once : List Item → Bool
are_once [] = true
are_once (i ∷ rest) = not (has_name i.0 rest) && are_once rest

-- the items of words that are of the form, where no name has two
abbrev pub given_of : CommandForm → List Text → Option (List Item)
given_of form words = option_and_then (λ is. if are_once is then Some is else None) (items_of form words)
