-- What contracts see of the rules and the words of the code.
use Rattle.std.specs.Prelude.{List, drop, map, String, string_bytes}
use Rattle.std.specs.Borrow.{Bor}
use Rattle.std.specs.Global.{Global}
use Rattle.command_grammar.specs.Grammar.{Text, CommandForm}
use Rattle.command_grammar.specs.declared.grammar.CommandRule.{CommandRule}

-- the words as bytes
abbrev pub bytes_of : List (String Global) → List Text
bytes_of words = map string_bytes words

-- the words after the first one
abbrev pub after_first : List (String Global) → List Text
after_first words = drop 1 (bytes_of words)

-- the names as bytes
abbrev pub texts_of : List (Bor Text) → List Text
texts_of names = map (λ name. name.now) names

-- the form that a rule describes
abbrev pub form_of : CommandRule → CommandForm
form_of r = record { positionals = texts_of r.positionals.now; options = texts_of r.options.now }
