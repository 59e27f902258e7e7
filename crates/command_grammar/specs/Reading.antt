-- How words of a form are read: a test of each word, and one command of `clap`.
use Rattle.std.specs.Prelude.{◌≡◌, Bool, true, ◌||◌, List, [], ◌++◌, map, codes, Option, Some, is_some}
use Rattle.std.specs.Option.{IsSomeAnd}
use Rattle.clap.specs.Words.{App, Rule, first_value, found_of, new_rule}
use Rattle.clap.specs.Simple.{new_shape}
use Rattle.clap.specs.declared.parser.matches.ArgMatches.{ArgMatches}
use Rattle.command_grammar.specs.Grammar.{Text, Item, CommandForm, is_plain, option_of, value_of}

-- `clap` is shown the word
abbrev pub is_listed : List Text → Text → Bool
is_listed options word = is_plain word || is_some (option_of options word)

-- the matches of `clap` have the values of the items
abbrev pub Holds : Option (List Item) → ArgMatches → Type 0
Holds items m = IsSomeAnd items (λ is. first_value (found_of m) ≡ value_of is)

abbrev pub option_rule : Text → Rule
option_rule name = record (new_rule name) { long = Some name }

abbrev pub positional_rule : Text → Rule
positional_rule name = new_rule name

-- a command of these arguments, with no flags for help or the version
abbrev pub app_with : List Rule → App
app_with rules = record {
  top = record (new_shape (codes "xtalk")) { rules = rules; disable_help_flag = true; disable_version_flag = true };
  subs = [];
}

-- the options, and then the positional words
abbrev pub app_of_form : CommandForm → App
app_of_form form = app_with (map option_rule form.options ++ map positional_rule form.positionals)
