-- The words behind the name of a command as options and arguments, and whether they fit (C1) and are complete (C3).
use Rattle.std.specs.Prelude.{Bool, true, false, not, ◌&&◌, ◌||◌, if◌then◌else◌, List, [], ◌∷◌, ◌++◌}
use Rattle.std.specs.Prelude.{Option, Some, None, is_some}
use Rattle.std.specs.List.{list_any, list_all}
use Rattle.sdc_words.specs.Words.{Text, WordText, Bare}
use Rattle.sdc_forms.specs.declared.command.CommandName.{CommandName}
use Rattle.sdc_forms.specs.declared.option.OptionName.{OptionName}
use Rattle.sdc_forms.specs.declared.slot.Slot.{Slot}
use Rattle.sdc_forms.specs.declared.slot.Slot.TheVariants as slots
use Rattle.sdc_forms.specs.declared.arranged.Role.{Role}
use Rattle.sdc_forms.specs.declared.arranged.Role.TheVariants.{Argument, Stray, Named}
use Rattle.sdc_forms.specs.Options.{option_named, same_option, slot_of, first_slot, fits, is_option}

-- an option that is given, with the word behind it where it takes one
pub record GivenText : Type 0 where
  pub name : OptionName
  pub value : Option WordText

-- the words so far: the options and the arguments in order, an option that still wants its word, and whether an option
-- is unknown or stands twice
pub record ArrangedText : Type 0 where
  pub given : List GivenText
  pub arguments : List WordText
  pub pending : Option OptionName
  pub strays : Bool

abbrev pub role_named : Option OptionName → Role
role_named (Some o) = Named o
role_named None = Stray

-- what a word is to a command: an option that it has, one that it has not, or an argument
abbrev pub role_of : CommandName → WordText → Role
role_of c (Bare t) = if is_option t then role_named (option_named c t) else Argument
role_of c _ = Argument

-- the option is among those that are given
abbrev pub is_given : OptionName → List GivenText → Bool
is_given o gs = list_any (λ g. same_option o g.name) gs

-- an option with its word
abbrev pub with_given : OptionName → Option WordText → ArrangedText → ArrangedText
with_given o value a = record {
  given = a.given ++ record { name = o; value = value } ∷ [];
  arguments = a.arguments;
  pending = None;
  strays = a.strays || is_given o a.given;
}

-- an option that takes a word wants it next
abbrev pub with_option : OptionName → ArrangedText → ArrangedText
with_option o a = if is_some (slot_of o) then record a { pending = Some o } else with_given o None a

abbrev pub placed_as : Role → WordText → ArrangedText → ArrangedText
placed_as Argument w a = record a { arguments = a.arguments ++ w ∷ [] }
placed_as Stray w a = record a { strays = true }
placed_as (Named o) w a = with_option o a

abbrev pub placed_behind : CommandName → Option OptionName → WordText → ArrangedText → ArrangedText
placed_behind c (Some o) w a = with_given o (Some w) a
placed_behind c None w a = placed_as (role_of c w) w a

-- a further word: behind an option that takes one it is its word whatever it looks like
unfoldable pub placed : CommandName → WordText → ArrangedText → ArrangedText
placed c w a = placed_behind c a.pending w a

-- no word
abbrev pub nothing : ArrangedText
nothing = record { given = []; arguments = []; pending = None; strays = false }

-- words one after another behind others
abbrev pub arranged_from : CommandName → List WordText → ArrangedText → ArrangedText
arranged_from c [] a = a
arranged_from c (w ∷ ws) a = arranged_from c ws (placed c w a)

-- the words behind a command's name
unfoldable pub arranged : CommandName → List WordText → ArrangedText
arranged c ws = arranged_from c ws nothing

-- ---- whether they fit

abbrev pub fits_in : Option Slot → Option WordText → Bool
fits_in (Some slot) (Some w) = fits slot w
fits_in _ _ = true

-- the word behind an option may stand there
abbrev pub given_fits : GivenText → Bool
given_fits g = fits_in (slot_of g.name) g.value

-- each argument may stand where it does; one too many has to be a list
abbrev pub arguments_fit : CommandName → List WordText → Bool
arguments_fit c [] = true
arguments_fit c (w ∷ ws) = fits (first_slot c) w && list_all (fits slots.Objects) ws

-- each word may stand where it does
unfoldable pub words_fit : CommandName → ArrangedText → Bool
words_fit c a = list_all given_fits a.given && arguments_fit c a.arguments

-- no option is unknown, stands twice or lacks its word
abbrev pub is_whole : ArrangedText → Bool
is_whole a = not a.strays && not (is_some a.pending)

abbrev pub value_if : Bool → Option WordText → Option WordText → Option WordText
value_if true value more = value
value_if false value more = more

-- the word behind an option
abbrev pub value_of : OptionName → List GivenText → Option WordText
value_of o [] = None
value_of o (g ∷ gs) = value_if (same_option o g.name) g.value (value_of o gs)
