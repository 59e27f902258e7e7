-- What a command says by its form, and its refusals by form: C1 before C2 before C3.
use Rattle.std.specs.Prelude.{ℕ, ◌-◌, nat_lt, Bool, true, false, not, ◌||◌, ◌==◌, if◌then◌else◌}
use Rattle.std.specs.Prelude.{List, [], ◌∷◌, length, take, drop, codes, Option, Some, None, Result, Ok, Err}
use Rattle.std.specs.Prelude.{ℤ, pos, ◌+ℤ◌}
use Rattle.std.specs.Str.{bytes_eq, str_eq_ignore_ascii_case}
use Rattle.xt_model.specs.declared.code.Code.{Code}
use Rattle.xt_model.specs.declared.code.Code.TheVariants.{C1, C2, C3}
use Rattle.xt_model.specs.Options.{◌>>=◌}
use Rattle.xt_number.specs.Value.{power_of}
use Rattle.sdc_words.specs.Words.{Text, WordText}
use Rattle.sdc_forms.specs.declared.command.CommandName.{CommandName}
use Rattle.sdc_forms.specs.declared.command.CommandName.TheVariants as commands
use Rattle.sdc_forms.specs.declared.option.OptionName.TheVariants as options
use Rattle.sdc_forms.specs.declared.picked.Picked.{Picked}
use Rattle.sdc_forms.specs.Options.{command_named, text_in}
use Rattle.sdc_forms.specs.Arranged.{GivenText, ArrangedText, arranged, words_fit, is_whole, is_given, value_of}

-- what a command says: nothing, powers of ten for times and capacitances where it gives units, a clock, a number of
-- times for ports, or a load
pub data Statement : Type 0 where
  Nothing : Statement
  Units : Option ℤ → Option ℤ → Statement
  Clock : Option Text → Text → Option Text → WordText → Statement
  InputDelay : Text → WordText → Picked → WordText → Statement
  OutputDelay : Text → WordText → Picked → WordText → Statement
  InputTransition : Text → Picked → WordText → Statement
  Load : Text → WordText → Statement

-- ---- units

-- the word is this one, in any case
abbrev pub is_same : Text → Text → Bool
is_same word other = str_eq_ignore_ascii_case word other

-- one of two words, in any case, with a power of ten for each
abbrev pub one_of : Text → Text → ℤ → Text → ℤ → Option ℤ
one_of word first p second q = if is_same word first then Some p else if is_same word second then Some q else None

-- the power of ten of a unit number; none stands for 1
abbrev pub number_power : Text → Option ℤ
number_power t = if length t == 0 then Some (pos 0) else power_of t

abbrev pub sum_of : Option ℤ → Option ℤ → Option ℤ
sum_of (Some k) (Some n) = Some (k +ℤ n)
sum_of _ _ = None

-- the two last bytes of a unit, and those before them
abbrev pub letters_of : Text → Text
letters_of t = drop (length t - 2) t

abbrev pub number_of : Text → Text
number_of t = take (length t - 2) t

-- a unit of time by the power of ten of its fs: `ns` or `ps` behind a unit number, joined
unfoldable pub time_power : Text → Option ℤ
time_power t = sum_of (one_of (letters_of t) (codes "ns") (pos 6) (codes "ps") (pos 3)) (number_power (number_of t))

-- a unit of capacitance by the power of ten of its aF: `pf` or `ff`
unfoldable pub cap_power : Text → Option ℤ
cap_power t = sum_of (one_of (letters_of t) (codes "pf") (pos 6) (codes "ff") (pos 3)) (number_power (number_of t))

-- ---- options

-- which edges and sides a command sets: without `-rise` and `-fall` both edges, without `-min` and `-max` both sides
abbrev pub picked_of : List GivenText → Picked
picked_of gs = record {
  rise = is_given options.Rise gs || not (is_given options.Fall gs);
  fall = is_given options.Fall gs || not (is_given options.Rise gs);
  min = is_given options.Min gs || not (is_given options.Max gs);
  max = is_given options.Max gs || not (is_given options.Min gs);
}

abbrev pub text_of_word : Option WordText → Option Text
text_of_word (Some w) = text_in w
text_of_word None = None

-- a unit that is given has to be one that is listed; one that is not given says nothing
abbrev pub power_if : (Text → Option ℤ) → Option WordText → Option (Option ℤ)
power_if power None = Some None
power_if power (Some w) = do
  t ← text_in w
  k ← power t
  Some (Some k)

-- a number and a list
abbrev pub number_and_list : List WordText → Option (Text × WordText)
number_and_list (v ∷ ports ∷ []) = do
  t ← text_in v
  Some (t, ports)
number_and_list _ = None

abbrev pub one_list : List WordText → Option WordText
one_list (ports ∷ []) = Some ports
one_list _ = None

abbrev pub no_argument : List WordText → Option Statement
no_argument [] = Some Nothing
no_argument _ = None

-- ---- what each command says; nothing where an option, an argument or a listed unit is missing, or there are too many

unfoldable pub statement_of_units : ArrangedText → Option Statement
statement_of_units a = do
  none ← no_argument a.arguments
  time ← power_if time_power (value_of options.Time a.given)
  cap ← power_if cap_power (value_of options.Capacitance a.given)
  Some (Units time cap)

unfoldable pub statement_of_clock : ArrangedText → Option Statement
statement_of_clock a = do
  period ← text_of_word (value_of options.Period a.given)
  source ← one_list a.arguments
  Some (Clock (text_of_word (value_of options.Name a.given)) period
      (text_of_word (value_of options.Waveform a.given)) source)

unfoldable pub statement_of_input_delay : ArrangedText → Option Statement
statement_of_input_delay a = do
  clock ← value_of options.Clock a.given
  x ← number_and_list a.arguments
  Some (InputDelay x.0 clock (picked_of a.given) x.1)

unfoldable pub statement_of_output_delay : ArrangedText → Option Statement
statement_of_output_delay a = do
  clock ← value_of options.Clock a.given
  x ← number_and_list a.arguments
  Some (OutputDelay x.0 clock (picked_of a.given) x.1)

unfoldable pub statement_of_transition : ArrangedText → Option Statement
statement_of_transition a = do
  x ← number_and_list a.arguments
  Some (InputTransition x.0 (picked_of a.given) x.1)

unfoldable pub statement_of_load : ArrangedText → Option Statement
statement_of_load a = do
  x ← number_and_list a.arguments
  Some (Load x.0 x.1)

unfoldable pub statement_of_arranged : CommandName → ArrangedText → Option Statement
statement_of_arranged commands.SetUnits a = statement_of_units a
statement_of_arranged commands.CreateClock a = statement_of_clock a
statement_of_arranged commands.InputDelay a = statement_of_input_delay a
statement_of_arranged commands.OutputDelay a = statement_of_output_delay a
statement_of_arranged commands.InputTransition a = statement_of_transition a
statement_of_arranged commands.Load a = statement_of_load a
statement_of_arranged _ a = None

abbrev pub or_refused : Option Statement → Result Statement Code
or_refused (Some statement) = Ok statement
or_refused None = Err C3

-- what arranged words say: those that may not stand there are met first
unfoldable pub whole_statement : CommandName → ArrangedText → Result Statement Code
whole_statement c a =
    if words_fit c a then (if is_whole a then or_refused (statement_of_arranged c a) else Err C3) else Err C1

-- `set` says nothing: its variable is `sdc_version`, and one value stands behind it, which may be any word
abbrev pub statement_of_version : Option Text → List WordText → Result Statement Code
statement_of_version None ws = Err C1
statement_of_version (Some variable) ws =
    if bytes_eq variable (codes "sdc_version") then (if length ws == 1 then Ok Nothing else Err C3) else Err C2

unfoldable pub statement_of_set : List WordText → Result Statement Code
statement_of_set [] = Err C3
statement_of_set (w ∷ ws) = statement_of_version (text_in w) ws

-- what a command says; of ignored and of unknown ones the words are not looked at
unfoldable pub statement_of_command : CommandName → List WordText → Result Statement Code
statement_of_command commands.Set ws = statement_of_set ws
statement_of_command commands.Ignored ws = Ok Nothing
statement_of_command commands.Unknown ws = Err C2
statement_of_command c ws = whole_statement c (arranged c ws)

abbrev pub statement_of_named : Option Text → List WordText → Result Statement Code
statement_of_named None ws = Err C1
statement_of_named (Some name) ws = statement_of_command (command_named name) ws

-- what the words of a command say; its name is not in brackets
unfoldable pub statement_of_words : Option (List WordText) → Result Statement Code
statement_of_words None = Err C1
statement_of_words (Some []) = Ok Nothing
statement_of_words (Some (w ∷ ws)) = statement_of_named (text_in w) ws
