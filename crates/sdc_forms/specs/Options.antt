-- The commands of SDC texts with their options, and which words may stand where.
use Rattle.std.specs.Prelude.{ℕ, Bool, true, false, not, ◌&&◌, ◌||◌, ◌==◌, nat_le, if◌then◌else◌}
use Rattle.std.specs.Prelude.{List, [], ◌∷◌, length, codes, Option, Some, None, is_some}
use Rattle.std.specs.List.{list_all}
use Rattle.std.specs.Str.{bytes_eq}
use Rattle.xt_model.specs.Limits.{most_text_name}
use Rattle.text_forms.specs.Names.{is_name}
use Rattle.xt_lex.specs.Bytes.{begins}
use Rattle.xt_number.specs.Reading.{numeral_of}
use Rattle.sdc_words.specs.Items.{items_of}
use Rattle.sdc_words.specs.Words.{Text, NamesText, One, Many, WordText, Bare, Braced, Quoted, Ports, Clocks, AllInputs}
use Rattle.sdc_words.specs.Words.{AllOutputs, Bracketed}
use Rattle.sdc_forms.specs.declared.command.CommandName.{CommandName}
use Rattle.sdc_forms.specs.declared.command.CommandName.TheVariants as commands
use Rattle.sdc_forms.specs.declared.option.OptionName.{OptionName}
use Rattle.sdc_forms.specs.declared.option.OptionName.TheVariants as options
use Rattle.sdc_forms.specs.declared.slot.Slot.{Slot}
use Rattle.sdc_forms.specs.declared.slot.Slot.TheVariants as slots

-- ---- commands

-- accepted and ignored: what they set is no part of the model
abbrev pub is_ignored : Text → Bool
is_ignored t =
    bytes_eq t (codes "current_design")
    || (bytes_eq t (codes "set_driving_cell")
    || (bytes_eq t (codes "set_propagated_clock")
    || (bytes_eq t (codes "set_operating_conditions")
    || (bytes_eq t (codes "set_max_fanout")
    || (bytes_eq t (codes "set_max_transition")
    || (bytes_eq t (codes "set_max_capacitance")
    || (bytes_eq t (codes "set_min_capacitance")
    || (bytes_eq t (codes "set_max_area")
    || (bytes_eq t (codes "set_wire_load_mode")
    || (bytes_eq t (codes "set_wire_load_model")
    || bytes_eq t (codes "set_wire_load_selection_group")))))))))))

-- the command of a name
abbrev pub command_named : Text → CommandName
command_named t =
    if bytes_eq t (codes "set") then commands.Set
    else if bytes_eq t (codes "set_units") then commands.SetUnits
    else if bytes_eq t (codes "create_clock") then commands.CreateClock
    else if bytes_eq t (codes "set_input_delay") then commands.InputDelay
    else if bytes_eq t (codes "set_output_delay") then commands.OutputDelay
    else if bytes_eq t (codes "set_input_transition") then commands.InputTransition
    else if bytes_eq t (codes "set_load") then commands.Load
    else if is_ignored t then commands.Ignored
    else commands.Unknown

-- ---- options

abbrev pub unit_option : Text → Option OptionName
unit_option t =
    if bytes_eq t (codes "-time") then Some options.Time
    else if bytes_eq t (codes "-capacitance") then Some options.Capacitance
    else if bytes_eq t (codes "-resistance") then Some options.Resistance
    else if bytes_eq t (codes "-voltage") then Some options.Voltage
    else if bytes_eq t (codes "-current") then Some options.Current
    else if bytes_eq t (codes "-power") then Some options.Power
    else None

abbrev pub clock_option : Text → Option OptionName
clock_option t =
    if bytes_eq t (codes "-name") then Some options.Name
    else if bytes_eq t (codes "-period") then Some options.Period
    else if bytes_eq t (codes "-waveform") then Some options.Waveform
    else None

abbrev pub side_option : Text → Option OptionName
side_option t =
    if bytes_eq t (codes "-min") then Some options.Min
    else if bytes_eq t (codes "-max") then Some options.Max
    else if bytes_eq t (codes "-rise") then Some options.Rise
    else if bytes_eq t (codes "-fall") then Some options.Fall
    else None

abbrev pub delay_option : Text → Option OptionName
delay_option t = if bytes_eq t (codes "-clock") then Some options.Clock else side_option t

abbrev pub load_option : Text → Option OptionName
load_option t = if bytes_eq t (codes "-pin_load") then Some options.PinLoad else None

-- the option of a command with this name
abbrev pub option_named : CommandName → Text → Option OptionName
option_named commands.SetUnits t = unit_option t
option_named commands.CreateClock t = clock_option t
option_named commands.InputDelay t = delay_option t
option_named commands.OutputDelay t = delay_option t
option_named commands.InputTransition t = side_option t
option_named commands.Load t = load_option t
option_named _ t = None

abbrev pub option_number : OptionName → ℕ
option_number options.Time = 0
option_number options.Capacitance = 1
option_number options.Resistance = 2
option_number options.Voltage = 3
option_number options.Current = 4
option_number options.Power = 5
option_number options.Name = 6
option_number options.Period = 7
option_number options.Waveform = 8
option_number options.Clock = 9
option_number options.Min = 10
option_number options.Max = 11
option_number options.Rise = 12
option_number options.Fall = 13
option_number options.PinLoad = 14

-- both are one option
abbrev pub same_option : OptionName → OptionName → Bool
same_option a b = option_number a == option_number b

-- what has to stand behind an option, if anything
abbrev pub slot_of : OptionName → Option Slot
slot_of options.Time = Some slots.Value
slot_of options.Capacitance = Some slots.Value
slot_of options.Resistance = Some slots.Any
slot_of options.Voltage = Some slots.Any
slot_of options.Current = Some slots.Any
slot_of options.Power = Some slots.Any
slot_of options.Name = Some slots.Name
slot_of options.Period = Some slots.Value
slot_of options.Waveform = Some slots.Value
slot_of options.Clock = Some slots.Objects
slot_of _ = None

-- the first argument of a command: a number, or the list of ports; further ones are lists of ports
abbrev pub first_slot : CommandName → Slot
first_slot commands.InputDelay = slots.Value
first_slot commands.OutputDelay = slots.Value
first_slot commands.InputTransition = slots.Value
first_slot commands.Load = slots.Value
first_slot _ = slots.Objects

-- ---- which words fit

-- the bytes of a word that is not in brackets
abbrev pub text_in : WordText → Option Text
text_in (Bare t) = Some t
text_in (Braced t) = Some t
text_in (Quoted t) = Some t
text_in _ = None

-- a name has at most 1,024 bytes
abbrev pub is_short : Text → Bool
is_short name = nat_le (length name) most_text_name

abbrev pub are_short : NamesText → Bool
are_short (One name) = is_short name
are_short (Many names) = list_all is_short (items_of names)

-- an object list: a bare name, names in braces, or one of the four lists in brackets, and no name too long
abbrev pub are_objects : WordText → Bool
are_objects (Bare name) = is_short name
are_objects (Braced names) = list_all is_short (items_of names)
are_objects (Ports names) = are_short names
are_objects (Clocks names) = are_short names
are_objects AllInputs = true
are_objects AllOutputs = true
are_objects _ = false

-- a word that may be the name of a clock
abbrev pub is_name_in : Option Text → Bool
is_name_in (Some name) = is_name name
is_name_in None = false

-- a word may stand there
abbrev pub fits : Slot → WordText → Bool
fits slots.Value w = is_some (text_in w)
fits slots.Name w = is_name_in (text_in w)
fits slots.Objects w = are_objects w
fits slots.Any w = true

-- a number, as it is written
abbrev pub is_number : Text → Bool
is_number t = is_some (numeral_of t)

-- a bare word with these bytes is an option: it begins with `-`, and is no number
abbrev pub is_option : Text → Bool
is_option t = begins 45 t && not (is_number t)
