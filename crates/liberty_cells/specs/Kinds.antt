-- The words of pins and timing groups.
use Rattle.std.specs.Prelude.{ℕ, Bool, true, false, ◌||◌, codes, Option, Some, None, if◌then◌else◌}
use Rattle.std.specs.Str.{bytes_eq}
use Rattle.name_numbers.specs.Names.{Text}
use Rattle.liberty_groups.specs.Trees.{Entry}
use Rattle.liberty_cells.specs.declared.timing.TimingKind.{TimingKind}
use Rattle.liberty_cells.specs.declared.timing.TimingKind.TheVariants.{Combinational, RisingEdge, SetupRising}
use Rattle.liberty_cells.specs.declared.timing.TimingKind.TheVariants.{HoldRising, Skipped, Unsupported}
use Rattle.liberty_cells.specs.declared.timing.Sense.{Sense}
use Rattle.liberty_cells.specs.declared.timing.Sense.TheVariants.{Positive, Negative, Non}
use Rattle.liberty_cells.specs.declared.timing.TableUse.{TableUse}
use Rattle.liberty_cells.specs.declared.timing.TableUse.TheVariants.{Rise, Fall, RiseSlew, FallSlew}
use Rattle.liberty_cells.specs.declared.pin.Role.{Role}
use Rattle.liberty_cells.specs.declared.pin.Role.TheVariants.{Input, Output, Inout, Other}
use Rattle.liberty_tables.specs.Search.{contents, only}

-- the role of a direction
abbrev pub role_named : Text → Role
role_named direction =
    if bytes_eq direction (codes "input") then Input
    else if bytes_eq direction (codes "output") then Output
    else if bytes_eq direction (codes "inout") then Inout
    else Other

abbrev pub role_by : Option Text → Role
role_by None = Other
role_by (Some direction) = role_named direction

-- a kind that is read on pins of one role alone
abbrev pub on_output : Role → TimingKind → TimingKind
on_output Output kind = kind
on_output _ kind = Unsupported

abbrev pub on_input : Role → TimingKind → TimingKind
on_input Input kind = kind
on_input _ kind = Unsupported

-- types of timing that are skipped: those of a clear or a preset, of a three-state enable, and least widths
abbrev pub is_control : Text → Bool
is_control word =
    bytes_eq word (codes "clear") || (bytes_eq word (codes "preset") || (bytes_eq word (codes "recovery_rising")
    || (bytes_eq word (codes "recovery_falling") || (bytes_eq word (codes "removal_rising")
    || bytes_eq word (codes "removal_falling")))))

abbrev pub is_enable : Text → Bool
is_enable word =
    bytes_eq word (codes "three_state_enable") || (bytes_eq word (codes "three_state_disable")
    || (bytes_eq word (codes "three_state_enable_rise") || (bytes_eq word (codes "three_state_enable_fall")
    || (bytes_eq word (codes "three_state_disable_rise") || bytes_eq word (codes "three_state_disable_fall")))))

abbrev pub is_width : Text → Bool
is_width word = bytes_eq word (codes "min_pulse_width") || bytes_eq word (codes "minimum_period")

abbrev pub is_skipped : Text → Bool
is_skipped word = is_control word || (is_enable word || is_width word)

-- the kind of a type of timing on a pin of a role
abbrev pub kind_named : Role → Text → TimingKind
kind_named role type =
    if bytes_eq type (codes "combinational") then on_output role Combinational
    else if bytes_eq type (codes "rising_edge") then on_output role RisingEdge
    else if bytes_eq type (codes "setup_rising") then on_input role SetupRising
    else if bytes_eq type (codes "hold_rising") then on_input role HoldRising
    else if is_skipped type then Skipped
    else Unsupported

-- several types are no type
abbrev pub kind_by : Role → Option Text → TimingKind
kind_by role None = Unsupported
kind_by role (Some type) = kind_named role type

-- arcs have delays and slews
abbrev pub is_delay_kind : TimingKind → Bool
is_delay_kind Combinational = true
is_delay_kind RisingEdge = true
is_delay_kind _ = false

-- checks have constraints
abbrev pub is_check_kind : TimingKind → Bool
is_check_kind SetupRising = true
is_check_kind HoldRising = true
is_check_kind _ = false

-- the tables of such groups are read
abbrev pub is_read_kind : TimingKind → Bool
is_read_kind kind = is_delay_kind kind || is_check_kind kind

-- how the output follows the input
abbrev pub sense_named : Text → Sense
sense_named sense =
    if bytes_eq sense (codes "positive_unate") then Positive
    else if bytes_eq sense (codes "negative_unate") then Negative
    else Non

abbrev pub sense_by : Option Text → Sense
sense_by None = Non
sense_by (Some sense) = sense_named sense

-- the tables of arcs
abbrev pub delay_use : Text → Option TableUse
delay_use word =
    if bytes_eq word (codes "cell_rise") then Some Rise
    else if bytes_eq word (codes "cell_fall") then Some Fall
    else if bytes_eq word (codes "rise_transition") then Some RiseSlew
    else if bytes_eq word (codes "fall_transition") then Some FallSlew
    else None

-- the tables of checks
abbrev pub check_use : Text → Option TableUse
check_use word =
    if bytes_eq word (codes "rise_constraint") then Some Rise
    else if bytes_eq word (codes "fall_constraint") then Some Fall
    else None

abbrev pub use_named : Bool → Text → Option TableUse
use_named true word = delay_use word
use_named false word = check_use word

module _ (bytes : Text) where
  -- the role of a pin
  abbrev pub role_of : Option Entry → Role
  role_of None = Other
  role_of (Some a) = role_by (only (contents bytes a))

  -- the kind of a timing group; without a type it is combinational
  abbrev pub kind_of : Role → Option Entry → TimingKind
  kind_of role None = kind_named role (codes "combinational")
  kind_of role (Some a) = kind_by role (only (contents bytes a))

  -- how the output follows the input; without a sense both ways
  abbrev pub sense_of : Option Entry → Sense
  sense_of None = Non
  sense_of (Some a) = sense_by (only (contents bytes a))
