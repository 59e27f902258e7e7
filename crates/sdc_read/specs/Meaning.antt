-- What the commands of an SDC text mean, one after another. A number that is refused (C4) is met before an object that
-- is (C6), and that before a second clock (C5).
use Rattle.std.specs.Prelude.{Bool, true, false, ◌&&◌, if◌then◌else◌, List, [], ◌∷◌, ◌^◌}
use Rattle.std.specs.Prelude.{ℤ, pos, neg_ℤ, int_le, int_lt, ◌≤ℤ◌, ◌<ℤ◌}
use Rattle.std.specs.Prelude.{Option, Some, None, option_map, Result, Ok, Err}
use Rattle.std.specs.Int.{int_div_euclid}
use Rattle.std.specs.Ordering.{int_eq}
use Rattle.xt_model.specs.declared.code.Code.{Code}
use Rattle.xt_model.specs.declared.code.Code.TheVariants.{C4, C5, C6}
use Rattle.xt_number.specs.Value.{fixed}
use Rattle.xt_number.specs.declared.fault.NumberFault.{NumberFault}
use Rattle.verilog_net.specs.Nets.{Nets}
use Rattle.sdc_words.specs.Items.{items_of}
use Rattle.sdc_words.specs.Words.{Text, WordText}
use Rattle.sdc_forms.specs.Statement.{Statement, Nothing, Units, InputDelay, OutputDelay, InputTransition, Load}
use Rattle.sdc_forms.specs.Statement as forms
use Rattle.sdc_read.specs.declared.change.Change.{Change}
use Rattle.sdc_read.specs.declared.change.Change.TheVariants as changes
use Rattle.sdc_read.specs.declared.constraints.Clock.{Clock}
use Rattle.sdc_read.specs.declared.ports.PortBit.{PortBit}
use Rattle.sdc_read.specs.Ports.{Ports}
use Rattle.xt_model.specs.Results.{◌>>=◌}
use Rattle.sdc_read.specs.Objects.{change_objects, knows_clock, source_of, bit_name}

-- the powers of ten by which times and capacitances are counted, the clock, and what is set for ports
pub record State : Type 0 where
  pub time : ℤ
  pub cap : ℤ
  pub clock : Option Clock
  pub ports : Ports

-- nothing has been read; the units are those of the library
abbrev pub nothing : ℤ → ℤ → State
nothing time cap = record { time = time; cap = cap; clock = None; ports = [] }

-- a power of ten by which values may be counted
abbrev pub IsScale : ℤ → Type 0
IsScale k = (neg_ℤ (pos 12) ≤ℤ k) × (k ≤ℤ pos 12)

-- a period from 1 to 2^40, and a fall within it
pub record IsClock (c : Clock) : Type 0 where
  pub period_low : pos 1 ≤ℤ c.period
  pub period_high : c.period ≤ℤ pos (2 ^ 40)
  pub fall_low : pos 0 ≤ℤ c.fall
  pub fall_high : c.fall <ℤ c.period

-- ---- units

abbrev pub or_same : Option ℤ → ℤ → ℤ
or_same (Some k) old = k
or_same None old = old

-- units hold for the commands behind them
abbrev pub with_units : Option ℤ → Option ℤ → State → State
with_units time cap s = record s { time = or_same time s.time; cap = or_same cap s.cap }

-- ---- numbers

abbrev pub number_or_refusal : Result ℤ NumberFault → Result ℤ Code
number_or_refusal (Ok x) = Ok x
number_or_refusal (Err fault) = Err C4

-- a number
unfoldable pub number_in : Text → ℤ → Result ℤ Code
number_in t scale = number_or_refusal (fixed t scale)

abbrev pub at_least : ℤ → ℤ → Result ℤ Code
at_least least x = if int_le least x then Ok x else Err C4

-- a number from a least one on
unfoldable pub number_from : ℤ → Text → ℤ → Result ℤ Code
number_from least t scale = number_in t scale >>= at_least least

abbrev pub fall_within : ℤ → ℤ → ℤ → Result ℤ Code
fall_within period rise fall =
    if int_eq rise (pos 0) && (int_lt (pos 0) fall && int_lt fall period) then Ok fall else Err C4

-- the items, if there are exactly two
abbrev pub two_of : List Text → Option (Text × Text)
two_of (x ∷ y ∷ []) = Some (x, y)
two_of _ = None

abbrev pub fall_by : ℤ → ℤ → Option (Text × Text) → Result ℤ Code
fall_by scale period (Some x) = do
  rise ← number_in x.0 scale
  fall ← number_in x.1 scale
  fall_within period rise fall
fall_by scale period None = Err C4

-- a waveform is 0 and the fall, which is within the period
unfoldable pub fall_of : ℤ → ℤ → List Text → Result ℤ Code
fall_of scale period items = fall_by scale period (two_of items)

-- without a waveform the clock falls in the middle of the period, rounded down
unfoldable pub fall_in : ℤ → ℤ → Option Text → Result ℤ Code
fall_in scale period None = Ok (int_div_euclid period (pos 2))
fall_in scale period (Some t) = fall_of scale period (items_of t)

-- ---- the clock

abbrev pub or_name : Option Text → Text → Text
or_name (Some name) port = name
or_name None port = port

abbrev pub with_clock : Option Clock → Clock → State → Result State Code
with_clock None c s = Ok (record s { clock = Some c })
with_clock (Some other) c s = Err C5

-- a clock, which is named as its port where no name is given
unfoldable pub create_clock : Nets → Option Text → Text → Option Text → WordText → State → Result State Code
create_clock nets name period waveform source s = do
  p ← number_from (pos 1) period s.time
  f ← fall_in s.time p waveform
  at ← source_of nets source
  with_clock s.clock (record {
    name = or_name name (bit_name nets at);
    decl = at.decl;
    bit = at.bit;
    period = p;
    fall = f;
  }) s

abbrev pub bit_of : Clock → PortBit
bit_of c = record { decl = c.decl; bit = c.bit }

-- ---- ports

-- the ports of a list are changed
unfoldable pub change_ports : Nets → Change → WordText → State → Result State Code
change_ports nets c w s = do
  ps ← change_objects nets (option_map bit_of s.clock) c w s.ports
  Ok (record s { ports = ps })

abbrev pub if_known : Bool → Result State Code → Result State Code
if_known true read = read
if_known false read = Err C6

-- what a command means by what it says
unfoldable pub means : Nets → Statement → State → Result State Code
means nets Nothing s = Ok s
means nets (Units time cap) s = Ok (with_units time cap s)
means nets (forms.Clock name period waveform source) s = create_clock nets name period waveform source s
means nets (InputDelay number clock picked ports) s = do
  x ← number_in number s.time
  if_known (knows_clock s.clock clock) (change_ports nets (changes.InputDelay picked x) ports s)
means nets (OutputDelay number clock picked ports) s = do
  x ← number_in number s.time
  if_known (knows_clock s.clock clock) (change_ports nets (changes.OutputDelay picked x) ports s)
means nets (InputTransition number picked ports) s = do
  x ← number_from (pos 0) number s.time
  change_ports nets (changes.Slew picked x) ports s
means nets (Load number ports) s = do
  x ← number_from (pos 0) number s.cap
  change_ports nets (changes.Load x) ports s
