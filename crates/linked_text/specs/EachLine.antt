-- What each line of a linked text may be, and the first of its tests that fails: X1 where its words or the number of
-- its fields do not fit, X2 where a number is not written as it has to be or is out of its range, X3 where the line
-- does not hold together with the lines before it.
use Rattle.std.specs.Prelude.{ℕ, ◌+◌, nat_lt, nat_le, ◌==◌, Bool, true, false, not, ◌&&◌, if◌then◌else◌, ℤ}
use Rattle.std.specs.Prelude.{List, [], ◌∷◌, length, codes, Option, Some, None, Result, Ok, Err}
use Rattle.std.specs.List.{slice_get}
use Rattle.std.specs.Option.{option_map_or}
use Rattle.std.specs.Str.{bytes_eq}
use Rattle.xt_model.specs.Limits.{most_factor}
use Rattle.xt_model.specs.declared.code.Code.{Code}
use Rattle.xt_model.specs.declared.code.Code.TheVariants.{X1, X2, X3}
use Rattle.xt_model.specs.declared.edge.Edge.{Edge}
use Rattle.xt_model.specs.declared.quad.Quad.{Quad}
use Rattle.xt_model.specs.declared.net.Coupling.{Coupling}
use Rattle.xt_model.specs.declared.net.SinkPin.{SinkPin}
use Rattle.xt_model.specs.declared.net.TimingArc.{TimingArc}
use Rattle.xt_model.specs.declared.check.CheckPoint.{CheckPoint}
use Rattle.xt_model.specs.declared.check.CheckPoint.TheVariants.{Flop, Port}
use Rattle.xt_model.specs.Quads.{bottom, is_live}
use Rattle.xt_model.specs.Miller.{MillerNumbers}
use Rattle.name_numbers.specs.Names.{has_name}
use Rattle.text_lines.specs.Lines.{Line}
use Rattle.text_lines.specs.Words.{edge_word}
use Rattle.linked_text.specs.declared.head.NetHead.{NetHead}
use Rattle.linked_text.specs.declared.head.Counts.{Counts}
use Rattle.linked_text.specs.Linked.{is_classical}
use Rattle.linked_text.specs.Fields.{one, two, three, four, five, seven, nine, number_of, count, size, in_table, time}
use Rattle.linked_text.specs.Fields.{slew, cap, product, period, delay, each, is_canonical, is_name, edge_of, kind_of}
use Rattle.linked_text.specs.Fields.{hold_of, or_dash, is_rising}
use Rattle.xt_model.specs.Results.{◌>>=◌}

-- ---- the tests of a line

-- as many fields as there have to be, and the words
abbrev pub worded : {A : Type 0} → Option A → Result A Code
worded (Some x) = Ok x
worded None = Err X1

abbrev pub has_word : Bool → Result (Unit {0}) Code
has_word right = if right then Ok tt else Err X1

-- a number as it has to be written, in its range
abbrev pub numbered : {A : Type 0} → Option A → Result A Code
numbered (Some x) = Ok x
numbered None = Err X2

abbrev pub well_written : Bool → Result (Unit {0}) Code
well_written right = if right then Ok tt else Err X2

-- what the line says holds
abbrev pub holds : Bool → Result (Unit {0}) Code
holds right = if right then Ok tt else Err X3

-- ---- the head of the text

-- whether the version is that of the classical Miller numbers
unfoldable pub version_in : Line → Result Bool Code
version_in line = do
  f ← worded (two line)
  name ← has_word (bytes_eq f.0 (codes "xtalk-design"))
  if bytes_eq f.1 (codes "1") then Ok true else (if bytes_eq f.1 (codes "2") then Ok false else Err X1)

-- how many tables, nets and checks there are
unfoldable pub counts_in : Line → Result Counts Code
counts_in line = do
  f ← worded (four line)
  word ← has_word (bytes_eq f.0 (codes "counts"))
  tables ← numbered (count f.1)
  nets ← numbered (count f.2)
  checks ← numbered (count f.3)
  Ok (record { tables = tables; nets = nets; checks = checks })

unfoldable pub period_in : Line → Result (Option ℤ) Code
period_in line = do
  f ← worded (two line)
  word ← has_word (bytes_eq f.0 (codes "period"))
  if bytes_eq f.1 (codes "none") then Ok None else (numbered (period f.1) >>= λ t. Ok (Some t))

-- three numbers that rise, up to three whole capacitors, and are not the classical ones
abbrev pub is_other_miller : MillerNumbers → Bool
is_other_miller m = nat_le m.low m.mid && (nat_le m.mid m.high && (nat_le m.high most_factor && not (is_classical m)))

-- a factor in quarters, at most three whole capacitors
abbrev pub factor : List ℕ → Result ℕ Code
factor f = option_map_or Ok (number_of (most_factor + 1) f) (Err X3)

-- the Miller numbers of these fields
unfoldable pub miller_of : List ℕ → List ℕ → List ℕ → Result MillerNumbers Code
miller_of f g h = do
  low ← factor f
  mid ← factor g
  high ← factor h
  let m : MillerNumbers = record { low = low; mid = mid; high = high } in
      (holds (is_other_miller m) >>= λ u. Ok m)

unfoldable pub miller_in : Line → Result MillerNumbers Code
miller_in line = do
  f ← worded (four line)
  word ← has_word (bytes_eq f.0 (codes "miller"))
  numbers ← well_written (is_canonical f.1 && (is_canonical f.2 && is_canonical f.3))
  miller_of f.1 f.2 f.3

-- ---- the lines of a table

-- how many rows and columns it has
unfoldable pub sizes_in : Line → Result (ℕ × ℕ) Code
sizes_in line = do
  f ← worded (three line)
  word ← has_word (bytes_eq f.0 (codes "table"))
  rows ← numbered (size f.1)
  columns ← numbered (size f.2)
  Ok (rows, columns)

-- a word and that many more fields
abbrev pub fields_after : List ℕ → ℕ → Line → Option Line
fields_after word n [] = None
fields_after word n (w ∷ fs) = if bytes_eq w word && length fs == n then Some fs else None

-- a word and that many numbers of a table
unfoldable pub row_in : List ℕ → ℕ → Line → Result (List ℤ) Code
row_in word n line = do
  fs ← worded (fields_after word n line)
  numbered (each in_table fs)

-- the slews of the rows, or the loads of the columns, in rising order
unfoldable pub index_in : List ℕ → ℕ → Line → Result (List ℤ) Code
index_in word n line = do
  xs ← row_in word n line
  rising ← holds (is_rising xs)
  Ok xs

-- ---- the line of a net

-- its name, whether it is an input port, its load and how many lines its body has, behind nets of these names
unfoldable pub head_in : List (List ℕ) → Line → Result NetHead Code
head_in names line = do
  f ← worded (seven line)
  word ← has_word (bytes_eq f.0 (codes "net"))
  input ← worded (kind_of f.2)
  load ← numbered (cap f.3)
  couplings ← numbered (count f.4)
  sinks ← numbered (count f.5)
  arcs ← numbered (count f.6)
  name ← holds (is_name f.1 && not (has_name f.1 names))
  Ok (record { name = f.1; input = input; load = load; couplings = couplings; sinks = sinks; arcs = arcs })

-- ---- the lines of the body of a net

-- the edge never switches
unfoldable pub quiet_in : Edge → List ℕ × List ℕ → Result Quad Code
quiet_in e f = do
  word ← has_word (bytes_eq f.0 (edge_word e))
  quiet ← has_word (bytes_eq f.1 (codes "quiet"))
  Ok bottom

-- the edge switches within these bounds, no low one above its high one
unfoldable pub bounds_in : Edge → Line → Result Quad Code
bounds_in e line = do
  f ← worded (five line)
  word ← has_word (bytes_eq f.0 (edge_word e))
  tlo ← numbered (time f.1)
  thi ← numbered (time f.2)
  slo ← numbered (slew f.3)
  shi ← numbered (slew f.4)
  let q : Quad = record { tlo = tlo; thi = thi; slo = slo; shi = shi } in (holds (is_live q) >>= λ u. Ok q)

-- what is given for an edge
abbrev pub given_in : Edge → Line → Result Quad Code
given_in e line = option_map_or (quiet_in e) (two line) (bounds_in e line)

-- a coupling of the net of this number to another one of so many
unfoldable pub coupling_in : ℕ → ℕ → Line → Result Coupling Code
coupling_in nets own line = do
  f ← worded (three line)
  word ← has_word (bytes_eq f.0 (codes "couple"))
  to ← numbered (count f.1)
  amount ← numbered (cap f.2)
  other ← holds (nat_lt to nets && not (to == own))
  Ok (record { to = record { 0 = to }; cap = amount })

-- the name of a sink, and the numbers behind it
abbrev pub sink_fields : ℕ → Line → Option (List ℕ × List ℕ × Line)
sink_fields n (w ∷ name ∷ base ∷ fs) =
    if bytes_eq w (codes "sink") && length fs == n then Some (name, base, fs) else None
sink_fields n line = None

-- a sink with one coefficient for each of so many couplings
unfoldable pub sink_in : ℕ → Line → Result SinkPin Code
sink_in couplings line = do
  f ← worded (sink_fields couplings line)
  base ← numbered (product f.1)
  coefs ← numbered (each product f.2)
  name ← holds (is_name f.0)
  Ok (record { name = f.0; base = base; coefs = coefs })

-- the net of this number has a sink of this number, where the nets have so many sinks
abbrev pub has_sink : List ℕ → ℕ → ℕ → Bool
has_sink sinks n sink = option_map_or (λ m. nat_lt sink m) (slice_get sinks n) false

-- an arc, where the nets have so many sinks and there are so many tables
unfoldable pub arc_in : List ℕ → ℕ → Line → Result TimingArc Code
arc_in sinks tables line = do
  f ← worded (seven line)
  word ← has_word (bytes_eq f.0 (codes "arc"))
  input ← worded (edge_of f.3)
  output ← worded (edge_of f.4)
  from ← numbered (count f.1)
  sink ← numbered (count f.2)
  delays ← numbered (count f.5)
  slews ← numbered (count f.6)
  there ← holds (has_sink sinks from sink && (nat_lt delays tables && nat_lt slews tables))
  let a : TimingArc =
      record { from = record { 0 = from }; sink = sink; input = input; output = output; delay = delays; slew = slews }
      in Ok a

-- ---- checks

-- the tables of a check, where it has them, are there
abbrev pub has_table : ℕ → Option ℕ → Bool
has_table tables o = option_map_or (λ t. nat_lt t tables) o true

-- what a check has to find: whether there is a period, how many sinks each net has, and how many tables there are
pub record Around : Type 0 where
  pub period : Bool
  pub sinks : List ℕ
  pub tables : ℕ

-- a check of a flop: its name, where its data and its clock come in, and its constraint tables for a rise and a fall
unfoldable pub flop_in : Around → Line → Result CheckPoint Code
flop_in around line = do
  f ← worded (nine line)
  word ← has_word (bytes_eq f.0 (codes "flop"))
  hold ← worded (hold_of f.1)
  datum ← numbered (count f.3)
  datum_sink ← numbered (count f.4)
  clock ← numbered (count f.5)
  clock_sink ← numbered (count f.6)
  rise ← numbered (or_dash count f.7)
  fall ← numbered (or_dash count f.8)
  there ← holds (around.period && (is_name f.2 && has_sink around.sinks datum datum_sink))
  there_too ← holds (has_sink around.sinks clock clock_sink)
  tables ← holds (has_table around.tables rise && has_table around.tables fall)
  Ok (Flop f.2 hold (record { 0 = datum }) datum_sink (record { 0 = clock }) clock_sink rise fall)

-- a check of an output port: its name, where it is, and its external delays for a rise and a fall
unfoldable pub port_in : Around → Line → Result CheckPoint Code
port_in around line = do
  f ← worded (seven line)
  word ← has_word (bytes_eq f.0 (codes "port"))
  hold ← worded (hold_of f.1)
  net ← numbered (count f.3)
  sink ← numbered (count f.4)
  rise ← numbered (or_dash delay f.5)
  fall ← numbered (or_dash delay f.6)
  there ← holds (around.period && (is_name f.2 && has_sink around.sinks net sink))
  Ok (Port f.2 hold (record { 0 = net }) sink rise fall)

-- a check of either kind, which the number of its fields tells apart
abbrev pub check_in : Around → Line → Result CheckPoint Code
check_in around line = option_map_or (λ f. flop_in around line) (nine line) (port_in around line)

-- ---- the last line

unfoldable pub end_in : Line → Result (Unit {0}) Code
end_in line = do
  f ← worded (one line)
  has_word (bytes_eq f (codes "end"))
