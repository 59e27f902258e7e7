-- What a linked text means: its lines one after another, each at its place, up to the first refusal.
use Rattle.std.specs.Prelude.{◌≡◌, ℕ, zero, suc, ◌+◌, ◌-◌, ◌*◌, ◌==◌, nat_le, unsigned_abs, ℤ, Bool, true, false}
use Rattle.std.specs.Prelude.{if◌then◌else◌, ◌⊎◌, Option, Some, None, is_some, Result, Ok, Err}
use Rattle.std.specs.Prelude.{List, [], ◌∷◌, ◌++◌, length, map, codes}
use Rattle.std.specs.List.{count_by, sum_by}
use Rattle.xt_model.specs.declared.code.Code.{Code}
use Rattle.xt_model.specs.declared.code.Code.TheVariants.{X1, X3}
use Rattle.xt_model.specs.declared.fault.LimitKind.{LimitKind}
use Rattle.xt_model.specs.declared.fault.LimitKind.TheVariants as kinds
use Rattle.xt_model.specs.declared.edge.Edge.TheVariants.{Rise, Fall}
use Rattle.xt_model.specs.declared.quad.Pair.{Pair}
use Rattle.xt_model.specs.declared.table.Table.{Table}
use Rattle.xt_model.specs.declared.net.Coupling.{Coupling}
use Rattle.xt_model.specs.declared.net.Net.{Net}
use Rattle.xt_model.specs.declared.check.CheckPoint.{CheckPoint}
use Rattle.xt_model.specs.Limits.{most_nets, most_tables, most_checks, most_couplings, most_coefficients, most_arcs}
use Rattle.xt_model.specs.Limits.{most_reads, most_cap}
use Rattle.xt_model.specs.Quads.{bottom}
use Rattle.xt_model.specs.Miller.{MillerNumbers, classical}
use Rattle.xt_model.specs.Parts.{Parts}
use Rattle.xt_model.specs.Sound.{greatest_load, reads_of}
use Rattle.xt_model.specs.Levels.{AreLevelled}
use Rattle.text_lines.specs.Lines.{Line}
use Rattle.linked_text.specs.declared.head.NetHead.{NetHead}
use Rattle.linked_text.specs.declared.head.Counts.{Counts}
use Rattle.linked_text.specs.declared.head.Sums.{Sums}
use Rattle.linked_text.specs.declared.fault.Fault.{Fault}
use Rattle.linked_text.specs.declared.fault.Fault.TheVariants as faults
use Rattle.linked_text.specs.declared.fault.LinkedFault.{LinkedFault}
use Rattle.linked_text.specs.declared.fault.LinkedFault.TheVariants as linked
use Rattle.linked_text.specs.Fields.{cut_at, fields_of}
use Rattle.linked_text.specs.EachLine.{version_in, counts_in, period_in, miller_in, sizes_in, index_in, row_in, head_in}
use Rattle.linked_text.specs.EachLine.{given_in, coupling_in, sink_in, arc_in, Around, check_in, end_in}
use Rattle.xt_model.specs.Results.{◌>>=◌}

-- ---- lines

-- a value and the bytes behind it, or the first refusal
abbrev pub Read : Type 0 → Type 0
Read A = Result (A × List ℕ) Fault

-- how many newlines there are
abbrev pub newlines : List ℕ → ℕ
newlines bytes = count_by (λ b. b == 10) bytes

-- the line that these bytes begin with is refused
abbrev pub refuse : {A : Type 0} → List ℕ → Code → Result A Fault
refuse bytes code = Err (faults.Refused (newlines bytes) code)

-- what the first line of the bytes gives
abbrev pub with_rest : {A : Type 0} → List ℕ → List ℕ → Result A Code → Read A
with_rest bytes rest (Ok x) = Ok (x, rest)
with_rest bytes rest (Err code) = refuse bytes code

-- bytes without a newline are no line
abbrev pub first_line : {A : Type 0} → (Line → Result A Code) → List ℕ → Option (List ℕ × List ℕ) → Read A
first_line of bytes None = refuse bytes X1
first_line of bytes (Some cut) = with_rest bytes cut.1 (of (fields_of cut.0))

-- the line at the front of the bytes, by its tests
unfoldable pub line_at : {A : Type 0} → (Line → Result A Code) → List ℕ → Read A
line_at of bytes = first_line of bytes (cut_at 10 bytes)

-- so many values one after another
abbrev pub many_at : {A : Type 0} → (List ℕ → Read A) → ℕ → List ℕ → Read (List A)
many_at at zero bytes = Ok ([], bytes)
many_at at (suc n) bytes = at bytes >>= λ first. many_at at n first.1 >>= λ more. Ok (first.0 ∷ more.0, more.1)

-- ---- limits

-- a limit is passed by more than the most
abbrev pub keeps : LimitKind → Option (List ℕ) → ℕ → ℕ → Result (Unit {0}) Fault
keeps what name value most = if nat_le value most then Ok tt else Err (faults.Limit what name value)

-- ---- the head of the text

-- the counts keep their limits, in their order
unfoldable pub counts_at : List ℕ → Read Counts
counts_at bytes = do
  c ← line_at counts_in bytes
  tables ← keeps kinds.Tables None c.0.tables most_tables
  nets ← keeps kinds.Nets None c.0.nets most_nets
  checks ← keeps kinds.Checks None c.0.checks most_checks
  Ok c

-- the Miller numbers of a text of that version
unfoldable pub miller_at : Bool → List ℕ → Read MillerNumbers
miller_at true bytes = Ok (classical, bytes)
miller_at false bytes = line_at miller_in bytes

-- ---- tables

-- so many rows, joined
abbrev pub rows_at : ℕ → ℕ → List ℕ → Read (List ℤ)
rows_at zero columns bytes = Ok ([], bytes)
rows_at (suc rows) columns bytes =
    line_at (row_in (codes "row") columns) bytes >>= λ first. rows_at rows columns first.1 >>= λ more.
    Ok (first.0 ++ more.0, more.1)

unfoldable pub table_at : List ℕ → Read Table
table_at bytes = do
  sizes ← line_at sizes_in bytes
  slews ← line_at (index_in (codes "slews") sizes.0.0) sizes.1
  loads ← line_at (index_in (codes "loads") sizes.0.1) slews.1
  values ← rows_at sizes.0.0 sizes.0.1 loads.1
  Ok (record { slews = slews.0; loads = loads.0; values = values.0 }, values.1)

-- ---- the lines of the nets

abbrev pub no_sums : Sums
no_sums = record { couplings = 0; coefficients = 0; arcs = 0 }

-- the sums with one more net
abbrev pub sums_with : Sums → NetHead → Sums
sums_with s h = record {
  couplings = s.couplings + h.couplings;
  coefficients = s.coefficients + h.sinks * h.couplings;
  arcs = s.arcs + h.arcs;
}

-- the sums up to each net keep their limits, in this order
unfoldable pub sums_kept : Sums → Result (Unit {0}) Fault
sums_kept s = do
  couplings ← keeps kinds.Couplings None s.couplings most_couplings
  coefficients ← keeps kinds.Coefficients None s.coefficients most_coefficients
  keeps kinds.Arcs None s.arcs most_arcs

-- the line of a net behind nets of these names with these sums. Its own load is within the limit of its greatest
-- load, which a net without couplings has
unfoldable pub head_at : List (List ℕ) → Sums → List ℕ → Read NetHead
head_at names sums bytes = do
  h ← line_at (head_in names) bytes
  kept ← sums_kept (sums_with sums h.0)
  Ok h

abbrev pub heads_at : ℕ → List (List ℕ) → Sums → List ℕ → Read (List NetHead)
heads_at zero names sums bytes = Ok ([], bytes)
heads_at (suc n) names sums bytes =
    head_at names sums bytes >>= λ h. heads_at n (names ++ h.0.name ∷ []) (sums_with sums h.0) h.1 >>= λ more.
    Ok (h.0 ∷ more.0, more.1)

-- ---- the bodies of the nets

-- what is given for the two edges of a net with that many arcs
unfoldable pub pair_at : ℕ → List ℕ → Read Pair
pair_at zero bytes = do
  rise ← line_at (given_in Rise) bytes
  fall ← line_at (given_in Fall) rise.1
  Ok (record { rise = rise.0; fall = fall.0 }, fall.1)
pair_at (suc arcs) bytes = Ok (record { rise = bottom; fall = bottom }, bytes)

-- the net of this head with these couplings and nothing else, by which its greatest load is tested
abbrev pub coupled_net : NetHead → List Coupling → Net
coupled_net h couplings = record {
  name = h.name;
  input = h.input;
  load = h.load;
  given = record { rise = bottom; fall = bottom };
  couplings = couplings;
  sinks = [];
  arcs = [];
}

-- the couplings of the net of this number and head, of so many nets; behind the last one the greatest load is tested
unfoldable pub couplings_at : ℕ → ℕ → NetHead → List ℕ → Read (List Coupling)
couplings_at nets own h bytes = do
  couplings ← many_at (line_at (coupling_in nets own)) h.couplings bytes
  load ←
      keeps kinds.Load (Some h.name) (unsigned_abs (greatest_load (coupled_net h couplings.0))) (unsigned_abs most_cap)
  Ok couplings

-- the net of this number and head, where the nets have so many sinks and there are so many tables
unfoldable pub net_at : List ℕ → ℕ → ℕ → NetHead → List ℕ → Read Net
net_at sinks tables own h bytes = do
  given ← pair_at h.arcs bytes
  couplings ← couplings_at (length sinks) own h given.1
  pins ← many_at (line_at (sink_in h.couplings)) h.sinks couplings.1
  arcs ← many_at (line_at (arc_in sinks tables)) h.arcs pins.1
  Ok (
    record {
      name = h.name;
      input = h.input;
      load = h.load;
      given = given.0;
      couplings = couplings.0;
      sinks = pins.0;
      arcs = arcs.0;
    },
    arcs.1,
  )

-- the nets of these heads, from this number on
abbrev pub nets_at : List ℕ → ℕ → ℕ → List NetHead → List ℕ → Read (List Net)
nets_at sinks tables own [] bytes = Ok ([], bytes)
nets_at sinks tables own (h ∷ heads) bytes =
    net_at sinks tables own h bytes >>= λ n. nets_at sinks tables (own + 1) heads n.1 >>= λ more.
    Ok (n.0 ∷ more.0, more.1)

-- what was read before, and what is still read
abbrev pub with_front : {A : Type 0} → List A → Read (List A) → Read (List A)
with_front front read = read >>= λ x. Ok (front ++ x.0, x.1)

-- these nets, and behind them those of these heads
abbrev pub nets_behind : List ℕ → ℕ → List Net → List NetHead → List ℕ → Read (List Net)
nets_behind sinks tables nets heads bytes = with_front nets (nets_at sinks tables (length nets) heads bytes)

-- ---- all of it

-- so many checks behind the nets of these heads, where there is a period or none and there are so many tables
abbrev pub checks_at : Bool → List NetHead → ℕ → ℕ → List ℕ → Read (List CheckPoint)
checks_at period heads tables n bytes =
    let around : Around = record { period = period; sinks = map (λ h. h.sinks) heads; tables = tables } in
    many_at (line_at (check_in around)) n bytes

-- the parts of a text up to its last line, and the bytes from that line on
unfoldable pub parts_at : List ℕ → Read Parts
parts_at bytes = do
  version ← line_at version_in bytes
  counts ← counts_at version.1
  period ← line_at period_in counts.1
  miller ← miller_at version.0 period.1
  tables ← many_at table_at counts.0.tables miller.1
  heads ← heads_at counts.0.nets [] no_sums tables.1
  nets ← nets_at (map (λ h. h.sinks) heads.0) counts.0.tables 0 heads.0 heads.1
  checks ← checks_at (is_some period.0) heads.0 counts.0.tables counts.0.checks nets.1
  Ok (
    record {
      period = period.0;
      tables = tables.0;
      nets = nets.0;
      checks = checks.0;
      miller = miller.0;
    },
    checks.1,
  )

-- the last line, at which the reads of all nets are tested, and the bytes behind it
unfoldable pub end_at : Parts → List ℕ → Read (Unit {0})
end_at d bytes = do
  last ← line_at end_in bytes
  reads ← keeps kinds.Reads None (sum_by (reads_of d) d.nets) most_reads
  Ok last

-- nothing may stand behind the last line
abbrev pub closed_by : Parts → List ℕ → Result Parts Fault
closed_by d rest = if length rest == 0 then Ok d else refuse rest X1

-- at the last line, behind its own tests, arcs that make a loop are refused
abbrev pub Ends : Parts → List ℕ → Read (Unit {0}) → Result Parts Fault → Type 0
Ends d last (Err fault) outcome = outcome ≡ Err fault
Ends d last (Ok end) outcome =
    (AreLevelled d.nets × (outcome ≡ closed_by d end.1)) ⊎ ((AreLevelled d.nets → ⊥) × (outcome ≡ refuse last X3))

-- what reading the parts comes to
abbrev pub Comes : Read Parts → Result Parts Fault → Type 0
Comes (Err fault) outcome = outcome ≡ Err fault
Comes (Ok read) outcome = Ends read.0 read.1 (end_at read.0 read.1) outcome

-- the meaning of a text: a design, or its first refusal
abbrev pub Means : List ℕ → Result Parts Fault → Type 0
Means bytes outcome = Comes (parts_at bytes) outcome

-- ---- the lines of refusals

-- the number of the line from which on so many newlines are left: 1 more than the newlines before it
abbrev pub line_number : List ℕ → ℕ → ℕ
line_number bytes left = 1 + (newlines bytes - left)

-- a refusal with the number of its line
abbrev pub with_line : List ℕ → Fault → LinkedFault
with_line bytes (faults.Refused left code) = linked.Refused (line_number bytes left) code
with_line bytes (faults.Limit what name value) = linked.Limit what name value
