-- The linked text of a design: every number of it in base units, one fact a line.
use Rattle.std.specs.Prelude.{ℕ, zero, suc, ℤ, Bool, true, false, if◌then◌else◌, Option, Some, None}
use Rattle.std.specs.Prelude.{List, [], ◌∷◌, ◌++◌, length, map, take, drop, codes}
use Rattle.std.specs.Fmt.{decimal, signed_decimal}
use Rattle.std.specs.List.{flat_map}
use Rattle.xt_model.specs.declared.edge.Edge.{Edge}
use Rattle.xt_model.specs.declared.edge.Edge.TheVariants.{Rise, Fall}
use Rattle.xt_model.specs.declared.quad.Quad.{Quad}
use Rattle.xt_model.specs.declared.table.Table.{Table}
use Rattle.xt_model.specs.declared.net.Coupling.{Coupling}
use Rattle.xt_model.specs.declared.net.SinkPin.{SinkPin}
use Rattle.xt_model.specs.declared.net.TimingArc.{TimingArc}
use Rattle.xt_model.specs.declared.net.Net.{Net}
use Rattle.xt_model.specs.declared.check.CheckPoint.{CheckPoint}
use Rattle.xt_model.specs.declared.check.CheckPoint.TheVariants.{Flop, Port}
use Rattle.xt_model.specs.Quads.{is_live}
use Rattle.xt_model.specs.Miller.{MillerNumbers}
pub use Rattle.xt_model.specs.Miller.{is_classical}
use Rattle.xt_model.specs.Parts.{Parts}
use Rattle.text_lines.specs.Lines.{Line}
use Rattle.text_lines.specs.Words.{edge_word, check_word}
use Rattle.text_lines.specs.Miller.{miller_lines}

-- version 1 has the classical Miller numbers, version 2 all others
abbrev pub version_word : Bool → List ℕ
version_word true = codes "1"
version_word false = codes "2"

abbrev pub head_line : MillerNumbers → Line
head_line m = codes "xtalk-design" ∷ version_word (is_classical m) ∷ []

-- how many tables, nets and checks there are
abbrev pub counts_line : Parts → Line
counts_line d = codes "counts" ∷ decimal (length d.tables) ∷ decimal (length d.nets) ∷ decimal (length d.checks) ∷ []

abbrev pub period_field : Option ℤ → List ℕ
period_field None = codes "none"
period_field (Some t) = signed_decimal t

abbrev pub period_line : Parts → Line
period_line d = codes "period" ∷ period_field d.period ∷ []

-- a word and then numbers
abbrev pub numbers_line : List ℕ → List ℤ → Line
numbers_line word xs = word ∷ map signed_decimal xs

-- that many rows of that many values each
abbrev pub row_lines : ℕ → ℕ → List ℤ → List Line
row_lines zero columns values = []
row_lines (suc rows) columns values =
    numbers_line (codes "row") (take columns values) ∷ row_lines rows columns (drop columns values)

abbrev pub table_lines : Table → List Line
table_lines t =
    (codes "table" ∷ decimal (length t.slews) ∷ decimal (length t.loads) ∷ [])
    ∷ numbers_line (codes "slews") t.slews
    ∷ numbers_line (codes "loads") t.loads
    ∷ row_lines (length t.slews) (length t.loads) t.values

-- an input port, or a wire
abbrev pub kind_field : Bool → List ℕ
kind_field input = if input then codes "i" else codes "w"

abbrev pub net_line : Net → Line
net_line n =
    codes "net" ∷ n.name ∷ kind_field n.input ∷ signed_decimal n.load
    ∷ decimal (length n.couplings) ∷ decimal (length n.sinks) ∷ decimal (length n.arcs) ∷ []

-- what is given for an edge: its four bounds, or that it never switches
abbrev pub given_line : Edge → Quad → Line
given_line e q =
    if is_live q then
    edge_word e ∷ signed_decimal q.tlo ∷ signed_decimal q.thi ∷ signed_decimal q.slo ∷ signed_decimal q.shi ∷ []
    else edge_word e ∷ codes "quiet" ∷ []

-- a net with arcs is given nothing
abbrev pub given_lines : Net → List TimingArc → List Line
given_lines n [] = given_line Rise n.given.rise ∷ given_line Fall n.given.fall ∷ []
given_lines n (a ∷ more) = []

abbrev pub coupling_line : Coupling → Line
coupling_line k = codes "couple" ∷ decimal k.to.0 ∷ signed_decimal k.cap ∷ []

abbrev pub sink_line : SinkPin → Line
sink_line s = codes "sink" ∷ s.name ∷ signed_decimal s.base ∷ map signed_decimal s.coefs

-- from which sink of which net, the input edge and the output edge, the delay table and the slew table
abbrev pub arc_line : TimingArc → Line
arc_line a =
    codes "arc" ∷ decimal a.from.0 ∷ decimal a.sink ∷ edge_word a.input ∷ edge_word a.output
    ∷ decimal a.delay ∷ decimal a.slew ∷ []

abbrev pub net_lines : Net → List Line
net_lines n = given_lines n n.arcs ++ (map coupling_line n.couplings ++ (map sink_line n.sinks ++ map arc_line n.arcs))

abbrev pub table_field : Option ℕ → List ℕ
table_field None = codes "-"
table_field (Some t) = decimal t

abbrev pub delay_field : Option ℤ → List ℕ
delay_field None = codes "-"
delay_field (Some t) = signed_decimal t

abbrev pub check_line : CheckPoint → Line
check_line (Flop name hold datum datum_sink clock clock_sink rise fall) =
    codes "flop" ∷ check_word hold ∷ name ∷ decimal datum.0 ∷ decimal datum_sink
    ∷ decimal clock.0 ∷ decimal clock_sink ∷ table_field rise ∷ table_field fall ∷ []
check_line (Port name hold net sink rise fall) =
    codes "port" ∷ check_word hold ∷ name ∷ decimal net.0 ∷ decimal sink ∷ delay_field rise ∷ delay_field fall ∷ []

-- the lines of a design: its counts, its period, its Miller numbers, its tables, the heads of its nets, their
-- bodies, its checks
abbrev pub linked : Parts → List Line
linked d =
    head_line d.miller ∷ counts_line d ∷ period_line d
    ∷ (miller_lines d.miller ++ (flat_map table_lines d.tables ++ (map net_line d.nets
    ++ (flat_map net_lines d.nets ++ (map check_line d.checks ++ ((codes "end" ∷ []) ∷ []))))))
