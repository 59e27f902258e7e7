-- The summary of a design and its least and greatest windows: how many edges of nets can switch, for how many of them
-- the two windows differ, how many couplings matter, and how wide the windows are together.
use Rattle.std.specs.Prelude.{◌≡◌, ℕ, ◌+◌, Bool, ◌&&◌, not, ℤ, pos, ◌+ℤ◌, ◌-ℤ◌, List, [], ◌∷◌, length, map, codes}
use Rattle.std.specs.Fmt.{decimal}
use Rattle.std.specs.Ordering.{int_eq}
use Rattle.std.specs.List.{filter}
use Rattle.xt_model.specs.declared.edge.Edge.{Edge}
use Rattle.xt_model.specs.declared.edge.Edge.TheVariants.{Rise, Fall}
use Rattle.xt_model.specs.declared.quad.Quad.{Quad}
use Rattle.xt_model.specs.declared.quad.Pair.{Pair}
use Rattle.xt_model.specs.declared.net.Net.{Net}
use Rattle.xt_model.specs.Quads.{is_live}
use Rattle.xt_model.specs.Parts.{Parts}
use Rattle.xt_model.specs.Levels.{IsDepth, IsPairCount}
use Rattle.xt_model.specs.Assign.{assigned}
use Rattle.xt_meaning.specs.Fixpoint.{IsLeastFixpoint, IsGreatestFixpoint}
use Rattle.text_lines.specs.Lines.{Line, text_of}
use Rattle.xt_number.specs.Thousandths.{thousandths}
use Rattle.report_text.specs.declared.edge_windows.EdgeWindows.{EdgeWindows}
use Rattle.aggressor_report.specs.Guilt.{guilty}
use Rattle.report_text.specs.Report.{size_line}

-- the two windows of an edge of a net
abbrev pub windows_of : List Pair → List Pair → ℕ → Edge → EdgeWindows
windows_of low high n e = record { low = assigned low n e; high = assigned high n e }

-- those of each edge of these nets, by net and by edge; the first net has this number
abbrev pub edge_windows : List Pair → List Pair → ℕ → List Net → List EdgeWindows
edge_windows low high n [] = []
edge_windows low high n (net ∷ more) =
    windows_of low high n Rise ∷ windows_of low high n Fall ∷ edge_windows low high (n + 1) more

-- an edge that can switch
abbrev pub can_switch : EdgeWindows → Bool
can_switch w = is_live w.high

-- the edges that can switch
abbrev pub live_edges : List Pair → List Pair → List Net → List EdgeWindows
live_edges low high nets = filter can_switch (edge_windows low high 0 nets)

-- the two windows differ
abbrev pub is_wider : EdgeWindows → Bool
is_wider w =
    not (int_eq w.low.tlo w.high.tlo && (int_eq w.low.thi w.high.thi
    && (int_eq w.low.slo w.high.slo && int_eq w.low.shi w.high.shi)))

-- how wide windows of times are together, in fs
abbrev pub total_width : List Quad → ℤ
total_width [] = pos 0
total_width (q ∷ more) = (q.thi -ℤ q.tlo) +ℤ total_width more

-- counts of the edges that can switch, of those whose windows differ, and of the couplings that matter
abbrev pub count_line : List EdgeWindows → ℕ → Line
count_line edges guilty =
    codes "live" ∷ decimal (length edges) ∷ codes "wider" ∷ decimal (length (filter is_wider edges))
    ∷ codes "guilty" ∷ decimal guilty ∷ []

-- the lines of a summary, by the edges that can switch and the count of couplings that matter; times are printed in
-- picoseconds
abbrev pub summary_by : Parts → ℕ → ℕ → List EdgeWindows → ℕ → List Line
summary_by d pairs depth edges guilty =
    (codes "xtalk" ∷ codes "gen" ∷ codes "1" ∷ []) ∷ size_line d pairs depth ∷ count_line edges guilty
    ∷ (codes "least" ∷ thousandths (total_width (map (λ w. w.low) edges)) ∷ [])
    ∷ (codes "greatest" ∷ thousandths (total_width (map (λ w. w.high) edges)) ∷ [])
    ∷ (codes "end" ∷ []) ∷ []

abbrev pub summary : Parts → ℕ → ℕ → List Pair → List Pair → List Line
summary d pairs depth low high =
    summary_by d pairs depth (live_edges low high d.nets) (length (guilty d low high))

-- the text is the summary of the design's least and greatest fixpoint
pub record IsSummary (d : Parts) (text : List ℕ) : Type 0 where
  pub pairs : ℕ
  pub depth : ℕ
  pub low : List Pair
  pub high : List Pair
  pub is_pairs : IsPairCount d.nets pairs
  pub is_depth : IsDepth d.nets depth
  pub is_least : IsLeastFixpoint d low
  pub is_greatest : IsGreatestFixpoint d high
  pub written : text ≡ text_of (summary d pairs depth low high)
