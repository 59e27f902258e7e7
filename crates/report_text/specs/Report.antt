-- The report of a design and its least and greatest windows.
use Rattle.std.specs.Prelude.{◌≡◌, ℕ, ◌+◌, Bool, ◌&&◌, if◌then◌else◌, not, ℤ, Option, Some, None}
use Rattle.std.specs.Prelude.{List, [], ◌∷◌, ◌++◌, length, map, codes}
use Rattle.std.specs.Fmt.{decimal}
use Rattle.std.specs.List.{sum_by}
use Rattle.xt_model.specs.declared.edge.Edge.{Edge}
use Rattle.xt_model.specs.declared.edge.Edge.TheVariants.{Rise, Fall}
use Rattle.xt_model.specs.declared.quad.Quad.{Quad}
use Rattle.xt_model.specs.declared.quad.Pair.{Pair}
use Rattle.xt_model.specs.declared.net.Coupling.{Coupling}
use Rattle.xt_model.specs.declared.net.Net.{Net}
use Rattle.xt_model.specs.Quads.{is_live}
use Rattle.xt_model.specs.Parts.{Parts}
use Rattle.xt_model.specs.Levels.{IsDepth, IsPairCount, bound_of}
use Rattle.xt_model.specs.Assign.{assigned}
use Rattle.xt_meaning.specs.Fixpoint.{IsLeastFixpoint, IsGreatestFixpoint}
use Rattle.text_lines.specs.Lines.{Line, text_of}
use Rattle.text_lines.specs.Words.{edge_word}
use Rattle.text_lines.specs.Miller.{miller_lines}
use Rattle.xt_number.specs.Thousandths.{thousandths}
use Rattle.aggressor_report.specs.declared.mark.Mark.{Mark}
use Rattle.aggressor_report.specs.declared.mark.Mark.TheVariants.{No, Possible, Sure}
use Rattle.aggressor_report.specs.declared.guilt.Guilt.{Guilt}
use Rattle.aggressor_report.specs.Guilt.{coupling_of, guilty}
use Rattle.glitch_noise.specs.declared.peak.Peak.{Peak}
use Rattle.glitch_noise.specs.Peaks.{ArePeaks}
use Rattle.report_text.specs.declared.checked.Checked.{Checked}
use Rattle.report_kind.specs.declared.kind.ReportKind.{ReportKind}
use Rattle.report_kind.specs.declared.kind.ReportKind.TheVariants.{All, Checks, Noise}
use Rattle.report_text.specs.declared.sections.Section.{Section}
use Rattle.report_text.specs.declared.sections.Section.TheVariants as section
use Rattle.report_text.specs.Names.{name_at}
use Rattle.report_text.specs.Checks.{check_lines}
use Rattle.report_text.specs.Worst.{IsChecked}
use Rattle.report_text.specs.Paths.{worst_lines}

abbrev pub title_line : Line
title_line = codes "xtalk" ∷ codes "1" ∷ []

-- how many nets, coupling entries, coupled pairs and levels there are, and the bound on the rounds of a run
abbrev pub size_line : Parts → ℕ → ℕ → Line
size_line d pairs depth =
    codes "nets" ∷ decimal (length d.nets) ∷ codes "couplings" ∷ decimal (sum_by (λ n. length n.couplings) d.nets)
    ∷ codes "pairs" ∷ decimal pairs ∷ codes "levels" ∷ decimal depth
    ∷ codes "bound" ∷ decimal (bound_of pairs depth) ∷ []

-- times are printed in picoseconds
abbrev pub period_word : Option ℤ → List ℕ
period_word None = codes "none"
period_word (Some t) = thousandths t

abbrev pub clock_line : Parts → Line
clock_line d = codes "period" ∷ period_word d.period ∷ []

abbrev pub quad_fields : Quad → Line
quad_fields q = thousandths q.tlo ∷ thousandths q.thi ∷ thousandths q.slo ∷ thousandths q.shi ∷ []

-- the least and the greatest window of an edge of a net, or that it never switches
abbrev pub window_line : List ℕ → Edge → Quad → Quad → Line
window_line name e low high =
    if is_live high then
    codes "net" ∷ name ∷ edge_word e ∷ codes "least" ∷ (quad_fields low ++ codes "greatest" ∷ quad_fields high)
    else codes "net" ∷ name ∷ edge_word e ∷ codes "quiet" ∷ []

-- by net, from that number on, and by edge
abbrev pub window_lines : List Pair → List Pair → ℕ → List Net → List Line
window_lines low high n [] = []
window_lines low high n (net ∷ more) =
    window_line net.name Rise (assigned low n Rise) (assigned high n Rise)
    ∷ window_line net.name Fall (assigned low n Fall) (assigned high n Fall)
    ∷ window_lines low high (n + 1) more

-- an input port for which nothing is given
abbrev pub is_unconstrained : Net → Bool
is_unconstrained n = n.input && (not (is_live n.given.rise) && not (is_live n.given.fall))

abbrev pub unconstrained_lines : List Net → List Line
unconstrained_lines [] = []
unconstrained_lines (n ∷ more) =
    if is_unconstrained n then (codes "unconstrained" ∷ n.name ∷ []) ∷ unconstrained_lines more
    else unconstrained_lines more

abbrev pub mark_word : Mark → List ℕ
mark_word No = codes "no"
mark_word Possible = codes "possible"
mark_word Sure = codes "sure"

-- capacitances are printed in femtofarads
abbrev pub coupling_line : Parts → Guilt → Option Coupling → Line
coupling_line d g None = []
coupling_line d g (Some k) =
    codes "guilty" ∷ name_at d g.victim.0 ∷ edge_word g.edge ∷ name_at d k.to.0 ∷ thousandths k.cap
    ∷ codes "fast" ∷ mark_word g.fast ∷ codes "slow" ∷ mark_word g.slow ∷ []

-- the line of an entry: its victim, its edge, its aggressor, the capacitance and the two marks
abbrev pub guilty_line : Parts → Guilt → Line
guilty_line d g = coupling_line d g (coupling_of d g)

-- the line of a peak: its victim, the edge of its aggressors, its size in millionths of the supply, and its moment
abbrev pub peak_line : Parts → Peak → Line
peak_line d p =
    codes "noise" ∷ name_at d p.victim.0 ∷ edge_word p.edge ∷ codes "ppm" ∷ decimal p.ppm
    ∷ codes "at" ∷ thousandths p.moment ∷ []

-- these are the lines of the peaks of the nets, in these greatest windows
abbrev pub IsNoise : Parts → List Pair → List Line → Type 0
IsNoise d high lines =
    (peaks : List Peak) × ArePeaks d (assigned high) 0 d.nets peaks × (lines ≡ map (peak_line d) peaks)

-- the lines on checks, and on the worst of each kind
abbrev pub checked_lines : Parts → Checked → List Line
checked_lines d c = check_lines d c.slacks ++ (worst_lines d c.setup ++ worst_lines d c.hold)

-- ---- the sections of a report

-- what a report of each kind has, in this order; one of the checks alone has no windows and no couplings, and one of
-- noise has peaks alone
abbrev pub sections_of : ReportKind → List Section
sections_of All = section.Windows ∷ section.Unconstrained ∷ section.Guilty ∷ section.Checks ∷ []
sections_of Checks = section.Unconstrained ∷ section.Checks ∷ []
sections_of Noise = section.Noise ∷ []

-- these are the lines of a section, for these least and greatest windows
abbrev pub IsSection : Section → Parts → List Pair → List Pair → List Line → Type 0
IsSection section.Windows d low high lines = lines ≡ window_lines low high 0 d.nets
IsSection section.Unconstrained d low high lines = lines ≡ unconstrained_lines d.nets
IsSection section.Guilty d low high lines = lines ≡ map (guilty_line d) (guilty d low high)
IsSection section.Checks d low high lines =
    (checked : Checked) × IsChecked d low high checked × (lines ≡ checked_lines d checked)
IsSection section.Noise d low high lines = IsNoise d high lines

-- these are the lines of sections, one section after another
abbrev pub AreSections : List Section → Parts → List Pair → List Pair → List Line → Type 0
AreSections [] d low high lines = lines ≡ []
AreSections (first ∷ more) d low high lines =
    (own others : List Line) × IsSection first d low high own × AreSections more d low high others
    × (lines ≡ own ++ others)

-- the lines that every report begins with: the format, the design's size, its period and its Miller numbers
pub record IsHead (d : Parts) (lines : List Line) : Type 0 where
  pub pairs : ℕ
  pub depth : ℕ
  pub is_pairs : IsPairCount d.nets pairs
  pub is_depth : IsDepth d.nets depth
  pub written : lines ≡ title_line ∷ size_line d pairs depth ∷ clock_line d ∷ miller_lines d.miller

abbrev pub end_lines : List Line
end_lines = (codes "end" ∷ []) ∷ []

-- the text is the report of this kind of a design and these least and greatest windows
pub record IsReportOf (kind : ReportKind) (d : Parts) (low high : List Pair) (text : List ℕ) : Type 0 where
  pub head : List Line
  pub sections : List Line
  pub is_head : IsHead d head
  pub are_sections : AreSections (sections_of kind) d low high sections
  pub written : text ≡ text_of (head ++ (sections ++ end_lines))

-- some such lines were appended to a text
abbrev pub Appends : (List Line → Type 0) → List ℕ → List ℕ → Type 0
Appends Are before after = (lines : List Line) × Are lines × (after ≡ before ++ text_of lines)

-- the text is the report of this kind of the design's least and greatest fixpoint
pub record IsReport (kind : ReportKind) (d : Parts) (text : List ℕ) : Type 0 where
  pub low : List Pair
  pub high : List Pair
  pub is_least : IsLeastFixpoint d low
  pub is_greatest : IsGreatestFixpoint d high
  pub written : IsReportOf kind d low high text
