-- A design has one report of each kind at most, and one summary.
use Rattle.std.proofs.Common.{◌≡◌, ℕ, refl, sym, ap, subst, ◌∙◌, Bool, true, false, not, List, [], ◌∷◌, ◌++◌, map, Option, Some, None, ℤ}
use Rattle.std.specs.List.{slice_get}
use Rattle.std.proofs.lemmas.Option.{same_Some}
use Rattle.xt_model.specs.declared.edge.Edge.{Edge}
use Rattle.xt_model.specs.declared.quad.Pair.{Pair}
use Rattle.xt_model.specs.declared.check.CheckPoint.{CheckPoint}
use Rattle.xt_model.specs.Parts.{Parts}
use Rattle.xt_model.specs.Assign.{Assignment, assigned}
use Rattle.xt_model.proofs.PairLaws.{pair_counts_are_one}
use Rattle.xt_meaning.proofs.Extremes.{least_unique, greatest_unique}
use Rattle.text_lines.specs.Lines.{Line, text_of}
use Rattle.text_lines.specs.Miller.{miller_lines}
use Rattle.glitch_noise.proofs.Lists.{one_list}
use Rattle.sink_windows.specs.Sinks.{wire_in}
use Rattle.slack_report.specs.declared.slack.Slack.{Slack}
use Rattle.slack_report.specs.Points.{data_net, data_number}
use Rattle.slack_report.proofs.OneWorst.{one_worst, none_or_worst}
use Rattle.aggressor_report.specs.declared.path.Path.{Path}
use Rattle.aggressor_report.specs.Passages.{end_of}
use Rattle.aggressor_report.specs.Paths.{IsPath}
use Rattle.aggressor_report.proofs.OnePath.{one_path}
use Rattle.report_kind.specs.declared.kind.ReportKind.{ReportKind}
use Rattle.report_text.specs.declared.worst.WorstPath.{WorstPath}
use Rattle.report_text.specs.declared.checked.Checked.{Checked}
use Rattle.report_text.specs.declared.sections.Section.{Section}
use Rattle.report_text.specs.declared.sections.Section.TheVariants as section
use Rattle.report_text.specs.Worst.{IsWorstPath, IsWorstOf, IsChecked}
use Rattle.report_text.specs.Report.{title_line, size_line, clock_line, peak_line, checked_lines, end_lines, sections_of, IsSection, AreSections, IsHead, IsReportOf, IsReport}
use Rattle.report_text.specs.Summary.{IsSummary, summary}
use Rattle.report_text.proofs.Bound.{depth_is_one}

-- ---- checks
same_worst : (v w : WorstPath) → v.slack ≡ w.slack → v.path ≡ w.path → v.wire ≡ w.wire → v ≡ w
same_worst v w s p x =
    let made : Slack → Path → ℤ → WorstPath = λ slack path wire. record { slack = slack; path = path; wire = wire } in
    let e : made v.slack v.path v.wire ≡ made w.slack w.path w.wire = rw (s, p, x) refl in
    e

same_checked : (b c : Checked) → b.slacks ≡ c.slacks → b.setup ≡ c.setup → b.hold ≡ c.hold → b ≡ c
same_checked b c s p h =
    let made : List Slack → Option WorstPath → Option WorstPath → Checked = λ slacks setup hold. record { slacks = slacks; setup = setup; hold = hold } in
    let e : made b.slacks b.setup b.hold ≡ made c.slacks c.setup c.hold = rw (s, p, h) refl in
    e

module _ (d : Parts) (W : Assignment) (hold : Bool) (all : List Slack) where
  -- what is asked of a worst path, by its check point and its edge
  record IsPathAt (point : CheckPoint) (e : Edge) (w : WorstPath) : Type 0 where
    path : IsPath (not hold) d W (data_net point).0 e w.path
    wire : w.wire ≡ end_of (not hold) (wire_in d W (data_net point).0 e (data_number point))

  one_worst_path : (v w : WorstPath) → IsWorstPath d W hold all v → IsWorstPath d W hold all w → v ≡ w
  one_worst_path v w a b =
      let slack : v.slack ≡ w.slack = one_worst d hold all a.number b.number v.slack w.slack a.worst b.worst in
      let point : a.point ≡ b.point = same_Some a.point b.point (sym a.there ∙ (ap (λ s. slice_get d.checks s.point) slack ∙ b.there)) in
      let P : CheckPoint → Type 0 = λ p. IsPathAt p v.slack.edge v in
      let Q : Slack → Type 0 = λ s. IsPathAt b.point s.edge v in
      let here : IsPathAt b.point w.slack.edge v = subst Q slack (subst P point (record { path = a.path; wire = a.wire })) in
      same_worst v w slack (one_path (not hold) d W (data_net b.point).0 w.slack.edge v.path w.path here.path b.path) (here.wire ∙ sym b.wire)

  one_worst_of : (o p : Option WorstPath) → IsWorstOf d W hold all o → IsWorstOf d W hold all p → o ≡ p
  one_worst_of None None a b = refl
  one_worst_of None (Some w) a b = absurd (none_or_worst d hold all b.number w.slack a b.worst)
  one_worst_of (Some v) None a b = absurd (none_or_worst d hold all a.number v.slack b a.worst)
  one_worst_of (Some v) (Some w) a b = ap Some (one_worst_path v w a b)

module _ (d : Parts) (low high : List Pair) where
  pub one_checked : (b c : Checked) → IsChecked d low high b → IsChecked d low high c → b ≡ c
  one_checked b c x y =
      let slacks : b.slacks ≡ c.slacks = x.slacks ∙ sym y.slacks in
      let Of : Bool → Option WorstPath → List Slack → Type 0 = λ hold o all. IsWorstOf d (assigned high) hold all o in
      let setup = one_worst_of d (assigned high) false c.slacks b.setup c.setup (subst (Of false b.setup) slacks x.setup) y.setup in
      let hold = one_worst_of d (assigned high) true c.slacks b.hold c.hold (subst (Of true b.hold) slacks x.hold) y.hold in
      same_checked b c slacks setup hold

  -- ---- sections
  one_section : (s : Section) (a b : List Line) → IsSection s d low high a → IsSection s d low high b → a ≡ b
  one_section section.Windows a b x y = x ∙ sym y
  one_section section.Unconstrained a b x y = x ∙ sym y
  one_section section.Guilty a b x y = x ∙ sym y
  one_section section.Checks a b x y = x.2 ∙ (ap (checked_lines d) (one_checked x.0 y.0 x.1 y.1) ∙ sym y.2)
  one_section section.Noise a b x y = x.2 ∙ (ap (map (peak_line d)) (one_list d (assigned high) 0 d.nets x.0 y.0 x.1 y.1) ∙ sym y.2)

  one_sections : (ss : List Section) (a b : List Line) → AreSections ss d low high a → AreSections ss d low high b → a ≡ b
  one_sections [] a b x y = x ∙ sym y
  one_sections (s ∷ more) a b (own, others, is, are, x) (own2, others2, is2, are2, y) =
      x ∙ (ap (λ o. o ++ others) (one_section s own own2 is is2) ∙ (ap (λ o. own2 ++ o) (one_sections more others others2 are are2) ∙ sym y))

one_head : (d : Parts) (a b : List Line) → IsHead d a → IsHead d b → a ≡ b
one_head d a b x y =
    let pairs : x.pairs ≡ y.pairs = pair_counts_are_one d.nets x.pairs y.pairs x.is_pairs y.is_pairs in
    let depth : x.depth ≡ y.depth = depth_is_one d.nets x.depth y.depth x.is_depth y.is_depth in
    let head : ℕ → ℕ → List Line = λ p l. title_line ∷ size_line d p l ∷ clock_line d ∷ miller_lines d.miller in
    x.written ∙ (ap (λ p. head p x.depth) pairs ∙ (ap (head y.pairs) depth ∙ sym y.written))

pub one_report_of : (kind : ReportKind) (d : Parts) (low high : List Pair) (a b : List ℕ) → IsReportOf kind d low high a → IsReportOf kind d low high b → a ≡ b
one_report_of kind d low high a b x y =
    let head : x.head ≡ y.head = one_head d x.head y.head x.is_head y.is_head in
    let sections : x.sections ≡ y.sections = one_sections d low high (sections_of kind) x.sections y.sections x.are_sections y.are_sections in
    x.written ∙ (ap (λ h. text_of (h ++ (x.sections ++ end_lines))) head ∙ (ap (λ s. text_of (y.head ++ (s ++ end_lines))) sections ∙ sym y.written))

pub one_report : (kind : ReportKind) (d : Parts) (a b : List ℕ) → IsReport kind d a → IsReport kind d b → a ≡ b
one_report kind d a b x y =
    let low : x.low ≡ y.low = least_unique d x.low y.low x.is_least y.is_least in
    let high : x.high ≡ y.high = greatest_unique d x.high y.high x.is_greatest y.is_greatest in
    let P : List Pair → Type 0 = λ l. IsReportOf kind d l x.high a in
    let Q : List Pair → Type 0 = λ h. IsReportOf kind d y.low h a in
    one_report_of kind d y.low y.high a b (subst Q high (subst P low x.written)) y.written

pub one_summary : (d : Parts) (a b : List ℕ) → IsSummary d a → IsSummary d b → a ≡ b
one_summary d a b x y =
    let low : x.low ≡ y.low = least_unique d x.low y.low x.is_least y.is_least in
    let high : x.high ≡ y.high = greatest_unique d x.high y.high x.is_greatest y.is_greatest in
    let pairs : x.pairs ≡ y.pairs = pair_counts_are_one d.nets x.pairs y.pairs x.is_pairs y.is_pairs in
    let depth : x.depth ≡ y.depth = depth_is_one d.nets x.depth y.depth x.is_depth y.is_depth in
    let one : text_of (summary d x.pairs x.depth x.low x.high) ≡ text_of (summary d y.pairs y.depth x.low x.high) =
    ap (λ p. text_of (summary d p x.depth x.low x.high)) pairs ∙ ap (λ l. text_of (summary d y.pairs l x.low x.high)) depth in
    let two : text_of (summary d y.pairs y.depth x.low x.high) ≡ text_of (summary d y.pairs y.depth y.low y.high) =
    ap (λ l. text_of (summary d y.pairs y.depth l x.high)) low ∙ ap (λ h. text_of (summary d y.pairs y.depth y.low h)) high in
    x.written ∙ (one ∙ (two ∙ sym y.written))
