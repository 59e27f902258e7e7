-- The lines on checks, piece by piece.
use Rattle.std.proofs.Common.{◌≡◌, ℕ, ◌<◌, Bool, true, false, not, List, [], ◌∷◌, ◌++◌, length, get_or, codes, append_assoc, append-nil, refl, sym, ap, subst, ◌∙◌, Option, Some, None, ℤ}
use Rattle.std.specs.Prelude.{if◌then◌else◌, IfSome}
use Rattle.std.specs.Option.{IsSomeAnd}
use Rattle.std.specs.List.{All, AllByRecursion, slice_get}
use Rattle.std.proofs.lemmas.Grind.{flat_map-append}
use Rattle.std.proofs.lemmas.List.Elements.{All-from_recursion, All-weaker}
use Rattle.std.proofs.lemmas.Option.{same_Some, slice_get_read, slice_get_within, get_or_from_slice_get}
use Rattle.xt_model.specs.declared.edge.Edge.{Edge}
use Rattle.xt_model.specs.declared.net.NetId.{NetId}
use Rattle.xt_model.specs.declared.net.Net.{Net}
use Rattle.xt_model.specs.declared.check.CheckPoint.{CheckPoint}
use Rattle.xt_model.specs.declared.check.CheckPoint.TheVariants.{Flop, Port}
use Rattle.xt_model.specs.Quads.{is_live, IsLive}
use Rattle.xt_model.specs.Parts.{Parts}
use Rattle.xt_model.specs.Sound.{HasSink, IsSound, IsSoundCheck}
use Rattle.xt_model.specs.Assign.{Assignment}
use Rattle.xt_number.specs.Thousandths.{thousandths}
use Rattle.text_lines.specs.Lines.{Line, line_text, text_of}
use Rattle.text_lines.specs.Words.{edge_word, check_word}
use Rattle.sink_windows.specs.declared.sink.SinkWindow.{SinkWindow}
use Rattle.sink_windows.specs.Sinks.{wire_in, with_wire, sink_window}
use Rattle.slack_report.specs.declared.slack.Slack.{Slack}
use Rattle.slack_report.specs.Points.{data_net, data_number, is_hold, point_name, IsAtPoint}
use Rattle.slack_report.specs.Kinds.{IsWorst}
use Rattle.aggressor_report.specs.declared.path.Path.{Path}
use Rattle.aggressor_report.specs.declared.path.PathStep.{PathStep}
use Rattle.aggressor_report.specs.Passages.{end_of}
use Rattle.aggressor_report.specs.Paths.{IsPath, Lead}
use Rattle.report_text.specs.declared.worst.WorstPath.{WorstPath}
use Rattle.report_text.specs.Checks.{slack_line, check_line}
use Rattle.report_text.specs.Paths.{worst_line, IsOfDesign}
use Rattle.report_text.specs.Worst.{IsWorstOf, IsWorstPath}

-- an element that is read is there
pub item_there : {X : Type 0} (xs read : List X) (n : ℕ) (x : X) → read ≡ xs → n < length xs → x ≡ get_or read n x → slice_get xs n ≡ Some x
item_there xs read n x same within is = slice_get_read xs (length xs) n x refl within (rw same at is)

-- each check of a sound design is sound
pub check_sound : (d : Parts) (read : List CheckPoint) (n : ℕ) (x : CheckPoint) → IsSound d → read ≡ d.checks → n < length d.checks → x ≡ get_or read n x → IsSoundCheck d x
check_sound d read n x s same within is = subst (IsSoundCheck d) (sym (rw same at is)) (s.checks n x within)

-- ---- lines

pub idle_line_is : (name : List ℕ) (hold : Bool) (s : Slack) → s.idle ≡ true
    → line_text (slack_line name hold s) ≡ codes "check" ++ 32 ∷ (name ++ 32 ∷ (edge_word s.edge ++ 32 ∷ (check_word hold ++ 32 ∷ (codes "idle" ++ 10 ∷ []))))
idle_line_is name hold s idle = rw idle refl

pub slacks_line_is : (name : List ℕ) (hold : Bool) (s : Slack) → s.idle ≡ false
    → line_text (slack_line name hold s)
    ≡ codes "check" ++ 32 ∷ (name ++ 32 ∷ (edge_word s.edge ++ 32 ∷ (check_word hold ++ 32 ∷ (thousandths s.greatest ++ 32 ∷ (thousandths s.least ++ 10 ∷ [])))))
slacks_line_is name hold s active = rw active refl

pub check_line_is : (d : Parts) (s : Slack) (p : CheckPoint) (name : List ℕ) (hold : Bool) → slice_get d.checks s.point ≡ Some p → name ≡ point_name p → hold ≡ is_hold p → slack_line name hold s ≡ check_line d s
check_line_is d s p name hold there e f = rw (there, e, f) refl

pub worst_line_is : (d : Parts) (s : Slack) (p : CheckPoint) → slice_get d.checks s.point ≡ Some p
    → line_text (worst_line d s) ≡ codes "path" ++ 32 ∷ (check_word (is_hold p) ++ 32 ∷ (point_name p ++ 32 ∷ (edge_word s.edge ++ 32 ∷ (thousandths s.greatest ++ 10 ∷ []))))
worst_line_is d s p there = rw there refl

-- ---- the wire to a check

some_from : {X : Type 0} (b : Bool) (x y : X) → Some y ≡ (if b then Some x else None) → y ≡ x
some_from true x y h = same_Some y x h
some_from false x y h = absurd cc

none_from : {X : Type 0} (b : Bool) (x : X) → None ≡ (if b then Some x else None) → b ≡ true → ⊥
none_from true x h live = absurd cc
none_from false x h live = absurd cc

pub sink_at : (d : Parts) (W : Assignment) (n : ℕ) (e : Edge) (sink : ℕ) (at : SinkWindow) → Some at ≡ sink_window d W n e sink → at ≡ with_wire (W n e) (wire_in d W n e sink)
sink_at d W n e sink at h = some_from (is_live (W n e)) (with_wire (W n e) (wire_in d W n e sink)) at h

pub sink_there : (d : Parts) (W : Assignment) (n : ℕ) (e : Edge) (sink : ℕ) → None ≡ sink_window d W n e sink → IsLive (W n e) → ⊥
sink_there d W n e sink h live = none_from (is_live (W n e)) (with_wire (W n e) (wire_in d W n e sink)) h live

-- ---- where the data of a check is

pub data_has_sink : (d : Parts) (p : CheckPoint) → IsSoundCheck d p → HasSink d (data_net p).0 (data_number p)
data_has_sink d (Flop name hold datum datum_sink clock clock_sink rise fall) h = h.1
data_has_sink d (Port name hold net sink rise fall) h = h.1

net_from : (d : Parts) (n sink : ℕ) (o : Option Net) → slice_get d.nets n ≡ o → IsSomeAnd o (λ m. sink < length m.sinks) → n < length d.nets
net_from d n sink (Some m) e h = slice_get_within d.nets n m e
net_from d n sink None e h = absurd h

pub data_within : (d : Parts) (p : CheckPoint) → IsSoundCheck d p → (data_net p).0 < length d.nets
data_within d p h = net_from d (data_net p).0 (data_number p) (slice_get d.nets (data_net p).0) refl (data_has_sink d p h)

pub data_switches : (d : Parts) (W : Assignment) (s : Slack) (p : CheckPoint) → IsAtPoint d W s → slice_get d.checks s.point ≡ Some p → s.idle ≡ false → IsLive (W (data_net p).0 s.edge)
data_switches d W s p at there active =
    let same : at.point ≡ p = same_Some at.point p (sym at.there ∙ there) in
    subst (λ (q : CheckPoint). IsLive (W (data_net q).0 s.edge)) same (at.switches active)

-- the worst of the checks is one of them
pub worst_placed : (d : Parts) (W : Assignment) (hold : Bool) (all : List Slack) (i : ℕ) (s : Slack) → All (IsAtPoint d W) all → IsWorst d hold all i s → IsAtPoint d W s
worst_placed d W hold all i s placed w =
    subst (IsAtPoint d W) (get_or_from_slice_get all i s s w.there) (placed i s (slice_get_within all i s w.there))

pub placed_within : (d : Parts) (W : Assignment) (s : Slack) → IsAtPoint d W s → s.point < length d.checks
placed_within d W s at = slice_get_within d.checks s.point at.point at.there

pub all_within : (d : Parts) (W : Assignment) (all : List Slack) → All (IsAtPoint d W) all → All (λ s. s.point < length d.checks) all
all_within d W all placed = All-weaker (IsAtPoint d W) (λ s. s.point < length d.checks) (placed_within d W) all placed

-- ---- all that a path names is in the design

steps_within : (late : Bool) (d : Parts) (W : Assignment) (n : ℕ) (e : Edge) (steps : List PathStep) (m : ℕ) (f : Edge) → Lead late d W n e steps m f → AllByRecursion (λ s. s.net.0 < length d.nets) steps
steps_within late d W n e [] m f h = tt
steps_within late d W n e (s ∷ more) m f h = (slice_get_within d.nets s.net.0 h.0.net h.0.there, steps_within late d W s.net.0 s.edge more m f h.1)

worst_within : (d : Parts) (W : Assignment) (hold : Bool) (all : List Slack) (w : WorstPath) → IsWorstPath d W hold all w → IsOfDesign d w
worst_within d W hold all w h = record {
  point = slice_get_within d.checks w.slack.point h.point h.there;
  source = slice_get_within d.nets w.path.net.0 h.path.source h.path.there;
  steps = All-from_recursion (λ s. s.net.0 < length d.nets) w.path.steps
      (steps_within (not hold) d W w.path.net.0 w.path.edge w.path.steps (data_net h.point).0 w.slack.edge h.path.steps);
}

pub all_of_design : (d : Parts) (W : Assignment) (hold : Bool) (all : List Slack) (o : Option WorstPath) → IsWorstOf d W hold all o → IfSome o (IsOfDesign d)
all_of_design d W hold all None h = tt
all_of_design d W hold all (Some w) h = worst_within d W hold all w h

-- ---- what was found makes a worst path

pub worst_from : (d : Parts) (W : Assignment) (hold : Bool) (all : List Slack) (i : ℕ) (slack : Slack) (p : CheckPoint) (net : NetId) (sink : ℕ) (path : Path) (wire x : ℤ)
    → slice_get d.checks slack.point ≡ Some p → net ≡ data_net p → sink ≡ data_number p → IsPath (not hold) d W net.0 slack.edge path
    → x ≡ end_of (not hold) (wire_in d W net.0 slack.edge sink) → wire ≡ x → IsWorst d hold all i slack
    → IsWorstPath d W hold all (record { slack = slack; path = path; wire = wire })
worst_from d W hold all i slack p net sink path wire x there net_is sink_is leads x_is wire_is worst = record {
  number = i;
  worst = worst;
  point = p;
  there = there;
  path = subst (λ (n : NetId). IsPath (not hold) d W n.0 slack.edge path) net_is leads;
  wire = wire_is ∙ (x_is ∙ (ap (λ (n : NetId). end_of (not hold) (wire_in d W n.0 slack.edge sink)) net_is ∙ ap (λ (k : ℕ). end_of (not hold) (wire_in d W (data_net p).0 slack.edge k)) sink_is));
}

-- ---- lines one after another

lines_end : (ls : List Line) (e : Line) → text_of (ls ++ e ∷ []) ≡ text_of ls ++ line_text e
lines_end [] e = append-nil (line_text e)
lines_end (l ∷ ls) e = ap (λ t. line_text l ++ t) (lines_end ls e) ∙ sym (append_assoc (line_text l) (text_of ls) (line_text e))

pub path_pieces : (o p q r s : List ℕ) (worst source end : Line) (steps : List Line) → p ≡ o ++ line_text worst → q ≡ p ++ line_text source → r ≡ q ++ text_of steps → s ≡ r ++ line_text end
    → s ≡ o ++ text_of (worst ∷ source ∷ (steps ++ end ∷ []))
path_pieces o p q r s worst source end steps e1 e2 e3 e4 =
    let grouped : (((o ++ line_text worst) ++ line_text source) ++ text_of steps) ++ line_text end ≡ o ++ (line_text worst ++ (line_text source ++ (text_of steps ++ line_text end))) = simp append_assoc in
    rw (e4, e3, e2, e1) (grouped ∙ ap (λ t. o ++ (line_text worst ++ (line_text source ++ t))) (sym (lines_end steps end)))

pub checked_pieces : (o p q r : List ℕ) (checks setup hold : List Line) → p ≡ o ++ text_of checks → q ≡ p ++ text_of setup → r ≡ q ++ text_of hold → r ≡ o ++ text_of (checks ++ (setup ++ hold))
checked_pieces o p q r checks setup hold e1 e2 e3 = rw (e3, e2, e1) (simp (flat_map-append, append_assoc))
