-- The pieces of a report.
use Rattle.std.specs.Prelude.{◌≡◌, ℕ, ◌+◌, ◌*◌, ◌^◌, ◌≤◌, pos, neg_ℤ, ◌+ℤ◌, ◌≤ℤ◌, if◌then◌else◌}
use Rattle.std.specs.Prelude.{List, [], ◌∷◌, ◌++◌, length, map, take, drop, codes}
use Rattle.std.specs.List.{filter}
use Rattle.xt_model.specs.Limits.{most_couplings}
use Rattle.xt_model.specs.declared.edge.Edge.TheVariants.{Rise, Fall}
use Rattle.xt_model.specs.declared.quad.Pair.{Pair}
use Rattle.xt_model.specs.declared.net.Net.{Net}
use Rattle.xt_model.specs.Parts.{Parts}
use Rattle.xt_model.specs.Assign.{assigned}
use Rattle.aggressor_report.specs.Entries.{guilty_among}
use Rattle.text_lines.specs.Lines.{line_text}
use Rattle.report_text.specs.declared.edge_windows.EdgeWindows.{EdgeWindows}
use Rattle.report_text.specs.declared.tally.Tally.{Tally}
use Rattle.report_text.specs.Summary.{can_switch, edge_windows, is_wider, total_width}
use Rattle.report_text.specs.Report.{window_line, is_unconstrained}

-- the two lines of the windows of the net of this number
abbrev pub windows_text : List Pair → List Pair → ℕ → Net → List ℕ
windows_text low high n net =
    line_text (window_line net.name Rise (assigned low n Rise) (assigned high n Rise))
    ++ line_text (window_line net.name Fall (assigned low n Fall) (assigned high n Fall))

-- the line of a net that is unconstrained; another net has none
abbrev pub unconstrained_text : Net → List ℕ
unconstrained_text net = if is_unconstrained net then line_text (codes "unconstrained" ∷ net.name ∷ []) else []

-- an edge that can switch; another is left out
abbrev pub switching : EdgeWindows → List EdgeWindows
switching w = if can_switch w then w ∷ [] else []

-- the edges that can switch, of the nets from number `from` to before number `to`
abbrev pub live_among : List Pair → List Pair → ℕ → ℕ → List Net → List EdgeWindows
live_among low high from to nets = filter can_switch (edge_windows low high from (drop from (take to nets)))

-- the tally is of these edges that can switch, and of this many couplings that matter
pub record IsTally (edges : List EdgeWindows) (couplings : ℕ) (t : Tally) : Type 0 where
  pub live : t.live ≡ length edges
  pub wider : t.wider ≡ length (filter is_wider edges)
  pub guilty : t.guilty ≡ couplings
  pub least : t.least ≡ total_width (map (λ w. w.low) edges)
  pub greatest : t.greatest ≡ total_width (map (λ w. w.high) edges)

-- the tally is of the nets from number `from` to before number `to`
abbrev pub IsTallyAmong : Parts → List Pair → List Pair → ℕ → ℕ → Tally → Type 0
IsTallyAmong d low high from to t =
    IsTally (live_among low high from to d.nets) (length (guilty_among d low high from to)) t

-- the third tally counts what the first and the second count
pub record IsSum (a b c : Tally) : Type 0 where
  pub live : c.live ≡ a.live + b.live
  pub wider : c.wider ≡ a.wider + b.wider
  pub guilty : c.guilty ≡ a.guilty + b.guilty
  pub least : c.least ≡ a.least +ℤ b.least
  pub greatest : c.greatest ≡ a.greatest +ℤ b.greatest

-- the tally is no more than one of this many edges can be
pub record IsAtMost (edges : ℕ) (t : Tally) : Type 0 where
  pub live : t.live ≤ edges
  pub wider : t.wider ≤ edges
  pub guilty : t.guilty ≤ most_couplings * edges
  pub least_low : neg_ℤ (pos (2 ^ 64 * edges)) ≤ℤ t.least
  pub least_high : t.least ≤ℤ pos (2 ^ 64 * edges)
  pub greatest_low : neg_ℤ (pos (2 ^ 64 * edges)) ≤ℤ t.greatest
  pub greatest_high : t.greatest ≤ℤ pos (2 ^ 64 * edges)
