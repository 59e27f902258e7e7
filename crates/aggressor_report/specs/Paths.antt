-- Worst paths: how a window comes to its latest time, or to its earliest, from a source on.
use Rattle.std.specs.Prelude.{◌≡◌, ℕ, ◌<◌, Bool, IsTrue, ℤ, pos, ◌+ℤ◌, List, [], ◌∷◌, length, Some}
use Rattle.std.specs.List.{slice_get}
use Rattle.xt_model.specs.declared.edge.Edge.{Edge}
use Rattle.xt_model.specs.declared.net.TimingArc.{TimingArc}
use Rattle.xt_model.specs.declared.net.Net.{Net}
use Rattle.xt_model.specs.Parts.{Parts}
use Rattle.xt_model.specs.Assign.{Assignment}
use Rattle.xt_meaning.specs.Overlap.{overlap_answers}
use Rattle.xt_meaning.specs.Operator.{Range, load_range, delay_range, arc_box, contributes}
use Rattle.sink_windows.specs.Sinks.{wire_in}
use Rattle.aggressor_report.specs.declared.path.PathStep.{PathStep}
use Rattle.aggressor_report.specs.declared.path.Path.{Path}
use Rattle.aggressor_report.specs.Passages.{bound_of, end_of}

-- the delay of the wire before an arc: the greatest on the latest path, the least on the earliest
abbrev pub arc_wire : Bool → Parts → Assignment → TimingArc → ℤ
arc_wire late d W a = end_of late (wire_in d W a.from.0 a.input a.sink)

-- the loads of net number n, which is `net`, at edge e
abbrev pub loads_in : Parts → Assignment → ℕ → Edge → Net → Range
loads_in d W n e net = load_range d.miller (overlap_answers d.period W) n e net

-- the delay of an arc into that edge, over the slews at its input by these loads
abbrev pub arc_delay : Bool → Parts → Assignment → ℕ → Edge → Net → TimingArc → ℤ
arc_delay late d W n e net a =
    end_of late
    (delay_range
    (slice_get d.tables a.delay)
    (arc_box (W a.from.0 a.input) (wire_in d W a.from.0 a.input a.sink) (loads_in d W n e net)))

-- an arc gives the bound of an edge of net number n, which is `net`: it drives the edge, its input can switch, and the
-- bound there, the wire and the arc add up to the bound
pub record Gives (late : Bool) (d : Parts) (W : Assignment)
    (n : ℕ) (e : Edge) (net : Net) (a : TimingArc) : Type 0 where
  pub drives : IsTrue (contributes W e a)
  pub sum : ((bound_of late (W a.from.0 a.input) +ℤ arc_wire late d W a) +ℤ arc_delay late d W n e net a)
      ≡ bound_of late (W n e)

-- some arc of net number n gives the bound of its edge e
pub record IsGiven (late : Bool) (d : Parts) (W : Assignment) (n : ℕ) (e : Edge) : Type 0 where
  pub net : Net
  pub arc : TimingArc
  pub number : ℕ
  pub there : slice_get d.nets n ≡ Some net
  pub arc_at : slice_get net.arcs number ≡ Some arc
  pub gives : Gives late d W n e net arc

-- a step from an edge of a net: it takes the first arc in the list of its own net that gives its edge's bound, and that
-- arc comes from there
pub record IsStep (late : Bool) (d : Parts) (W : Assignment) (from : ℕ) (input : Edge) (s : PathStep) : Type 0 where
  pub net : Net
  pub arc : TimingArc
  pub there : slice_get d.nets s.net.0 ≡ Some net
  pub arc_at : slice_get net.arcs s.arc ≡ Some arc
  pub comes_from : arc.from.0 ≡ from
  pub comes_at : arc.input ≡ input
  pub gives : Gives late d W s.net.0 s.edge net arc
  pub first : (i : ℕ) (b : TimingArc) → i < s.arc → slice_get net.arcs i ≡ Some b
      → Gives late d W s.net.0 s.edge net b → ⊥
  pub wire : s.wire ≡ arc_wire late d W arc
  pub delay : s.delay ≡ arc_delay late d W s.net.0 s.edge net arc

-- steps that lead from edge e of net n to edge f of net m, each from where the one before ends
abbrev pub Lead : Bool → Parts → Assignment → ℕ → Edge → List PathStep → ℕ → Edge → Type 0
Lead late d W n e [] m f = (n ≡ m) × (e ≡ f)
Lead late d W n e (s ∷ more) m f = IsStep late d W n e s × Lead late d W s.net.0 s.edge more m f

-- a path to edge f of net m: from a source, at the bound of its window
pub record IsPath (late : Bool) (d : Parts) (W : Assignment) (m : ℕ) (f : Edge) (p : Path) : Type 0 where
  pub source : Net
  pub there : slice_get d.nets p.net.0 ≡ Some source
  pub is_source : length source.arcs ≡ 0
  pub time : p.time ≡ bound_of late (W p.net.0 p.edge)
  pub steps : Lead late d W p.net.0 p.edge p.steps m f

-- the delays of all wires and arcs of a path together
abbrev pub total : List PathStep → ℤ
total [] = pos 0
total (s ∷ more) = (s.wire +ℤ s.delay) +ℤ total more
