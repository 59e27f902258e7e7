-- The envelope: the windows where everything overlaps, and the limits that it has to keep.
use Rattle.std.specs.Prelude.{◌≡◌, ℕ, zero, suc, Bool, not, ◌&&◌, if◌then◌else◌, ℤ, neg_ℤ, ◌+ℤ◌, int_le, List, []}
use Rattle.std.specs.Prelude.{◌∷◌, ◌++◌, length, map, Option, Some, None}
use Rattle.std.specs.List.{slice_get, find, flat_map, AllPass}
use Rattle.xt_model.specs.declared.edge.Edge.{Edge}
use Rattle.xt_model.specs.declared.edge.Edge.TheVariants.{Rise, Fall}
use Rattle.xt_model.specs.declared.quad.Quad.{Quad}
use Rattle.xt_model.specs.declared.quad.Pair.{Pair}
use Rattle.xt_model.specs.declared.net.Net.{Net}
use Rattle.xt_model.specs.Quads.{is_live}
use Rattle.xt_model.specs.Limits.{most_time, most_slew}
use Rattle.xt_model.specs.Miller.{MillerNumbers}
use Rattle.xt_model.specs.Parts.{Parts}
use Rattle.xt_model.specs.Assign.{assigned}
use Rattle.xt_meaning.specs.Wires.{wire_delay, slew_growth}
use Rattle.xt_meaning.specs.Overlap.{Answers, all_overlap}
use Rattle.xt_meaning.specs.Operator.{operator_by}
use Rattle.xt_meaning.specs.Fixpoint.{IsWindows}

-- windows that the operator gives back under these overlap answers; their bounds may be beyond what words can
-- hold
pub record IsFixedBy (d : Parts) (b : Answers) (w : List Pair) : Type 0 where
  pub count : length w ≡ length d.nets
  pub fixed : (n : ℕ) (e : Edge) → operator_by d b (assigned w) n e ≡ assigned w n e

-- those where every pair of windows overlaps
abbrev pub IsWidest : Parts → List Pair → Type 0
IsWidest d w = IsFixedBy d all_overlap w

-- the same with bounds that words can hold
pub record IsEnvelope (d : Parts) (w : List Pair) : Type 0 where
  pub windows : IsWindows d w
  pub widest : IsWidest d w

-- a quantity of a net that has a limit: a time, or a slew
pub data Test : Type 0 where
  TimeAt : ℕ → ℤ → Test
  SlewAt : ℕ → ℤ → Test

-- a time is at most 2^46 fs in size, and a slew at most 2^40 fs
abbrev pub keeps : Test → Bool
keeps (TimeAt n t) = int_le (neg_ℤ most_time) t && int_le t most_time
keeps (SlewAt n s) = int_le s most_slew

-- the delay to a sink with every coupling at its highest factor
abbrev pub greatest_wire : MillerNumbers → Net → ℕ → ℤ
greatest_wire m net sink = wire_delay (map (λ k. m.high) net.couplings) net sink

-- the latest arrival at a sink, and the greatest slew there
abbrev pub sink_tests : MillerNumbers → ℕ → Net → Quad → ℕ → List Test
sink_tests m n net q sink =
    TimeAt n (q.thi +ℤ greatest_wire m net sink) ∷ SlewAt n (q.shi +ℤ slew_growth (greatest_wire m net sink)) ∷ []

-- those of the sinks below a number, in order
abbrev pub all_sink_tests : MillerNumbers → ℕ → Net → Quad → ℕ → List Test
all_sink_tests m n net q zero = []
all_sink_tests m n net q (suc sinks) = all_sink_tests m n net q sinks ++ sink_tests m n net q sinks

-- what has a limit in a live window of net number n
abbrev pub quad_tests : MillerNumbers → ℕ → Net → Quad → List Test
quad_tests m n net q =
    if is_live q then TimeAt n q.tlo ∷ TimeAt n q.thi ∷ SlewAt n q.shi ∷ all_sink_tests m n net q (length net.sinks)
    else []

abbrev pub tests_of : MillerNumbers → List Pair → ℕ → Option Net → List Test
tests_of m w n None = []
tests_of m w n (Some net) = quad_tests m n net (assigned w n Rise) ++ quad_tests m n net (assigned w n Fall)

abbrev pub net_tests : Parts → List Pair → ℕ → List Test
net_tests d w n = tests_of d.miller w n (slice_get d.nets n)

-- no window passes a limit
pub record IsAccepted (d : Parts) (w : List Pair) : Type 0 where
  pub each : (n : ℕ) → AllPass keeps (net_tests d w n)

-- the first of these quantities that passes its limit
abbrev pub first_over : List Test → Option Test
first_over ts = find (λ t. not (keeps t)) ts

-- the first limit that is passed, with the nets in this order
abbrev pub first_passed : Parts → List Pair → List ℕ → Option Test
first_passed d w order = first_over (flat_map (net_tests d w) order)
