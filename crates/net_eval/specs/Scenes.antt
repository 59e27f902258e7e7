-- What an evaluation reads.
use Rattle.std.specs.Prelude.{◌≡◌, ℕ, ℤ, List, Some}
use Rattle.std.specs.List.{All, slice_get}
use Rattle.xt_model.specs.declared.edge.Edge.{Edge}
use Rattle.xt_model.specs.declared.edge.Edge.TheVariants.{Rise, Fall}
use Rattle.xt_model.specs.declared.quad.Pair.{Pair}
use Rattle.xt_model.specs.declared.net.Net.{Net}
use Rattle.xt_model.specs.declared.net.TimingArc.{TimingArc}
use Rattle.xt_model.specs.Miller.{IsMiller}
use Rattle.xt_model.specs.Parts.{Parts}
use Rattle.xt_model.specs.Sound.{IsSoundArc, IsSoundNet}
use Rattle.xt_model.specs.Assign.{Assignment, quads_of}
use Rattle.xt_meaning.specs.Overlap.{Answers}
use Rattle.xt_meaning.specs.Operator.{operator_by}
use Rattle.xt_meaning.specs.Reads.{HoldsOfReads}
use Rattle.miller_bits.specs.declared.overlaps.Overlaps.{Overlaps}
use Rattle.miller_bits.specs.Views.{HasNet, HasVictim, answers_by}
use Rattle.table_box.specs.Groups.{AreGroups}
use Rattle.net_eval.specs.Room.{FitsAtInput}

-- a design, the window of each edge of each net, and whether two of them overlap
pub record Scene : Type 0 where
  pub design : Parts
  pub answers : Answers
  pub windows : Assignment

-- what a view of words stands for, with the overlaps that count
abbrev pub scene_of : Overlaps → Parts → (ℕ → ℤ) → Scene
scene_of o d f = record { design = d; answers = answers_by o d f; windows = quads_of f }

-- what the operator makes of it
abbrev pub operator_in : Scene → Assignment
operator_in s = operator_by s.design s.answers s.windows

-- that of one net
abbrev pub pair_in : Scene → ℕ → Pair
pair_in s n = record { rise = operator_in s n Rise; fall = operator_in s n Fall }

-- an arc whose references lead somewhere, whose words are there at both edges of its input, and whose input window,
-- where it is live, fits the wire before the arc
pub record IsReady (has : ℕ → Type 0) (s : Scene) (a : TimingArc) : Type 0 where
  pub sound : IsSoundArc s.design a
  pub words : (e : Edge) → HasVictim has s.design a.from.0 e
  pub room : FitsAtInput s.design s.answers s.windows a

-- net number n, which is `net`, can be evaluated with these groups of tables: the words that are read for it are there,
-- and its arcs are ready
pub record IsReadyNet (has : ℕ → Type 0) (s : Scene) (groups : List ℕ) (n : ℕ) (net : Net) : Type 0 where
  pub there : slice_get s.design.nets n ≡ Some net
  pub sound : IsSoundNet s.design n net
  pub miller : IsMiller s.design.miller
  pub grouped : AreGroups s.design.tables groups
  pub words : HoldsOfReads (HasNet has) s.design n
  pub arcs : All (IsReady has s) net.arcs
