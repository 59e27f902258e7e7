-- The numbers of nodes by the numbers of their names.
use Rattle.std.specs.Prelude.{◌≡◌, ℕ, ◌<◌, ◌≤◌, ◌^◌, ◌==◌, List, [], ◌∷◌, ◌++◌, length, map, position}
use Rattle.std.specs.Prelude.{Option, Some, None, if◌then◌else◌}
use Rattle.std.specs.List.{All, slice_get}
use Rattle.std.specs.Str.{bytes_eq}
use Rattle.name_numbers.specs.Names.{Text}
use Rattle.name_parts.specs.Own.{HaveOwnNumbers}
use Rattle.xt_model.specs.Names.{IsName}
use Rattle.spef_read.specs.declared.parasitics.Parasitics.{Parasitics}
use Rattle.link_wires.specs.declared.marks.Mark.{Mark}

-- parasitics, and the names of the nodes of a net in order
pub record NodesOf : Type 0 where
  pub parasitics : Parasitics
  pub list : List Text

-- the number that a mark gives in a turn: none where it is of another turn
abbrev pub mark_of : ℕ → Option Mark → Option ℕ
mark_of turn None = None
mark_of turn (Some mark) = if mark.turn == turn then Some mark.number else None

-- in this turn, which is the last, each of these names has the number of the first node of this name
pub record AreMarks (names nodes : List Text) (turn : ℕ) (marks : List Mark) : Type 0 where
  pub count : length marks ≡ length names
  pub turns : All (λ m. m.turn ≤ turn) marks
  pub each : (k : ℕ) (name : Text) → slice_get names k ≡ Some name
      → mark_of turn (slice_get marks k) ≡ position (bytes_eq name) nodes

-- with one node more the marks are right, where they are without it
pub record MarksOneMore (names : List Text) (turn number : ℕ) (name : Text) (old new : List Mark) : Type 0 where
  pub more : (nodes : List Text) → length nodes ≡ number → AreMarks names nodes turn old
      → AreMarks names (nodes ++ name ∷ []) turn new

-- the names of nodes, each with the number of the first node of this name
pub record AreNodes (p : Parasitics) (nodes : List Text) (turn : ℕ) (marks : List Mark) : Type 0 where
  pub names : All IsName nodes
  pub few : length nodes < 2 ^ 32
  pub own : HaveOwnNumbers (map (λ e. e.0) p.names)
  pub marked : AreMarks (map (λ e. e.0) p.names) nodes turn marks
