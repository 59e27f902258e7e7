-- A round of one worker, turn by turn.
use Rattle.std.specs.Prelude.{ℕ, ◌+◌, ◌*◌, ◌%◌, zero, suc, List, [], ◌∷◌, slice_set}
use Rattle.xt_model.specs.declared.direction.Direction.{Direction}
use Rattle.xt_model.specs.declared.edge.Edge.TheVariants.{Rise, Fall}
use Rattle.xt_model.specs.declared.net.NetId.{NetId}
use Rattle.xt_model.specs.declared.quad.Pair.{Pair}
use Rattle.xt_model.specs.Parts.{Parts}
use Rattle.xt_model.specs.Assign.{quads_of}
use Rattle.xt_meaning.specs.Operator.{operator}
use Rattle.xt_meaning.specs.Words.{number_for, number_at, bounds_in, further}
use Rattle.chaos_core.specs.declared.setting.Setting.{Setting}
use Rattle.chaos_core.specs.Tasks.{Task, idle, bound_at}
use Rattle.chaos_core.specs.Machine.{State}
use Rattle.chaos_core.specs.Rounds.{ArePicks, Pause}

-- what the operator makes of words at a net
abbrev pub made_of : Parts → List ℕ → ℕ → Pair
made_of d words net = record {
  rise = operator d (quads_of (bounds_in words)) net Rise;
  fall = operator d (quads_of (bounds_in words)) net Fall;
}

-- words after one of the eight words of a net was published
abbrev pub with_published : Direction → ℕ → Pair → List ℕ → ℕ → List ℕ
with_published way net pair words place =
    slice_set words (8 * net + place)
    (further way ((8 * net + place) % 2) (number_at words (8 * net + place)) (number_for (bound_at pair place)))

-- words after so many of them were published
abbrev pub published : Direction → ℕ → Pair → List ℕ → ℕ → List ℕ
published way net pair words zero = words
published way net pair words (suc n) = with_published way net pair (published way net pair words n) n

-- words, the number that is drawn next, and what the only worker is at
abbrev pub only_at : ℕ → List ℕ → Task → State
only_at next words t = record { words = words; next = next; tasks = t ∷ [] }

-- a turn: picks of the only worker from when it draws this place until it is idle again
pub record IsTurn (a : Setting) (lists : List (List NetId)) (order : List ℕ) (place : ℕ) (p q : Pause) : Type 0 where
  pub count : ℕ
  pub picks : ArePicks a lists order count
      (record { source = p.source; state = only_at place p.words idle })
      (record { source = q.source; state = only_at (place + 1) q.words idle })
