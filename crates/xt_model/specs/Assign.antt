-- Assignments: one quad for each net and edge; and the same as numbered words.
use Rattle.std.specs.Prelude.{ℕ, ◌+◌, ◌*◌, ◌/◌, ◌%◌, zero, suc, ℤ, List, Option, Some, None}
use Rattle.std.specs.List.{slice_get}
use Rattle.xt_model.specs.declared.edge.Edge.{Edge}
use Rattle.xt_model.specs.declared.edge.Edge.TheVariants.{Rise, Fall}
use Rattle.xt_model.specs.declared.quad.Quad.{Quad}
use Rattle.xt_model.specs.declared.quad.Pair.{Pair}
use Rattle.xt_model.specs.Quads.{bottom, quad_at}

-- a quad for each net number and edge
abbrev pub Assignment : Type 0
Assignment = ℕ → Edge → Quad

-- the quad of an edge of a net, bottom where there is no such net
abbrev pub quad_of_pair : Option Pair → Edge → Quad
quad_of_pair None e = bottom
quad_of_pair (Some p) e = quad_at p e

-- the assignment that a list of windows stands for
abbrev pub assigned : List Pair → Assignment
assigned ps net e = quad_of_pair (slice_get ps net) e

abbrev pub edge_number : Edge → ℕ
edge_number Rise = 0
edge_number Fall = 1

-- bound `side` of a net and edge: sides 0 to 3 are the least time, the greatest time, the least slew and
-- the greatest slew
abbrev pub word_number : ℕ → Edge → ℕ → ℕ
word_number net e side = 8 * net + 4 * edge_number e + side

-- the edge of a word's number divided by four: even is rise
abbrev pub edge_of : ℕ → Edge
edge_of zero = Rise
edge_of (suc n) = Fall

-- one bound of a quad
abbrev pub side_of : Quad → ℕ → ℤ
side_of q zero = q.tlo
side_of q (suc zero) = q.thi
side_of q (suc (suc zero)) = q.slo
side_of q (suc (suc (suc n))) = q.shi

-- the bound in each word
abbrev pub words_of : Assignment → ℕ → ℤ
words_of W word = side_of (W (word / 8) (edge_of (word / 4 % 2))) (word % 4)

-- the assignment that a view of words stands for
abbrev pub quads_of : (ℕ → ℤ) → Assignment
quads_of f net e = record {
  tlo = f (word_number net e 0);
  thi = f (word_number net e 1);
  slo = f (word_number net e 2);
  shi = f (word_number net e 3);
}
