-- Windows as shared words: eight numbers of 64 bits for each net, the bounds that they stand for, and the
-- operator at a word.
use Rattle.std.specs.Prelude.{ℕ, ◌+◌, ◌%◌, zero, suc, min, max, ℤ, pos, ◌+ℤ◌, ◌-ℤ◌, unsigned_abs, List, [], ◌∷◌, ◌++◌}
use Rattle.std.specs.List.{slice_index_or}
use Rattle.xt_model.specs.declared.direction.Direction.{Direction}
use Rattle.xt_model.specs.declared.direction.Direction.TheVariants.{Widen, Narrow}
use Rattle.xt_model.specs.declared.quad.Quad.{Quad}
use Rattle.xt_model.specs.declared.quad.Pair.{Pair}
use Rattle.xt_model.specs.Quads.{top_bound}
use Rattle.xt_model.specs.Parts.{Parts}
use Rattle.xt_model.specs.Assign.{words_of, quads_of}
use Rattle.xt_meaning.specs.Operator.{operator}
use Rattle.xt_meaning.specs.Barrier.{IsBoundNoFurther}

-- the bound that a number stands for: 0 to 2^63 stand for the bounds from -2^62 to 2^62
abbrev pub bound_in : ℕ → ℤ
bound_in number = pos number -ℤ top_bound

-- the number of the greatest bound: 2^63
abbrev pub top_number : ℕ
top_number = 9223372036854775808

-- the number that stands for a bound
abbrev pub number_for : ℤ → ℕ
number_for b = unsigned_abs (b +ℤ top_bound)

-- the number in a word of an edge that never switches; words with an even number are low bounds
abbrev pub quiet_number : ℕ → ℕ
quiet_number zero = top_number
quiet_number (suc n) = 0

-- the number in a word; past the last word nothing switches
abbrev pub number_at : List ℕ → ℕ → ℕ
number_at numbers word = slice_index_or numbers word (quiet_number (word % 2))

-- the bound in each word
abbrev pub bounds_in : List ℕ → ℕ → ℤ
bounds_in numbers word = bound_in (number_at numbers word)

abbrev pub quad_numbers : Quad → List ℕ
quad_numbers q = number_for q.tlo ∷ number_for q.thi ∷ number_for q.slo ∷ number_for q.shi ∷ []

-- the words of windows, net by net, rise before fall
abbrev pub numbers_of : List Pair → List ℕ
numbers_of [] = []
numbers_of (p ∷ more) = quad_numbers p.rise ++ (quad_numbers p.fall ++ numbers_of more)

-- what the operator makes of words, at a word
abbrev pub onward : Parts → (ℕ → ℤ) → ℕ → ℤ
onward d f = words_of (operator d (quads_of f))

-- in each word the bound of f is no further than that of g
abbrev pub AreNoFurther : Direction → (ℕ → ℤ) → (ℕ → ℤ) → Type 0
AreNoFurther way f g = (word : ℕ) → IsBoundNoFurther way (word % 2) (f word) (g word)

-- a run in this direction lowers the words of this parity: low bounds in widening, high ones in narrowing
abbrev pub MovesDown : Direction → ℕ → Type 0
MovesDown Widen zero = Unit {0}
MovesDown Widen (suc n) = ⊥
MovesDown Narrow zero = ⊥
MovesDown Narrow (suc n) = Unit {0}

-- and it raises these
abbrev pub MovesUp : Direction → ℕ → Type 0
MovesUp Widen zero = ⊥
MovesUp Widen (suc n) = Unit {0}
MovesUp Narrow zero = Unit {0}
MovesUp Narrow (suc n) = ⊥

-- the further of two numbers of a word of this parity
abbrev pub further : Direction → ℕ → ℕ → ℕ → ℕ
further Widen zero m n = min m n
further Widen (suc s) m n = max m n
further Narrow zero m n = max m n
further Narrow (suc s) m n = min m n

-- word by word the further of two lists of numbers, from this word on
abbrev pub furthest_from : Direction → ℕ → List ℕ → List ℕ → List ℕ
furthest_from way word [] ns = []
furthest_from way word (m ∷ ms) [] = []
furthest_from way word (m ∷ ms) (n ∷ ns) = further way (word % 2) m n ∷ furthest_from way (word + 1) ms ns

abbrev pub furthest : Direction → List ℕ → List ℕ → List ℕ
furthest way ms ns = furthest_from way 0 ms ns
