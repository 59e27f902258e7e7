-- Words of a design without nets: the operator gives them back.
use Rattle.std.proofs.Common.{◌≡◌, ℕ, ◌*◌, ◌/◌, ◌%◌, ◌<◌, inl, inr, sym, ap, subst, ◌∙◌, List, length, ℤ, arith}
use Rattle.std.proofs.lemmas.Bool.{cases_lt}
use Rattle.xt_model.specs.declared.direction.Direction.{Direction}
use Rattle.xt_model.specs.declared.quad.Quad.{Quad}
use Rattle.xt_model.specs.Quads.{bottom}
use Rattle.xt_model.specs.Parts.{Parts}
use Rattle.xt_model.specs.Assign.{edge_of, side_of, quads_of}
use Rattle.xt_meaning.specs.Overlap.{overlap_answers}
use Rattle.xt_meaning.specs.Operator.{operator}
use Rattle.xt_meaning.specs.Barrier.{IsBoundNoFurther}
use Rattle.xt_meaning.specs.Words.{bounds_in, onward, AreNoFurther}
use Rattle.xt_meaning.proofs.Existence.{past_bottom}
use Rattle.xt_meaning.proofs.Steps.{bound_refl}
use Rattle.xt_meaning.proofs.Numbers.{words_of_quads}
use Rattle.chaos_core.specs.declared.setting.Setting.{Setting}
use Rattle.chaos_core.specs.Memories.{AreKept}
use Rattle.chaos_core.specs.Rounds.{AreClosed}
use Rattle.chaos_core.proofs.Chained.{outside_quad}

-- the operator gives each word back, where there is no net
nothing_moves : (d : Parts) (words : List ℕ) → length words ≡ 8 * length d.nets → length d.nets ≡ 0 → (word : ℕ) → bounds_in words word ≡ onward d (bounds_in words) word
nothing_moves d words count none word =
    let f = bounds_in words in
    let n = word / 8 in
    let e = edge_of (word / 4 % 2) in
    let here : quads_of f n e ≡ bottom = outside_quad words n e (omega (arith, count, none)) in
    let there : operator d (quads_of f) n e ≡ bottom = past_bottom d (overlap_answers d.period (quads_of f)) (quads_of f) n e (omega (arith, none)) in
    sym (words_of_quads f word) ∙ ap (λ (q : Quad). side_of q (word % 4)) (here ∙ sym there)

pub nothing_further : (way : Direction) (d : Parts) (words : List ℕ) → length words ≡ 8 * length d.nets → length d.nets ≡ 0 → AreNoFurther way (bounds_in words) (onward d (bounds_in words))
nothing_further way d words count none word =
    let f = bounds_in words in
    let P : ℤ → Type 0 = λ b. IsBoundNoFurther way (word % 2) (f word) b in
    subst P (nothing_moves d words count none word) (bound_refl way (word % 2) (f word))

-- words of a board without nets are closed
pub nothing_closed : (d : Parts) (words : List ℕ) → length words ≡ 8 * length d.nets → length d.nets ≡ 0 → AreClosed d words
nothing_closed d words count none = record { each = λ word. sym (nothing_moves d words count none word) }

-- where words are not closed, there are nets
pub some_nets : (a : Setting) (d : Parts) (words : List ℕ) → a.design ≡ d → AreKept a words → (AreClosed d words → ⊥) → 0 < length d.nets
some_nets a d words own kept open_words = elim (cases_lt 0 (length d.nets)) [
  | inl some ↦ some
  | inr none ↦
      let count : length words ≡ 8 * length d.nets = subst (λ (x : Parts). length words ≡ 8 * length x.nets) own kept.seen.count in
      absurd (open_words (nothing_closed d words count (omega (arith, none))))
]
