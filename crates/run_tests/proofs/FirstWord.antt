-- What the operator makes of the first word of windows.
use Rattle.std.proofs.Common.{◌≡◌, ℕ, sym, ap, subst, ◌∙◌, List, ℤ}
use Rattle.xt_model.specs.declared.direction.Direction.TheVariants.{Widen}
use Rattle.xt_model.specs.declared.edge.Edge.TheVariants.{Rise}
use Rattle.xt_model.specs.declared.quad.Quad.{Quad}
use Rattle.xt_model.specs.declared.quad.Pair.{Pair}
use Rattle.xt_model.specs.Quads.{IsBound}
use Rattle.xt_model.specs.Parts.{Parts}
use Rattle.xt_model.specs.Assign.{assigned, words_of, quads_of}
use Rattle.xt_meaning.specs.Operator.{operator}
use Rattle.xt_meaning.specs.Barrier.{IsBoundNoFurther, IsFittingStart}
use Rattle.xt_meaning.specs.Words.{bound_in, number_for, bounds_in, numbers_of, onward}
use Rattle.xt_meaning.proofs.Steps.{bound_refl}
use Rattle.xt_meaning.proofs.Numbers.{bound_there, numbers_each}
use Rattle.chaos_core.specs.Boards.{CanPublish}
use Rattle.window_words.specs.declared.view.View.{View}
use Rattle.window_words.specs.Views.{first_view, sent_out}
use Rattle.window_words.specs.Boards.{Holding, knowledge_of}

pub first_word : (d : Parts) (v : List Pair) (q : Quad) (number : ℕ) → IsFittingStart Widen d v → q ≡ operator d (quads_of (words_of (assigned v))) 0 Rise → IsBound q.tlo → number ≡ number_for q.tlo
    → IsBoundNoFurther Widen 0 (bound_in number) (onward d (bounds_in (numbers_of v)) 0)
first_word d v q number fits is range at =
    let same : bounds_in (numbers_of v) ≡ words_of (assigned v) = λ i word. numbers_each v word fits.windows.in_range i in
    let here : q.tlo ≡ onward d (words_of (assigned v)) 0 = ap (λ (r : Quad). r.tlo) is in
    let there : q.tlo ≡ onward d (bounds_in (numbers_of v)) 0 = here ∙ ap (λ (f : ℕ → ℤ). onward d f 0) (sym same) in
    let bound : bound_in number ≡ q.tlo = ap bound_in at ∙ (bound_there q.tlo range).0 in
    let P : ℤ → Type 0 = λ b. IsBoundNoFurther Widen 0 b (onward d (bounds_in (numbers_of v)) 0) in
    let Q : ℤ → Type 0 = λ b. IsBoundNoFurther Widen 0 q.tlo b in
    subst P (sym bound) (subst Q there (bound_refl Widen 0 q.tlo))

-- the pass that is split off from the first of a board at its start may publish it
pub can_publish : (d : Parts) (v : List Pair) (number : ℕ) (first other : Holding) → first.view ≡ first_view (record { design = d; way = Widen; start = v }) → other.view ≡ sent_out first.view
    → IsBoundNoFurther Widen 0 (bound_in number) (onward d (bounds_in (numbers_of v)) 0) → CanPublish (knowledge_of other) 0 number
can_publish d v number first other is sent h =
    let e : other.view ≡ sent_out (first_view (record { design = d; way = Widen; start = v })) = sent ∙ ap sent_out is in
    let P : View → Type 0 = λ w. IsBoundNoFurther w.setting.way 0 (bound_in number) (onward w.setting.design (bounds_in w.seen) 0) in
    subst P (sym e) h
