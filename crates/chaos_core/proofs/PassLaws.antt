-- A net over which a round passes has the words that an evaluation would give it.
use Rattle.std.proofs.Common.{◌≡◌, ℕ, zero, suc, ◌+◌, ◌*◌, ◌/◌, ◌%◌, ◌<◌, ◌≤◌, inl, inr, refl, sym, ap, subst, ◌∙◌, List, set, ℤ, arith}
use Rattle.std.specs.Prelude.{Option, Some}
use Rattle.std.specs.List.{All, slice_get}
use Rattle.std.proofs.lemmas.Int.{ints}
use Rattle.std.proofs.lemmas.List.{set-get_or}
use Rattle.xt_model.specs.declared.direction.Direction.{Direction}
use Rattle.xt_model.specs.declared.edge.Edge.{Edge}
use Rattle.xt_model.specs.declared.edge.Edge.TheVariants.{Rise, Fall}
use Rattle.xt_model.specs.declared.quad.Pair.{Pair}
use Rattle.xt_model.specs.declared.quad.Quad.{Quad}
use Rattle.xt_model.specs.Quads.{IsBound, IsInRange, IsPairInRange}
use Rattle.xt_model.specs.Parts.{Parts}
use Rattle.xt_model.specs.Sound.{IsSound}
use Rattle.xt_model.specs.Assign.{assigned, edge_of, quad_of_pair, side_of, word_number, words_of, quads_of}
use Rattle.xt_meaning.specs.Operator.{operator, step}
use Rattle.xt_meaning.specs.Barrier.{IsWithinEnvelope}
use Rattle.xt_meaning.specs.Fixpoint.{IsWindows}
use Rattle.xt_meaning.specs.Words.{bound_in, bounds_in, further, number_at, number_for, numbers_of, onward}
use Rattle.xt_meaning.proofs.Words.{quads_of_words}
use Rattle.xt_meaning.proofs.Order.{same_quad}
use Rattle.xt_meaning.proofs.Numbers.{bound_there, further_one, number_back}
use Rattle.xt_meaning.proofs.Rounds.{step_in_range}
use Rattle.xt_meaning.proofs.Starts.{windows_in_range}
use Rattle.net_eval.specs.Closing.{IsSteadyAt}
use Rattle.net_eval.proofs.Steady.{operator_of_words}
use Rattle.chaos_core.specs.Tasks.{bound_at}
use Rattle.chaos_core.specs.OnlyWorker.{made_of, published, with_published}
use Rattle.chaos_core.specs.Passes.{HoldPair}
use Rattle.chaos_core.specs.TurnMarks.{IsHeld}
use Rattle.chaos_core.proofs.Sight.{number_else}
use Rattle.chaos_core.proofs.Loads.{bound_onward}
use Rattle.chaos_core.proofs.Stages.{bound_in_range, side_in_range}
use Rattle.chaos_core.proofs.Starting.{words_here, onward_here}

-- ---- words of a pair
further_same : (way : Direction) (side m : ℕ) → further way side m m ≡ m
further_same way side m = elim (further_one way side m m) [ inl e ↦ e | inr e ↦ e ]

-- publications of the words that a net has leave all words
pub published_same : (way : Direction) (net : ℕ) (pair : Pair) (words : List ℕ) (n : ℕ) → n ≤ 8 → HoldPair words net pair → published way net pair words n ≡ words
published_same way net pair words zero h hold = refl
published_same way net pair words (suc n) h hold =
    let word = 8 * net + n in
    let before = published_same way net pair words n (omega arith) hold in
    let m = number_at words word in
    ap (λ ws. with_published way net pair ws n) before
    ∙ (ap (λ x. set words word (further way (word % 2) m x)) (sym (hold n (omega arith)))
    ∙ (ap (set words word) (further_same way (word % 2) m) ∙ set-get_or words word _))

-- and publications at a net leave the words of all others
pub published_else : (way : Direction) (net : ℕ) (pair : Pair) (words : List ℕ) (n w : ℕ) → n ≤ 8 → (w / 8 ≡ net → ⊥) → number_at (published way net pair words n) w ≡ number_at words w
published_else way net pair words zero w h other = refl
published_else way net pair words (suc n) w h other =
    number_else (published way net pair words n) (8 * net + n) _ w (λ e. other (omega (arith, e, h))) ∙ published_else way net pair words n w (omega arith) other

-- ---- words and windows
number_back_there : (m : ℕ) → number_for (bound_in m) ≡ m
number_back_there m = omega (arith, ints)

-- a net has the words of its windows
pub pair_held : (words : List ℕ) (v : List Pair) (n : ℕ) (p : Pair) → All IsPairInRange v → numbers_of v ≡ words → slice_get v n ≡ Some p → HoldPair words n p
pair_held words v n p range is at i h =
    let word = 8 * n + i in
    let a : word / 8 ≡ n = omega (arith, h) in
    let b : word / 4 % 2 ≡ i / 4 = omega (arith, h) in
    let c : word % 4 ≡ i % 4 = omega arith in
    let there : words_of (assigned v) word ≡ bound_at p i = rw (a, b, c) (ap (λ (o : Option Pair). side_of (quad_of_pair o (edge_of (i / 4))) (i % 4)) at) in
    let here : bounds_in words word ≡ bound_at p i = ap (λ (f : ℕ → ℤ). f word) (words_here words v range is) ∙ there in
    sym (number_back_there (number_at words word)) ∙ ap number_for here

-- a net that has the words that the operator makes is given back
module _ (d : Parts) (words : List ℕ) (v : List Pair) (n : ℕ) (in_range : All IsPairInRange v) (is : numbers_of v ≡ words) (hold : HoldPair words n (made_of d words n)) (range : IsPairInRange (made_of d words n)) where
  at_word : (i : ℕ) → i < 8 → words_of (step d v) (8 * n + i) ≡ words_of (assigned v) (8 * n + i)
  at_word i h =
      let word = 8 * n + i in
      let made = bound_at (made_of d words n) i in
      let far : onward d (bounds_in words) word ≡ made = sym (bound_onward d (bounds_in words) n i h) in
      let here : bounds_in words word ≡ made = ap bound_in (hold i h) ∙ (bound_there made (bound_in_range (made_of d words n) i range)).0 in
      sym (ap (λ (f : ℕ → ℤ). f word) (onward_here d words v in_range is)) ∙ (far ∙ (sym here ∙ ap (λ (f : ℕ → ℤ). f word) (words_here words v in_range is)))

  at_side : (e : Edge) (side : ℕ) → side < 4 → words_of (step d v) (word_number n e side) ≡ words_of (assigned v) (word_number n e side)
  at_side Rise side h = let e : 8 * n + side ≡ 8 * n + 4 * 0 + side = omega arith in subst (λ w. words_of (step d v) w ≡ words_of (assigned v) w) e (at_word side (omega (arith, h)))
  at_side Fall side h = let e : 8 * n + (4 + side) ≡ 8 * n + 4 * 1 + side = omega arith in subst (λ w. words_of (step d v) w ≡ words_of (assigned v) w) e (at_word (4 + side) (omega (arith, h)))

  pub steady_from_hold : IsSteadyAt d v n
  steady_from_hold = record {
    fixed = λ e. sym (quads_of_words (step d v) n e)
        ∙ (same_quad _ _ (at_side e 0 (omega arith)) (at_side e 1 (omega arith)) (at_side e 2 (omega arith)) (at_side e 3 (omega arith)) ∙ quads_of_words (assigned v) n e);
  }

-- and a net that is given back has the words that the operator makes
pub steady_words : (d : Parts) (words : List ℕ) (v : List Pair) (n : ℕ) → All IsPairInRange v → numbers_of v ≡ words → IsSteadyAt d v n → (i : ℕ) → i < 8 → onward d (bounds_in words) (8 * n + i) ≡ bounds_in words (8 * n + i)
steady_words d words v n range is steady i h =
    let word = 8 * n + i in
    let there : word / 8 ≡ n = omega arith in
    let e = edge_of (word / 4 % 2) in
    let P : ℕ → Type 0 = λ m. side_of (step d v m e) (word % 4) ≡ side_of (assigned v m e) (word % 4) in
    let same : words_of (step d v) word ≡ words_of (assigned v) word = subst P (sym there) (ap (λ (q : Quad). side_of q (word % 4)) (steady.fixed e)) in
    ap (λ (f : ℕ → ℤ). f word) (onward_here d words v range is) ∙ (same ∙ sym (ap (λ (f : ℕ → ℤ). f word) (words_here words v range is)))

module _ (d : Parts) (words : List ℕ) (v : List Pair) (n : ℕ) (sound : IsSound d) (windows : IsWindows d v) (within : IsWithinEnvelope d v) (is : numbers_of v ≡ words) (steady : IsSteadyAt d v n) where
  quad_back : (e : Edge) → operator d (quads_of (bounds_in words)) n e ≡ step d v n e
  quad_back e = ap (λ (f : ℕ → ℤ). operator d (quads_of f) n e) (words_here words v windows.in_range is) ∙ operator_of_words d v n e sound

  bound_back : (i : ℕ) → i < 8 → bound_at (made_of d words n) i ≡ bounds_in words (8 * n + i)
  bound_back i h = bound_onward d (bounds_in words) n i h ∙ steady_words d words v n windows.in_range is steady i h

  number_there : (word : ℕ) → number_at words word ≤ 9223372036854775808
  number_there word =
      let e = edge_of (word / 4 % 2) in
      let inside : IsBound (words_of (assigned v) word) = side_in_range (assigned v (word / 8) e) (word % 4) (windows_in_range d v windows (word / 8) e) in
      let b : IsBound (bounds_in words word) = subst IsBound (sym (ap (λ (f : ℕ → ℤ). f word) (words_here words v windows.in_range is))) inside in
      omega (arith, ints, b.high)

  pub held_from_steady : IsHeld d words n
  held_from_steady = record {
    hold = λ i h. sym (ap number_for (bound_back i h) ∙ (number_back (number_at words (8 * n + i)) (number_there (8 * n + i))).1);
    range = record {
      rise = subst IsInRange (sym (quad_back Rise)) (step_in_range d v n Rise sound within);
      fall = subst IsInRange (sym (quad_back Fall)) (step_in_range d v n Fall sound within);
    };
  }
