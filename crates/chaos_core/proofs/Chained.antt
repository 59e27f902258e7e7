-- Words that are carried step by step are a chain, so there are few steps.
use Rattle.std.proofs.Common.{◌≡◌, ℕ, zero, suc, ◌+◌, ◌*◌, ◌/◌, ◌%◌, ◌<◌, ◌≤◌, nat_lt, cond, inl, inr, refl, sym, ap, subst, ◌∙◌, List, [], length, ℤ, arith}
use Rattle.std.proofs.lemmas.Bool.{cases_lt}
use Rattle.xt_model.specs.declared.direction.Direction.{Direction}
use Rattle.xt_model.specs.declared.edge.Edge.{Edge}
use Rattle.xt_model.specs.declared.net.NetId.{NetId}
use Rattle.xt_model.specs.declared.quad.Quad.{Quad}
use Rattle.xt_model.specs.Quads.{bottom}
use Rattle.xt_model.specs.Levels.{greatest_of, IsOrder, bound_of}
use Rattle.xt_model.specs.Build.{IsRoundBound}
use Rattle.xt_model.specs.Parts.{Parts}
use Rattle.xt_model.specs.Sound.{IsSound}
use Rattle.xt_model.specs.Assign.{Assignment, assigned, word_number, edge_of, side_of, words_of, quads_of}
use Rattle.xt_meaning.specs.Overlap.{overlap_answers}
use Rattle.xt_meaning.specs.Operator.{operator}
use Rattle.xt_meaning.specs.Barrier.{NoFurther}
use Rattle.xt_meaning.specs.Words.{bounds_in, onward, AreNoFurther}
use Rattle.xt_meaning.proofs.Growth.{AreWired, wired}
use Rattle.xt_meaning.proofs.Order.{same_quad}
use Rattle.xt_meaning.proofs.Existence.{past_bottom}
use Rattle.xt_meaning.proofs.Steps.{further_refl, further_mono}
use Rattle.xt_meaning.proofs.Words.{quads_of_words}
use Rattle.xt_meaning.proofs.Numbers.{words_of_quads, windows_by_words, quads_no_further, past_numbers}
use Rattle.run_laws.specs.Chains.{IsStill, IsChain}
use Rattle.run_laws.proofs.Short.{chain_is_short}
use Rattle.net_eval.specs.ReadLists.{AreReadLists}
use Rattle.chaos_core.specs.declared.setting.Setting.{Setting}
use Rattle.chaos_core.specs.Memories.{AreKept}
use Rattle.chaos_core.specs.Rounds.{Pause, AreClosed, AreRounds, AreTurns, HasCarried}
use Rattle.chaos_core.proofs.Moves.{below, not_below}
use Rattle.chaos_core.proofs.Carrying.{round_carries}

-- ---- rounds that carry
pub carried_kept : (a : Setting) (n : ℕ) (p q : List ℕ) → AreKept a p → AreTurns a n p q → AreKept a q
carried_kept a zero p q kept e = subst (AreKept a) (sym e) kept
carried_kept a (suc n) p q kept h = h.3.kept

pub carried_more : (a : Setting) (n : ℕ) (p m q : List ℕ) → AreTurns a n p m → (AreClosed a.design m → ⊥) → HasCarried a m q → AreTurns a (n + 1) p q
carried_more a n p m q steps open_words one =
    let e : suc n ≡ n + 1 = omega arith in
    subst (λ k. AreTurns a k p q) e (m, steps, open_words, one)

-- where a step was made, the words at first were not closed
pub carried_open : (a : Setting) (n : ℕ) (p q : List ℕ) → 0 < n → AreTurns a n p q → AreClosed a.design p → ⊥
carried_open a zero p q some h closed = absurd (omega (arith, some))
carried_open a (suc zero) p q some h closed = h.2 (subst (AreClosed a.design) (sym h.1) closed)
carried_open a (suc (suc n)) p q some h closed = carried_open a (suc n) p h.0 (omega arith) h.1 closed

record IsPath (a : Setting) (s : ℕ → List ℕ) (n : ℕ) (q : List ℕ) : Type 0 where
  last : s n ≡ q
  kept : (i : ℕ) → i ≤ n → AreKept a (s i)
  carried : (i : ℕ) → i < n → HasCarried a (s i) (s (i + 1))
  moving : (i : ℕ) → i < n → AreClosed a.design (s i) → ⊥

-- what s gives up to number n, and x after
extended : {X : Type 0} → ℕ → (ℕ → X) → X → ℕ → X
extended n s x i = cond (nat_lt n i) x (s i)

extended_old : {X : Type 0} (n : ℕ) (s : ℕ → X) (x : X) (i : ℕ) → i ≤ n → extended n s x i ≡ s i
unfolding extended
extended_old n s x i h = rw (not_below n i h) refl

extended_new : {X : Type 0} (n : ℕ) (s : ℕ → X) (x : X) (i : ℕ) → n < i → extended n s x i ≡ x
unfolding extended
extended_new n s x i h = rw (below n i h) refl

path_of : (a : Setting) (n : ℕ) (p q : List ℕ) → AreKept a p → AreTurns a n p q → (s : ℕ → List ℕ) × IsPath a s n q
path_of a zero p q kept e = (
  λ i. p,
  record {
    last = sym e;
    kept = λ i h. kept;
    carried = λ i h. absurd (omega (arith, h));
    moving = λ i h. absurd (omega (arith, h));
  },
)
path_of a (suc n) p q kept h =
    let m = h.0 in
    let before = path_of a n p m kept h.1 in
    let s = before.0 in
    let path = before.1 in
    let there = path.last in
    let one = h.3 in
    let t = extended n s q in (
      t,
      record {
        last = extended_new n s q (suc n) (omega arith);
        kept = λ i k. elim (cases_lt n i) [
          | inl new ↦ subst (AreKept a) (sym (extended_new n s q i new)) one.kept
          | inr old ↦ subst (AreKept a) (sym (extended_old n s q i old)) (path.kept i old)
        ];
        carried = λ i k. elim (cases_lt i n) [
          | inl old ↦
              let x = path.carried i old in
              let y = subst (λ w. HasCarried a (s i) w) (sym (extended_old n s q (i + 1) (omega (arith, old)))) x in
              subst (λ w. HasCarried a w (t (i + 1))) (sym (extended_old n s q i (omega (arith, old)))) y
          | inr new ↦
              let e : n ≡ i = omega (arith, k, new) in
              let at : s i ≡ m = subst (λ j. s j ≡ m) e there in
              let y = subst (λ w. HasCarried a m w) (sym (extended_new n s q (i + 1) (omega (arith, new)))) one in
              subst (λ w. HasCarried a w (t (i + 1))) (sym (extended_old n s q i (omega (arith, e)) ∙ at)) y
        ];
        moving = λ i k. elim (cases_lt i n) [
          | inl old ↦ subst (λ w. AreClosed a.design w → ⊥) (sym (extended_old n s q i (omega (arith, old)))) (path.moving i old)
          | inr new ↦
              let e : n ≡ i = omega (arith, k, new) in
              let at : s i ≡ m = subst (λ j. s j ≡ m) e there in
              subst (λ w. AreClosed a.design w → ⊥) (sym (extended_old n s q i (omega (arith, e)) ∙ at)) h.2
        ];
      },
    )

-- rounds of the machine carry
pub rounds_carried : (a : Setting) (lists : List (List NetId)) (order : List ℕ) (workers n : ℕ) (p q : Pause) → 0 < workers → AreReadLists a.design lists → IsOrder a.design.nets order → AreKept a p.words
    → AreRounds a lists order workers n p q → AreTurns a n p.words q.words
rounds_carried a lists order workers zero p q some are o kept e = ap (λ (x : Pause). x.words) e
rounds_carried a lists order workers (suc n) p q some are o kept h =
    let m = h.0 in
    let before = rounds_carried a lists order workers n p m some are o kept h.1 in
    let words = carried_kept a n p.words m.words kept before in
    (m.words, before, h.2, round_carries a lists order workers m q some are o words h.3)

-- ---- as windows
-- words past the last net are those of nets that never switch
pub outside_quad : (words : List ℕ) (n : ℕ) (e : Edge) → length words ≤ 8 * n → quads_of (bounds_in words) n e ≡ bottom
outside_quad words n e h =
    let f = bounds_in words in
    let g = words_of (assigned []) in
    let at : (s : ℕ) → f (word_number n e s) ≡ g (word_number n e s) = λ s. past_numbers words (word_number n e s) (omega (arith, h)) in
    same_quad (quads_of f n e) (quads_of g n e) (at 0) (at 1) (at 2) (at 3) ∙ quads_of_words (assigned []) n e

words_fit : (way : Direction) (d : Parts) (f : ℕ → ℤ) → AreNoFurther way f (onward d f) → NoFurther way (quads_of f) (operator d (quads_of f))
words_fit way d f h =
    let e : f ≡ words_of (quads_of f) = λ i word. sym (words_of_quads f word) i in
    let P : (ℕ → ℤ) → Type 0 = λ g. AreNoFurther way g (onward d f) in
    windows_by_words way (quads_of f) (operator d (quads_of f)) (subst P e h)

words_past : (way : Direction) (d : Parts) (f g : ℕ → ℤ) → AreNoFurther way (onward d f) g → NoFurther way (operator d (quads_of f)) (quads_of g)
words_past way d f g h =
    let e : g ≡ words_of (quads_of g) = λ i word. sym (words_of_quads g word) i in
    let P : (ℕ → ℤ) → Type 0 = λ k. AreNoFurther way (onward d f) k in
    windows_by_words way (operator d (quads_of f)) (quads_of g) (subst P e h)

closed_by_still : (d : Parts) (words : List ℕ) → IsStill d (quads_of (bounds_in words)) → AreClosed d words
closed_by_still d words still = record {
  each = λ word. ap (λ (q : Quad). side_of q (word % 4)) (still.each (word / 8) (edge_of (word / 4 % 2))) ∙ words_of_quads (bounds_in words) word;
}

chain_of : (a : Setting) (s : ℕ → List ℕ) (n : ℕ) (q : List ℕ) → IsPath a s n q → IsChain a.way a.design (λ i. quads_of (bounds_in (s i))) n
chain_of a s n q path =
    let way = a.way in
    let d = a.design in
    let f : ℕ → ℕ → ℤ = λ i. bounds_in (s i) in
    record {
      fits = λ i h. words_fit way d (f i) (path.kept i h).fits;
      onward = λ i h. quads_no_further way (f i) (f (i + 1)) (path.carried i h).onward;
      past = λ i h. words_past way d (f i) (f (i + 1)) (path.carried i h).past;
      outside = λ i m e h out. let c = (path.kept i h).seen.count in outside_quad (s i) m e (omega (arith, c, out));
    }

-- a chain that is still nowhere before its end is no longer than the bound
chain_few : (way : Direction) (d : Parts) (s : ℕ → Assignment) (n bound : ℕ) → IsSound d → IsChain way d s n → ((i : ℕ) → i < n → IsStill d (s i) → ⊥) → IsRoundBound d.nets bound → n ≤ bound
chain_few way d s n bound sound chain moving b =
    let pairs = b.2 in
    let depth = b.3 in
    let h = chain_is_short way d depth.0 pairs.0 sound depth.1 pairs.1 s n chain moving in
    let x = subst (λ m. n ≤ bound_of m (greatest_of depth.0)) pairs.2 h in
    let y = subst (λ m. n ≤ bound_of b.0 m) (sym depth.2) x in
    subst (λ m. n ≤ m) (sym b.4) y

-- steps that carry, each from words that are not closed, are no more than the bound
pub carried_few : (a : Setting) (n bound : ℕ) (p q : List ℕ) → AreKept a p → AreTurns a n p q → IsRoundBound a.design.nets bound → n ≤ bound
carried_few a n bound p q kept steps b =
    let found = path_of a n p q kept steps in
    let s = found.0 in
    let path = found.1 in
    chain_few a.way a.design (λ i. quads_of (bounds_in (s i))) n bound kept.seen.sound (chain_of a s n q path) (λ i lt still. path.moving i lt (closed_by_still a.design (s i) still)) b

-- what the operator makes of the end of a chain goes on with it
module _ (way : Direction) (d : Parts) (s : ℕ → Assignment) (n : ℕ) (ws : AreWired d) (chain : IsChain way d s n) where
  longer : ℕ → Assignment
  longer = extended n s (operator d (s n))

  longer_old : (i : ℕ) → i ≤ n → longer i ≡ s i
  unfolding longer
  longer_old i h = extended_old n s (operator d (s n)) i h

  longer_new : (i : ℕ) → n < i → longer i ≡ operator d (s n)
  unfolding longer
  longer_new i h = extended_new n s (operator d (s n)) i h

  longer_last : (i : ℕ) → n ≤ i → i < n + 1 → longer i ≡ s n
  longer_last i low high = let e : n ≡ i = omega (arith, low, high) in longer_old i (omega (arith, e)) ∙ ap s (sym e)

  chain_longer : IsChain way d longer (n + 1)
  chain_longer = record {
    fits = λ i h. elim (cases_lt n i) [
      | inl new ↦
          let P : Assignment → Type 0 = λ W. NoFurther way W (operator d W) in
          subst P (sym (longer_new i new)) (further_mono way d (s n) (operator d (s n)) ws (chain.fits n (omega arith)))
      | inr old ↦
          let P : Assignment → Type 0 = λ W. NoFurther way W (operator d W) in
          subst P (sym (longer_old i old)) (chain.fits i old)
    ];
    onward = λ i h. elim (cases_lt i n) [
      | inl old ↦
          let x : NoFurther way (s i) (longer (i + 1)) = subst (λ W. NoFurther way (s i) W) (sym (longer_old (i + 1) (omega (arith, old)))) (chain.onward i old) in
          subst (λ W. NoFurther way W (longer (i + 1))) (sym (longer_old i (omega (arith, old)))) x
      | inr new ↦
          let x : NoFurther way (s n) (longer (i + 1)) = subst (λ W. NoFurther way (s n) W) (sym (longer_new (i + 1) (omega (arith, new)))) (chain.fits n (omega arith)) in
          subst (λ W. NoFurther way W (longer (i + 1))) (sym (longer_last i new h)) x
    ];
    past = λ i h. elim (cases_lt i n) [
      | inl old ↦
          let x : NoFurther way (operator d (s i)) (longer (i + 1)) = subst (λ W. NoFurther way (operator d (s i)) W) (sym (longer_old (i + 1) (omega (arith, old)))) (chain.past i old) in
          subst (λ W. NoFurther way (operator d W) (longer (i + 1))) (sym (longer_old i (omega (arith, old)))) x
      | inr new ↦
          let x : NoFurther way (operator d (s n)) (longer (i + 1)) =
          subst (λ W. NoFurther way (operator d (s n)) W) (sym (longer_new (i + 1) (omega (arith, new)))) (further_refl way (operator d (s n))) in
          subst (λ W. NoFurther way (operator d W) (longer (i + 1))) (sym (longer_last i new h)) x
    ];
    outside = λ i m e h out. elim (cases_lt n i) [
      | inl new ↦ subst (λ (W : Assignment). W m e ≡ bottom) (sym (longer_new i new)) (past_bottom d (overlap_answers d.period (s n)) (s n) m e out)
      | inr old ↦ subst (λ (W : Assignment). W m e ≡ bottom) (sym (longer_old i old)) (chain.outside i m e old out)
    ];
  }

  longer_moving : ((i : ℕ) → i < n → IsStill d (s i) → ⊥) → (IsStill d (s n) → ⊥) → (i : ℕ) → i < n + 1 → IsStill d (longer i) → ⊥
  longer_moving before now i h still = elim (cases_lt i n) [
    | inl old ↦ before i old (subst (IsStill d) (longer_old i (omega (arith, old))) still)
    | inr new ↦ now (subst (IsStill d) (longer_last i new h) still)
  ]

-- where the words after them are not closed either, they are fewer
pub carried_fewer : (a : Setting) (n bound : ℕ) (p q : List ℕ) → AreKept a p → AreTurns a n p q → (AreClosed a.design q → ⊥) → IsRoundBound a.design.nets bound → n < bound
carried_fewer a n bound p q kept steps open_words b =
    let d = a.design in
    let ws = wired d kept.seen.sound in
    let found = path_of a n p q kept steps in
    let s = found.0 in
    let path = found.1 in
    let W : ℕ → Assignment = λ i. quads_of (bounds_in (s i)) in
    let chain = chain_of a s n q path in
    let now : IsStill d (W n) → ⊥ = λ still. open_words (subst (AreClosed d) path.last (closed_by_still d (s n) still)) in
    let moving = longer_moving a.way d W n ws chain (λ i lt still. path.moving i lt (closed_by_still d (s i) still)) now in
    let few = chain_few a.way d (longer a.way d W n ws chain) (n + 1) bound kept.seen.sound (chain_longer a.way d W n ws chain) moving b in
    omega (arith, few)

-- rounds from kept words, each from words that are not closed, are no more than the bound
pub rounds_few : (a : Setting) (lists : List (List NetId)) (order : List ℕ) (workers n bound : ℕ) (p q : Pause) → 0 < workers → AreReadLists a.design lists → IsOrder a.design.nets order → AreKept a p.words
    → AreRounds a lists order workers n p q → IsRoundBound a.design.nets bound → n ≤ bound
rounds_few a lists order workers n bound p q some are o kept rounds b = carried_few a n bound p.words q.words kept (rounds_carried a lists order workers n p q some are o kept rounds) b

-- the same for the design of the code
pub few_here : (a : Setting) (d : Parts) (lists : List (List NetId)) (order : List ℕ) (workers n bound : ℕ) (p q : Pause) → a.design ≡ d → 0 < workers → AreReadLists d lists → IsOrder d.nets order → AreKept a p.words
    → AreRounds a lists order workers n p q → IsRoundBound d.nets bound → n ≤ bound
few_here a d lists order workers n bound p q own some are o kept rounds b =
    let P : Parts → Type 0 = λ x. AreReadLists x lists → IsOrder x.nets order → IsRoundBound x.nets bound → n ≤ bound in
    subst P own (λ x y z. rounds_few a lists order workers n bound p q some x y kept rounds z) are o b
