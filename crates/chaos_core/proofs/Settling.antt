-- A run by rounds: its words are closed exactly where its windows are a fixpoint, and each round leaves less room.
use Rattle.std.proofs.Common.{◌≡◌, ℕ, suc, ◌+◌, ◌*◌, ◌/◌, ◌%◌, ◌<◌, ◌≤◌, ◌⊎◌, inl, inr, refl, sym, ap, subst, ◌∙◌, List, ℤ, arith}
use Rattle.std.specs.List.{All}
use Rattle.xt_model.specs.declared.direction.Direction.{Direction}
use Rattle.xt_model.specs.declared.edge.Edge.{Edge}
use Rattle.xt_model.specs.declared.net.NetId.{NetId}
use Rattle.xt_model.specs.declared.quad.Quad.{Quad}
use Rattle.xt_model.specs.declared.quad.Pair.{Pair}
use Rattle.xt_model.specs.Quads.{IsPairInRange}
use Rattle.xt_model.specs.Levels.{IsOrder}
use Rattle.xt_model.specs.Build.{IsRoundBound}
use Rattle.xt_model.specs.Parts.{Parts}
use Rattle.xt_model.specs.Assign.{assigned, edge_of, side_of, words_of, quads_of}
use Rattle.xt_meaning.specs.Operator.{step}
use Rattle.xt_meaning.specs.Fixpoint.{IsFixpoint}
use Rattle.xt_meaning.specs.Barrier.{NoFurther, IsFittingStart}
use Rattle.xt_meaning.specs.Laws.{IsExtremeFixpoint}
use Rattle.xt_meaning.specs.Words.{bounds_in, numbers_of, onward, AreNoFurther}
use Rattle.xt_meaning.specs.Measure.{room}
use Rattle.xt_meaning.proofs.Words.{quads_of_words}
use Rattle.xt_meaning.proofs.Numbers.{windows_by_words}
use Rattle.xt_meaning.proofs.Extremes.{extreme_from_fixpoint}
use Rattle.xt_meaning.proofs.Runs.{round_less}
use Rattle.net_eval.specs.ReadLists.{AreReadLists}
use Rattle.chaos_core.specs.declared.setting.Setting.{Setting}
use Rattle.chaos_core.specs.Memories.{AreKept}
use Rattle.chaos_core.specs.Rounds.{Pause, IsRound, AreClosed, AreRounds, HasCarried, Settles}
use Rattle.chaos_core.proofs.Carrying.{round_carries}
use Rattle.chaos_core.proofs.Chained.{carried_fewer, rounds_carried}
use Rattle.chaos_core.proofs.Starting.{words_here, onward_here}

-- ---- closed
abbrev pub IsSteady : Parts → List Pair → Type 0
IsSteady d v = (n : ℕ) (e : Edge) → step d v n e ≡ assigned v n e

pub closed_from : (d : Parts) (words : List ℕ) (v : List Pair) → All IsPairInRange v → numbers_of v ≡ words → IsSteady d v → AreClosed d words
closed_from d words v range is steady = record {
  each = λ word.
      ap (λ (f : ℕ → ℤ). f word) (onward_here d words v range is)
      ∙ (ap (λ (q : Quad). side_of q (word % 4)) (steady (word / 8) (edge_of (word / 4 % 2))) ∙ sym (ap (λ (f : ℕ → ℤ). f word) (words_here words v range is)));
}

pub steady_from : (d : Parts) (words : List ℕ) (v : List Pair) → All IsPairInRange v → numbers_of v ≡ words → AreClosed d words → IsSteady d v
steady_from d words v range is closed n e =
    let same : onward d (bounds_in words) ≡ bounds_in words = λ i word. closed.each word i in
    let both : words_of (step d v) ≡ words_of (assigned v) = sym (onward_here d words v range is) ∙ (same ∙ words_here words v range is) in
    sym (quads_of_words (step d v) n e) ∙ (ap (λ (f : ℕ → ℤ). quads_of f n e) both ∙ quads_of_words (assigned v) n e)

-- ---- a round
pub carried : (a : Setting) (d : Parts) (lists : List (List NetId)) (order : List ℕ) (workers : ℕ) (p q : Pause) → a.design ≡ d → 0 < workers → AreReadLists d lists → IsOrder d.nets order → AreKept a p.words
    → IsRound a lists order workers p q → HasCarried a p.words q.words
carried a d lists order workers p q own some are o kept round =
    let P : Parts → Type 0 = λ x. AreReadLists x lists → IsOrder x.nets order → HasCarried a p.words q.words in
    subst P own (λ x y. round_carries a lists order workers p q some x y kept round) are o

past_own : (a : Setting) (v w : List Pair) (words later : List ℕ) → IsFittingStart a.way a.design v → IsFittingStart a.way a.design w → numbers_of v ≡ words → numbers_of w ≡ later → HasCarried a words later
    → NoFurther a.way (step a.design v) (assigned w)
past_own a v w words later before after is was carry =
    let d = a.design in
    let there = words_here later w after.windows.in_range was in
    let far = onward_here d words v before.windows.in_range is in
    let Q : (ℕ → ℤ) → Type 0 = λ f. AreNoFurther a.way f (words_of (assigned w)) in
    let R : (ℕ → ℤ) → Type 0 = λ f. AreNoFurther a.way (onward d (bounds_in words)) f in
    windows_by_words a.way (step d v) (assigned w) (subst Q far (subst R there carry.past))

-- the windows after a round are at or past what the operator makes of those before
pub past_windows : (a : Setting) (d : Parts) (way : Direction) (v w : List Pair) (words later : List ℕ) → a.design ≡ d → a.way ≡ way → IsFittingStart way d v → IsFittingStart way d w → numbers_of v ≡ words
    → numbers_of w ≡ later → HasCarried a words later → NoFurther way (step d v) (assigned w)
past_windows a d way v w words later own same before after is was carry =
    let F : Parts → Direction → Type 0 = λ x y. IsFittingStart y x v → IsFittingStart y x w → NoFurther y (step x v) (assigned w) in
    let base : F a.design a.way = λ b c. past_own a v w words later b c is was carry in
    let there : F d way = subst (λ x. F x way) own (subst (λ y. F a.design y) same base) in
    there before after

less_room : (a : Setting) (v w : List Pair) (words later : List ℕ) → IsFittingStart a.way a.design v → IsFittingStart a.way a.design w → numbers_of v ≡ words → numbers_of w ≡ later → HasCarried a words later
    → IsFixpoint a.design v ⊎ (room a.way w < room a.way v)
less_room a v w words later before after is was carry =
    let d = a.design in
    let here = words_here words v before.windows.in_range is in
    let there = words_here later w after.windows.in_range was in
    let P : (ℕ → ℤ) → Type 0 = λ f. AreNoFurther a.way (bounds_in words) f in
    let Q : (ℕ → ℤ) → Type 0 = λ f. AreNoFurther a.way f (words_of (assigned w)) in
    let on : NoFurther a.way (assigned v) (assigned w) = windows_by_words a.way (assigned v) (assigned w) (subst Q here (subst P there carry.onward)) in
    let past = past_own a v w words later before after is was carry in
    round_less a.way d v w before after.windows on past

pub run_nearer : (a : Setting) (d : Parts) (way : Direction) (v w : List Pair) (words later : List ℕ) → a.design ≡ d → a.way ≡ way → IsFittingStart way d v → IsFittingStart way d w → numbers_of v ≡ words
    → numbers_of w ≡ later → HasCarried a words later → (IsSteady d v → ⊥) → room way w < room way v
run_nearer a d way v w words later own same before after is was carry open_words =
    let F : Parts → Direction → Type 0 = λ x y. IsFittingStart y x v → IsFittingStart y x w → IsFixpoint x v ⊎ (room y w < room y v) in
    let base : F a.design a.way = λ b c. less_room a v w words later b c is was carry in
    let there : F d way = subst (λ x. F x way) own (subst (λ y. F a.design y) same base) in
    elim (there before after) [ inl f ↦ absurd (open_words f.fixed) | inr less ↦ less ]

-- ---- all rounds
-- one round more, from words that are not closed
pub one_more : (a : Setting) (d : Parts) (lists : List (List NetId)) (order : List ℕ) (workers n : ℕ) (p m q : Pause) (v : List Pair) → a.design ≡ d → All IsPairInRange v → numbers_of v ≡ m.words → (IsSteady d v → ⊥)
    → AreRounds a lists order workers n p m → IsRound a lists order workers m q → AreRounds a lists order workers (n + 1) p q
one_more a d lists order workers n p m q v own range is open_words path round =
    let P : Parts → Type 0 = λ x. AreClosed x m.words → ⊥ in
    let never : AreClosed a.design m.words → ⊥ = subst P (sym own) (λ c. open_words (steady_from d m.words v range is c)) in
    let e : suc n ≡ n + 1 = omega arith in
    subst (λ k. AreRounds a lists order workers k p q) e (m, path, never, round)

-- before a round from words that are not closed, fewer rounds are made than the bound
pub fewer_here : (a : Setting) (d : Parts) (lists : List (List NetId)) (order : List ℕ) (workers n bound : ℕ) (p q : Pause) (v : List Pair) → a.design ≡ d → 0 < workers → AreReadLists d lists → IsOrder d.nets order
    → AreKept a p.words → All IsPairInRange v → numbers_of v ≡ q.words → (IsSteady d v → ⊥) → AreRounds a lists order workers n p q → IsRoundBound d.nets bound → n < bound
fewer_here a d lists order workers n bound p q v own some are o kept range is open_words rounds b =
    let P : Parts → Type 0 = λ x. AreReadLists x lists → IsOrder x.nets order → (AreClosed x q.words → ⊥) → IsRoundBound x.nets bound → n < bound in
    subst P own (λ x y z w. carried_fewer a n bound p.words q.words kept (rounds_carried a lists order workers n p q some x y kept rounds) z w) are o
    (λ c. open_words (steady_from d q.words v range is c)) b

pub settles_there : (a : Setting) (d : Parts) (lists : List (List NetId)) (order words : List ℕ) (workers number n source rounds : ℕ) (begin : List ℕ) (v : List Pair) → a.design ≡ d → begin ≡ numbers_of a.start
    → All IsPairInRange v → numbers_of v ≡ words → IsSteady d v → n ≡ rounds
    → AreRounds a lists order workers n (record { source = number; words = begin }) (record { source = source; words = words }) → Settles a lists order workers number v rounds
settles_there a d lists order words workers number n source rounds begin v own from range is steady counts path =
    let P : List ℕ → Type 0 = λ xs. AreRounds a lists order workers n (record { source = number; words = xs }) (record { source = source; words = words }) in
    let Q : List ℕ → Type 0 = λ xs. AreRounds a lists order workers n (record { source = number; words = numbers_of a.start }) (record { source = source; words = xs }) in
    let R : Parts → Type 0 = λ x. AreClosed x (numbers_of v) in
    let S : ℕ → Type 0 = λ k. AreRounds a lists order workers k (record { source = number; words = numbers_of a.start }) (record { source = source; words = numbers_of v }) in
    record {
      source = source;
      path = subst S counts (subst Q (sym is) (subst P from path));
      closed = subst R (sym own) (closed_from d (numbers_of v) v range refl steady);
    }

-- windows fit under the setting at the start
pub fits_under : (a b : Setting) (d : Parts) (way : Direction) (v : List Pair) → b ≡ a → a.design ≡ d → a.way ≡ way → IsFittingStart b.way b.design v → IsFittingStart way d v
fits_under a b d way v same own on h =
    let x : IsFittingStart a.way a.design v = subst (λ (s : Setting). IsFittingStart s.way s.design v) same h in
    let y : IsFittingStart way a.design v = subst (λ (z : Direction). IsFittingStart z a.design v) on x in
    subst (λ (z : Parts). IsFittingStart way z v) own y

-- windows that fit and stand in closed words are the extreme fixpoint
pub closed_extreme : (way : Direction) (d : Parts) (words : List ℕ) (v : List Pair) → IsFittingStart way d v → numbers_of v ≡ words → AreClosed d words → IsExtremeFixpoint way d v
closed_extreme way d words v fits is closed =
    extreme_from_fixpoint way d v (record { windows = fits.windows; fixed = λ n e. steady_from d words v fits.windows.in_range is closed n e }) fits.respects

-- what is published in one round more
pub made_more : (begin before after nets rounds : ℕ) → before ≤ begin + 8 * nets * rounds → after ≤ before + 8 * nets → after ≤ begin + 8 * nets * (rounds + 1)
made_more begin before after nets rounds h k =
    let e : 8 * nets * (rounds + 1) ≡ 8 * nets * rounds + 8 * nets = next (8 * nets) rounds in
    omega (arith, h, k, e) where
      next : (m n : ℕ) → m * (n + 1) ≡ m * n + m
      next m n = omega arith
