-- Closed words never move, and so the rounds are few.
use Rattle.std.proofs.Common.{◌≡◌, ℕ, zero, suc, ◌+◌, ◌%◌, ◌≤◌, Bool, inl, inr, sym, ap, subst, ◌∙◌, List, arith}
use Rattle.std.specs.Prelude.{IsTrue}
use Rattle.std.proofs.lemmas.Bool.{cases_lt}
use Rattle.xt_model.specs.declared.edge.Edge.{Edge}
use Rattle.xt_model.specs.declared.net.NetId.{NetId}
use Rattle.xt_model.specs.declared.quad.Pair.{Pair}
use Rattle.xt_model.specs.Quads.{IsBound, IsInRange}
use Rattle.xt_model.specs.Parts.{Parts}
use Rattle.xt_model.specs.Assign.{Assignment, assigned, word_number, words_of, quads_of}
use Rattle.xt_model.specs.Build.{IsRoundBound}
use Rattle.xt_model.specs.Levels.{IsOrder}
use Rattle.xt_meaning.specs.Operator.{operator}
use Rattle.xt_meaning.specs.Barrier.{IsBoundNoFurther, NoFurther, IsBarrier, IsFittingStart}
use Rattle.xt_meaning.specs.Words.{number_at, bounds_in, numbers_of, AreNoFurther}
use Rattle.xt_meaning.proofs.Listed.{listed, length-listed, listed_inside, listed_past, listed_in_range}
use Rattle.xt_meaning.proofs.Steps.{bound_refl}
use Rattle.xt_meaning.proofs.Numbers.{windows_by_words, words_of_quads, number_back}
use Rattle.chaos_core.specs.declared.setting.Setting.{Setting}
use Rattle.chaos_core.specs.Boards.{nets_of, IsSeen}
use Rattle.chaos_core.specs.Memories.{AreKept}
use Rattle.net_eval.specs.ReadLists.{AreReadLists}
use Rattle.chaos_core.specs.Rounds.{AreClosed, AreTurns, HasCarried, Pause, Settles}
use Rattle.chaos_core.proofs.Sight.{seen_range}
use Rattle.chaos_core.proofs.Chained.{carried_few, carried_kept, carried_more, outside_quad, rounds_carried}
use Rattle.chaos_core.proofs.Kept.{start_kept}
use Rattle.dirty_words.proofs.Closing.{one_bound}
use Rattle.dirty_run.specs.Visits.{HasMoved}
use Rattle.dirty_run.specs.Rounds.{AreMarkedTurns}

module _ (a : Setting) (p : List ℕ) (kept : AreKept a p) where
  -- the windows in the words
  abbrev v' : List Pair
  v' = listed (quads_of (bounds_in p)) 0 (nets_of a)

  same_at : (n : ℕ) (e : Edge) → assigned v' n e ≡ quads_of (bounds_in p) n e
  same_at n e = elim (cases_lt n (nets_of a)) [
    | inl h ↦ let z : 0 + n ≡ n = omega arith in listed_inside (quads_of (bounds_in p)) 0 (nets_of a) n e h ∙ ap (λ m. quads_of (bounds_in p) m e) z
    | inr h ↦
        let c = kept.seen.count in
        listed_past (quads_of (bounds_in p)) 0 (nets_of a) n e h ∙ sym (outside_quad p n e (omega (arith, c, h)))
  ]

  same : assigned v' ≡ quads_of (bounds_in p)
  same = λ i n e. same_at n e i

  words_same : (word : ℕ) → words_of (assigned v') word ≡ bounds_in p word
  words_same word = ap (λ (W : Assignment). words_of W word) same ∙ words_of_quads (bounds_in p) word

  bound_ok : (word : ℕ) → IsBound (bounds_in p word)
  bound_ok word = (number_back (number_at p word) (seen_range a p word kept.seen)).0

  quad_ok : (n : ℕ) (e : Edge) → IsInRange (quads_of (bounds_in p) n e)
  quad_ok n e = record { tlo = bound_ok (word_number n e 0); thi = bound_ok (word_number n e 1); slo = bound_ok (word_number n e 2); shi = bound_ok (word_number n e 3) }

  -- closed words are a barrier
  barrier : AreClosed a.design p → IsBarrier a.way a.design v'
  barrier closed =
      let W = quads_of (bounds_in p) in
      let far : AreNoFurther a.way (words_of (operator a.design W)) (words_of W) =
      λ word.
      let e : words_of (operator a.design W) word ≡ words_of W word = closed.each word ∙ sym (words_of_quads (bounds_in p) word) in
      subst (IsBoundNoFurther a.way (word % 2) (words_of (operator a.design W) word)) e (bound_refl a.way (word % 2) (words_of (operator a.design W) word)) in
      let P : Assignment → Type 0 = λ V. NoFurther a.way (operator a.design V) V in
      record {
        windows = record { count = length-listed W 0 (nets_of a); in_range = listed_in_range W 0 (nets_of a) quad_ok };
        closed = subst P (sym same) (windows_by_words a.way (operator a.design W) W far);
      }

  -- what crosses no barrier is no further than closed words
  pub closed_still : (q : List ℕ) → IsSeen a q → AreClosed a.design p → AreNoFurther a.way (bounds_in p) (bounds_in q) → HasMoved p q → ⊥
  closed_still q seen closed on moved =
      let word = moved.word in
      let back = (seen.respects word).each v' (barrier closed) in
      let low : IsBoundNoFurther a.way (word % 2) (bounds_in q word) (bounds_in p word) = subst (IsBoundNoFurther a.way (word % 2) (bounds_in q word)) (words_same word) back in
      moved.moved (one_bound a.way (word % 2) (bounds_in p word) (bounds_in q word) (on word) low)

-- ---- the rounds of a run
-- a round more: where a word moved, it began at words that were not closed
pub turn_more : (a : Setting) (rounds : ℕ) (more : Bool) (begin p q : List ℕ) → AreKept a begin → AreTurns a rounds begin p → HasCarried a p q → (IsTrue more → HasMoved p q) → IsTrue more → AreTurns a (rounds + 1) begin q
turn_more a rounds more begin p q kept steps carried why found =
    let now = carried_kept a rounds begin p kept steps in
    carried_more a rounds begin p q steps (λ closed. closed_still a p now q carried.kept.seen closed carried.onward (why found)) carried

pub marked_more : (a : Setting) (rounds : ℕ) (begin p q : List ℕ) → AreTurns a rounds begin p → HasCarried a p q → AreMarkedTurns a (rounds + 1) begin q
marked_more a rounds begin p q steps carried =
    let e : suc rounds ≡ rounds + 1 = omega arith in
    subst (λ n. AreMarkedTurns a n begin q) e (p, steps, carried)

pub turns_few : (a : Setting) (d : Parts) (rounds bound : ℕ) (begin now : List ℕ) → a.design ≡ d → AreKept a begin → AreMarkedTurns a rounds begin now → IsRoundBound d.nets bound → rounds ≤ bound + 1
turns_few a d zero bound begin now own kept turns b = omega arith
turns_few a d (suc rounds) bound begin now own kept turns b =
    let h = carried_few a rounds bound begin turns.0 kept turns.1 (subst (λ (x : Parts). IsRoundBound x.nets bound) (sym own) b) in
    omega (arith, h)

-- while each round began at words that were not closed, no more than the bound
pub turns_fewer : (a : Setting) (d : Parts) (rounds bound : ℕ) (begin now : List ℕ) → a.design ≡ d → AreKept a begin → AreTurns a rounds begin now → IsRoundBound d.nets bound → rounds ≤ bound
turns_fewer a d rounds bound begin now own kept turns b = carried_few a rounds bound begin now kept turns (subst (λ (x : Parts). IsRoundBound x.nets bound) (sym own) b)

-- ---- a run of one worker alone
alone_marked : (a : Setting) (rounds : ℕ) (p q : List ℕ) → AreTurns a rounds p q → AreMarkedTurns a rounds p q
alone_marked a zero p q same = same
alone_marked a (suc rounds) p q h = (h.0, h.1, h.3)

pub alone_turns : (a : Setting) (lists : List (List NetId)) (order : List ℕ) (windows : List Pair) (rounds : ℕ) → AreReadLists a.design lists → IsOrder a.design.nets order → IsFittingStart a.way a.design a.start
    → Settles a lists order 1 0 windows rounds → AreMarkedTurns a rounds (numbers_of a.start) (numbers_of windows)
alone_turns a lists order windows rounds are o start settles =
    let p : Pause = record { source = 0; words = numbers_of a.start } in
    let q : Pause = record { source = settles.source; words = numbers_of windows } in
    alone_marked a rounds p.words q.words (rounds_carried a lists order 1 rounds p q (omega arith) are o (start_kept a are.sound start) settles.path)
