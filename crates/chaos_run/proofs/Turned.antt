-- A turn of a run: a round, and the look after it.
use Rattle.std.proofs.Common.{◌≡◌, ℕ, ◌+◌, ◌*◌, ◌<◌, ◌≤◌, ◌↔◌, inl, inr, refl, sym, ap, subst, ◌∙◌, List, length, arith}
use Rattle.std.proofs.lemmas.Bool.{cases_lt}
use Rattle.xt_model.specs.declared.net.NetId.{NetId}
use Rattle.xt_model.specs.declared.quad.Pair.{Pair}
use Rattle.xt_model.specs.Levels.{IsOrder}
use Rattle.xt_model.specs.Build.{IsRoundBound}
use Rattle.xt_model.specs.Parts.{Parts}
use Rattle.xt_meaning.specs.Fixpoint.{IsWindows, IsFixpoint}
use Rattle.xt_meaning.specs.Barrier.{IsFittingStart}
use Rattle.xt_meaning.specs.Words.{numbers_of}
use Rattle.net_eval.specs.ReadLists.{AreReadLists}
use Rattle.chaos_core.specs.declared.setting.Setting.{Setting}
use Rattle.chaos_core.specs.Runs.{Ran}
use Rattle.chaos_core.specs.Memories.{AreKept}
use Rattle.chaos_core.specs.Rounds.{AreClosed, AreTurns, HasCarried, Settles}
use Rattle.chaos_core.proofs.Chained.{carried_few, carried_fewer, carried_more, carried_open, rounds_carried}
use Rattle.chaos_core.proofs.Kept.{start_kept}
use Rattle.chaos_core.proofs.Settling.{closed_from, steady_from}
use Rattle.window_words.specs.Boards.{Holding, knowledge_of}
use Rattle.chaos_run.specs.Rounds.{IsRested}
use Rattle.chaos_run.proofs.Carried.{carried, made_each}

-- ---- a round
module _ (a : Setting) (d : Parts) (order : List ℕ) (h g : Holding) (under : h.view.setting ≡ a) (own : a.design ≡ d) (o : IsOrder d.nets order)
    (ran : Ran order (knowledge_of h) (knowledge_of g)) (rest : IsRested g.view) where
  order_here : IsOrder h.view.setting.design.nets order
  order_here = subst (λ (x : Parts). IsOrder x.nets order) (sym (ap (λ (x : Setting). x.design) under ∙ own)) o

  pub turn_carries : HasCarried a h.view.seen g.view.seen
  turn_carries = subst (λ (x : Setting). HasCarried x h.view.seen g.view.seen) under (carried order h g order_here ran rest)

  pub turn_made : g.view.made ≡ h.view.made + 8 * length d.nets
  turn_made =
      let each = made_each order h g order_here ran rest in
      let same : length h.view.setting.design.nets ≡ length d.nets = ap (λ (x : Parts). length x.nets) (ap (λ (x : Setting). x.design) under ∙ own) in
      omega (arith, each, same)

-- ---- all rounds
-- the publications of one round more
pub made_more : (begin before after nets rounds : ℕ) → before ≡ begin + 8 * nets * rounds → after ≡ before + 8 * nets → after ≡ begin + 8 * nets * (rounds + 1)
made_more begin before after nets rounds h k =
    let e : 8 * nets * (rounds + 1) ≡ 8 * nets * rounds + 8 * nets = next (8 * nets) rounds in
    omega (arith, h, k, e) where
      next : (m n : ℕ) → m * (n + 1) ≡ m * n + m
      next m n = omega arith

closed_own : (a : Setting) (d : Parts) (words : List ℕ) → a.design ≡ d → (AreClosed d words → ⊥) → AreClosed a.design words → ⊥
closed_own a d words own open_words closed = open_words (subst (λ x. AreClosed x words) own closed)

-- the rounds of the machine
pub turns_picked : (a : Setting) (lists : List (List NetId)) (order : List ℕ) (workers number : ℕ) (windows : List Pair) (rounds : ℕ) → 0 < workers → AreReadLists a.design lists → IsOrder a.design.nets order
    → IsFittingStart a.way a.design a.start → Settles a lists order workers number windows rounds → AreTurns a rounds (numbers_of a.start) (numbers_of windows)
turns_picked a lists order workers number windows rounds some are o start settles =
    rounds_carried a lists order workers rounds (record { source = number; words = numbers_of a.start }) (record { source = settles.source; words = numbers_of windows }) some are o (start_kept a are.sound start) settles.path

-- one step more, from words that are not closed
pub turn_more : (a : Setting) (d : Parts) (rounds : ℕ) (p m q : List ℕ) → a.design ≡ d → AreTurns a rounds p m → (AreClosed d m → ⊥) → HasCarried a m q → AreTurns a (rounds + 1) p q
turn_more a d rounds p m q own steps open_words one = carried_more a rounds p m q steps (closed_own a d m own open_words) one

pub turns_few : (a : Setting) (d : Parts) (rounds bound : ℕ) (p q : List ℕ) → a.design ≡ d → AreKept a p → AreTurns a rounds p q → IsRoundBound d.nets bound → rounds ≤ bound
turns_few a d rounds bound p q own kept steps b = carried_few a rounds bound p q kept steps (subst (λ (x : Parts). IsRoundBound x.nets bound) (sym own) b)

pub turns_fewer : (a : Setting) (d : Parts) (rounds bound : ℕ) (p q : List ℕ) → a.design ≡ d → AreKept a p → AreTurns a rounds p q → (AreClosed d q → ⊥) → IsRoundBound d.nets bound → rounds < bound
turns_fewer a d rounds bound p q own kept steps open_words b =
    carried_fewer a rounds bound p q kept steps (closed_own a d q own open_words) (subst (λ (x : Parts). IsRoundBound x.nets bound) (sym own) b)

-- no step was made exactly where the words were closed at first
pub none_made : (a : Setting) (d : Parts) (rounds : ℕ) (p q : List ℕ) → a.design ≡ d → AreTurns a rounds p q → AreClosed d q → (rounds ≡ 0) ↔ AreClosed d p
none_made a d rounds p q own steps closed = (
  λ none.
      let P : ℕ → Type 0 = λ n. AreTurns a n p q in
      let same : q ≡ p = subst P none steps in
      subst (AreClosed d) same closed,
  λ begin. elim (cases_lt 0 rounds) [
    | inl some ↦ absurd (carried_open a rounds p q some steps (subst (λ x. AreClosed x p) (sym own) begin))
    | inr none ↦ omega (arith, none)
  ],
)

-- ---- the start of a run
-- the words of windows are closed exactly where the windows are a fixpoint
words_closed : (d : Parts) (v : List Pair) → IsWindows d v → AreClosed d (numbers_of v) ↔ IsFixpoint d v
words_closed d v w = (
  λ closed. record { windows = w; fixed = λ n e. steady_from d (numbers_of v) v w.in_range refl closed n e },
  λ fixpoint. closed_from d (numbers_of v) v w.in_range refl fixpoint.fixed,
)

pub from_start : (d : Parts) (v : List Pair) (words : List ℕ) (rounds : ℕ) → IsWindows d v → words ≡ numbers_of v → (rounds ≡ 0) ↔ AreClosed d words → (rounds ≡ 0) ↔ IsFixpoint d v
from_start d v words rounds w is closed =
    let both = words_closed d v w in (
      λ none. both.0 (subst (AreClosed d) is (closed.0 none)),
      λ fixpoint. closed.1 (subst (AreClosed d) (sym is) (both.1 fixpoint)),
    )

-- the machine makes no round exactly where the start is a fixpoint
pub settles_from : (a : Setting) (lists : List (List NetId)) (order : List ℕ) (workers number : ℕ) (windows : List Pair) (rounds : ℕ) → 0 < workers → AreReadLists a.design lists → IsOrder a.design.nets order
    → IsFittingStart a.way a.design a.start → Settles a lists order workers number windows rounds → (rounds ≡ 0) ↔ IsFixpoint a.design a.start
settles_from a lists order workers number windows rounds some are o start settles =
    let kept = start_kept a are.sound start in
    let steps = rounds_carried a lists order workers rounds (record { source = number; words = numbers_of a.start }) (record { source = settles.source; words = numbers_of windows }) some are o kept settles.path in
    from_start a.design a.start (numbers_of a.start) rounds start.windows refl (none_made a a.design rounds (numbers_of a.start) (numbers_of windows) refl steps settles.closed)
