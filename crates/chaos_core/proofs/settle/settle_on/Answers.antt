use Rattle.std.proofs.Common.{◌≡◌, ℕ, arith, ap, refl, subst, sym, ◌∙◌, List, length}
use Rattle.std.proofs.lemmas.Bool.{both_ways}
use Rattle.xt_meaning.proofs.Extremes.{extreme_from_fixpoint}
use Rattle.xt_model.specs.declared.net.NetId.{NetId}
use Rattle.chaos_core.specs.declared.setting.Setting.{Setting}
use Rattle.chaos_core.specs.Knowing.{IsKnown}
use Rattle.chaos_core.specs.Memories.{AreKept}
use Rattle.chaos_core.specs.Rounds.{Pause, IsRound, pause_at}
use Rattle.chaos_core.proofs.Chained.{few_here}
use Rattle.chaos_core.proofs.Settling.{carried, fewer_here, run_nearer, one_more, settles_there}
use Rattle.chaos_core.proofs.settle.settle_on.Goals as goal

-- each round is one under the setting at the start
rounds_here : (a b : Setting) (lists : List (List NetId)) (order : List ℕ) (m n : ℕ) (p q : Pause) → b ≡ a → m ≡ n → IsRound b lists order m p q → IsRound a lists order n p q
rounds_here a b lists order m n p q same count h = subst (λ (x : Setting). IsRound x lists order n p q) same (subst (λ k. IsRound b lists order k p q) count h)

pub look-done-requires-clause-known : goal.look-done-requires-clause-known
look-done-requires-clause-known g c =
    let n = length c.args.workers.now in
    (n, subst (λ (words : List ℕ). IsKnown c.args.design.now n words c.args.known) (sym c.requires.numbers) c.requires.known)

pub round-done-requires-clause-design : goal.round-done-requires-clause-design
round-done-requires-clause-design g c = ap (λ (a : Setting). a.design) c.rounds.invariant.setting ∙ c.requires.design

pub round-done-requires-clause-direction : goal.round-done-requires-clause-direction
round-done-requires-clause-direction g c = ap (λ (a : Setting). a.way) c.rounds.invariant.setting ∙ c.requires.direction

pub round-done-requires-clause-kept : goal.round-done-requires-clause-kept
round-done-requires-clause-kept g c = let inv = c.rounds.invariant in subst (λ (a : Setting). AreKept a c.rounds.board.words) (sym inv.setting) inv.kept

pub round-done-requires-clause-windows : goal.round-done-requires-clause-windows
round-done-requires-clause-windows g c = c.rounds.invariant.fits.windows.count

pub round-done-requires-clause-numbers : goal.round-done-requires-clause-numbers
round-done-requires-clause-numbers g c = c.rounds.invariant.numbers

pub round-done-requires-clause-known : goal.round-done-requires-clause-known
round-done-requires-clause-known g c =
    let inv = c.rounds.invariant in subst (λ (n : ℕ). IsKnown c.args.design.now n c.rounds.board.words c.rounds.known) (sym inv.count) inv.known

pub rounds-smaller : goal.rounds-smaller
rounds-smaller g c =
    let a = c.args.board.now.setting in
    let b = c.rounds.board.setting in
    let d = c.args.design.now in
    let order = c.requires.lists.ordered.0 in
    let o = c.requires.lists.ordered.1 in
    let inv = c.rounds.invariant in
    let n = length c.args.workers.now in
    let p = pause_at c.rounds.source.state c.rounds.board in
    let q = pause_at c.round-done.new.source.state c.round-done.new.board in
    let round = rounds_here a b c.args.lists.now order (length c.rounds.workers) n p q inv.setting inv.count (c.round-done.ensures.round order o) in
    let carry = carried a d c.args.lists.now order n p q c.requires.design c.requires.some c.requires.lists o inv.kept round in
    run_nearer a d c.args.direction c.rounds.windows c.round-done.new.windows p.words q.words c.requires.design c.requires.direction inv.fits c.round-done.ensures.fits inv.numbers c.round-done.ensures.numbers carry
    (λ h. both_ways c.rounds.done c.rounds-test.true (inv.steady.1 h))

pub rounds-preserved : goal.rounds-preserved
rounds-preserved g c =
    let a = c.args.board.now.setting in
    let b = c.rounds.board.setting in
    let d = c.args.design.now in
    let lists = c.args.lists.now in
    let inv = c.rounds.invariant in
    let n = length c.args.workers.now in
    let m = length c.rounds.workers in
    let p = pause_at c.rounds.source.state c.rounds.board in
    let q = pause_at c.round-done.new.source.state c.round-done.new.board in
    let own = c.round-done.ensures.setting ∙ inv.setting in
    let mine = c.requires.lists.ordered.0 in
    let o = c.requires.lists.ordered.1 in
    let first = rounds_here a b lists mine m n p q inv.setting inv.count (c.round-done.ensures.round mine o) in
    let carry = carried a d lists mine n p q c.requires.design c.requires.some c.requires.lists o inv.kept first in
    record {
      setting = own;
      count = c.round-done.ensures.count ∙ inv.count;
      rooms = c.round-done.ensures.rooms;
      fits = c.round-done.ensures.fits;
      numbers = c.round-done.ensures.numbers;
      steady = c.round-done.ensures.closed;
      known = subst (λ (n : ℕ). IsKnown d n c.round-done.new.board.words c.round-done.new.self) inv.count c.round-done.ensures.known;
      kept = carry.kept;
      path = λ order oo.
          let round = rounds_here a b lists order m n p q inv.setting inv.count (c.round-done.ensures.round order oo) in
          let begin : Pause = record { source = c.args.number; words = c.args.board.now.words } in
          one_more a d lists order n c.rounds.rounds begin p q c.rounds.windows c.requires.design inv.fits.windows.in_range inv.numbers (λ h. both_ways c.rounds.done c.rounds-test.true (inv.steady.1 h))
          (inv.path order oo) round;
    }

pub returns-clause-extreme : goal.returns-clause-extreme
returns-clause-extreme g c =
    extreme_from_fixpoint c.args.direction c.args.design.now c.rounds.windows (record { windows = c.rounds.invariant.fits.windows; fixed = c.rounds.invariant.steady.0 c.rounds-test.false }) c.rounds.invariant.fits.respects

pub returns-clause-rounds : goal.returns-clause-rounds
returns-clause-rounds g c = λ order o.
    let inv = c.rounds.invariant in
    settles_there c.args.board.now.setting c.args.design.now c.args.lists.now order c.rounds.board.words (length c.args.workers.now) c.args.number c.rounds.rounds c.rounds.source.state c.rounds.rounds c.args.board.now.words
    c.rounds.windows c.requires.design c.requires.start inv.fits.windows.in_range inv.numbers (inv.steady.0 c.rounds-test.false) (λ i. c.rounds.rounds) (inv.path order o)

pub returns-clause-few : goal.returns-clause-few
returns-clause-few g c = λ bound b.
    let order = c.requires.lists.ordered.0 in
    let o = c.requires.lists.ordered.1 in
    let begin : Pause = record { source = c.args.number; words = c.args.board.now.words } in
    let end = pause_at c.rounds.source.state c.rounds.board in
    few_here c.args.board.now.setting c.args.design.now c.args.lists.now order (length c.args.workers.now) c.rounds.rounds bound begin end c.requires.design c.requires.some c.requires.lists o
    c.requires.kept.words (c.rounds.invariant.path order o) b

pub prove-unreachable-requires : goal.prove-unreachable-requires
prove-unreachable-requires g c =
    let a = c.args.board.now.setting in
    let d = c.args.design.now in
    let inv = c.rounds.invariant in
    let order = c.requires.lists.ordered.0 in
    let o = c.requires.lists.ordered.1 in
    let begin : Pause = record { source = c.args.number; words = c.args.board.now.words } in
    let few = fewer_here a d c.args.lists.now order (length c.args.workers.now) c.rounds.rounds c.bound.result begin (pause_at c.rounds.source.state c.rounds.board) c.rounds.windows c.requires.design c.requires.some c.requires.lists o
    c.requires.kept.words inv.fits.windows.in_range inv.numbers (λ h. both_ways c.rounds.done c.rounds-test.true (inv.steady.1 h)) (inv.path order o) c.bound.ensures.value in
    omega (arith, few, c.if-prove.true)

pub overflow_add-rounds : goal.overflow_add-rounds
overflow_add-rounds g c = let most = c.bound.type_inv in omega (arith, c.if-prove.false, most)

pub rounds-init : goal.rounds-init
rounds-init g c = record {
  setting = refl;
  count = refl;
  rooms = c.requires.rooms;
  fits = c.requires.fits;
  numbers = c.requires.numbers;
  known =
      let n = length c.args.workers.now in
      let d = c.args.design.now in
      let before = subst (λ (words : List ℕ). IsKnown d n words c.args.known) (sym c.requires.numbers) c.requires.known in
      subst (λ (words : List ℕ). IsKnown d n words c.look-done.new.self) c.requires.numbers (c.look-done.ensures.known n before);
  steady = c.look-done.ensures.closed;
  kept = c.requires.kept.words;
  path = λ order o. let at : c.new-source.result.state ≡ c.args.number = c.new-source.ensures in ap (λ (n : ℕ). pause_at n c.args.board.now) at;
}
