use Rattle.std.proofs.Common.{◌≡◌, ℕ, sym, subst, ap, ◌∙◌, List, length, arith}
use Rattle.xt_model.specs.Levels.{IsOrder}
use Rattle.xt_model.specs.declared.direction.Direction.{Direction}
use Rattle.xt_meaning.specs.Barrier.{IsFittingStart}
use Rattle.xt_meaning.specs.Laws.{IsExtremeFixpoint}
use Rattle.xt_meaning.specs.Words.{numbers_of}
use Rattle.run_laws.proofs.Hulls.{within_greatest}
use Rattle.chaos_core.specs.declared.setting.Setting.{Setting}
use Rattle.chaos_core.specs.Knowing.{IsKnown}
use Rattle.chaos_core.specs.Memories.{Memory}
use Rattle.chaos_core.specs.Rounds.{Settles}
use Rattle.chaos_core.proofs.settle.settle_gated.Goals as goal

pub returns-clause-rounds : goal.returns-clause-rounds
returns-clause-rounds g c =
    let a : Setting = record { design = c.args.design.now; way = c.args.direction; start = c.args.start.now } in
    let s : c.in_ok-board.board.setting ≡ a = ap (λ (m : Memory). m.setting) c.in_ok-board.ensures in
    let n : length c.as_mut_slice.result.now ≡ c.args.workers = ap length c.as_mut_slice.ensures.value ∙ c.in_ok-workers.ensures.count in
    let lists = c.args.lists.now in
    let settled = c.settle_on.result in
    subst (λ (k : ℕ). (order : List ℕ) → IsOrder c.args.design.now.nets order → Settles a lists order k c.args.number settled.windows settled.rounds) n
    (subst (λ (x : Setting). (order : List ℕ) → IsOrder c.args.design.now.nets order
    → Settles x lists order (length c.as_mut_slice.result.now) c.args.number settled.windows settled.rounds) s c.settle_on.ensures.rounds)

pub returns-clause-consistent : goal.returns-clause-consistent
returns-clause-consistent g c = λ narrow.
    let d = c.args.design.now in
    let within = c.requires.start.within in
    let o = c.requires.lists.ordered.1 in
    let settled = c.settle_on.result in
    λ xs are. within_greatest d o.0 within.top settled.windows xs c.requires.lists.sound o.1 within.envelope (subst (λ (way : Direction). IsExtremeFixpoint way d settled.windows) narrow c.settle_on.ensures.extreme) are

pub settle_on-requires-clause-design : goal.settle_on-requires-clause-design
settle_on-requires-clause-design g c = λ _ _. ap (λ (m : Memory). m.setting.design) c.in_ok-board.ensures

pub settle_on-requires-clause-direction : goal.settle_on-requires-clause-direction
settle_on-requires-clause-direction g c = λ _ _. ap (λ (m : Memory). m.setting.way) c.in_ok-board.ensures

pub settle_on-requires-clause-start : goal.settle_on-requires-clause-start
settle_on-requires-clause-start g c = λ _ _. ap (λ (m : Memory). m.words) c.in_ok-board.ensures ∙ sym (ap (λ (m : Memory). numbers_of m.setting.start) c.in_ok-board.ensures)

pub settle_on-requires-clause-kept : goal.settle_on-requires-clause-kept
settle_on-requires-clause-kept g c = λ _ _. c.windows.ensures.kept

pub settle_on-requires-clause-numbers : goal.settle_on-requires-clause-numbers
settle_on-requires-clause-numbers g c = λ _ _. c.in_ok-windows.ensures.numbers

pub settle_on-requires-clause-fits : goal.settle_on-requires-clause-fits
settle_on-requires-clause-fits g c = λ _ _. subst (λ (m : Memory). IsFittingStart m.setting.way m.setting.design c.in_ok-windows.windows) c.in_ok-board.ensures c.in_ok-windows.ensures.fits

pub settle_on-requires-clause-known : goal.settle_on-requires-clause-known
settle_on-requires-clause-known g c = λ _ _.
    let n : length c.as_mut_slice.result.now ≡ c.args.workers = ap length c.as_mut_slice.ensures.value ∙ c.in_ok-workers.ensures.count in
    subst (λ (k : ℕ). IsKnown c.args.design.now k c.in_ok-board.board.words c.in_ok-known.known) (sym n) c.in_ok-known.ensures

pub settle_on-requires-clause-lists : goal.settle_on-requires-clause-lists
settle_on-requires-clause-lists g c = λ _ _. c.requires.lists

pub settle_on-requires-clause-some : goal.settle_on-requires-clause-some
settle_on-requires-clause-some g c = λ _ _.
    let n : length c.as_mut_slice.result.now ≡ c.args.workers = ap length c.as_mut_slice.ensures.value ∙ c.in_ok-workers.ensures.count in
    omega (arith, n, c.requires.some)

pub settle_on-requires-clause-few : goal.settle_on-requires-clause-few
settle_on-requires-clause-few g c = λ _ _.
    let n : length c.as_mut_slice.result.now ≡ c.args.workers = ap length c.as_mut_slice.ensures.value ∙ c.in_ok-workers.ensures.count in
    omega (arith, n, c.requires.few)

pub returns-clause-extreme : goal.returns-clause-extreme
returns-clause-extreme g c = c.settle_on.ensures.extreme

pub returns-clause-few : goal.returns-clause-few
returns-clause-few g c = c.settle_on.ensures.few

pub settle_on-requires-clause-groups : goal.settle_on-requires-clause-groups
settle_on-requires-clause-groups g c = λ _ _. rw c.as_slice.ensures.value (rw c.tables.ensures.value at c.in_ok-groups.ensures)

pub settle_on-requires-clause-rooms : goal.settle_on-requires-clause-rooms
settle_on-requires-clause-rooms g c = λ _ _. rw c.as_mut_slice.ensures.value c.in_ok-workers.ensures.rooms
