use Rattle.std.proofs.Common.{◌≡◌, ◌∙◌, sym, ap, subst, List, ℕ}
use Rattle.std.proofs.lemmas.Result.{IfOk-weaker}
use Rattle.xt_meaning.specs.Words.{numbers_of}
use Rattle.chaos_core.specs.declared.setting.Setting.{Setting}
use Rattle.dirty_words.specs.declared.view.DirtyView.{DirtyView}
use Rattle.dirty_words.specs.Views.{Run}
use Rattle.dirty_run.specs.Rounds.{AreMarkedTurns}
use Rattle.dirty_run.proofs.starting.settle_dirty_among.Goals as goal

pub returns-clause-turns : goal.returns-clause-turns
returns-clause-turns g c =
    let a : Setting = record { design = c.args.design.now; way = c.args.direction; start = c.args.start.now } in
    let view = c.in_ok-board.ensures.first in
    let own : c.in_ok-board.board.run.setting ≡ a = ap (λ (r : Run). r.setting) (sym c.in_ok-board.ensures.own.run) ∙ ap (λ (v : DirtyView). v.base.setting) view in
    IfOk-weaker c.settle_dirty.result _ _
    (λ settled h. subst (λ (x : Setting). AreMarkedTurns x settled.rounds (numbers_of c.args.start.now) (numbers_of settled.windows)) own
    (subst (λ (words : List ℕ). AreMarkedTurns c.in_ok-board.board.run.setting settled.rounds words (numbers_of settled.windows)) (ap (λ (v : DirtyView). v.base.seen) view) h))
    c.settle_dirty.ensures.turns

pub settle_dirty-requires-clause-own : goal.settle_dirty-requires-clause-own
settle_dirty-requires-clause-own g c = λ _ _. c.in_ok-board.ensures.own

pub settle_dirty-requires-clause-alone : goal.settle_dirty-requires-clause-alone
settle_dirty-requires-clause-alone g c = λ _ _. (ap (λ (v : DirtyView). v.base.role) c.in_ok-board.ensures.first, ap (λ (v : DirtyView). v.base.out) c.in_ok-board.ensures.first)

pub settle_dirty-requires-clause-free : goal.settle_dirty-requires-clause-free
settle_dirty-requires-clause-free g c = λ _ _. record { flight = ap (λ (v : DirtyView). v.flight) c.in_ok-board.ensures.first; owed = ap (λ (v : DirtyView). v.owed) c.in_ok-board.ensures.first }

pub settle_dirty-requires-clause-design : goal.settle_dirty-requires-clause-design
settle_dirty-requires-clause-design g c = λ _ _.
    let own = ap (λ (r : Run). r.setting) (sym c.in_ok-board.ensures.own.run) ∙ ap (λ (v : DirtyView). v.base.setting) c.in_ok-board.ensures.first in
    ap (λ (a : Setting). a.design) own

pub settle_dirty-requires-clause-direction : goal.settle_dirty-requires-clause-direction
settle_dirty-requires-clause-direction g c = λ _ _.
    let own = ap (λ (r : Run). r.setting) (sym c.in_ok-board.ensures.own.run) ∙ ap (λ (v : DirtyView). v.base.setting) c.in_ok-board.ensures.first in
    ap (λ (a : Setting). a.way) own

pub settle_dirty-requires-clause-lists : goal.settle_dirty-requires-clause-lists
settle_dirty-requires-clause-lists g c = λ _ _. c.requires.lists

pub settle_dirty-requires-clause-readers : goal.settle_dirty-requires-clause-readers
settle_dirty-requires-clause-readers g c = λ _ _. c.requires.readers

pub settle_dirty-requires-clause-some : goal.settle_dirty-requires-clause-some
settle_dirty-requires-clause-some g c = λ _ _. c.requires.some

pub settle_dirty-requires-clause-few : goal.settle_dirty-requires-clause-few
settle_dirty-requires-clause-few g c = λ _ _. c.requires.few

pub returns-clause-extreme : goal.returns-clause-extreme
returns-clause-extreme g c = c.settle_dirty.ensures.extreme

pub returns-clause-few : goal.returns-clause-few
returns-clause-few g c = c.settle_dirty.ensures.few

pub returns-clause-consistent : goal.returns-clause-consistent
returns-clause-consistent g c = c.settle_dirty.ensures.consistent
