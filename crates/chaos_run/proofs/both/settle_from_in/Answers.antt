use Rattle.std.proofs.Common.{◌≡◌, ◌∙◌, sym, ap, subst, List, ℕ}
use Rattle.xt_meaning.specs.Words.{numbers_of}
use Rattle.window_words.specs.declared.view.View.{View}
use Rattle.chaos_core.specs.declared.setting.Setting.{Setting}
use Rattle.chaos_core.specs.Rounds.{AreTurns}
use Rattle.chaos_run.proofs.Turned.{from_start}
use Rattle.chaos_run.proofs.both.settle_from_in.Goals as goal

pub settle_in-requires-clause-own : goal.settle_in-requires-clause-own
settle_in-requires-clause-own g c = λ _ _. c.in_ok-board.ensures.own

pub settle_in-requires-clause-alone : goal.settle_in-requires-clause-alone
settle_in-requires-clause-alone g c = λ _ _. let view = c.in_ok-board.ensures.first in (ap (λ (v : View). v.role) view, ap (λ (v : View). v.out) view)

pub settle_in-requires-clause-design : goal.settle_in-requires-clause-design
settle_in-requires-clause-design g c = λ _ _.
    let view = c.in_ok-board.ensures.first in
    let run = sym c.in_ok-board.ensures.own.setting ∙ ap (λ (v : View). v.setting) view in
    ap (λ (a : Setting). a.design) run

pub settle_in-requires-clause-direction : goal.settle_in-requires-clause-direction
settle_in-requires-clause-direction g c = λ _ _.
    let view = c.in_ok-board.ensures.first in
    let run = sym c.in_ok-board.ensures.own.setting ∙ ap (λ (v : View). v.setting) view in
    ap (λ (a : Setting). a.way) run

pub returns-clause-closed : goal.returns-clause-closed
returns-clause-closed g c =
    from_start c.args.design.now c.args.start.now c.in_ok-board.first.view.seen c.settle_in.result.rounds c.requires.start.windows (ap (λ (v : View). v.seen) c.in_ok-board.ensures.first) c.settle_in.ensures.closed

pub returns-clause-turns : goal.returns-clause-turns
returns-clause-turns g c =
    let a : Setting = record { design = c.args.design.now; way = c.args.direction; start = c.args.start.now } in
    let view = c.in_ok-board.ensures.first in
    let run : c.in_ok-board.board.setting ≡ a = sym c.in_ok-board.ensures.own.setting ∙ ap (λ (v : View). v.setting) view in
    subst (λ (x : Setting). AreTurns x c.settle_in.result.rounds (numbers_of c.args.start.now) (numbers_of c.settle_in.result.windows)) run
    (subst (λ (words : List ℕ). AreTurns c.in_ok-board.board.setting c.settle_in.result.rounds words (numbers_of c.settle_in.result.windows)) (ap (λ (v : View). v.seen) view) c.settle_in.ensures.turns)

pub settle_in-requires-clause-room : goal.settle_in-requires-clause-room
settle_in-requires-clause-room g c = λ _ _. c.requires.room

pub settle_in-requires-clause-lists : goal.settle_in-requires-clause-lists
settle_in-requires-clause-lists g c = λ _ _. c.requires.lists

pub settle_in-requires-clause-some : goal.settle_in-requires-clause-some
settle_in-requires-clause-some g c = λ _ _. c.requires.some

pub settle_in-requires-clause-few : goal.settle_in-requires-clause-few
settle_in-requires-clause-few g c = λ _ _. c.requires.few

pub returns-clause-extreme : goal.returns-clause-extreme
returns-clause-extreme g c = c.settle_in.ensures.extreme

pub returns-clause-few : goal.returns-clause-few
returns-clause-few g c = c.settle_in.ensures.few

pub returns-clause-consistent : goal.returns-clause-consistent
returns-clause-consistent g c = c.settle_in.ensures.consistent
