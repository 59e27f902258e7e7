use Rattle.std.proofs.Common.{◌≡◌, ◌*◌, ◌<◌, ◌≤◌, sym, ap, subst, ◌∙◌, length, arith}
use Rattle.std.proofs.lemmas.List.{take_all}
use Rattle.chaos_core.specs.declared.setting.Setting.{Setting}
use Rattle.chaos_core.specs.Boards.{nets_of}
use Rattle.window_words.specs.declared.view.View.{View}
use Rattle.window_words.specs.Boards.{Holding}
use Rattle.window_words.specs.Steps.{Loaded}
use Rattle.window_words.proofs.Holding.{loads_same, loads_next, rested}
use Rattle.window_words.proofs.board.SharedBoard.close.Goals as goal

pub load-requires-clause-word : goal.load-requires-clause-word
load-requires-clause-word c =
    let below = c.loop-word-test.true in
    let count = c.draw_word-count.ensures.word in
    let k : c.loop-word.word < 8 * nets_of c.args.self.setting = omega (arith, below, count) in
    subst (λ (a : Setting). c.loop-word.word < 8 * nets_of a) (sym c.loop-word.invariant.own.setting) k

pub loop-word-preserved : goal.loop-word-preserved
loop-word-preserved c =
    let word = c.loop-word.word in
    let number = c.load.result in
    let first : View = c.args.first.view in
    let before : View = c.loop-word.first.view in
    let after : View = c.load.new.pass.view in
    let step : Loaded first word number after = subst (λ (v : View). Loaded v word number after) c.loop-word.invariant.view c.load.ensures.loaded in
    let whole = subst (λ (h : Holding). length h.view.seen ≡ 8 * nets_of h.view.setting) c.first.view_is c.first.invariant.seen.count in
    let inside : word < length first.seen =
    let below = c.loop-word-test.true in
    let count = c.draw_word-count.ensures.word in
    let run = ap (λ (a : Setting). 8 * nets_of a) c.requires.own.setting in
    omega (arith, below, count, run, whole) in
    record {
      own = c.load.ensures.own;
      view = loads_same first after word number c.requires.alone step;
      rested = λ some. rested first after word number c.requires.alone step;
      words = c.in_ok-push.ensures.items ∙ loads_next first after word number c.loop-word.words.items c.requires.alone step inside c.loop-word.invariant.words;
    }

pub returns-clause-words : goal.returns-clause-words
returns-clause-words c =
    let first : View = c.args.first.view in
    let whole = subst (λ (h : Holding). length h.view.seen ≡ 8 * nets_of h.view.setting) c.first.view_is c.first.invariant.seen.count in
    let end : length first.seen ≤ c.loop-word.word =
    let past = c.loop-word-test.false in
    let count = c.draw_word-count.ensures.word in
    let run = ap (λ (a : Setting). 8 * nets_of a) c.requires.own.setting in
    omega (arith, past, count, run, whole) in
    c.loop-word.invariant.words ∙ take_all c.loop-word.word first.seen end

pub returns-clause-rested : goal.returns-clause-rested
returns-clause-rested c = λ some.
    let past = c.loop-word-test.false in
    let count = c.draw_word-count.ensures.word in
    let run = ap (λ (a : Setting). 8 * nets_of a) c.requires.own.setting in
    c.loop-word.invariant.rested (omega (arith, past, count, run, some))
