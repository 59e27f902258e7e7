use Rattle.std.proofs.Common.{rules, ◌≡◌, ◌*◌, sym, ap, subst, ◌∙◌}
use Rattle.chaos_core.specs.declared.setting.Setting.{Setting}
use Rattle.chaos_core.specs.Boards.{nets_of}
use Rattle.window_words.specs.Boards.{Holding, IsAlone, setting_of}
use Rattle.window_words.proofs.Calls.{restarts}
use Rattle.window_words.proofs.Holding.{held_anew, draw_inside}
use Rattle.window_words.proofs.board.SharedBoard.restart.Goals as goal

pub store-requires : goal.store-requires
store-requires c =
    let seat = c.first.inside.seat in
    let table = c.self.inside.table.shared in
    let word = c.draw_word-word.result in
    let run : seat.me.0.setting ≡ c.args.self.now.setting = ap (λ (h : Holding). h.view.setting) c.first.view_is ∙ c.requires.own.setting in
    let is : word ≡ 8 * nets_of seat.me.0.setting = c.draw_word-word.ensures.word ∙ ap (λ (a : Setting). 8 * nets_of a) (sym run) in
    let alone = subst (λ (h : Holding). IsAlone h.view) (sym c.first.view_is) c.requires.alone in (
      search rules,
      draw_inside seat.table_id table.table_id seat.me.0.setting word (search rules) c.first.invariant.sized is,
      restarts (setting_of table.key) table.table_id.slots seat.id word seat.me c.first.invariant.unspent is alone,
    )

pub invariant_of-first : goal.invariant_of-first
invariant_of-first c =
    let before = c.first.inside.seat in
    let after = c.store.new.seat in
    held_anew before.table_id after.table_id before.me after.me c.first.invariant c.store.ensures.0 c.store.ensures.2.0 c.store.ensures.2.1
