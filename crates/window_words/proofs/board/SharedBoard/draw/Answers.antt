use Rattle.std.proofs.Common.{rules, ◌≡◌, ◌+◌, ◌*◌, ◌<◌, sym, ap, subst, ◌∙◌}
use Rattle.chaos_core.specs.declared.setting.Setting.{Setting}
use Rattle.chaos_core.specs.Boards.{nets_of}
use Rattle.window_words.specs.Boards.{Holding, late_of, setting_of}
use Rattle.window_words.proofs.Calls.{draws}
use Rattle.window_words.proofs.Holding.{held_drew, draw_inside, not_late}
use Rattle.window_words.proofs.board.SharedBoard.draw.Goals as goal

pub fetch_add-requires : goal.fetch_add-requires
fetch_add-requires c =
    let seat = c.pass.inside.seat in
    let table = c.self.inside.table.shared in
    let word = c.draw_word-word.result in
    let run : seat.me.0.setting ≡ c.args.self.now.setting = ap (λ (h : Holding). h.view.setting) c.pass.view_is ∙ c.requires.own.setting in
    let is : word ≡ 8 * nets_of seat.me.0.setting = c.draw_word-word.ensures.word ∙ ap (λ (a : Setting). 8 * nets_of a) (sym run) in
    let room = subst (λ (a : Setting). 8 * nets_of a + 1 < 18446744073709551616) (sym run) c.draw_word-word.ensures.room in
    let late = subst (λ (h : Holding). 0 < late_of h.view) (sym c.pass.view_is) c.requires.late in (
      search rules,
      draw_inside seat.table_id table.table_id seat.me.0.setting word (search rules) c.pass.invariant.sized is,
      draws (setting_of table.key) table.table_id.slots seat.id word seat.me c.pass.invariant.unspent c.pass.invariant.seen is (not_late seat.me.0 late) room,
    )

pub invariant_of-pass : goal.invariant_of-pass
invariant_of-pass c =
    let before = c.pass.inside.seat in
    let after = c.fetch_add.new.seat in
    held_drew before.table_id after.table_id before.me after.me c.fetch_add.result c.pass.invariant c.fetch_add.ensures.0 c.fetch_add.ensures.2.0 c.fetch_add.ensures.2.1
