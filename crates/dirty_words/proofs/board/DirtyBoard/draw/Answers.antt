use Rattle.std.proofs.Common.{rules, ◌≡◌, ◌+◌, ◌*◌, ◌<◌, sym, ap, subst, ◌∙◌, arith}
use Rattle.chaos_core.specs.Boards.{nets_of}
use Rattle.window_words.specs.Boards.{late_of}
use Rattle.window_words.proofs.Holding.{not_late}
use Rattle.dirty_words.specs.Boards.{DirtyHolding, run_at}
use Rattle.dirty_words.specs.Views.{Run, run_of}
use Rattle.dirty_words.proofs.Calls.{draws}
use Rattle.dirty_words.proofs.Holding.{held_drew, in_table}
use Rattle.dirty_words.proofs.board.DirtyBoard.draw.Goals as goal

pub fetch_add-requires : goal.fetch_add-requires
fetch_add-requires c =
    let seat = c.pass.inside.seat in
    let table = c.self.inside.table.shared in
    let word = c.draw_word-word.result in
    let run : run_of seat.me.0 ≡ c.args.self.now.run = ap (λ (h : DirtyHolding). run_of h.view) c.pass.view_is ∙ c.requires.own.run in
    let is : word ≡ 9 * nets_of seat.me.0.base.setting = c.draw_word-word.ensures.word ∙ ap (λ (r : Run). 9 * nets_of r.setting) (sym run) in
    let room = subst (λ (r : Run). 9 * nets_of r.setting + 1 < 18446744073709551616) (sym run) c.draw_word-word.ensures.room in
    let late = subst (λ (h : DirtyHolding). 0 < late_of h.view.base) (sym c.pass.view_is) c.requires.late in (
      search rules,
      in_table seat.table_id table.table_id seat.me.0.base.setting word (search rules) c.pass.invariant.sized (omega (arith, is)),
      draws (run_at table.key) table.table_id.slots seat.id seat.me c.pass.invariant.live word is (not_late seat.me.0.base late) room,
    )

pub invariant_of-pass : goal.invariant_of-pass
invariant_of-pass c =
    let before = c.pass.inside.seat in
    let after = c.fetch_add.new.seat in
    held_drew before.table_id after.table_id before.me after.me c.fetch_add.result c.pass.invariant c.fetch_add.ensures.0 c.fetch_add.ensures.2.0 c.fetch_add.ensures.2.1
