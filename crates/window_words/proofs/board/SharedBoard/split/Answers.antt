use Rattle.std.proofs.Common.{rules, ◌<◌, sym, subst}
use Rattle.window_words.specs.Boards.{Holding, IsFirst, setting_of}
use Rattle.window_words.proofs.Calls.{splits}
use Rattle.window_words.proofs.Holding.{held_out, held_sent, some_word}
use Rattle.window_words.proofs.board.SharedBoard.split.Goals as goal

pub split_seat-seat-requires : goal.split_seat-seat-requires
split_seat-seat-requires c =
    let seat = c.first.inside.seat in
    let table = c.self.inside.table.shared in
    let first = subst IsFirst (sym c.first.view_is) c.requires.first in
    let few = subst (λ (h : Holding). h.view.split < 64) (sym c.first.view_is) c.requires.few in (
      search rules,
      some_word seat.table_id table.table_id seat.me.0.setting (search rules) c.first.invariant.sized,
      splits (setting_of table.key) seat.id seat.me.0 first few,
    )

pub invariant_of-first : goal.invariant_of-first
invariant_of-first c =
    let before = c.first.inside.seat in
    let after = c.split_seat-seat.new.seat in
    held_out before.table_id after.table_id before.me after.me c.first.invariant c.split_seat-seat.ensures.0 c.split_seat-seat.ensures.2

pub invariant_of-result : goal.invariant_of-result
invariant_of-result c =
    let before = c.first.inside.seat in
    let seat = c.split_seat-seat.result in
    held_sent before.table_id seat.table_id before.me seat.me c.first.invariant c.split_seat-seat.ensures.3 c.split_seat-seat.ensures.4
