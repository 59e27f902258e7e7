use Rattle.std.proofs.Common.{rules, ◌<◌, sym, subst, arith}
use Rattle.dirty_words.specs.Boards.{DirtyHolding, IsFirst, run_at}
use Rattle.dirty_words.proofs.Calls.{splits}
use Rattle.dirty_words.proofs.Holding.{held_out, held_sent, in_table}
use Rattle.dirty_words.proofs.board.DirtyBoard.split.Goals as goal

pub split_seat-seat-requires : goal.split_seat-seat-requires
split_seat-seat-requires c =
    let seat = c.first.inside.seat in
    let table = c.self.inside.table.shared in
    let first = subst (λ (h : DirtyHolding). IsFirst h.view) (sym c.first.view_is) c.requires.first in
    let few = subst (λ (h : DirtyHolding). h.view.base.split < 64) (sym c.first.view_is) c.requires.few in (
      search rules,
      in_table seat.table_id table.table_id seat.me.0.base.setting 0 (search rules) c.first.invariant.sized (omega arith),
      splits (run_at table.key) seat.id seat.me.0 c.first.invariant.live first few,
    )

pub invariant_of-first : goal.invariant_of-first
invariant_of-first c =
    let before = c.first.inside.seat in
    let after = c.split_seat-seat.new.seat in
    held_out before.table_id after.table_id before.me after.me c.first.invariant c.split_seat-seat.ensures.0 c.split_seat-seat.ensures.2

pub invariant_of-result : goal.invariant_of-result
invariant_of-result c =
    let before = c.first.inside.seat in
    let seat = c.split_seat-seat.result in
    held_sent before.table_id seat.table_id before.me seat.me c.first.invariant c.split_seat-seat.ensures.3 c.split_seat-seat.ensures.4
