use Rattle.std.proofs.Common.{rules, ◌*◌, ◌<◌, sym, subst, arith}
use Rattle.chaos_core.specs.Boards.{nets_of}
use Rattle.dirty_words.specs.Boards.{DirtyHolding, run_at}
use Rattle.dirty_words.specs.Boards.{IsAlone}
use Rattle.dirty_words.proofs.Calls.{sees}
use Rattle.dirty_words.proofs.Holding.{held_saw, in_table}
use Rattle.dirty_words.proofs.board.DirtyBoard.word.Goals as goal

pub load-requires : goal.load-requires
load-requires c =
    let seat = c.first.inside.seat in
    let table = c.self.inside.table.shared in
    let word = c.args.word in
    let inside : word < 8 * nets_of seat.me.0.base.setting = subst (λ (h : DirtyHolding). word < 8 * nets_of h.view.base.setting) (sym c.first.view_is) c.requires.word in
    let alone = subst (λ (h : DirtyHolding). IsAlone h.view) (sym c.first.view_is) c.requires.alone in (
      search rules,
      in_table seat.table_id table.table_id seat.me.0.base.setting word (search rules) c.first.invariant.sized (omega (arith, inside)),
      sees (run_at table.key) table.table_id.slots seat.id seat.me c.first.invariant.live word inside alone,
    )

pub invariant_of-first : goal.invariant_of-first
invariant_of-first c =
    let before = c.first.inside.seat in
    let after = c.load.new.seat in
    held_saw before.table_id after.table_id before.me after.me c.args.word c.load.result c.first.invariant c.load.ensures.0 c.load.ensures.2.0 c.load.ensures.2.1
