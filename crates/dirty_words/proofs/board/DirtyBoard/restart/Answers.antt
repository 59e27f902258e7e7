use Rattle.std.proofs.Common.{rules, ◌≡◌, ◌*◌, sym, ap, subst, ◌∙◌, arith}
use Rattle.chaos_core.specs.Boards.{nets_of}
use Rattle.dirty_words.specs.Boards.{DirtyHolding, IsAlone, run_at}
use Rattle.dirty_words.specs.Views.{Run, run_of}
use Rattle.dirty_words.proofs.Calls.{restarts}
use Rattle.dirty_words.proofs.Holding.{held_anew, in_table}
use Rattle.dirty_words.proofs.board.DirtyBoard.restart.Goals as goal

pub store-requires : goal.store-requires
store-requires c =
    let seat = c.first.inside.seat in
    let table = c.self.inside.table.shared in
    let word = c.draw_word-word.result in
    let run : run_of seat.me.0 ≡ c.args.self.now.run = ap (λ (h : DirtyHolding). run_of h.view) c.first.view_is ∙ c.requires.own.run in
    let is : word ≡ 9 * nets_of seat.me.0.base.setting = c.draw_word-word.ensures.word ∙ ap (λ (r : Run). 9 * nets_of r.setting) (sym run) in
    let alone = subst (λ (h : DirtyHolding). IsAlone h.view) (sym c.first.view_is) c.requires.alone in (
      search rules,
      in_table seat.table_id table.table_id seat.me.0.base.setting word (search rules) c.first.invariant.sized (omega (arith, is)),
      restarts (run_at table.key) table.table_id.slots seat.id seat.me c.first.invariant.live word is alone,
    )

pub invariant_of-first : goal.invariant_of-first
invariant_of-first c =
    let before = c.first.inside.seat in
    let after = c.store.new.seat in
    held_anew before.table_id after.table_id before.me after.me c.first.invariant c.store.ensures.0 c.store.ensures.2.0 c.store.ensures.2.1
