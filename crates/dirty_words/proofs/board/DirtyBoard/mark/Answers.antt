use Rattle.std.proofs.Common.{rules, ◌≡◌, ◌+◌, ◌-◌, ◌*◌, ◌<◌, Contains, sym, ap, subst, ◌∙◌, arith}
use Rattle.chaos_core.specs.Boards.{nets_of}
use Rattle.dirty_words.specs.Boards.{DirtyHolding, run_at}
use Rattle.dirty_words.specs.Views.{Run, run_of}
use Rattle.dirty_words.proofs.Calls.{notes}
use Rattle.dirty_words.proofs.Holding.{held_noted, in_table}
use Rattle.dirty_words.proofs.board.DirtyBoard.mark.Goals as goal

pub mark_word-word-requires : goal.mark_word-word-requires
mark_word-word-requires c =
    let can = subst (λ (h : DirtyHolding). Contains h.view.owed c.args.net.0) (sym c.pass.view_is) c.requires.owed in
    let run : run_of c.pass.inside.seat.me.0 ≡ c.args.self.now.run = ap (λ (h : DirtyHolding). run_of h.view) c.pass.view_is ∙ c.requires.own.run in
    record { there = subst (λ (r : Run). c.args.net.0 < nets_of r.setting) run (c.pass.invariant.owing c.args.net.0 can) }

pub fetch_or-requires : goal.fetch_or-requires
fetch_or-requires c =
    let seat = c.pass.inside.seat in
    let table = c.self.inside.table.shared in
    let word = c.mark_word-word.result in
    let run : run_of seat.me.0 ≡ c.args.self.now.run = ap (λ (h : DirtyHolding). run_of h.view) c.pass.view_is ∙ c.requires.own.run in
    let is : word ≡ 8 * nets_of seat.me.0.base.setting + c.args.net.0 = c.mark_word-word.ensures.word ∙ ap (λ (r : Run). 8 * nets_of r.setting + c.args.net.0) (sym run) in
    let can = subst (λ (h : DirtyHolding). Contains h.view.owed c.args.net.0) (sym c.pass.view_is) c.requires.owed in
    let there = c.pass.invariant.owing c.args.net.0 can in (
      search rules,
      in_table seat.table_id table.table_id seat.me.0.base.setting word (search rules) c.pass.invariant.sized (omega (arith, is, there)),
      notes (run_at table.key) table.table_id.slots seat.id seat.me c.pass.invariant.live word c.args.net.0 is there can,
    )

pub invariant_of-pass : goal.invariant_of-pass
invariant_of-pass c =
    let before = c.pass.inside.seat in
    let after = c.fetch_or.new.seat in
    let word = c.mark_word-word.result in
    held_noted before.table_id after.table_id before.me after.me (word - 8 * nets_of before.me.0.base.setting) c.pass.invariant c.fetch_or.ensures.0 c.fetch_or.ensures.2.0 c.fetch_or.ensures.2.1
