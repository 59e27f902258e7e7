use Rattle.std.proofs.Common.{rules, ◌≡◌, ◌+◌, ◌-◌, ◌*◌, ◌<◌, ◌==◌, sym, ap, subst, ◌∙◌, arith}
use Rattle.chaos_core.specs.Boards.{nets_of}
use Rattle.dirty_words.specs.Boards.{DirtyHolding, run_at}
use Rattle.dirty_words.specs.Views.{Run, run_of}
use Rattle.dirty_words.specs.Steps.{mark_of, CanTake, Took}
use Rattle.dirty_words.proofs.Calls.{takes}
use Rattle.dirty_words.proofs.Holding.{held_took, in_table, took_told}
use Rattle.dirty_words.proofs.board.DirtyBoard.take.Goals as goal

pub mark_word-word-requires : goal.mark_word-word-requires
mark_word-word-requires c = record { there = subst (λ (r : Run). c.args.net.0 < nets_of r.setting) c.requires.own.run c.requires.take.there }

pub swap-requires : goal.swap-requires
swap-requires c =
    let seat = c.pass.inside.seat in
    let table = c.self.inside.table.shared in
    let word = c.mark_word-word.result in
    let can = subst (λ (h : DirtyHolding). CanTake h.view c.args.net.0) (sym c.pass.view_is) c.requires.take in
    let run : run_of seat.me.0 ≡ c.args.self.now.run = ap (λ (h : DirtyHolding). run_of h.view) c.pass.view_is ∙ c.requires.own.run in
    let is : word ≡ 8 * nets_of seat.me.0.base.setting + c.args.net.0 = c.mark_word-word.ensures.word ∙ ap (λ (r : Run). 8 * nets_of r.setting + c.args.net.0) (sym run) in
    let there = can.there in (
      search rules,
      in_table seat.table_id table.table_id seat.me.0.base.setting word (search rules) c.pass.invariant.sized (omega (arith, is, there)),
      takes (run_at table.key) table.table_id.slots seat.id seat.me c.pass.invariant.live word c.args.net.0 is can,
    )

pub invariant_of-pass : goal.invariant_of-pass
invariant_of-pass c =
    let before = c.pass.inside.seat in
    let after = c.swap.new.seat in
    let word = c.mark_word-word.result in
    held_took before.table_id after.table_id before.me after.me (word - 8 * nets_of before.me.0.base.setting) c.swap.result c.pass.invariant c.swap.ensures.0 c.swap.ensures.2.0 c.swap.ensures.2.1

pub returns-clause-took : goal.returns-clause-took
returns-clause-took c =
    let seat = c.pass.inside.seat in
    let word = c.mark_word-word.result in
    let run : run_of seat.me.0 ≡ c.args.self.now.run = ap (λ (h : DirtyHolding). run_of h.view) c.pass.view_is ∙ c.requires.own.run in
    let is : word ≡ 8 * nets_of seat.me.0.base.setting + c.args.net.0 = c.mark_word-word.ensures.word ∙ ap (λ (r : Run). 8 * nets_of r.setting + c.args.net.0) (sym run) in
    let place : c.args.net.0 ≡ word - 8 * nets_of seat.me.0.base.setting = omega (arith, is) in
    subst (λ (h : DirtyHolding). Took h.view c.args.net.0 (mark_of (c.swap.result == 1)) c.swap.new.seat.me.0) c.pass.view_is
    (took_told seat.me.0 c.swap.new.seat.me.0 c.args.net.0 (word - 8 * nets_of seat.me.0.base.setting) c.swap.result place c.swap.ensures.2.0)
