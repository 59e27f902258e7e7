use Rattle.std.proofs.Common.{rules, ◌≡◌, ◌+◌, ◌-◌, ◌*◌, ◌<◌, ◌==◌, sym, ap, subst, ◌∙◌, arith}
use Rattle.chaos_core.specs.Boards.{nets_of}
use Rattle.dirty_words.specs.Boards.{DirtyHolding, IsAlone, run_at}
use Rattle.dirty_words.specs.Views.{Run, run_of}
use Rattle.dirty_words.specs.Steps.{mark_of, Looked}
use Rattle.dirty_words.proofs.Calls.{looks}
use Rattle.dirty_words.proofs.Holding.{held_looked, in_table, looked_told}
use Rattle.dirty_words.proofs.board.DirtyBoard.marked.Goals as goal

pub mark_word-word-requires : goal.mark_word-word-requires
mark_word-word-requires c = record { there = subst (λ (r : Run). c.args.net.0 < nets_of r.setting) c.requires.own.run c.requires.there }

pub load-requires : goal.load-requires
load-requires c =
    let seat = c.first.inside.seat in
    let table = c.self.inside.table.shared in
    let word = c.mark_word-word.result in
    let there = subst (λ (h : DirtyHolding). c.args.net.0 < nets_of h.view.base.setting) (sym c.first.view_is) c.requires.there in
    let run : run_of seat.me.0 ≡ c.args.self.now.run = ap (λ (h : DirtyHolding). run_of h.view) c.first.view_is ∙ c.requires.own.run in
    let is : word ≡ 8 * nets_of seat.me.0.base.setting + c.args.net.0 = c.mark_word-word.ensures.word ∙ ap (λ (r : Run). 8 * nets_of r.setting + c.args.net.0) (sym run) in
    let can = subst (λ (h : DirtyHolding). IsAlone h.view) (sym c.first.view_is) c.requires.alone in (
      search rules,
      in_table seat.table_id table.table_id seat.me.0.base.setting word (search rules) c.first.invariant.sized (omega (arith, is, there)),
      looks (run_at table.key) table.table_id.slots seat.id seat.me c.first.invariant.live word c.args.net.0 is there can,
    )

pub invariant_of-first : goal.invariant_of-first
invariant_of-first c =
    let before = c.first.inside.seat in
    let after = c.load.new.seat in
    let word = c.mark_word-word.result in
    held_looked before.table_id after.table_id before.me after.me (word - 8 * nets_of before.me.0.base.setting) c.load.result c.first.invariant c.load.ensures.0 c.load.ensures.2.0 c.load.ensures.2.1

pub returns-clause-looked : goal.returns-clause-looked
returns-clause-looked c =
    let seat = c.first.inside.seat in
    let word = c.mark_word-word.result in
    let run : run_of seat.me.0 ≡ c.args.self.now.run = ap (λ (h : DirtyHolding). run_of h.view) c.first.view_is ∙ c.requires.own.run in
    let is : word ≡ 8 * nets_of seat.me.0.base.setting + c.args.net.0 = c.mark_word-word.ensures.word ∙ ap (λ (r : Run). 8 * nets_of r.setting + c.args.net.0) (sym run) in
    let place : c.args.net.0 ≡ word - 8 * nets_of seat.me.0.base.setting = omega (arith, is) in
    subst (λ (h : DirtyHolding). Looked h.view c.args.net.0 (mark_of (c.load.result == 1)) c.load.new.seat.me.0) c.first.view_is
    (looked_told seat.me.0 c.load.new.seat.me.0 c.args.net.0 (word - 8 * nets_of seat.me.0.base.setting) c.load.result place c.load.ensures.2.0)
