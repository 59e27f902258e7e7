use Rattle.std.proofs.Common.{rules, ◌≡◌, sym, ap, subst, ◌∙◌, arith}
use Rattle.chaos_core.specs.Boards.{IsSeen}
use Rattle.dirty_words.specs.Views.{Run}
use Rattle.dirty_words.specs.Boards.{DirtyHolding, IsFirst, IsFree, IsSplitOff, run_at}
use Rattle.dirty_words.proofs.Calls.{joins}
use Rattle.dirty_words.proofs.Holding.{held_both, in_table}
use Rattle.dirty_words.proofs.board.DirtyBoard.join.Goals as goal

pub join_seat-requires : goal.join_seat-requires
join_seat-requires c =
    let seat = c.first.inside.seat in
    let other = c.other.inside.seat in
    let table = c.self.inside.table.shared in
    let first = subst (λ (h : DirtyHolding). IsFirst h.view) (sym c.first.view_is) c.requires.first in
    let second = subst (λ (h : DirtyHolding). IsSplitOff h.view) (sym c.other.view_is) c.requires.other in
    let free = subst (λ (h : DirtyHolding). IsFree h.view) (sym c.first.view_is) c.requires.free in
    let loose = subst (λ (h : DirtyHolding). IsFree h.view) (sym c.other.view_is) c.requires.free_other in (
      search rules,
      search rules,
      c.other.invariant.bare,
      in_table seat.table_id table.table_id seat.me.0.base.setting 0 (search rules) c.first.invariant.sized (omega arith),
      joins (run_at table.key) seat.id seat.me.0 other.id other.me.0 c.first.invariant.live first second free loose,
    )

pub invariant_of-first : goal.invariant_of-first
invariant_of-first c =
    let before = c.first.inside.seat in
    let after = c.join_seat.new.seat in
    let other = c.other.inside.seat in
    let run : other.me.0.base.setting ≡ before.me.0.base.setting =
    ap (λ (h : DirtyHolding). h.view.base.setting) c.other.view_is ∙ (ap (λ (r : Run). r.setting) c.requires.own_other.run ∙ sym (ap (λ (h : DirtyHolding). h.view.base.setting) c.first.view_is ∙ ap (λ (r : Run). r.setting) c.requires.own.run)) in
    held_both before.table_id after.table_id before.me after.me other.me.0 c.first.invariant c.join_seat.ensures.0 run c.other.invariant.seen c.join_seat.ensures.2

pub returns-clause-seen : goal.returns-clause-seen
returns-clause-seen c = subst (λ (h : DirtyHolding). IsSeen h.view.base.setting h.view.base.seen) c.first.view_is c.first.invariant.seen

pub returns-clause-seen_other : goal.returns-clause-seen_other
returns-clause-seen_other c = subst (λ (h : DirtyHolding). IsSeen h.view.base.setting h.view.base.seen) c.other.view_is c.other.invariant.seen
