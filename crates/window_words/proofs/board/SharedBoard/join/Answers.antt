use Rattle.std.proofs.Common.{rules, ◌≡◌, sym, ap, subst, ◌∙◌}
use Rattle.chaos_core.specs.Boards.{IsSeen}
use Rattle.window_words.specs.Boards.{Holding, IsFirst, IsSplitOff, setting_of}
use Rattle.window_words.proofs.Calls.{joins}
use Rattle.window_words.proofs.Holding.{held_both, some_word}
use Rattle.window_words.proofs.board.SharedBoard.join.Goals as goal

pub join_seat-requires : goal.join_seat-requires
join_seat-requires c =
    let seat = c.first.inside.seat in
    let other = c.other.inside.seat in
    let table = c.self.inside.table.shared in
    let first = subst IsFirst (sym c.first.view_is) c.requires.first in
    let second = subst IsSplitOff (sym c.other.view_is) c.requires.other in (
      search rules,
      search rules,
      c.other.invariant.bare,
      some_word seat.table_id table.table_id seat.me.0.setting (search rules) c.first.invariant.sized,
      joins (setting_of table.key) seat.id seat.me.0 other.id other.me.0 first second,
    )

pub invariant_of-first : goal.invariant_of-first
invariant_of-first c =
    let before = c.first.inside.seat in
    let after = c.join_seat.new.seat in
    let other = c.other.inside.seat in
    let run : other.me.0.setting ≡ before.me.0.setting =
    ap (λ (h : Holding). h.view.setting) c.other.view_is ∙ (c.requires.own_other.setting ∙ sym (ap (λ (h : Holding). h.view.setting) c.first.view_is ∙ c.requires.own.setting)) in
    held_both before.table_id after.table_id before.me after.me other.me.0 c.first.invariant c.join_seat.ensures.0 run c.other.invariant.seen c.join_seat.ensures.2

pub returns-clause-seen : goal.returns-clause-seen
returns-clause-seen c = subst (λ (h : Holding). IsSeen h.view.setting h.view.seen) c.first.view_is c.first.invariant.seen

pub returns-clause-seen_other : goal.returns-clause-seen_other
returns-clause-seen_other c = subst (λ (h : Holding). IsSeen h.view.setting h.view.seen) c.other.view_is c.other.invariant.seen
