use Rattle.std.proofs.Common.{rules, ◌≡◌, ◌*◌, ◌%◌, ◌<◌, max, Some, sym, ap, subst, ◌∙◌, arith}
use Rattle.chaos_core.specs.Boards.{nets_of}
use Rattle.dirty_words.specs.Boards.{DirtyHolding, run_at}
use Rattle.dirty_words.specs.Views.{run_of}
use Rattle.xt_meaning.specs.Words.{MovesUp}
use Rattle.dirty_words.specs.Steps.{IsNextToPublish, Published}
use Rattle.dirty_words.proofs.Calls.{raises}
use Rattle.dirty_words.proofs.Holding.{held_published, in_table}
use Rattle.dirty_words.proofs.board.DirtyBoard.raise.Goals as goal

pub fetch_max-requires : goal.fetch_max-requires
fetch_max-requires c =
    let seat = c.pass.inside.seat in
    let table = c.self.inside.table.shared in
    let word = c.args.word in
    let inside : word < 8 * nets_of seat.me.0.base.setting = subst (λ (h : DirtyHolding). word < 8 * nets_of h.view.base.setting) (sym c.pass.view_is) c.requires.word in
    let side = subst (λ (h : DirtyHolding). MovesUp h.view.base.setting.way (word % 2)) (sym c.pass.view_is) c.requires.way in
    let f = c.requires.next.0 in
    let own = subst (λ (h : DirtyHolding). IsNextToPublish h.view word c.args.value f) (sym c.pass.view_is) c.requires.next.1 in (
      search rules,
      in_table seat.table_id table.table_id seat.me.0.base.setting word (search rules) c.pass.invariant.sized (omega (arith, inside)),
      raises (run_at table.key) table.table_id.slots seat.id seat.me c.pass.invariant.live word inside c.args.value f own side,
    )

pub invariant_of-pass : goal.invariant_of-pass
invariant_of-pass c =
    let before = c.pass.inside.seat in
    let after = c.fetch_max.new.seat in
    let f = c.requires.next.0 in
    let own = subst (λ (h : DirtyHolding). IsNextToPublish h.view c.args.word c.args.value f) (sym c.pass.view_is) c.requires.next.1 in
    held_published before.table_id after.table_id before.me after.me f c.args.word c.fetch_max.result (max c.fetch_max.result c.args.value) c.pass.invariant c.fetch_max.ensures.0 (c.fetch_max.ensures.2.0 f own.flight) c.fetch_max.ensures.2.1

pub returns-clause-own : goal.returns-clause-own
returns-clause-own c =
    let f = c.requires.next.0 in
    let own = subst (λ (h : DirtyHolding). IsNextToPublish h.view c.args.word c.args.value f) (sym c.pass.view_is) c.requires.next.1 in
    let after = (c.fetch_max.ensures.2.0 f own.flight).after in
    record {
      table = c.fetch_max.ensures.0 ∙ (ap (λ (h : DirtyHolding). h.table) c.pass.view_is ∙ c.requires.own.table);
      run = ap run_of after ∙ (ap (λ (h : DirtyHolding). run_of h.view) c.pass.view_is ∙ c.requires.own.run);
    }

pub returns-clause-published : goal.returns-clause-published
returns-clause-published c = λ f e.
    let own = subst (λ (h : DirtyHolding). h.view.flight ≡ Some f) (sym c.pass.view_is) e in
    subst (λ (h : DirtyHolding). Published h.view f c.args.word c.fetch_max.result (max c.fetch_max.result c.args.value) c.fetch_max.new.seat.me.0) c.pass.view_is (c.fetch_max.ensures.2.0 f own)
