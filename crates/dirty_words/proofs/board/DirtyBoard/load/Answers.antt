use Rattle.std.proofs.Common.{rules, ◌≡◌, ◌*◌, ◌<◌, Some, sym, subst, arith}
use Rattle.chaos_core.specs.Boards.{nets_of}
use Rattle.dirty_words.specs.Boards.{DirtyHolding, run_at}
use Rattle.dirty_words.specs.Steps.{IsNextToLoad, Loaded}
use Rattle.dirty_words.proofs.Calls.{loads}
use Rattle.dirty_words.proofs.Holding.{held_loaded, in_table}
use Rattle.dirty_words.proofs.board.DirtyBoard.load.Goals as goal

pub load-requires : goal.load-requires
load-requires c =
    let seat = c.pass.inside.seat in
    let table = c.self.inside.table.shared in
    let word = c.args.word in
    let inside : word < 8 * nets_of seat.me.0.base.setting = subst (λ (h : DirtyHolding). word < 8 * nets_of h.view.base.setting) (sym c.pass.view_is) c.requires.word in
    let f = c.requires.next.0 in
    let own = subst (λ (h : DirtyHolding). IsNextToLoad h.view word f) (sym c.pass.view_is) c.requires.next.1 in (
      search rules,
      in_table seat.table_id table.table_id seat.me.0.base.setting word (search rules) c.pass.invariant.sized (omega (arith, inside)),
      loads (run_at table.key) table.table_id.slots seat.id seat.me c.pass.invariant.live word inside f own,
    )

pub invariant_of-pass : goal.invariant_of-pass
invariant_of-pass c =
    let before = c.pass.inside.seat in
    let after = c.load.new.seat in
    let f = c.requires.next.0 in
    let own = subst (λ (h : DirtyHolding). IsNextToLoad h.view c.args.word f) (sym c.pass.view_is) c.requires.next.1 in
    held_loaded before.table_id after.table_id before.me after.me f c.args.word c.load.result c.pass.invariant c.load.ensures.0 (c.load.ensures.2.0 f own.flight) c.load.ensures.2.1

pub returns-clause-loaded : goal.returns-clause-loaded
returns-clause-loaded c = λ f e.
    let own = subst (λ (h : DirtyHolding). h.view.flight ≡ Some f) (sym c.pass.view_is) e in
    subst (λ (h : DirtyHolding). Loaded h.view f c.args.word c.load.result c.load.new.seat.me.0) c.pass.view_is (c.load.ensures.2.0 f own)
