use Rattle.std.proofs.Common.{rules, ◌*◌, ◌<◌, sym, subst}
use Rattle.chaos_core.specs.Boards.{nets_of}
use Rattle.window_words.specs.Boards.{Holding, setting_of}
use Rattle.window_words.proofs.Calls.{loads}
use Rattle.window_words.proofs.Holding.{held_loaded, in_table}
use Rattle.window_words.proofs.board.SharedBoard.load.Goals as goal

pub load-requires : goal.load-requires
load-requires c =
    let seat = c.pass.inside.seat in
    let table = c.self.inside.table.shared in
    let word = c.args.word in
    let inside : word < 8 * nets_of seat.me.0.setting = subst (λ (h : Holding). word < 8 * nets_of h.view.setting) (sym c.pass.view_is) c.requires.word in (
      search rules,
      in_table seat.table_id table.table_id seat.me.0.setting word (search rules) c.pass.invariant.sized inside,
      loads (setting_of table.key) table.table_id.slots seat.id word seat.me c.pass.invariant.unspent inside,
    )

pub invariant_of-pass : goal.invariant_of-pass
invariant_of-pass c =
    let before = c.pass.inside.seat in
    let after = c.load.new.seat in
    held_loaded before.table_id after.table_id before.me after.me c.args.word c.load.result c.pass.invariant c.load.ensures.0 c.load.ensures.2.0 c.load.ensures.2.1
