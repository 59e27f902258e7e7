use Rattle.std.proofs.Common.{rules, ◌*◌, ◌%◌, ◌<◌, sym, subst}
use Rattle.std.specs.Prelude.{min}
use Rattle.xt_meaning.specs.Words.{MovesDown}
use Rattle.chaos_core.specs.Boards.{nets_of, CanPublish}
use Rattle.window_words.specs.Boards.{Holding, knowledge_of, setting_of}
use Rattle.window_words.proofs.Calls.{lowers}
use Rattle.window_words.proofs.Holding.{held_published, in_table}
use Rattle.window_words.proofs.board.SharedBoard.lower.Goals as goal

pub fetch_min-requires : goal.fetch_min-requires
fetch_min-requires c =
    let seat = c.pass.inside.seat in
    let table = c.self.inside.table.shared in
    let word = c.args.word in
    let inside : word < 8 * nets_of seat.me.0.setting = subst (λ (h : Holding). word < 8 * nets_of h.view.setting) (sym c.pass.view_is) c.requires.word in
    let side = subst (λ (h : Holding). MovesDown h.view.setting.way (word % 2)) (sym c.pass.view_is) c.requires.way in
    let can = subst (λ (h : Holding). CanPublish (knowledge_of h) word c.args.value) (sym c.pass.view_is) c.requires.value in (
      search rules,
      in_table seat.table_id table.table_id seat.me.0.setting word (search rules) c.pass.invariant.sized inside,
      lowers (setting_of table.key) table.table_id.slots seat.id word seat.me c.args.value c.pass.invariant.unspent inside side can,
    )

pub invariant_of-pass : goal.invariant_of-pass
invariant_of-pass c =
    let before = c.pass.inside.seat in
    let after = c.fetch_min.new.seat in
    held_published before.table_id after.table_id before.me after.me c.args.word c.fetch_min.result (min c.fetch_min.result c.args.value) c.pass.invariant c.fetch_min.ensures.0 c.fetch_min.ensures.2.0 c.fetch_min.ensures.2.1
