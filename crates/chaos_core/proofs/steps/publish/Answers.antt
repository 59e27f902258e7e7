use Rattle.std.proofs.Common.{◌%◌, refl, sym, subst}
use Rattle.xt_meaning.specs.Words.{MovesDown, MovesUp}
use Rattle.chaos_core.specs.Boards.{Publishes}
use Rattle.chaos_core.proofs.Sight.{further_down, further_up}
use Rattle.chaos_core.proofs.steps.publish.Goals as goal

pub returns-then-moves_down-clause-publishes : goal.returns-then-moves_down-clause-publishes
returns-then-moves_down-clause-publishes g c =
    let k = g.B.Board.knows c.args.board.now in
    let side = c.args.word % 2 in
    let down = subst (λ way. MovesDown way side) (sym c.requires.way) (c.if-moves_down.ensures.down refl) in
    (c.lower.result, subst (λ left. Publishes k c.args.word c.lower.result left (g.B.Board.knows c.lower.new.self)) (sym (further_down k.setting.way side c.lower.result c.args.value down)) c.lower.ensures.publishes)

pub returns-else-moves_down-clause-publishes : goal.returns-else-moves_down-clause-publishes
returns-else-moves_down-clause-publishes g c =
    let k = g.B.Board.knows c.args.board.now in
    let side = c.args.word % 2 in
    let up = subst (λ way. MovesUp way side) (sym c.requires.way) (c.if-moves_down.ensures.up refl) in
    (c.raise.result, subst (λ left. Publishes k c.args.word c.raise.result left (g.B.Board.knows c.raise.new.self)) (sym (further_up k.setting.way side c.raise.result c.args.value up)) c.raise.ensures.publishes)
