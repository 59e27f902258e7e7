use Rattle.std.proofs.Common.{sym, ◌∙◌, refl}
use Rattle.xt_lex.proofs.Inline.{piece_keeps}
use Rattle.xt_lex.proofs.Skip as skip
use Rattle.xt_lex.proofs.pieces.Pieces.next_piece.Goals as goal

pub returns-clause-next : goal.returns-clause-next
returns-clause-next c =
    sym c.self.view_is
    ∙ skip.next_piece c.self.inside.rules c.self.inside.fresh c.self.inside.from c.self.inside.line c.self.inside.rest.now _ _ _ _ c.front_by-front.result _ _
    (skip.first_and_rest c.self.inside.rest.now c.in-len1-up.len_at_least) c.front_by-front.ensures.value c.split_at.ensures.front c.split_at.ensures.back c.front_by-front.ensures.within refl c.line_past-self-inside.ensures.value

pub line_past-self-inside-requires-clause-within : goal.line_past-self-inside-requires-clause-within
line_past-self-inside-requires-clause-within c =
    piece_keeps c.self.inside.rules c.self.inside.fresh c.self.inside.line c.self.inside.rest.now _ _ _ c.front_by-front.result
    (skip.first_and_rest c.self.inside.rest.now c.in-len1-up.len_at_least) c.front_by-front.ensures.value c.split_at.ensures.front
