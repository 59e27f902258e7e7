use Rattle.std.proofs.Common.{sym, ◌∙◌, arith}
use Rattle.xt_lex.proofs.Open.{any_unclosed_of, left_open_behind, none_past}
use Rattle.xt_lex.proofs.Skip.{first_and_rest}
use Rattle.xt_lex.proofs.unclosed.piece_unclosed.Goals as goal

pub pieces-init : goal.pieces-init
pieces-init c = record { within = omega arith; value = any_unclosed_of c.args.rules c.args.bytes.now }

pub pieces-preserved : goal.pieces-preserved
pieces-preserved c = record {
  within = omega (arith, c.front_by-front.ensures.within, c.split_at.ensures.back_len);
  value =
      sym (left_open_behind c.args.rules c.pieces.fresh c.args.bytes.now c.pieces.passed _ _ c.front_by-front.result
      (sym c.split_at.ensures.back ∙ first_and_rest _ c.in-len1-up.len_at_least) c.front_by-front.ensures.value
      (sym c.is_unclosed.ensures ∙ c.if-is_unclosed.false))
      ∙ c.pieces.invariant.value;
}

pub returns : goal.returns
returns c =
    sym (none_past c.args.rules c.pieces.fresh c.args.bytes.now c.past_openings-end.result c.pieces.passed (omega (arith, c.pieces-test.false)) c.past_openings-end.ensures.none)
    ∙ c.pieces.invariant.value
