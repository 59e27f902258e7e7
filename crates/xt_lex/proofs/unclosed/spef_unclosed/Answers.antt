use Rattle.std.proofs.Common.{sym, ◌∙◌, arith}
use Rattle.xt_lex.proofs.WordJumps.{left_open_of, none_begins, is_open, goes_behind}
use Rattle.xt_lex.proofs.Skip.{first_and_rest}
use Rattle.xt_lex.proofs.unclosed.spef_unclosed.Goals as goal

pub openings-init : goal.openings-init
openings-init c = left_open_of c.args.bytes.now

pub returns-then-is_unclosed : goal.returns-then-is_unclosed
returns-then-is_unclosed c =
    is_open c.openings.rest.now _ c.in-Some.place _ _ c.spef_part-front.result c.is_in_word-in_word.result (omega (arith, c.in-Some.ensures.0.high))
    c.in-Some.ensures.0.before c.in-Some.ensures.1 c.is_in_word-in_word.ensures c.split_at.ensures.back
    (first_and_rest _ c.in-len1-up.len_at_least) c.spef_part-front.ensures.value (sym c.is_unclosed.ensures ∙ c.if-is_unclosed.true)
    ∙ c.openings.invariant

pub openings-preserved : goal.openings-preserved
openings-preserved c =
    goes_behind c.openings.rest.now _ c.in-Some.place _ _ c.spef_part-front.result c.is_in_word-in_word.result (omega (arith, c.in-Some.ensures.0.high))
    c.in-Some.ensures.0.before c.in-Some.ensures.1 c.is_in_word-in_word.ensures c.split_at.ensures.back
    (first_and_rest _ c.in-len1-up.len_at_least) c.spef_part-front.ensures.value (sym c.is_unclosed.ensures ∙ c.if-is_unclosed.false)
    _ c.split_at-in-Some.ensures.back
    ∙ c.openings.invariant

pub returns : goal.returns
returns c = none_begins c.openings.rest.now c.in_default.ensures ∙ c.openings.invariant
