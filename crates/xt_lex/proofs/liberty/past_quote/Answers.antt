use Rattle.std.proofs.Common.{arith}
use Rattle.xt_lex.proofs.Quotes.{never_ends, ends_at, goes_past}
use Rattle.xt_lex.proofs.liberty.past_quote.Goals as goal

pub returns-in-None-clause-value : goal.returns-in-None-clause-value
returns-in-None-clause-value c =
    never_ends c.args.bytes.now _ c.marks.passed c.marks.invariant.value c.split_at.ensures.back c.in-None.ensures

pub returns-then-rest-place-eq34-clause-value : goal.returns-then-rest-place-eq34-clause-value
returns-then-rest-place-eq34-clause-value c =
    ends_at c.args.bytes.now _ c.marks.passed c.marks.invariant.value c.split_at.ensures.back c.in-Some.place
    c.in-Some.ensures.0.high c.in-Some.ensures.0.before c.if-rest-place-eq34.true

pub marks-preserved : goal.marks-preserved
marks-preserved c = record {
  value =
      goes_past c.args.bytes.now _ c.marks.passed c.marks.invariant.value c.split_at.ensures.back c.in-Some.place
      c.in-Some.ensures.0.high c.in-Some.ensures.0.before c.in-Some.ensures.1 c.if-rest-place-eq34.false;
  room = omega (arith, c.in-Some.ensures.0.high, c.split_at.ensures.back_len);
}
