use Rattle.std.proofs.Common.{◌≡◌, rules}
use Rattle.xt_lex.specs.Tokens.{tokens_of}
use Rattle.xt_lex.proofs.Spans.{spans_apart}
use Rattle.xt_lex.proofs.listing.tokens.Goals as goal

pub returns-clause-spans : goal.returns-clause-spans
returns-clause-spans c =
    let e : c.tokens.list.items ≡ tokens_of c.args.rules c.args.bytes.now = search rules in
    rw e (spans_apart c.args.rules c.args.bytes.now)
