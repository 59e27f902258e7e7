use Rattle.std.proofs.Common.{rules}
use Rattle.xt_lex.proofs.Spans.{texts_of_spans}
use Rattle.xt_lex.proofs.token_texts.Lexemes.new.Goals as goal

pub returns-clause-texts : goal.returns-clause-texts
returns-clause-texts c = search (rules, texts_of_spans c.args.rules c.args.bytes.now)
