use Rattle.std.proofs.Common.{rules, sym}
use Rattle.xt_lex.proofs.Plain.{no_foreign}
use Rattle.xt_lex.proofs.faults.first_foreign.Goals as goal

pub returns-then-not-has_foreign : goal.returns-then-not-has_foreign
returns-then-not-has_foreign c = sym (no_foreign c.args.rules c.args.bytes.now (search rules))
