use Rattle.std.proofs.Common.{◌+◌}
use Rattle.xt_lex.proofs.Open.{none_of_two}
use Rattle.xt_lex.proofs.unclosed.past_openings.Goals as goal

pub returns-in-Some-clause-none : goal.returns-in-Some-clause-none
returns-in-Some-clause-none c =
    none_of_two c.args.rules c.openings-one.result c.args.bytes.now (c.in-Some.place + 1) c.openings-one.ensures c.in-Some.ensures.0.after

pub returns-in-None-clause-none : goal.returns-in-None-clause-none
returns-in-None-clause-none c =
    none_of_two c.args.rules c.openings-one.result c.args.bytes.now 0 c.openings-one.ensures c.in-None.ensures
