use Rattle.xt_number.specs.Reading.{numeral_of}
use Rattle.xt_number.proofs.Grammar.{numeral_takes}
use Rattle.std.proofs.Common.{rules}
use Rattle.xt_number.proofs.numeral.split.Goals as goal

pub returns-then-has_digit-clause-found : goal.returns-then-has_digit-clause-found
unfolding numeral_of
returns-then-has_digit-clause-found c = numeral_takes c.args.text.now _ (search rules)
