use Rattle.xt_number.proofs.Fixing.{numeral_one}
use Rattle.xt_number.proofs.Grammar.{numeral_takes, numeral_again}
use Rattle.xt_number.proofs.laws.texts_are_unambiguous.Goals as goal

pub returns-clause-one : goal.returns-clause-one
returns-clause-one c = numeral_one

pub returns-clause-read : goal.returns-clause-read
returns-clause-read c text n = (numeral_takes text n, numeral_again text n)
