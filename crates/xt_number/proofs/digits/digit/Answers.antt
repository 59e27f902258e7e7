use Rattle.std.proofs.Common.{ℕ, [], ◌∷◌, ap, sym, ◌∙◌, arith}
use Rattle.std.proofs.lemmas.Fmt.{decimal_digit}
use Rattle.xt_number.proofs.digits.digit.Goals as goal

pub returns : goal.returns
returns c = ap (λ (b : ℕ). b ∷ []) (omega arith) ∙ sym (decimal_digit c.args.value c.requires)
