use Rattle.std.proofs.Common.{◌≡◌, length, None}
use Rattle.sdc_words.specs.Words.{commands_from}
use Rattle.sdc_words.proofs.commands.first_token.Given as goal

abbrev pub invariant-tokens : goal.invariant-tokens
invariant-tokens l = commands_from None l.tokens ≡ commands_from None l.fn.tokens

abbrev pub decreases-tokens : goal.decreases-tokens
decreases-tokens l = length l.tokens
