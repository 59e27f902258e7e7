use Rattle.std.proofs.Common.{◌≡◌, length, None, Some}
use Rattle.xt_lex.specs.View.{text_of}
use Rattle.sdc_words.specs.Words.{commands_from, with_token, read_of}
use Rattle.sdc_words.proofs.commands.read_command.Given as goal

abbrev pub invariant-tokens : goal.invariant-tokens
invariant-tokens l =
    commands_from (Some (record { line = l.first.line; read = read_of l.fits l.read })) l.tokens
    ≡ commands_from (Some (with_token (text_of l.first) None)) l.fn.tokens

abbrev pub decreases-tokens : goal.decreases-tokens
decreases-tokens l = length l.tokens
