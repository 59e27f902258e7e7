use Rattle.std.proofs.Common.{◌≡◌, length}
use Rattle.xt_lex.specs.declared.rules.Rules.TheVariants.{Liberty}
use Rattle.xt_lex.specs.Pieces.{pieces_of}
use Rattle.xt_lex.specs.Faults.{any_unclosed}
use Rattle.xt_lex.proofs.Jumps.{left_open}
use Rattle.xt_lex.proofs.unclosed.liberty_unclosed.Given as goal

abbrev pub invariant-openings : goal.invariant-openings
invariant-openings l = left_open l.rest ≡ any_unclosed (pieces_of Liberty l.bytes)

abbrev pub decreases-openings : goal.decreases-openings
decreases-openings l = length l.rest
