use Rattle.std.proofs.Common.{◌≡◌, length, false}
use Rattle.xt_lex.specs.declared.rules.Rules.TheVariants.{Spef}
use Rattle.xt_lex.specs.Pieces.{pieces_of}
use Rattle.xt_lex.specs.Faults.{any_unclosed}
use Rattle.xt_lex.proofs.WordJumps.{left_open}
use Rattle.xt_lex.proofs.unclosed.spef_unclosed.Given as goal

abbrev pub invariant-openings : goal.invariant-openings
invariant-openings l = left_open false l.rest ≡ any_unclosed (pieces_of Spef l.bytes)

abbrev pub decreases-openings : goal.decreases-openings
decreases-openings l = length l.rest
