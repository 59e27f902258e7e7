use Rattle.std.proofs.Common.{◌≡◌, length}
use Rattle.xt_lex.specs.Pieces.{pieces_of}
use Rattle.xt_lex.specs.Faults.{first_foreign}
use Rattle.xt_lex.proofs.faults.first_foreign.Given as goal

abbrev pub invariant-pieces : goal.invariant-pieces
invariant-pieces l = first_foreign l.pieces ≡ first_foreign (pieces_of l.fn.rules l.bytes)

abbrev pub decreases-pieces : goal.decreases-pieces
decreases-pieces l = length l.pieces
