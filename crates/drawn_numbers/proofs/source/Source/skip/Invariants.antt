use Rattle.std.proofs.Common.{◌≡◌}
use Rattle.drawn_numbers.specs.Draws.{after}
use Rattle.drawn_numbers.proofs.source.Source.skip.Given as goal

abbrev pub invariant-loop-i : goal.invariant-loop-i
invariant-loop-i l = l.self.state ≡ after l.initial.self.state l.i
