use Rattle.std.proofs.Common.{◌≡◌}
use Rattle.drawn_numbers.specs.Draws.{after}
use Rattle.chaos_core.proofs.alone.pick_only.Given as goal

abbrev pub invariant-loop-pick : goal.invariant-loop-pick
invariant-loop-pick l = l.source.state ≡ after l.initial.source.state l._pick
