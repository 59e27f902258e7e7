use Rattle.std.proofs.Common.{◌≡◌}
use Rattle.drawn_numbers.specs.Draws.{after, drawn}
use Rattle.design_gen.specs.Generated.{window_by}
use Rattle.design_gen.specs.Lists.{each_below}
use Rattle.design_gen.proofs.given.draw_windows.Given as goal

abbrev pub invariant-loop-i : goal.invariant-loop-i
invariant-loop-i l = record {
  windows : l.windows.items ≡ each_below (λ n. window_by (drawn l.initial.source.state n 2000)) l.i;
  state : l.source.state ≡ after l.initial.source.state l.i;
}
