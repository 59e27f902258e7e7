use Rattle.std.proofs.Common.{map, take, length, ◌≡◌}
use Rattle.std.specs.List.{All}
use Rattle.xt_model.specs.Names.{IsName}
use Rattle.link_wires.specs.Marks.{AreMarks}
use Rattle.link_wires.proofs.marks.mark_ends.Given as goal

abbrev pub invariant-loop-number : goal.invariant-loop-number
invariant-loop-number l = record {
  count : length l.marks ≡ length l.parasitics.names;
  names : All IsName (take l.number l.ends);
  marks : AreMarks (map (λ e. e.0) l.parasitics.names) (take l.number l.ends) l.turn l.marks;
}
