use Rattle.std.specs.HashSet.{contains}
use Rattle.std.specs.Str.{bytes_eq}
use Rattle.sound_parts.proofs.Seen.{IsSeen, OwnBelow}
use Rattle.sound_parts.proofs.names.has_own_names.Given as goal

abbrev pub invariant-loop-net : goal.invariant-loop-net
invariant-loop-net l = record {
  seen : IsSeen (λ q. q.now) l.nets l.net-index (λ q. contains (λ x y. bytes_eq x.now y.now) l.seen q);
  own : OwnBelow l.nets l.net-index;
}
