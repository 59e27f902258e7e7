use Rattle.std.proofs.Common.{◌≡◌, ℕ, ◌-◌, ◌<◌, ◌≤◌, List, [], ◌∷◌, length, take, Some, IfSome, vec_len}
use Rattle.xt_io.specs.Outside.{AreOpened, KeepsCounts}
use Rattle.xt_io.proofs.reading.read_whole.Given as goal

abbrev pub invariant-pieces : goal.invariant-pieces
invariant-pieces g l = record {
  same : (m : List ℕ) → g.F.Files.content l.files m ≡ g.F.Files.content l.fn.files m;
  opened : AreOpened (l.name ∷ []) (g.F.Files.opened l.fn.files) (g.F.Files.opened l.files);
  counts : KeepsCounts (g.F.Files.faults l.fn.files) (g.F.Files.faults l.files);
  place : g.F.Files.place l.files ≡ Some (record { name = l.name; read = vec_len l.bytes });
  fits : vec_len l.bytes ≤ 268435456;
  so_far : IfSome (g.F.Files.content l.fn.files l.name) (λ whole. l.bytes.items ≡ take (vec_len l.bytes) whole);
  room : 0 < length l.piece;
}

abbrev pub decreases-pieces : goal.decreases-pieces
decreases-pieces g l = 268435456 - vec_len l.bytes
