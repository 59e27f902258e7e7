use Rattle.std.proofs.Common.{◌≡◌, ◌<◌}
use Rattle.chaos_core.specs.Steps.{FitsPublishing}
use Rattle.chaos_core.specs.Memories.{knowledge_of}
use Rattle.chaos_core.specs.OnlyWorker.{published}
use Rattle.chaos_core.proofs.alone.publish_all.Given as goal

abbrev pub invariant-loop-place : goal.invariant-loop-place
invariant-loop-place l = record {
  setting : l.board.setting ≡ l.initial.board.setting;
  words : l.board.words ≡ published l.direction l.net.0 l.pair l.initial.board.words l.place;
  fits : l.place < 8 → FitsPublishing (knowledge_of l.board) l.net.0 l.pair l.place;
}
