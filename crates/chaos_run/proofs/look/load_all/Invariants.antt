use Rattle.std.proofs.Common.{◌≡◌, ℕ, ◌<◌, length, get_or, false}
use Rattle.std.specs.Prelude.{IsTrue}
use Rattle.std.specs.List.{All}
use Rattle.xt_model.specs.declared.edge.Edge.{Edge}
use Rattle.xt_model.specs.Quads.{IsPairInRange}
use Rattle.xt_model.specs.Assign.{assigned, quads_of}
use Rattle.xt_meaning.specs.Words.{bounds_in}
use Rattle.window_words.specs.Boards.{IsOf}
use Rattle.chaos_run.specs.Rounds.{IsRested}
use Rattle.chaos_run.proofs.look.load_all.Given as goal

abbrev pub invariant-loop-net : goal.invariant-loop-net
invariant-loop-net l = record {
  own : IsOf l.board l.first;
  view : l.first.view ≡ l.fn.first.view;
  count : length l.windows ≡ length l.fn.windows;
  unmoved : length l.unmoved ≡ length l.fn.windows;
  range : All IsPairInRange l.windows;
  there : (n : ℕ) (e : Edge) → n < l.net → assigned l.windows n e ≡ quads_of (bounds_in l.fn.first.view.seen) n e;
  same : (n : ℕ) → n < l.net → IsTrue (get_or l.unmoved n false) → (e : Edge) → assigned l.before n e ≡ assigned l.windows n e;
  rested : 0 < l.net → IsRested l.fn.first.view;
}
