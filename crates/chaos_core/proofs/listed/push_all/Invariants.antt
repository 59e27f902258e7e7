use Rattle.std.proofs.Common.{◌≡◌, ℕ, ◌<◌, length, get_or, map}
use Rattle.xt_model.specs.declared.net.Coupling.{Coupling}
use Rattle.chaos_core.specs.TurnMarks.{AreMore, HasListed}
use Rattle.chaos_core.proofs.listed.push_all.Given as goal

abbrev pub invariant-loop-coupling : goal.invariant-loop-coupling
invariant-loop-coupling l = record {
  count : length l.rows ≡ length l.initial.rows;
  more : AreMore l.own.0 (map (λ row. row.items) l.initial.rows) (map (λ row. row.items) l.rows);
  there : (i : ℕ) (k : Coupling) → i < l.coupling-index → HasListed (map (λ row. row.items) l.rows) (get_or l.couplings i k).to.0 l.own.0;
}
