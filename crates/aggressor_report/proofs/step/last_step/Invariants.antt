use Rattle.std.proofs.Common.{◌≡◌, ℕ, ◌<◌}
use Rattle.std.specs.Prelude.{Some}
use Rattle.std.specs.List.{slice_get}
use Rattle.xt_model.specs.declared.net.Net.{Net}
use Rattle.xt_model.specs.declared.net.TimingArc.{TimingArc}
use Rattle.xt_model.specs.Assign.{assigned}
use Rattle.aggressor_report.specs.Paths.{Gives}
use Rattle.aggressor_report.proofs.step.last_step.Given as goal

abbrev pub invariant-loop-number : goal.invariant-loop-number
invariant-loop-number l = (net : Net) (i : ℕ) (b : TimingArc) → slice_get l.design.nets l.net.0 ≡ Some net
    → i < l.number → slice_get l.arc-items i ≡ Some b → Gives l.late l.design (assigned l.windows) l.net.0 l.edge net b → ⊥
