use Rattle.std.proofs.Common.{map}
use Rattle.design_gen.specs.Couples.{coupled}
use Rattle.design_gen.specs.Rows.{IsCoupledAt}
use Rattle.design_gen.proofs.couplings.draw_couplings.Given as goal

abbrev pub invariant-loop-net : goal.invariant-loop-net
invariant-loop-net l = IsCoupledAt l.nets l.source.state (map (λ r. r.items) l.rows.items) (coupled l.nets l.initial.source.state l.net)
