use Rattle.xt_meaning.proofs.Growth.{wired}
use Rattle.xt_meaning.proofs.Monotone.{overlap_mono, loads_grow, wires_grow}
use Rattle.xt_meaning.proofs.laws.ranges_grow.Goals as goal

pub returns : goal.returns
returns c = record {
  overlap = λ d W V n m e f s h t. overlap_mono d.period W V n e m f (wired d s).period h t;
  loads = λ d W V n e net s there h. loads_grow d W V n e net (wired d s) there h;
  wires = λ d W V n e sink s h. wires_grow d W V n e sink (wired d s) h;
}
