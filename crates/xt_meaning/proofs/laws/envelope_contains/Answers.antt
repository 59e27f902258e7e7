use Rattle.xt_model.specs.Assign.{assigned}
use Rattle.xt_meaning.proofs.Growth.{wired}
use Rattle.xt_meaning.proofs.Widest.{envelope_contains}
use Rattle.xt_meaning.proofs.laws.envelope_contains.Goals as goal

pub returns : goal.returns
returns c = λ d levels v top s l w h. envelope_contains d levels (assigned v) top (wired d s) l w h
