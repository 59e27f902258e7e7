use Rattle.design_gen.proofs.Soundness.{no_loop}
use Rattle.design_gen.proofs.laws.generated_makes_no_loop.Goals as goal

pub returns : goal.returns
returns c = λ number nets path count loop. no_loop number nets count path loop
