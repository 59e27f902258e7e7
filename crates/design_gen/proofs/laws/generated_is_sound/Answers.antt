use Rattle.design_gen.proofs.Soundness.{sound}
use Rattle.design_gen.proofs.laws.generated_is_sound.Goals as goal

pub returns : goal.returns
returns c = λ number nets count. sound number nets count
