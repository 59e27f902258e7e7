use Rattle.glitch_noise.proofs.Lists.{one_list}
use Rattle.glitch_noise.proofs.laws.peaks_are_unique.Goals as goal

pub returns : goal.returns
returns c = one_list
