use Rattle.linked_text.proofs.WholeLaws.{means_one}
use Rattle.linked_text.proofs.laws.texts_mean_one.Goals as goal

pub returns : goal.returns
returns c = means_one
