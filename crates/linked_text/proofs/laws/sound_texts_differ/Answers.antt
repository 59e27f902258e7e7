use Rattle.linked_text.proofs.WholeLaws.{same_texts}
use Rattle.linked_text.proofs.laws.sound_texts_differ.Goals as goal

pub returns : goal.returns
returns c = same_texts
