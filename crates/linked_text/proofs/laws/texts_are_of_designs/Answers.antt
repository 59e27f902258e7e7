use Rattle.linked_text.proofs.WholeLaws.{accepted, means_design}
use Rattle.linked_text.proofs.laws.texts_are_of_designs.Goals as goal

pub returns : goal.returns
returns c = λ bytes d. (accepted bytes d, means_design bytes d)
