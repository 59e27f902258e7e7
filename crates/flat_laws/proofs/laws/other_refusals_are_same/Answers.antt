use Rattle.flat_laws.proofs.Texts.{refused_alike}
use Rattle.flat_laws.proofs.laws.other_refusals_are_same.Goals as goal

pub returns : goal.returns
returns c = refused_alike
