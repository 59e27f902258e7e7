use Rattle.eco_warm.proofs.Renewing.{edited_but}
use Rattle.eco_warm.proofs.laws.edits_keep_envelopes.Goals as goal

pub returns : goal.returns
returns c = λ d e top sound between envelope accepted. edited_but d e sound between top envelope accepted
