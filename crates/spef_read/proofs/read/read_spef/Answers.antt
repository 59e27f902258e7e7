use Rattle.spef_read.proofs.SoundParasitics.{spef_answer}
use Rattle.spef_read.proofs.read.read_spef.Goals as goal

pub returns-clause-sound : goal.returns-clause-sound
returns-clause-sound c = spef_answer c.parasitics.result c.args.bytes.now c.parasitics.ensures
