use Rattle.xt_meaning.proofs.Runs.{round_less}
use Rattle.xt_meaning.proofs.word_laws.rounds_use_room.Goals as goal

pub returns : goal.returns
returns c = λ way d before after start w onto past. round_less way d before after start w onto past
