use Rattle.xt_meaning.proofs.Limits.{room_of}
use Rattle.xt_meaning.proofs.laws.live_windows_have_room.Goals as goal

pub returns : goal.returns
returns c = λ d top W n e net s h acc c there live. room_of d top W n e net s h acc c there live
