use Rattle.std.proofs.Common.{refl}
use Rattle.xtalk_top.proofs.top.write_text.Goals as goal

pub returns-in-Ok-clause-whole : goal.returns-in-Ok-clause-whole
returns-in-Ok-clause-whole g c = λ _. (c.in-Ok.ensures.ok, c.in-Ok.ensures.kept, refl)

pub returns-in-Ok-clause-cut_off : goal.returns-in-Ok-clause-cut_off
returns-in-Ok-clause-cut_off g c = λ bad. absurd (bad refl)
