use Rattle.std.proofs.Common.{sym, subst}
use Rattle.xt_model.specs.Sound.{IsSound}
use Rattle.eco_warm.proofs.copy.copied.Goals as goal

pub from_parts-requires : goal.from_parts-requires
from_parts-requires c = record { sound = subst IsSound (sym c.in_ok-parts.ensures) c.nets.ensures.sound }
