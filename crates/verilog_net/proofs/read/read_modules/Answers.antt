use Rattle.std.proofs.Common.{sym, subst}
use Rattle.std.specs.List.{All}
use Rattle.verilog_net.specs.Sound.{IsSoundModule}
use Rattle.verilog_net.proofs.SoundNetlists.{all_modules}
use Rattle.verilog_net.proofs.read.read_modules.Goals as goal

pub returns-clause-sound : goal.returns-clause-sound
returns-clause-sound c =
    subst (All IsSoundModule) (sym c.from_vec.ensures) (all_modules c.args.bytes.now c.in_ok-list.list.items c.in_ok-list.ensures)
