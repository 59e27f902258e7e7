use Rattle.std.proofs.Common.{◌<◌, length, sym, subst, arith}
use Rattle.std.proofs.lemmas.Bool.{eqb-false}
use Rattle.verilog_net.specs.Sound.{IsSoundNetlist}
use Rattle.verilog_net.proofs.SoundNetlists.{all_netlists}
use Rattle.verilog_net.proofs.read.read_netlist.Goals as goal

pub returns-clause-sound : goal.returns-clause-sound
returns-clause-sound c =
    let list = c.in_ok-list.list in
    let some = eqb-false list.len 0 (sym c.if-is_empty.ensures) in
    let size = list.ok.0 in
    let first : 0 < length list.items = omega (arith, some, size) in
    subst IsSoundNetlist (sym c.swap_remove.ensures.value)
    (all_netlists c.args.bytes.now list.items c.in_ok-list.ensures 0 c.swap_remove.result first)
