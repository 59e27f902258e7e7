use Rattle.std.proofs.Common.{refl}
use Rattle.verilog_net.proofs.state.Progress.connect.Goals as goal

pub returns : goal.returns
returns c = rw (← c.self.view_is, c.in_ok-push.ensures.items, c.in_ok-pin.ensures) refl
