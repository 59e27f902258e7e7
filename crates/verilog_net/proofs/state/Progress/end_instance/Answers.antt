use Rattle.std.proofs.Common.{refl}
use Rattle.verilog_net.proofs.state.Progress.end_instance.Goals as goal

pub returns : goal.returns
returns c = rw (← c.self.view_is, c.in_ok-push.ensures.items, c.from_vec.ensures, c.in_ok-cell.ensures, c.in_ok-name.ensures, c.in_ok-append.ensures.items, c.in_ok-append.ensures.other_items, c.in_ok-pins.ensures.items) refl
