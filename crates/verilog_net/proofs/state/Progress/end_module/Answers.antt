use Rattle.std.proofs.Common.{refl}
use Rattle.verilog_net.specs.Meaning.{end_module}
use Rattle.verilog_net.proofs.state.Progress.end_module.Goals as goal

pub returns : goal.returns
unfolding end_module
returns c = rw (← c.self.view_is, ← c.as_slice.ensures.value, ← c.are_ports.ensures, c.if-not-are_ports.false, c.in_ok-push.ensures.items, c.from_vec.ensures, c.in_ok-module.ensures, c.replace-nets.ensures.value, c.replace-nets.ensures.after, c.new.ensures, c.replace-instances.ensures.value, c.replace-instances.ensures.after, c.new-2.ensures.items) refl

pub returns-then-not-are_ports : goal.returns-then-not-are_ports
unfolding end_module
returns-then-not-are_ports c = rw (← c.self.view_is, ← c.as_slice.ensures.value, ← c.are_ports.ensures, c.if-not-are_ports.true) refl
