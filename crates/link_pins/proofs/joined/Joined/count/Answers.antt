use Rattle.std.proofs.Common.{refl, arith}
use Rattle.link_pins.proofs.SumLaws.{counts_are}
use Rattle.link_pins.proofs.joined.Joined.count.Goals as goal

pub returns : goal.returns
returns c = λ given joined.
    counts_are c.args.cells.now c.args.nets.now given c.requires.sound c.args.self.now c.in_ok-arcs.field-0 _ joined c.in_ok-arcs.ensures refl
    (omega (arith, c.in_ok-plus.ensures, c.len-ports.ensures, c.in_ok-arcs.checks-is, c.args.self.now.ports.ok.0))
