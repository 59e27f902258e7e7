use Rattle.aggressor_report.proofs.Backs.{loads_are, loads_ordered}
use Rattle.aggressor_report.proofs.step.loads.Goals as goal

pub returns-clause-value : goal.returns-clause-value
returns-clause-value c =
    loads_are c.args.design.now c.args.windows.now c.args.net.0 c.args.edge c.load_range.result.0 c.load_range.result.1 c.load_range.ensures.least c.load_range.ensures.greatest

pub returns-clause-order : goal.returns-clause-order
returns-clause-order c =
    loads_ordered c.args.design.now c.args.windows.now c.args.net.0 c.args.edge c.load_range.result.0 c.load_range.result.1 c.nets.ensures.sound c.requires.net
    c.load_range.ensures.least c.load_range.ensures.greatest
