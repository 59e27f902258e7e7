use Rattle.design_link.proofs.LinkLaws.{counts_kept}
use Rattle.design_link.proofs.names.names_of.Goals as goal

pub new-requires-clause-nets : goal.new-requires-clause-nets
new-requires-clause-nets c = (counts_kept c.args.netlist.now c.requires.counts).nets

pub new-requires-clause-instances : goal.new-requires-clause-instances
new-requires-clause-instances c = (counts_kept c.args.netlist.now c.requires.counts).instances
