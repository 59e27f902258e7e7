use Rattle.table_box.proofs.pair.are_alike.Goals as goal

pub returns-then-monotone-clause-slews : goal.returns-then-monotone-clause-slews
returns-then-monotone-clause-slews c = λ t. (c.requires.monotone c.if-monotone.true).slews

pub returns-then-monotone-clause-loads : goal.returns-then-monotone-clause-loads
returns-then-monotone-clause-loads c = λ t. (c.requires.monotone c.if-monotone.true).loads

pub returns-then-monotone-clause-table : goal.returns-then-monotone-clause-table
returns-then-monotone-clause-table c = (c.requires.monotone c.if-monotone.true).second.table
