use Rattle.link_laws.proofs.Ways.{either, reported, solved, stopped}
use Rattle.link_laws.proofs.laws.solve_after_link_is_report.Goals as goal

pub returns-clause-reported : goal.returns-clause-reported
returns-clause-reported c = reported

pub returns-clause-solved : goal.returns-clause-solved
returns-clause-solved c = solved

pub returns-clause-stopped : goal.returns-clause-stopped
returns-clause-stopped c = stopped

pub returns-clause-linked : goal.returns-clause-linked
returns-clause-linked c = either
