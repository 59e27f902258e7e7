use Rattle.link_pins.proofs.counts.Counts.add.Goals as goal

pub arcs_at-requires-clause-there : goal.arcs_at-requires-clause-there
arcs_at-requires-clause-there c = c.requires.there

pub arcs_at-requires-clause-related : goal.arcs_at-requires-clause-related
arcs_at-requires-clause-related c = c.requires.related

pub arcs_at-requires-clause-listed : goal.arcs_at-requires-clause-listed
arcs_at-requires-clause-listed c = c.requires.listed

pub arcs_at-requires-clause-known : goal.arcs_at-requires-clause-known
arcs_at-requires-clause-known c = c.requires.known

pub checks_at-requires-clause-there : goal.checks_at-requires-clause-there
checks_at-requires-clause-there c = c.requires.there

pub checks_at-requires-clause-related : goal.checks_at-requires-clause-related
checks_at-requires-clause-related c = c.requires.related

pub checks_at-requires-clause-listed : goal.checks_at-requires-clause-listed
checks_at-requires-clause-listed c = c.requires.listed

pub checks_at-requires-clause-room : goal.checks_at-requires-clause-room
checks_at-requires-clause-room c = c.requires.room

pub checks_at-requires-clause-known : goal.checks_at-requires-clause-known
checks_at-requires-clause-known c = c.in_ok-arcs_at.ensures.known

pub returns-clause-known : goal.returns-clause-known
returns-clause-known c = c.in_ok-checks_at.ensures.known
