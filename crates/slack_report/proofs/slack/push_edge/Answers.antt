use Rattle.slack_report.proofs.slack.push_edge.Goals as goal

pub slack_in-requires-clause-count : goal.slack_in-requires-clause-count
slack_in-requires-clause-count c = c.requires.high_count

pub slack_in-requires-clause-within : goal.slack_in-requires-clause-within
slack_in-requires-clause-within c = c.requires.high_within

pub slack_in-requires-clause-only : goal.slack_in-requires-clause-only
slack_in-requires-clause-only c = c.requires.high_only

pub slack_in-requires-2-clause-count : goal.slack_in-requires-2-clause-count
slack_in-requires-2-clause-count c = c.requires.low_count

pub slack_in-requires-2-clause-within : goal.slack_in-requires-2-clause-within
slack_in-requires-2-clause-within c = c.requires.low_within

pub slack_in-requires-2-clause-only : goal.slack_in-requires-2-clause-only
slack_in-requires-2-clause-only c = c.requires.low_only

pub returns-clause-low_only : goal.returns-clause-low_only
returns-clause-low_only c = c.in_ok-least.ensures.only

pub returns-clause-high_only : goal.returns-clause-high_only
returns-clause-high_only c = c.in_ok-greatest.ensures.only

pub returns-in_default-clause-low_only : goal.returns-in_default-clause-low_only
returns-in_default-clause-low_only c = c.requires.low_only

pub returns-in_default-clause-high_only : goal.returns-in_default-clause-high_only
returns-in_default-clause-high_only c = c.requires.high_only
