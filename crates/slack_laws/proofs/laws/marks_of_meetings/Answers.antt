use Rattle.slack_laws.proofs.Marked.{meetings_marked}
use Rattle.slack_laws.proofs.laws.marks_of_meetings.Goals as goal

pub returns : goal.returns
returns c = meetings_marked
