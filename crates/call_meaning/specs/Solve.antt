-- The command `solve`.
use Rattle.call_meaning.specs.Outcome.{Contents, Outcome, TextReportMeans}
use Rattle.command_line.specs.declared.words.SolveJob.{SolveJob}

-- the report of the file's design, of the kind that is asked for, by the Miller numbers of the words where they give
-- any
abbrev pub SolveMeans : SolveJob → Contents → Outcome → Type 0
SolveMeans job content outcome = TextReportMeans job.file job.miller job.kind content outcome
