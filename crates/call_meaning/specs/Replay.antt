-- The command `replay`.
use Rattle.report_kind.specs.declared.kind.ReportKind.TheVariants.{All}
use Rattle.call_meaning.specs.Outcome.{Contents, Outcome, TextReportMeans}
use Rattle.command_line.specs.declared.words.ReplayJob.{ReplayJob}

-- the whole report of the file's design, whatever the workers and their order: what `solve` means for the same file and
-- the same Miller numbers
abbrev pub ReplayMeans : ReplayJob → Contents → Outcome → Type 0
ReplayMeans job content outcome = TextReportMeans job.file job.miller All content outcome
