-- The command `gen`.
use Rattle.xt_model.specs.Parts.{Parts}
use Rattle.design_gen.specs.Generated.{generated}
use Rattle.report_text.specs.Summary.{IsSummary}
use Rattle.command_line.specs.Words.{Text}
use Rattle.call_meaning.specs.Outcome.{Outcome, AreBounds, SolvedMeans}
use Rattle.command_line.specs.declared.words.GenJob.{GenJob}

-- the text is the summary of the design's least and greatest fixpoint; every fixpoint contains the least and lies
-- within the greatest; and all transitions that explain one another lie within the greatest
pub record IsSummed (d : Parts) (text : Text) : Type 0 where
  pub summary : IsSummary d text
  pub bounds : AreBounds d summary.low summary.high

-- a design is generated and solved, and its summary is printed
abbrev pub SummaryMeans : Parts → Outcome → Type 0
SummaryMeans d outcome = SolvedMeans (IsSummed d) d outcome

-- it is the design of the job's number and count of nets; no file is read
abbrev pub GenMeans : GenJob → Outcome → Type 0
GenMeans job outcome = SummaryMeans (generated job.number job.nets) outcome
