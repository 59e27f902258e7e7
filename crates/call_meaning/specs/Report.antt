-- The command `report`.
use Rattle.call_meaning.specs.Outcome.{Contents, Outcome, DesignMeans, counted_by}
use Rattle.call_meaning.specs.Linking.{BlockMeans}
use Rattle.command_line.specs.declared.words.ReportJob.{ReportJob}

-- the report of the design that the four files make, of the kind that is asked for, by the Miller numbers of the words
-- where they give any
abbrev pub ReportMeans : ReportJob → Contents → Outcome → Type 0
ReportMeans job content outcome =
    BlockMeans job.files content (λ d. DesignMeans job.kind (counted_by job.miller d) outcome) outcome
