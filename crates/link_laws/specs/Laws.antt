-- What the law of `link` and `solve` says.
use Rattle.std.specs.Prelude.{◌≡◌, ◌≢◌, ◌≤◌, List, length, Option, Some, None}
use Rattle.xt_model.specs.Miller.{MillerNumbers}
use Rattle.command_line.specs.Words.{Text, job_of}
use Rattle.command_line.specs.declared.words.Job.TheVariants.{Report, Solve, Link}
use Rattle.command_line.specs.declared.words.LinkJob.{LinkJob}
use Rattle.command_line.specs.declared.words.ReportJob.{ReportJob}
use Rattle.command_line.specs.declared.words.SolveJob.{SolveJob}
use Rattle.call_meaning.specs.Call.{Means}
use Rattle.call_meaning.specs.FailureWords.{most_bytes}
use Rattle.call_meaning.specs.Outcome.{Contents, Outcome, prints, unread}

-- of the Miller numbers that words may give, and those that words after them may give, the last that are given
abbrev pub last_given : Option MillerNumbers → Option MillerNumbers → Option MillerNumbers
last_given first None = first
last_given first (Some m) = Some m

-- one way to a report, and another: words of `report`; and words of `link` for the same four files, with words of
-- `solve` for the same kind, of which the last Miller numbers that they give are those that the first give
pub record TwoWays : Type 0 where
  pub report : List Text
  pub link : List Text
  pub solve : List Text
  pub reporting : ReportJob
  pub linking : LinkJob
  pub solving : SolveJob
  pub reports : job_of report ≡ Some (Report reporting)
  pub links : job_of link ≡ Some (Link linking)
  pub solves : job_of solve ≡ Some (Solve solving)
  pub files : reporting.files ≡ linking.files
  pub kind : reporting.kind ≡ solving.kind
  pub miller : reporting.miller ≡ last_given linking.miller solving.miller

-- `link` means the text by the contents before, and the file of `solve` has it in those after; it has no more bytes
-- than a file may have
pub record IsHandedOn (w : TwoWays) (before after : Contents) (text : Text) : Type 0 where
  pub printed : Means w.link before (prints text)
  pub held : after w.solving.file ≡ Some text
  pub fits : length text ≤ most_bytes

-- a text or a refusal, so all files that come before it were read
abbrev pub IsReached : Outcome → Type 0
IsReached outcome = (file : Text) → outcome ≢ unread file

-- a refusal, or a file that cannot be read
abbrev pub HasNoText : Outcome → Type 0
HasNoText outcome = (text : Text) → outcome ≢ prints text
