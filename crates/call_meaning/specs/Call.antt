-- What a call does, from its words and its files to its status and its line.
use Rattle.std.specs.Prelude.{◌≡◌, ◌≢◌, ℕ, ◌⊎◌, List, Option, IsSome, MatchOption, Result, Ok, Err}
use Rattle.xt_io.specs.Outside.{Rose, ChangesOnly, KeepsCounts, IsPrefixAppended, appended}
use Rattle.call_meaning.specs.Outcome.{Contents, Outcome, prints, refuses, unread}
use Rattle.call_meaning.specs.Report.{ReportMeans}
use Rattle.call_meaning.specs.Solve.{SolveMeans}
use Rattle.call_meaning.specs.Replay.{ReplayMeans}
use Rattle.call_meaning.specs.Eco.{EcoMeans}
use Rattle.call_meaning.specs.Link.{LinkMeans}
use Rattle.call_meaning.specs.Gen.{GenMeans}
use Rattle.call_meaning.specs.FailureWords.{WritesLine, line_of, status_of}
use Rattle.command_line.specs.Words.{Text, job_of}
use Rattle.command_line.specs.declared.words.Job.{Job}
use Rattle.command_line.specs.declared.words.Job.TheVariants.{Report, Solve, Replay, Eco, Link, Gen}
use Rattle.call_meaning.specs.declared.refusal.Refusal.{Refusal}
use Rattle.call_meaning.specs.declared.refusal.Refusal.TheVariants.{Words}
use Rattle.call_meaning.specs.declared.refusal.Stop.{Stop}
use Rattle.call_meaning.specs.declared.refusal.Stop.TheVariants.{Refused, Unread, NoMemory}
use Rattle.call_meaning.specs.declared.refusal.Failure.{Failure}
use Rattle.call_meaning.specs.declared.refusal.Failure.TheVariants.{NoText, Unwritten}

-- ---- what the words and the files mean

-- each command has a page of its own
abbrev pub JobMeans : Job → Contents → Outcome → Type 0
JobMeans (Report job) content outcome = ReportMeans job content outcome
JobMeans (Solve job) content outcome = SolveMeans job content outcome
JobMeans (Replay job) content outcome = ReplayMeans job content outcome
JobMeans (Eco job) content outcome = EcoMeans job content outcome
JobMeans (Link job) content outcome = LinkMeans job content outcome
JobMeans (Gen job) content outcome = GenMeans job outcome

-- the words are outside the grammar; or they ask for a job, whose files and design lead to the outcome
abbrev pub Means : List Text → Contents → Outcome → Type 0
Means words content outcome =
    MatchOption (job_of words) (outcome ≡ refuses Words) (λ job. JobMeans job content outcome)

-- the content of each file that is read on the way to the outcome is known
abbrev pub AreKnown : List Text → Contents → Type 0
AreKnown words content = (file : Text) → Means words content (unread file) → IsSome (content file)

-- ---- why a call does not print its whole text

-- a fault came at this file, by the counts before and after: its own rose, and no other changed
abbrev pub HasFault : (Text → ℕ) → (Text → ℕ) → Text → Type 0
HasFault before after file = Rose (before file) (after file) × ChangesOnly file before after

-- there is no text: a refusal is meant; a file cannot be read, and a fault came at it; or there was no memory
abbrev pub IsStop : (Outcome → Type 0) → (Text → Type 0) → Stop → Type 0
IsStop Meant Fault (Refused why) = Meant (refuses why)
IsStop Meant Fault (Unread file) = Meant (unread file) × Fault file
IsStop Meant Fault NoMemory = Unit {0}

-- the output has a first part of the text, not all of it, and its count of faults rose
abbrev pub IsCutOff : Option Text → Option Text → ℕ → ℕ → Text → Type 0
IsCutOff before after faults_before faults_after text =
    IsPrefixAppended before after text × Rose faults_before faults_after

-- there is no text; or there is one, and writing it was cut off
abbrev pub IsFailure : (Outcome → Type 0) → (Text → Type 0) → (Text → Type 0) → Failure → Type 0
IsFailure Meant Fault CutOff (NoText stop) = IsStop Meant Fault stop
IsFailure Meant Fault CutOff Unwritten = (text : Text) × Meant (prints text) × CutOff text

-- ---- what a call shows

-- neither a file (6) nor the output (7) had a fault, and memory was found (8)
abbrev pub HadNoFault : ℕ → Type 0
HadNoFault status = (status ≢ 6) × (status ≢ 7) × (status ≢ 8)

-- a call with this status shows an outcome: its text was written; or it has the status and the line of the refusal
abbrev pub Shows : ℕ → (Text → Type 0) → (Text → Type 0) → Outcome → Type 0
Shows status IsWritten IsLine (prints text) = (status ≡ 0) × IsWritten text
Shows status IsWritten IsLine (refuses why) =
    (status ≡ status_of (NoText (Refused why))) × IsLine (line_of (NoText (Refused why)))
Shows status IsWritten IsLine (unread file) = ⊥

-- ---- what a step answers, and what the whole call does

-- why a step has no value, by what its words and files mean; a count of faults changed only where a file could not be
-- read
abbrev pub Stops : Stop → (Outcome → Type 0) → (Text → ℕ) → (Text → ℕ) → Type 0
Stops stop Meant before after =
    IsStop Meant (HasFault before after) stop × (status_of (NoText stop) ≢ 6 → KeepsCounts before after)

-- a step answers a value that is as it is to be, and no count of faults changed; or it has none
abbrev pub Answers : {V : Type 0} → Result V Stop → (V → Type 0) → (Outcome → Type 0) → (Text → ℕ) → (Text → ℕ)
    → Type 0
Answers (Ok value) IsValue Meant before after = IsValue value × KeepsCounts before after
Answers (Err stop) IsValue Meant before after = Stops stop Meant before after

-- what a whole call does, by what its words and files mean, the counts of faults of the files, and what its output and
-- its error stream have: `texts` and `lines` are what they hold, `text_faults` and `line_faults` count their faults;
-- `Opened` says which files were opened where it has a failure
pub record IsCall {O E : Type 0} (texts : O → Option Text) (text_faults : O → ℕ) (lines : E → Option Text)
    (line_faults : E → ℕ) (Meant : Outcome → Type 0) (Known : Type 0) (Opened : Failure → Type 0)
    (before after : Text → ℕ) (out new_out : O) (err new_err : E) (status : ℕ) : Type 0 where
  -- 0: the text that is meant was written, and nothing else
  pub printed : status ≡ 0 → (text : Text) × Meant (prints text) × (texts new_out ≡ appended (texts out) text)
      × (new_err ≡ err)
  -- any other status has one failure as its cause, and the line of that failure on the error stream; no file was opened
  -- that comes after that failure
  pub failed : status ≢ 0 → (failure : Failure) × (status ≡ status_of failure)
      × IsFailure Meant (HasFault before after)
      (IsCutOff (texts out) (texts new_out) (text_faults out) (text_faults new_out)) failure
      × WritesLine (lines err) (lines new_err) (line_faults err) (line_faults new_err) (line_of failure)
      × Opened failure
  -- all else stays as it was
  pub kept : (status ≢ 0 → status ≢ 7 → new_out ≡ out) × (status ≢ 7 → text_faults new_out ≡ text_faults out)
      × (status ≢ 6 → KeepsCounts before after)
  -- a refusal that is meant comes, unless memory runs out or a read fault came before it
  pub refused : (why : Refusal) → Meant (refuses why) → Known → (status ≡ status_of (NoText (Refused why)))
      ⊎ ((status ≡ 8) ⊎ ((status ≡ 6) × (file : Text) × Meant (unread file) × HasFault before after file))
  -- where no refusal is meant and no fault came, the text comes, unless memory runs out
  pub complete : ((why : Refusal) → Meant (refuses why) → ⊥)
      → ((file : Text) → Meant (unread file) → HasFault before after file → ⊥)
      → (Rose (text_faults out) (text_faults new_out) → ⊥) → (status ≡ 0) ⊎ (status ≡ 8)
  -- no other text and no other refusal is meant than the one that came
  pub only : Known → HadNoFault status → (outcome : Outcome) → Meant outcome → ((file : Text) → outcome ≢ unread file)
      → Shows status (λ text. texts new_out ≡ appended (texts out) text)
      (WritesLine (lines err) (lines new_err) (line_faults err) (line_faults new_err)) outcome
