-- Laws of calls.
use Rattle.std.specs.Prelude.{◌≡◌, ℕ, List, Option, option_map}
use Rattle.xt_io.specs.Outside.{appended}
use Rattle.report_kind.specs.declared.kind.ReportKind.TheVariants.{All}
use Rattle.command_line.specs.declared.values.Engine.TheVariants.{Rounds}
use Rattle.command_line.specs.Words.{Text, job_of}
use Rattle.command_line.specs.declared.words.Job.{Job}
use Rattle.command_line.specs.declared.words.Job.TheVariants.{Report, Solve, Replay, Eco, Link, Gen}
use Rattle.call_meaning.specs.Outcome.{Contents, Outcome}
use Rattle.call_meaning.specs.Call.{AreKnown, HadNoFault, IsCall, Means, Shows}
use Rattle.call_meaning.specs.FailureWords.{WritesLine}

-- ---- words that ask for one text

-- a job as one worker does it by rounds: `replay` is then `solve` with the whole report
abbrev pub by_one_worker : Job → Job
by_one_worker (Report job) = Report (record job { workers = 1; engine = Rounds })
by_one_worker (Solve job) = Solve (record job { workers = 1; engine = Rounds })
by_one_worker (Replay job) =
    Solve (record { file = job.file; workers = 1; kind = All; miller = job.miller; engine = Rounds })
by_one_worker (Eco job) = Eco (record job { workers = 1 })
by_one_worker (Link job) = Link job
by_one_worker (Gen job) = Gen (record job { workers = 1 })

-- words that differ in the workers that they ask for, in the order in which these take turns and in the engine, if in
-- anything
abbrev pub AskAlike : List Text → List Text → Type 0
AskAlike words others = option_map by_one_worker (job_of words) ≡ option_map by_one_worker (job_of others)

-- ---- two calls

-- what contracts see of an output and of an error stream
pub record Streams (O E : Type 0) : Type 0 where
  pub texts : O → Option Text
  pub text_faults : O → ℕ
  pub lines : E → Option Text
  pub line_faults : E → ℕ

-- a call: the counts of faults of the files, the output and the error stream, each before it and after it, and its
-- status
pub record Call (O E : Type 0) : Type 0 where
  pub before : Text → ℕ
  pub after : Text → ℕ
  pub out : O
  pub new_out : O
  pub err : E
  pub new_err : E
  pub status : ℕ

-- it does what a call with these words does, over files with these contents, whichever it opens
abbrev pub IsCallWith : {O E : Type 0} → Streams O E → List Text → Contents → Call O E → Type 0
IsCallWith s words content c =
    IsCall s.texts s.text_faults s.lines s.line_faults (Means words content) (AreKnown words content) (λ _. Unit {0})
    c.before c.after c.out c.new_out c.err c.new_err c.status

-- it shows this outcome: its text was appended to the output, or its line to the error stream
abbrev pub CallShows : {O E : Type 0} → Streams O E → Call O E → Outcome → Type 0
CallShows s c outcome =
    Shows c.status (λ text. s.texts c.new_out ≡ appended (s.texts c.out) text)
    (WritesLine (s.lines c.err) (s.lines c.new_err) (s.line_faults c.err) (s.line_faults c.new_err)) outcome

-- two calls with words that ask alike, over files with the same contents, which are known: unless a file or an output
-- had a fault or memory was wanted, both show one outcome
abbrev pub CallsAgree : {O E P D : Type 0} → Streams O E → Streams P D → Type 0
CallsAgree {O} {E} {P} {D} s t =
    (words others : List Text) (content : Contents) (a : Call O E) (b : Call P D) → AskAlike words others
    → AreKnown words content → IsCallWith s words content a → IsCallWith t others content b
    → HadNoFault a.status → HadNoFault b.status
    → (outcome : Outcome) × Means words content outcome × CallShows s a outcome × CallShows t b outcome
