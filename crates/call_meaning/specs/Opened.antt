-- Which files a call opens.
use Rattle.std.specs.Prelude.{ℕ, ◌≤◌, List, [], ◌∷◌, ◌++◌, length, take, Option, Some, None, Result, Ok, Err}
use Rattle.xt_io.specs.Outside.{AreOpened}
use Rattle.command_line.specs.Words.{Text}
use Rattle.command_line.specs.declared.words.BlockFiles.{BlockFiles}
use Rattle.command_line.specs.declared.words.Job.{Job}
use Rattle.command_line.specs.declared.words.Job.TheVariants.{Report, Solve, Replay, Eco, Link, Gen}
use Rattle.call_meaning.specs.declared.refusal.Refusal.TheVariants.{Words, File, Linking, Design}
use Rattle.call_meaning.specs.declared.refusal.Stop.{Stop}
use Rattle.call_meaning.specs.declared.refusal.Stop.TheVariants.{Refused, Unread, NoMemory}
use Rattle.call_meaning.specs.declared.refusal.Failure.{Failure}
use Rattle.call_meaning.specs.declared.refusal.Failure.TheVariants.{NoText, Unwritten}

-- the files of a job, in the order of its command
abbrev pub block_files : BlockFiles → List Text
block_files files = files.lib ∷ files.netlist ∷ files.spef ∷ files.sdc ∷ []

abbrev pub files_of : Job → List Text
files_of (Report job) = block_files job.files
files_of (Solve job) = job.file ∷ []
files_of (Replay job) = job.file ∷ []
files_of (Eco job) = job.file ∷ job.edits ∷ []
files_of (Link job) = block_files job.files
files_of (Gen job) = []

-- none where the words ask for no job
abbrev pub files_named : Option Job → List Text
files_named None = []
files_named (Some job) = files_of job

abbrev pub HasValue : {V : Type 0} → Result V Stop → Type 0
HasValue (Ok value) = Unit {0}
HasValue (Err stop) = ⊥

-- a first part of these files was opened, each once, in their order, and nothing else; all of them where `All` holds
pub record OpensFirst (files : List Text) (All : Type 0) (before after : Option (List Text)) : Type 0 where
  pub count : ℕ
  pub opened : AreOpened (take count files) before after
  pub all : All → length files ≤ count

-- this file was opened, and none after it
abbrev pub IsLastOpened : Text → Option (List Text) → Option (List Text) → Type 0
IsLastOpened file before after = (earlier : List Text) × AreOpened (earlier ++ (file ∷ [])) before after

-- how far these files were opened where a call has this failure: none after the file that is refused or could not be
-- read; all, where it is of none of them, as that of words, which then name none; of want of memory nothing is said
abbrev pub FailsAfter : List Text → Option (List Text) → Option (List Text) → Failure → Type 0
FailsAfter files before after (NoText (Refused Words)) = AreOpened files before after
FailsAfter files before after (NoText (Refused (File file why))) = IsLastOpened file before after
FailsAfter files before after (NoText (Refused (Linking why))) = AreOpened files before after
FailsAfter files before after (NoText (Refused (Design why))) = AreOpened files before after
FailsAfter files before after (NoText (Unread file)) = IsLastOpened file before after
FailsAfter files before after (NoText NoMemory) = Unit {0}
FailsAfter files before after Unwritten = AreOpened files before after
