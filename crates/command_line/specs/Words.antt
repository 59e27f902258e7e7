-- The commands, what may follow the word of each, and the job that the words ask for.
use Rattle.std.specs.Prelude.{ℕ, ◌≡◌, ◌≤◌, if◌then◌else◌, List, [], ◌∷◌, codes}
use Rattle.std.specs.Prelude.{Option, Some, None, option_map, Result, Ok, Err}
use Rattle.std.specs.Str.{bytes_eq}
use Rattle.xt_model.specs.Limits.{most_generated, most_workers}
use Rattle.xt_model.specs.Miller.{MillerNumbers}
use Rattle.xt_model.specs.Options.{◌>>=◌}
use Rattle.report_kind.specs.Kind.{kind_of}
use Rattle.report_kind.specs.declared.kind.ReportKind.TheVariants.{All}
pub use Rattle.command_grammar.specs.Forms.{bytes_of}
pub use Rattle.command_grammar.specs.Grammar.{Text}
use Rattle.command_grammar.specs.Grammar.{CommandForm, given_of, value_of}
use Rattle.command_line.specs.declared.values.Engine.TheVariants.{Rounds}
use Rattle.command_line.specs.Values.{engine, if_said, miller_numbers, net_count, number_of, said_or, worker_count}
use Rattle.command_line.specs.declared.words.CommandName.{CommandName}
use Rattle.command_line.specs.declared.words.CommandName.TheVariants as command
use Rattle.command_grammar.specs.declared.grammar.WordsFault.{WordsFault}
use Rattle.command_grammar.specs.declared.grammar.WordsFault.TheVariants.{Bad, NoMemory}
use Rattle.command_line.specs.declared.words.BlockFiles.{BlockFiles}
use Rattle.command_line.specs.declared.words.GenJob.{GenJob}
use Rattle.command_line.specs.declared.words.SolveOptions.{SolveOptions}
use Rattle.command_line.specs.declared.words.Job.{Job}
use Rattle.command_line.specs.declared.words.Job.TheVariants.{Report, Solve, Replay, Eco, Link, Gen}

-- ---- the table

-- the four files of a block, in their order
abbrev pub block : List Text
block = codes "lib" ∷ codes "netlist" ∷ codes "spef" ∷ codes "sdc" ∷ []

-- `report LIB NETLIST SPEF SDC [--workers N] [--kind all|checks|noise] [--miller L,M,H] [--engine rounds|marks]`
abbrev pub report_form : CommandForm
report_form = record {
  positionals = block;
  options = codes "workers" ∷ codes "kind" ∷ codes "miller" ∷ codes "engine" ∷ [];
}

-- `solve FILE [--workers N] [--kind all|checks|noise] [--miller L,M,H] [--engine rounds|marks]`
abbrev pub solve_form : CommandForm
solve_form = record {
  positionals = codes "file" ∷ [];
  options = codes "workers" ∷ codes "kind" ∷ codes "miller" ∷ codes "engine" ∷ [];
}

-- `replay FILE --order N --workers W [--miller L,M,H]`
abbrev pub replay_form : CommandForm
replay_form = record {
  positionals = codes "file" ∷ [];
  options = codes "order" ∷ codes "workers" ∷ codes "miller" ∷ [];
}

-- `eco FILE EDITS [--workers N] [--miller L,M,H]`
abbrev pub eco_form : CommandForm
eco_form = record {
  positionals = codes "file" ∷ codes "edits" ∷ [];
  options = codes "workers" ∷ codes "miller" ∷ [];
}

-- `link LIB NETLIST SPEF SDC [--miller L,M,H]`
abbrev pub link_form : CommandForm
link_form = record { positionals = block; options = codes "miller" ∷ [] }

-- `gen --number N --nets K [--workers W]`
abbrev pub gen_form : CommandForm
gen_form = record { positionals = []; options = codes "number" ∷ codes "nets" ∷ codes "workers" ∷ [] }

-- the command of this name
abbrev pub command_named : Text → Option CommandName
command_named word =
    if bytes_eq word (codes "report") then Some command.Report
    else if bytes_eq word (codes "solve") then Some command.Solve
    else if bytes_eq word (codes "replay") then Some command.Replay
    else if bytes_eq word (codes "eco") then Some command.Eco
    else if bytes_eq word (codes "link") then Some command.Link
    else if bytes_eq word (codes "gen") then Some command.Gen else None

-- the form of the words after the command's own
abbrev pub form_of_command : CommandName → CommandForm
form_of_command command.Report = report_form
form_of_command command.Solve = solve_form
form_of_command command.Replay = replay_form
form_of_command command.Eco = eco_form
form_of_command command.Link = link_form
form_of_command command.Gen = gen_form

-- ---- the jobs, where each name has this word, if it has one

-- the files of a block, all four
abbrev pub block_files : (Text → Option Text) → Option BlockFiles
block_files given = do
  lib ← given (codes "lib")
  netlist ← given (codes "netlist")
  spef ← given (codes "spef")
  sdc ← given (codes "sdc")
  Some (record { lib = lib; netlist = netlist; spef = spef; sdc = sdc })

-- how a design is solved and reported: by one worker, with the whole report, by its own Miller numbers and by rounds
-- unless the words say otherwise
abbrev pub solve_options : (Text → Option Text) → Option SolveOptions
solve_options given = do
  workers ← said_or 1 worker_count (given (codes "workers"))
  kind ← said_or All kind_of (given (codes "kind"))
  miller ← if_said miller_numbers (given (codes "miller"))
  chosen ← said_or Rounds engine (given (codes "engine"))
  Some (record { workers = workers; kind = kind; miller = miller; engine = chosen })

-- four files to link and to solve; the design's own Miller numbers are the classical ones
abbrev pub report_job : (Text → Option Text) → Option Job
report_job given = do
  o ← solve_options given
  files ← block_files given
  Some (Report (record { files = files; workers = o.workers; kind = o.kind; miller = o.miller; engine = o.engine }))

-- four files to link, by the classical Miller numbers unless the words say otherwise
abbrev pub link_job : (Text → Option Text) → Option Job
link_job given = do
  miller ← if_said miller_numbers (given (codes "miller"))
  files ← block_files given
  Some (Link (record { files = files; miller = miller }))

-- a linked text to solve
abbrev pub solve_job : (Text → Option Text) → Option Job
solve_job given = do
  o ← solve_options given
  file ← given (codes "file")
  Some (Solve (record { file = file; workers = o.workers; kind = o.kind; miller = o.miller; engine = o.engine }))

-- the number of an order, how many workers, and Miller numbers in place of the text's own where the words say any
abbrev pub replay_options : (Text → Option Text) → Option (ℕ × ℕ × Option MillerNumbers)
replay_options given = do
  order ← given (codes "order") >>= number_of 64
  workers ← given (codes "workers") >>= worker_count
  miller ← if_said miller_numbers (given (codes "miller"))
  Some (order, workers, miller)

-- a linked text to solve by `workers` workers in the order of a number, with its own Miller numbers unless the words
-- say otherwise
abbrev pub replay_job : (Text → Option Text) → Option Job
replay_job given = do
  o ← replay_options given
  file ← given (codes "file")
  Some (Replay (record { file = file; order = o.0; workers = o.1; miller = o.2 }))

-- a linked text and a text of edits, by one worker and with the text's own Miller numbers unless the words say
-- otherwise
abbrev pub eco_job : (Text → Option Text) → Option Job
eco_job given = do
  workers ← said_or 1 worker_count (given (codes "workers"))
  miller ← if_said miller_numbers (given (codes "miller"))
  file ← given (codes "file")
  edits ← given (codes "edits")
  Some (Eco (record { file = file; edits = edits; workers = workers; miller = miller }))

-- a design to generate and to solve, by one worker unless the words say otherwise
abbrev pub gen_job : (Text → Option Text) → Option GenJob
gen_job given = do
  number ← given (codes "number") >>= number_of 64
  nets ← given (codes "nets") >>= net_count
  workers ← said_or 1 worker_count (given (codes "workers"))
  Some (record { number = number; nets = nets; workers = workers })

abbrev pub job_for : CommandName → (Text → Option Text) → Option Job
job_for command.Report given = report_job given
job_for command.Solve given = solve_job given
job_for command.Replay given = replay_job given
job_for command.Eco given = eco_job given
job_for command.Link given = link_job given
job_for command.Gen given = option_map Gen (gen_job given)

-- reading gives what the words say, and `Bad` where they say nothing; or there was no memory
abbrev pub Reads : {T : Type 0} → Option T → Result T WordsFault → Type 0
Reads said (Ok value) = said ≡ Some value
Reads said (Err Bad) = said ≡ None
Reads said (Err NoMemory) = Unit {0}

-- the job that the words ask for: the first word names a command, those after it are of its form, and each says what
-- its name wants
abbrev pub job_of : List Text → Option Job
job_of [] = None
job_of (word ∷ rest) = do
  name ← command_named word
  items ← given_of (form_of_command name) rest
  job_for name (value_of items)

-- ---- what the counts of a job keep

-- a run can have this number of workers
pub record IsWorkerCount (workers : ℕ) : Type 0 where
  pub some : 1 ≤ workers
  pub most : workers ≤ most_workers

-- a design can be generated with this number of nets
pub record IsNetCount (nets : ℕ) : Type 0 where
  pub some : 1 ≤ nets
  pub most : nets ≤ most_generated

-- a run can have the count of workers of the job, and a design be generated for its count of nets, where it says one
abbrev pub HasCount : Job → Type 0
HasCount (Report job) = IsWorkerCount job.workers
HasCount (Solve job) = IsWorkerCount job.workers
HasCount (Replay job) = IsWorkerCount job.workers
HasCount (Eco job) = IsWorkerCount job.workers
HasCount (Link job) = Unit {0}
HasCount (Gen job) = IsNetCount job.nets × IsWorkerCount job.workers
