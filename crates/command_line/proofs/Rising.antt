-- The Miller numbers of each job rise.
use Rattle.std.proofs.Common.{◌≡◌, ℕ, ◌≤◌, Bool, true, false, ◌&&◌, List, codes, Option, Some, None, IfSome, refl}
use Rattle.std.specs.Prelude.{if◌then◌else◌, nat_le, option_map}
use Rattle.std.proofs.lemmas.Bool.{leb-true}
use Rattle.xt_model.specs.Limits.{most_factor}
use Rattle.xt_model.specs.Miller.{MillerNumbers, IsMiller, miller_of}
use Rattle.xt_model.specs.Options.{◌>>=◌}
use Rattle.report_kind.specs.Kind.{kind_of}
use Rattle.report_kind.specs.declared.kind.ReportKind.TheVariants.{All}
use Rattle.command_grammar.specs.Grammar.{Text}
use Rattle.command_line.specs.declared.values.Engine.TheVariants.{Rounds}
use Rattle.command_line.specs.Values.{engine, if_said, miller_numbers, number_of, said_or, three_of, worker_count}
use Rattle.command_line.specs.Words.{block_files, gen_job, job_for, job_of, replay_options, solve_options}
use Rattle.command_line.specs.declared.words.CommandName.{CommandName}
use Rattle.command_line.specs.declared.words.CommandName.TheVariants as command
use Rattle.command_line.specs.declared.words.GenJob.{GenJob}
use Rattle.command_line.specs.declared.words.Job.{Job}
use Rattle.command_line.specs.declared.words.SolveOptions.{SolveOptions}
use Rattle.command_line.specs.declared.words.Job.TheVariants.{Eco, Gen, Link, Replay, Report, Solve}
use Rattle.command_line.proofs.Counts.{if_both, if_second, of_words}

-- three numbers that are Miller numbers rise
rises : (t : ℕ × ℕ × ℕ) → IfSome (miller_of t) IsMiller
rises t = go (nat_le t.0 t.1) (nat_le t.1 t.2) (nat_le t.2 most_factor) (leb-true t.0 t.1) (leb-true t.1 t.2) (leb-true t.2 most_factor)
  where
    go : (a b c : Bool) → (a ≡ true → t.0 ≤ t.1) → (b ≡ true → t.1 ≤ t.2) → (c ≡ true → t.2 ≤ most_factor)
        → IfSome (if a && (b && c) then Some (record { low = t.0; mid = t.1; high = t.2 }) else None) IsMiller
    go true true true p q r = record { low = p refl; mid = q refl; high = r refl }
    go true true false p q r = tt
    go true false c p q r = tt
    go false b c p q r = tt

abbrev AreMiller : Option MillerNumbers → Type 0
AreMiller miller = IfSome miller IsMiller

said_rises : (word : Option Text) → IfSome (if_said miller_numbers word) AreMiller
said_rises None = tt
said_rises (Some text) = go (miller_numbers text) (if_second IsMiller (three_of text) miller_of rises)
  where
    go : (o : Option MillerNumbers) → IfSome o IsMiller → IfSome (option_map Some o) AreMiller
    go None h = tt
    go (Some m) h = h

-- the Miller numbers of a job, if it has any, rise
abbrev pub HasRising : Job → Type 0
HasRising (Report job) = IfSome job.miller IsMiller
HasRising (Link job) = IfSome job.miller IsMiller
HasRising (Solve job) = IfSome job.miller IsMiller
HasRising (Replay job) = IfSome job.miller IsMiller
HasRising (Eco job) = IfSome job.miller IsMiller
HasRising (Gen job) = Unit {0}

abbrev AreRising : SolveOptions → Type 0
AreRising o = AreMiller o.miller

options_rise : (get : Text → Option Text) → IfSome (solve_options get) AreRising
options_rise get =
    if_second AreRising (said_or 1 worker_count (get (codes "workers"))) _ (λ workers. if_second AreRising (said_or All kind_of (get (codes "kind"))) _ (λ kind.
    if_both AreMiller AreRising (if_said miller_numbers (get (codes "miller"))) _ (said_rises (get (codes "miller"))) (λ miller rise.
    if_second AreRising (said_or Rounds engine (get (codes "engine"))) _ (λ chosen. rise))))

abbrev IsRising : ℕ × ℕ × Option MillerNumbers → Type 0
IsRising o = AreMiller o.2

replay_rises : (get : Text → Option Text) → IfSome (replay_options get) IsRising
replay_rises get =
    if_second IsRising (get (codes "order") >>= number_of 64) _ (λ order. if_second IsRising (get (codes "workers") >>= worker_count) _ (λ workers.
    if_both AreMiller IsRising (if_said miller_numbers (get (codes "miller"))) _ (said_rises (get (codes "miller"))) (λ miller rise. rise)))

-- a job to generate a design has none
no_miller : (o : Option GenJob) → IfSome (option_map Gen o) HasRising
no_miller None = tt
no_miller (Some job) = tt

job_rise : (name : CommandName) (get : Text → Option Text) → IfSome (job_for name get) HasRising
job_rise command.Report get =
    if_both AreRising HasRising (solve_options get) _ (options_rise get) (λ o rise. if_second HasRising (block_files get) _ (λ files. rise))
job_rise command.Link get =
    if_both AreMiller HasRising (if_said miller_numbers (get (codes "miller"))) _ (said_rises (get (codes "miller"))) (λ miller rise. if_second HasRising (block_files get) _ (λ files. rise))
job_rise command.Solve get =
    if_both AreRising HasRising (solve_options get) _ (options_rise get) (λ o rise. if_second HasRising (get (codes "file")) _ (λ file. rise))
job_rise command.Replay get =
    if_both IsRising HasRising (replay_options get) _ (replay_rises get) (λ o rise. if_second HasRising (get (codes "file")) _ (λ file. rise))
job_rise command.Eco get =
    if_second HasRising (said_or 1 worker_count (get (codes "workers"))) _ (λ workers. if_both AreMiller HasRising (if_said miller_numbers (get (codes "miller"))) _ (said_rises (get (codes "miller"))) (λ miller rise.
    if_second HasRising (get (codes "file")) _ (λ file. if_second HasRising (get (codes "edits")) _ (λ edits. rise))))
job_rise command.Gen get = no_miller (gen_job get)

pub job_rises : (words : List Text) → IfSome (job_of words) HasRising
job_rises words = of_words HasRising job_rise words
