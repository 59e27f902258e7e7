-- The counts of each job are such that it can be done.
use Rattle.std.proofs.Common.{◌≡◌, ◌≤◌, ℕ, Bool, true, false, ◌&&◌, List, [], ◌∷◌, Option, Some, None, IfSome, codes, refl, arith}
use Rattle.std.specs.Prelude.{if◌then◌else◌, nat_le, option_map}
use Rattle.std.proofs.lemmas.Bool.{leb-true}
use Rattle.xt_model.specs.Limits.{most_generated, most_workers}
use Rattle.xt_model.specs.Miller.{MillerNumbers}
use Rattle.xt_model.specs.Options.{◌>>=◌}
use Rattle.report_kind.specs.Kind.{kind_of}
use Rattle.report_kind.specs.declared.kind.ReportKind.TheVariants.{All}
use Rattle.command_grammar.specs.Grammar.{Text, given_of, value_of}
use Rattle.command_line.specs.declared.values.Engine.TheVariants.{Rounds}
use Rattle.command_line.specs.Values.{engine, if_said, miller_numbers, net_count, number_of, number_within, said_or, worker_count}
use Rattle.command_line.specs.Words.{HasCount, IsNetCount, IsWorkerCount, block_files, command_named, form_of_command, gen_job, job_for, job_of, replay_options, solve_options}
use Rattle.command_line.specs.declared.words.CommandName.{CommandName}
use Rattle.command_line.specs.declared.words.CommandName.TheVariants as command
use Rattle.command_line.specs.declared.words.GenJob.{GenJob}
use Rattle.command_line.specs.declared.words.Job.{Job}
use Rattle.command_line.specs.declared.words.Job.TheVariants.{Gen}
use Rattle.command_line.specs.declared.words.SolveOptions.{SolveOptions}

-- what holds of the value that a first step gives, and then of what a second makes of it, holds of both together
pub if_both : {A B : Type 0} (P : A → Type 0) (Q : B → Type 0) (o : Option A) (f : A → Option B) → IfSome o P → ((x : A) → P x → IfSome (f x) Q) → IfSome (o >>= f) Q
if_both P Q None f p q = tt
if_both P Q (Some x) f p q = q x p

-- whatever a first step gives
pub if_second : {A B : Type 0} (Q : B → Type 0) (o : Option A) (f : A → Option B) → ((x : A) → IfSome (f x) Q) → IfSome (o >>= f) Q
if_second Q None f q = tt
if_second Q (Some x) f q = q x

-- what holds of what is made of a value
pub if_mapped : {A B : Type 0} (P : B → Type 0) (f : A → B) (o : Option A) → IfSome o (λ x. P (f x)) → IfSome (option_map f o) P
if_mapped P f None h = tt
if_mapped P f (Some x) h = h

within : (least most : ℕ) (text : Text) → IfSome (number_within least most text) (λ n. (least ≤ n) × (n ≤ most))
within least most text = go (number_of 64 text)
  where
    by : (n : ℕ) (a b : Bool) → (a ≡ true → least ≤ n) → (b ≡ true → n ≤ most) → IfSome (if a && b then Some n else None) (λ m. (least ≤ m) × (m ≤ most))
    by n true true p q = (p refl, q refl)
    by n true false p q = tt
    by n false b p q = tt

    go : (o : Option ℕ) → IfSome (o >>= (λ n. if nat_le least n && nat_le n most then Some n else None)) (λ n. (least ≤ n) × (n ≤ most))
    go None = tt
    go (Some n) = by n (nat_le least n) (nat_le n most) (leb-true least n) (leb-true n most)

workers_within : (text : Text) → IfSome (worker_count text) IsWorkerCount
workers_within text = go (worker_count text) (within 1 most_workers text)
  where
    go : (o : Option ℕ) → IfSome o (λ n. (1 ≤ n) × (n ≤ most_workers)) → IfSome o IsWorkerCount
    go None h = tt
    go (Some n) h = record { some = h.0; most = h.1 }

nets_within : (text : Text) → IfSome (net_count text) IsNetCount
nets_within text = go (net_count text) (within 1 most_generated text)
  where
    go : (o : Option ℕ) → IfSome o (λ n. (1 ≤ n) × (n ≤ most_generated)) → IfSome o IsNetCount
    go None h = tt
    go (Some n) h = record { some = h.0; most = h.1 }

said_within : (word : Option Text) → IfSome (said_or 1 worker_count word) IsWorkerCount
said_within None = record { some = omega arith; most = omega arith }
said_within (Some text) = workers_within text

given_within : (word : Option Text) → IfSome (word >>= worker_count) IsWorkerCount
given_within word = if_second IsWorkerCount word worker_count workers_within

nets_given : (word : Option Text) → IfSome (word >>= net_count) IsNetCount
nets_given word = if_second IsNetCount word net_count nets_within

abbrev HasWorkers : SolveOptions → Type 0
HasWorkers o = IsWorkerCount o.workers

options_count : (get : Text → Option Text) → IfSome (solve_options get) HasWorkers
options_count get =
    if_both IsWorkerCount HasWorkers (said_or 1 worker_count (get (codes "workers"))) _ (said_within (get (codes "workers"))) (λ workers count.
    if_second HasWorkers (said_or All kind_of (get (codes "kind"))) _ (λ kind. if_second HasWorkers (if_said miller_numbers (get (codes "miller"))) _ (λ miller.
    if_second HasWorkers (said_or Rounds engine (get (codes "engine"))) _ (λ chosen. count))))

abbrev HasRunWorkers : ℕ × ℕ × Option MillerNumbers → Type 0
HasRunWorkers o = IsWorkerCount o.1

replay_count : (get : Text → Option Text) → IfSome (replay_options get) HasRunWorkers
replay_count get =
    if_second HasRunWorkers (get (codes "order") >>= number_of 64) _ (λ order.
    if_both IsWorkerCount HasRunWorkers (get (codes "workers") >>= worker_count) _ (given_within (get (codes "workers"))) (λ workers count.
    if_second HasRunWorkers (if_said miller_numbers (get (codes "miller"))) _ (λ miller. count)))

abbrev AreCounts : GenJob → Type 0
AreCounts job = HasCount (Gen job)

gen_count : (get : Text → Option Text) → IfSome (gen_job get) AreCounts
gen_count get =
    if_second AreCounts (get (codes "number") >>= number_of 64) _ (λ number. if_both IsNetCount AreCounts (get (codes "nets") >>= net_count) _ (nets_given (get (codes "nets"))) (λ nets some.
    if_both IsWorkerCount AreCounts (said_or 1 worker_count (get (codes "workers"))) _ (said_within (get (codes "workers"))) (λ workers count. (some, count))))

job_count : (name : CommandName) (get : Text → Option Text) → IfSome (job_for name get) HasCount
job_count command.Report get =
    if_both HasWorkers HasCount (solve_options get) _ (options_count get) (λ o count. if_second HasCount (block_files get) _ (λ files. count))
job_count command.Link get =
    if_second HasCount (if_said miller_numbers (get (codes "miller"))) _ (λ miller. if_second HasCount (block_files get) _ (λ files. tt))
job_count command.Solve get =
    if_both HasWorkers HasCount (solve_options get) _ (options_count get) (λ o count. if_second HasCount (get (codes "file")) _ (λ file. count))
job_count command.Replay get =
    if_both HasRunWorkers HasCount (replay_options get) _ (replay_count get) (λ o count. if_second HasCount (get (codes "file")) _ (λ file. count))
job_count command.Eco get =
    if_both IsWorkerCount HasCount (said_or 1 worker_count (get (codes "workers"))) _ (said_within (get (codes "workers"))) (λ workers count. if_second HasCount (if_said miller_numbers (get (codes "miller"))) _ (λ miller.
    if_second HasCount (get (codes "file")) _ (λ file. if_second HasCount (get (codes "edits")) _ (λ edits. count))))
job_count command.Gen get = if_mapped HasCount Gen (gen_job get) (gen_count get)

-- what holds of each job that words of a command give holds of the job of all words
pub of_words : (Q : Job → Type 0) → ((name : CommandName) (get : Text → Option Text) → IfSome (job_for name get) Q) → (words : List Text) → IfSome (job_of words) Q
of_words Q each [] = tt
of_words Q each (word ∷ rest) =
    if_second Q (command_named word) _ (λ name. if_second Q (given_of (form_of_command name) rest) _ (λ items. each name (value_of items)))

pub job_counts : (words : List Text) → IfSome (job_of words) HasCount
job_counts words = of_words HasCount job_count words
