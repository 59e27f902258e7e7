-- What two calls have in common.
use Rattle.std.proofs.Common.{◌≡◌, ℕ, zero, suc, List, Option, Some, None, refl, sym, subst, arith}
use Rattle.std.specs.Prelude.{◌≢◌, MatchOption, option_map}
use Rattle.std.proofs.lemmas.Option.{same_Some}
use Rattle.command_line.specs.Words.{Text, job_of}
use Rattle.command_line.specs.declared.words.Job.{Job}
use Rattle.command_line.specs.declared.words.Job.TheVariants.{Report, Solve, Replay, Eco, Link, Gen}
use Rattle.call_meaning.specs.Outcome.{Contents, Outcome, prints, refuses, unread}
use Rattle.call_meaning.specs.Call.{AreKnown, HadNoFault, IsFailure, JobMeans, Means}
use Rattle.call_meaning.specs.FailureWords.{status_of}
use Rattle.call_meaning.specs.Laws.{AskAlike, Call, CallShows, IsCallWith, Streams, by_one_worker}
use Rattle.call_meaning.specs.declared.refusal.Refusal.TheVariants.{Words}
use Rattle.call_meaning.specs.declared.refusal.Stop.TheVariants.{Refused, Unread, NoMemory}
use Rattle.call_meaning.specs.declared.refusal.Failure.{Failure}
use Rattle.call_meaning.specs.declared.refusal.Failure.TheVariants.{NoText, Unwritten}

-- a text or a refusal is meant
abbrev pub IsMet : (Outcome → Type 0) → Type 0
IsMet Meant = (outcome : Outcome) × Meant outcome × ((file : Text) → outcome ≢ unread file)

module _ (Meant : Outcome → Type 0) (Fault CutOff : Text → Type 0) where
  met_by_failure : (failure : Failure) (status : ℕ) → status ≡ status_of failure → IsFailure Meant Fault CutOff failure → HadNoFault status → IsMet Meant
  met_by_failure (NoText (Refused why)) status is h calm = (refuses why, h, λ file e. absurd cc)
  met_by_failure (NoText (Unread file)) status is h calm = absurd (calm.0 is)
  met_by_failure (NoText NoMemory) status is h calm = absurd (calm.2 is)
  met_by_failure Unwritten status is h calm = absurd (calm.1 is)

  -- a call met one, unless a file or its output had a fault or memory was wanted
  met : (status : ℕ) → (status ≡ 0 → (text : Text) × Meant (prints text))
      → (status ≢ 0 → (failure : Failure) × (status ≡ status_of failure) × IsFailure Meant Fault CutOff failure) → HadNoFault status → IsMet Meant
  met zero printed failed calm = let t = printed refl in (prints t.0, t.1, λ file e. absurd cc)
  met (suc n) printed failed calm = let f = failed (λ e. omega (arith, e)) in met_by_failure f.0 (suc n) f.1 f.2 calm

-- ---- words that ask alike

-- a job means what it means done by one worker
by_one : (job : Job) (content : Contents) (o : Outcome) → JobMeans job content o → JobMeans (by_one_worker job) content o
by_one (Report job) content o m = m
by_one (Solve job) content o m = m
by_one (Replay job) content o m = m
by_one (Eco job) content o m = m
by_one (Link job) content o m = m
by_one (Gen job) content o m = m

by_all : (job : Job) (content : Contents) (o : Outcome) → JobMeans (by_one_worker job) content o → JobMeans job content o
by_all (Report job) content o m = m
by_all (Solve job) content o m = m
by_all (Replay job) content o m = m
by_all (Eco job) content o m = m
by_all (Link job) content o m = m
by_all (Gen job) content o m = m

jobs_mean : (a b : Option Job) (content : Contents) (o : Outcome) → option_map by_one_worker a ≡ option_map by_one_worker b
    → MatchOption a (o ≡ refuses Words) (λ job. JobMeans job content o) → MatchOption b (o ≡ refuses Words) (λ job. JobMeans job content o)
jobs_mean None None content o e h = h
jobs_mean None (Some b) content o e h = absurd cc
jobs_mean (Some a) None content o e h = absurd cc
jobs_mean (Some a) (Some b) content o e h =
    let P : Job → Type 0 = λ job. JobMeans job content o in
    by_all b content o (subst P (same_Some (by_one_worker a) (by_one_worker b) e) (by_one a content o h))

pub alike_mean : (words others : List Text) (content : Contents) (o : Outcome) → AskAlike words others → Means words content o → Means others content o
alike_mean words others content o e h = jobs_mean (job_of words) (job_of others) content o e h

-- ---- two calls

pub calls_agree : {O E P D : Type 0} (s : Streams O E) (t : Streams P D) (words others : List Text) (content : Contents) (a : Call O E) (b : Call P D) → AskAlike words others
    → AreKnown words content → IsCallWith s words content a → IsCallWith t others content b → HadNoFault a.status → HadNoFault b.status
    → (outcome : Outcome) × Means words content outcome × CallShows s a outcome × CallShows t b outcome
calls_agree s t words others content a b alike known x y calm calm2 =
    let m = met (Means words content) _ _ a.status (λ z. let p = x.printed z in (p.0, p.1)) (λ n. let f = x.failed n in (f.0, f.1, f.2)) calm in
    let known2 : AreKnown others content = λ file h. known file (alike_mean others words content (unread file) (sym alike) h) in
    (m.0, m.1, x.only known calm m.0 m.1 m.2, y.only known2 calm2 m.0 (alike_mean words others content m.0 alike m.1) m.2)
