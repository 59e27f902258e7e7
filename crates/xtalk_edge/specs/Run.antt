-- What a run leaves: its status, and what it did to its files and streams.
use Rattle.std.specs.Prelude.{◌≡◌, ◌≢◌, ℕ, List, Option, IfSome, MatchOption}
use Rattle.xt_io.specs.Host.{StreamState}
use Rattle.command_line.specs.Words.{Text}
use Rattle.call_meaning.specs.Outcome.{Contents}
use Rattle.call_meaning.specs.Call.{AreKnown, IsCall, Means}

-- the outside of a call at one moment: what its files hold, how many faults they had, its output and its error stream
pub record Outside (O E : Type 0) : Type 0 where
  pub content : Contents
  pub faults : ℕ
  pub out : StreamState O
  pub err : StreamState E

-- all files of a directory have one count of faults
abbrev pub faults_of : {O E : Type 0} → Outside O E → Text → ℕ
faults_of outside file = outside.faults

-- what a sink over a stream has written, and its count of faults
abbrev pub written_by : {W : Type 0} → StreamState W → Option Text
written_by sink = sink.written

abbrev pub sink_faults : {W : Type 0} → StreamState W → ℕ
sink_faults sink = sink.faults

-- what a call with these words does, of which files are opened nothing is said
abbrev pub IsCallOf : {O E : Type 0} → List Text → Outside O E → Outside O E → ℕ → Type 0
IsCallOf words before after status =
    IsCall written_by sink_faults written_by sink_faults (Means words before.content) (AreKnown words before.content)
    (λ _. Unit {0}) (faults_of before) (faults_of after) before.out after.out before.err after.err status

-- 9 where no words are given, and all is as it was; else another status, and what a call with the words does, and all
-- files hold what they held
abbrev pub EndsAs : {O E : Type 0} → Option (List Text) → Outside O E → Outside O E → ℕ → Type 0
EndsAs given before after status =
    MatchOption given ((status ≡ 9) × (after ≡ before))
    (λ words. (status ≢ 9) × IsCallOf words before after status
    × ((file : Text) → after.content file ≡ before.content file))

-- a run: what is done with the words that are given, if any are, which are those that are known to be
pub record IsRun {O E : Type 0} (known : Option (Option (List Text))) (before after : Outside O E) (status : ℕ)
    : Type 0 where
  pub given : Option (List Text)
  pub as_known : IfSome known (λ words. given ≡ words)
  pub ended : EndsAs given before after status
