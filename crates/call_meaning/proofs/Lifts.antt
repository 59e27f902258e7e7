-- What a step of a command comes to, as the command sees it.
use Rattle.std.proofs.Common.{◌≡◌, ◌⊎◌, ◌≤◌, ◌∙◌, ℕ, List, length, Some, IfSome, Result, Ok, Err, IfOk, IfErr, sym, subst, inl, inr}
use Rattle.xt_model.specs.Parts.{Parts}
use Rattle.std.specs.Prelude.{MatchOption}
use Rattle.command_line.specs.Words.{Text, job_of}
use Rattle.command_line.specs.declared.words.Job.{Job}
use Rattle.call_meaning.specs.declared.refusal.Refusal.TheVariants.{Words}
use Rattle.call_meaning.specs.Outcome.{Contents, Outcome, refuses, unread, FileMeans, LinkedMeans}
use Rattle.call_meaning.specs.FailureWords.{most_bytes}
use Rattle.xt_io.specs.Outside.{KeepsCounts, Rose}
use Rattle.call_meaning.specs.Call.{Answers, HasFault, JobMeans, Means, IsStop, Stops}
use Rattle.call_meaning.specs.declared.refusal.Stop.{Stop}
use Rattle.call_meaning.specs.declared.refusal.Stop.TheVariants.{Refused, Unread, NoMemory}

-- what stops a step stops the command
pub lift_stop : (M N : Outcome → Type 0) (R S : Text → Type 0) (s : Stop) → ((o : Outcome) → M o → N o) → ((file : Text) → R file → S file) → IsStop M R s → IsStop N S s
lift_stop M N R S (Refused why) m r h = m (refuses why) h
lift_stop M N R S (Unread file) m r h = (m (unread file) h.0, r file h.1)
lift_stop M N R S NoMemory m r h = tt

-- a file that gives no bytes, wherever they would lead
pub file_stops : (file : Text) (content : Contents) (Leads : Text → Type 0) (o : Outcome) → FileMeans file content (λ _. ⊥) o → FileMeans file content Leads o
file_stops file content Leads o (inl cannot) = inl cannot
file_stops file content Leads o (inr (inl long)) = inr (inl long)
file_stops file content Leads o (inr (inr held)) = absurd held.3

-- a file whose bytes lead to the outcome
pub file_leads : (file : Text) (content : Contents) (Leads : Text → Type 0) (o : Outcome) (bytes : Text)
    → IfSome (content file) (λ whole. bytes ≡ whole) → length bytes ≤ most_bytes → Leads bytes → FileMeans file content Leads o
file_leads file content Leads o bytes held fits leads = inr (inr (bytes, held, fits, leads))

-- a text of no design, wherever a design would lead
pub linked_stops : (file bytes : Text) (Leads : Parts → Type 0) (o : Outcome) → LinkedMeans file bytes (λ _. ⊥) o → LinkedMeans file bytes Leads o
linked_stops file bytes Leads o (inl none) = inl none
linked_stops file bytes Leads o (inr some) = absurd some.2

-- what the job of the words means, the words mean
pub job_means : (words : List Text) (content : Contents) (job : Job) (o : Outcome) → job_of words ≡ Some job → JobMeans job content o → Means words content o
job_means words content job o is h = subst (λ j. MatchOption j (o ≡ refuses Words) (λ k. JobMeans k content o)) (sym is) h

-- ---- what a step answers, as the command sees it, where the counts of faults before it were kept

pub kept_trans : (a b c : Text → ℕ) → KeepsCounts a b → KeepsCounts b c → KeepsCounts a c
kept_trans a b c h k = λ m. k m ∙ h m

-- a fault after files that had none
pub fault_later : (a b c : Text → ℕ) (file : Text) → KeepsCounts a b → HasFault b c file → HasFault a c file
fault_later a b c file h f = (
  subst (λ n. Rose n (c file)) (h file) f.0,
  λ m. go m (f.1 m),
)
  where
    go : (m : Text) → (c m ≡ b m) ⊎ ((b m ≡ b file) × (c m ≡ c file)) → (c m ≡ a m) ⊎ ((a m ≡ a file) × (c m ≡ c file))
    go m (inl same) = inl (same ∙ h m)
    go m (inr other) = inr (sym (h m) ∙ (other.0 ∙ h file), other.1)

module _ (M N : Outcome → Type 0) (leads : (o : Outcome) → M o → N o) where
  -- of the first step
  pub stops_first : (a z : Text → ℕ) (stop : Stop) → Stops stop M a z → Stops stop N a z
  stops_first a z stop h = (lift_stop M N (HasFault a z) (HasFault a z) stop leads (λ file r. r) h.0, h.1)

  -- of a later one
  pub stops_later : (a b z : Text → ℕ) (stop : Stop) → KeepsCounts a b → Stops stop M b z → Stops stop N a z
  stops_later a b z stop kept h = (
    lift_stop M N (HasFault b z) (HasFault a z) stop leads (λ file r. fault_later a b z file kept r) h.0,
    λ other. kept_trans a b z kept (h.1 other),
  )

  -- of one that reads no file
  pub stops_unread : (a b : Text → ℕ) (stop : Stop) → KeepsCounts a b → IsStop M (λ _. ⊥) stop → Stops stop N a b
  stops_unread a b stop kept h = (lift_stop M N (λ _. ⊥) (HasFault a b) stop leads (λ file r. absurd r) h, λ _. kept)

  module _ {V : Type 0} (P Q : V → Type 0) (makes : (v : V) → P v → Q v) where
    pub answers_first : (a z : Text → ℕ) (r : Result V Stop) → Answers r P M a z → Answers r Q N a z
    answers_first a z (Ok v) h = (makes v h.0, h.1)
    answers_first a z (Err stop) h = stops_first a z stop h

    pub answers_later : (a b z : Text → ℕ) (r : Result V Stop) → KeepsCounts a b → Answers r P M b z → Answers r Q N a z
    answers_later a b z (Ok v) kept h = (makes v h.0, kept_trans a b z kept h.1)
    answers_later a b z (Err stop) kept h = stops_later a b z stop kept h

    pub answers_unread : (a b : Text → ℕ) (r : Result V Stop) → KeepsCounts a b → IfOk r P → IfErr r (IsStop M (λ _. ⊥)) → Answers r Q N a b
    answers_unread a b (Ok v) kept ok stop = (makes v ok, kept)
    answers_unread a b (Err s) kept ok stop = stops_unread a b s kept stop
