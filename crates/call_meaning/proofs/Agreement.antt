-- Where the contents of the files are known, the words and the files mean one outcome.
use Rattle.std.proofs.Common.{◌≡◌, ◌⊎◌, ℕ, List, Option, Some, None, Result, Ok, Err, IfSome, refl, sym, ap, ◌∙◌, subst, inl, inr}
use Rattle.std.specs.Prelude.{◌≢◌, IsSome, MatchOption}
use Rattle.xt_model.specs.Miller.{MillerNumbers, IsMiller}
use Rattle.xt_model.specs.Parts.{Parts}
use Rattle.linked_text.specs.declared.fault.Fault.{Fault}
use Rattle.linked_text.proofs.WholeLaws.{means_design, means_one, same_texts}
use Rattle.design_gen.specs.Laws.{IsCount}
use Rattle.design_gen.specs.Generated.{generated}
use Rattle.design_gen.proofs.Soundness.{sound}
use Rattle.report_text.proofs.OneReport.{one_summary}
use Rattle.report_kind.specs.declared.kind.ReportKind.{ReportKind}
use Rattle.report_kind.specs.declared.kind.ReportKind.TheVariants.{All}
use Rattle.command_line.specs.Words.{Text, HasCount, job_of}
use Rattle.call_meaning.specs.Outcome.{Contents, Outcome, prints, refuses, unread, FileMeans, LinkedMeans, DesignMeans, IsDesignText, TextReportMeans, why_refused, counted_by}
use Rattle.call_meaning.specs.FailureWords.{line_of, status_of}
use Rattle.call_meaning.specs.Gen.{GenMeans, IsSummed}
use Rattle.call_meaning.specs.Eco.{EcoMeans, EditsMean}
use Rattle.call_meaning.specs.Call.{JobMeans, Means, AreKnown, HadNoFault, IsStop, Shows}
use Rattle.command_line.specs.declared.words.Job.{Job}
use Rattle.command_line.specs.declared.words.Job.TheVariants.{Report, Solve, Replay, Eco, Link, Gen}
use Rattle.command_line.specs.declared.words.EcoJob.{EcoJob}
use Rattle.command_line.specs.declared.words.GenJob.{GenJob}
use Rattle.call_meaning.specs.declared.refusal.Refusal.{Refusal}
use Rattle.call_meaning.specs.declared.refusal.FileRefusal.TheVariants.{Content}
use Rattle.call_meaning.specs.declared.refusal.Refusal.TheVariants.{Words, File}
use Rattle.call_meaning.specs.declared.refusal.Stop.{Stop}
use Rattle.call_meaning.specs.declared.refusal.Stop.TheVariants.{Refused, Unread, NoMemory}
use Rattle.call_meaning.specs.declared.refusal.Failure.TheVariants.{NoText}
use Rattle.command_line.proofs.Rising.{HasRising, job_rises}
use Rattle.call_meaning.proofs.Given.{counted_sound}
use Rattle.call_meaning.proofs.OneDesign.{one_of_design, one_of_solved}
use Rattle.call_meaning.proofs.OneEdit.{one_of_edits}
use Rattle.command_line.proofs.Counts.{job_counts}
use Rattle.text_lines.specs.Lines.{text_of}
use Rattle.linked_text.specs.Linked.{linked}
pub use Rattle.call_meaning.proofs.Agreeing.{Agree, LeavesOne, agree_as, unread_agrees, one_of_file}
use Rattle.call_meaning.proofs.Agreeing.{one_of_file_at}
use Rattle.call_meaning.proofs.Lifts.{file_leads}
use Rattle.call_meaning.proofs.OneBlock.{one_of_block}

-- a text is of one design
pub one_design : (bytes : Text) (d e : Parts) → IsDesignText bytes d → IsDesignText bytes e → d ≡ e
one_design bytes d e t u = same_texts d e t.sound u.sound (sym t.written ∙ u.written)

err_is : (f g : Fault) → ◌≡◌ {A = Result Parts Fault} (Err f) (Err g) → f ≡ g
err_is f g e = cc

err_no_ok : (f : Fault) (d : Parts) → ◌≡◌ {A = Result Parts Fault} (Err f) (Ok d) → ⊥
err_no_ok f d e = absurd cc

pub one_of_linked : (file bytes : Text) (Leads : Parts → Outcome → Type 0) → ((d : Parts) → IsDesignText bytes d → LeavesOne (Leads d))
    → LeavesOne (λ o. LinkedMeans file bytes (λ d. Leads d o) o)
one_of_linked file bytes Leads one o p (inl a) (inl b) =
    let same : a.0 ≡ b.0 = err_is a.0 b.0 (means_one bytes (Err a.0) (Err b.0) a.1 b.1) in
    agree_as o p _ _ a.2 (b.2 ∙ ap (λ f. refuses (File file (Content (why_refused bytes f)))) (sym same)) refl
one_of_linked file bytes Leads one o p (inl a) (inr b) = absurd (err_no_ok a.0 b.0 (means_one bytes (Err a.0) (Ok b.0) a.1 (means_design bytes b.0 b.1)))
one_of_linked file bytes Leads one o p (inr a) (inl b) = absurd (err_no_ok b.0 a.0 (means_one bytes (Err b.0) (Ok a.0) b.1 (means_design bytes a.0 a.1)))
one_of_linked file bytes Leads one o p (inr a) (inr b) =
    one a.0 a.1 o p a.2 (subst (λ d. Leads d p) (one_design bytes b.0 a.0 b.1 a.1) b.2)

pub one_of_text : (file : Text) (miller : Option MillerNumbers) (kind : ReportKind) (content : Contents) → IfSome miller IsMiller
    → ((f : Text) → TextReportMeans file miller kind content (unread f) → IsSome (content f)) → LeavesOne (TextReportMeans file miller kind content)
one_of_text file miller kind content rising known =
    one_of_file file content (λ bytes o. LinkedMeans file bytes (λ d. DesignMeans kind (counted_by miller d) o) o) (known file (inl refl)) (λ bytes.
    one_of_linked file bytes (λ d. DesignMeans kind (counted_by miller d)) (λ d t. one_of_design kind (counted_by miller d) (counted_sound miller d rising t.sound)))

-- a linked text, and then a text of edits
module _ (job : EcoJob) (content : Contents) where
  abbrev Made : Parts → Text → Outcome → Type 0
  Made d lines o = EditsMean job.edits lines (counted_by job.miller d) o

  abbrev Edits : Parts → Outcome → Type 0
  Edits d o = FileMeans job.edits content (λ lines. Made d lines o) o

  abbrev Linked : Text → Outcome → Type 0
  Linked bytes o = LinkedMeans job.file bytes (λ d. Edits d o) o

  one_of_eco : IfSome job.miller IsMiller → ((f : Text) → EcoMeans job content (unread f) → IsSome (content f)) → LeavesOne (EcoMeans job content)
  one_of_eco rising known =
      one_of_file_at job.file content Linked (known job.file (inl refl)) (λ bytes held fits. one_of_linked job.file bytes Edits (λ d t.
      one_of_file job.edits content (Made d)
      (known job.edits (file_leads job.file content (λ b. Linked b (unread job.edits)) (unread job.edits) bytes held fits (inr (d, t, inl refl))))
      (λ lines. one_of_edits job.edits lines (counted_by job.miller d) (counted_sound job.miller d rising t.sound))))

pub one_of_gen : (job : GenJob) → IsCount job.nets → LeavesOne (GenMeans job)
one_of_gen job count =
    let d = generated job.number job.nets in
    one_of_solved (IsSummed d) d (λ a b x y. one_summary d a b x.summary y.summary) (sound job.number job.nets count)

pub one_outcome : (words : List Text) (content : Contents) → AreKnown words content → LeavesOne (Means words content)
one_outcome words content known = go (job_of words) (job_rises words) (job_counts words) known
  where
    go : (j : Option Job) → IfSome j HasRising → IfSome j HasCount
        → ((f : Text) → MatchOption j (unread f ≡ refuses Words) (λ job. JobMeans job content (unread f)) → IsSome (content f))
        → LeavesOne (λ o. MatchOption j (o ≡ refuses Words) (λ job. JobMeans job content o))
    go None rising counts known o p a b = agree_as o p _ _ a b refl
    go (Some (Solve job)) rising counts known o p a b = one_of_text job.file job.miller job.kind content rising known o p a b
    go (Some (Replay job)) rising counts known o p a b = one_of_text job.file job.miller All content rising known o p a b
    go (Some (Eco job)) rising counts known o p a b = one_of_eco job content rising known o p a b
    go (Some (Gen job)) rising counts known o p a b = one_of_gen job (record { some = counts.0.some; most = counts.0.most }) o p a b
    go (Some (Report job)) rising counts known o p a b =
        one_of_block job.files content (λ d. DesignMeans job.kind (counted_by job.miller d)) known (λ d s. one_of_design job.kind (counted_by job.miller d) (counted_sound job.miller d rising s)) o p a b
    go (Some (Link job)) rising counts known o p a b =
        one_of_block job.files content (λ d o. o ≡ prints (text_of (linked (counted_by job.miller d)))) known (λ d s o p a b. agree_as o p _ _ a b refl) o p a b

-- ---- the status of a call without a text

-- where a refusal is meant: its status, or that of want of memory or of a read fault
pub refused : (Meant : Outcome → Type 0) (Fault : Text → Type 0) → LeavesOne Meant → (why : Refusal) (stop : Stop) (status : ℕ) → Meant (refuses why) → IsStop Meant Fault stop
    → status ≡ status_of (NoText stop) → (status ≡ status_of (NoText (Refused why))) ⊎ ((status ≡ 8) ⊎ ((status ≡ 6) × (file : Text) × Meant (unread file) × Fault file))
refused Meant Fault one why (Refused other) status meant h e = inl (e ∙ ap (λ r. status_of (NoText (Refused r))) (one (refuses other) (refuses why) h meant))
refused Meant Fault one why (Unread file) status meant h e = inr (inr (e, file, h.0, h.1))
refused Meant Fault one why NoMemory status meant h e = inr (inl e)

-- a text and a refusal are not both meant
pub not_both : (Meant : Outcome → Type 0) → LeavesOne Meant → (text : Text) (why : Refusal) → Meant (prints text) → Meant (refuses why) → ⊥
not_both Meant one text why a b = one (prints text) (refuses why) a b

-- where no refusal is meant and no count rose: that of want of memory
pub completed : (Meant : Outcome → Type 0) (Fault : Text → Type 0) (stop : Stop) (status : ℕ) → ((why : Refusal) → Meant (refuses why) → ⊥)
    → ((file : Text) → Meant (unread file) → Fault file → ⊥) → IsStop Meant Fault stop → status ≡ status_of (NoText stop) → (status ≡ 0) ⊎ (status ≡ 8)
completed Meant Fault (Refused why) status accepted calm h e = absurd (accepted why h)
completed Meant Fault (Unread file) status accepted calm h e = absurd (calm file h.0 h.1)
completed Meant Fault NoMemory status accepted calm h e = inr e

-- ---- the outcome that came is the only one

module _ (Meant : Outcome → Type 0) (one : LeavesOne Meant) (status : ℕ) (IsWritten IsLine : Text → Type 0) where
  -- where a text is meant and was written, each outcome that is meant is shown
  pub text_is_only : (text : Text) → Meant (prints text) → status ≡ 0 → IsWritten text
      → (outcome : Outcome) → Meant outcome → ((file : Text) → outcome ≢ unread file) → Shows status IsWritten IsLine outcome
  text_is_only text t zero written (prints other) meant told = (zero, subst IsWritten (one (prints text) (prints other) t meant) written)
  text_is_only text t zero written (refuses why) meant told = absurd (one (prints text) (refuses why) t meant)
  text_is_only text t zero written (unread file) meant told = absurd (told file refl)

  -- so it is where a refusal is meant and its line was written
  refusal_is_only : (why : Refusal) → Meant (refuses why) → status ≡ status_of (NoText (Refused why)) → IsLine (line_of (NoText (Refused why)))
      → (outcome : Outcome) → Meant outcome → ((file : Text) → outcome ≢ unread file) → Shows status IsWritten IsLine outcome
  refusal_is_only why r is line (prints text) meant told = absurd (one (refuses why) (prints text) r meant)
  refusal_is_only why r is line (refuses other) meant told =
      let P : Refusal → Type 0 = λ w. (status ≡ status_of (NoText (Refused w))) × IsLine (line_of (NoText (Refused w))) in
      subst P (one (refuses why) (refuses other) r meant) (is, line)
  refusal_is_only why r is line (unread file) meant told = absurd (told file refl)

  pub stop_is_only : (Fault : Text → Type 0) (stop : Stop) → IsStop Meant Fault stop → status ≡ status_of (NoText stop) → IsLine (line_of (NoText stop))
      → HadNoFault status → (outcome : Outcome) → Meant outcome → ((file : Text) → outcome ≢ unread file) → Shows status IsWritten IsLine outcome
  stop_is_only Fault (Refused why) h is line calm = refusal_is_only why h is line
  stop_is_only Fault (Unread file) h is line calm = absurd (calm.0 is)
  stop_is_only Fault NoMemory h is line calm = absurd (calm.2 is)
