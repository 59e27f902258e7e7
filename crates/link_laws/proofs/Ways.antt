-- The report by one way is the report by the other.
use Rattle.std.proofs.Common.{◌≡◌, ◌⊎◌, ◌<◌, ◌≤◌, ◌∙◌, List, length, Option, Some, None, Result, Ok, Err, IfSome, refl, sym, ap, subst, inl, inr, arith}
use Rattle.std.specs.Prelude.{MatchOption}
use Rattle.xt_model.specs.Miller.{MillerNumbers, IsMiller}
use Rattle.xt_model.specs.Parts.{Parts}
use Rattle.text_lines.specs.Lines.{text_of}
use Rattle.linked_text.specs.declared.fault.Fault.{Fault}
use Rattle.linked_text.specs.Linked.{linked}
use Rattle.linked_text.proofs.WholeLaws.{means_design, means_one}
use Rattle.report_kind.specs.declared.kind.ReportKind.{ReportKind}
use Rattle.command_line.specs.Words.{Text, job_of}
use Rattle.command_line.specs.declared.words.BlockFiles.{BlockFiles}
use Rattle.command_line.specs.declared.words.Job.{Job}
use Rattle.command_line.specs.declared.words.Job.TheVariants.{Report, Solve, Link}
use Rattle.command_line.proofs.Rising.{HasRising, job_rises}
use Rattle.call_meaning.specs.declared.refusal.Refusal.TheVariants.{Words}
use Rattle.call_meaning.specs.Call.{AreKnown, JobMeans, Means}
use Rattle.call_meaning.specs.FailureWords.{most_bytes}
use Rattle.call_meaning.specs.Linking.{BlockMeans, MakeDesign}
use Rattle.call_meaning.specs.Outcome.{Contents, Outcome, prints, refuses, unread, DesignMeans, FileMeans, IsDesignText, LinkedMeans, counted_by}
use Rattle.call_meaning.proofs.Agreement.{one_design, one_outcome}
use Rattle.call_meaning.proofs.Blocks.{block_leads, block_stops}
use Rattle.call_meaning.proofs.Given.{counted_sound}
use Rattle.call_meaning.proofs.Lifts.{file_leads, job_means}
use Rattle.link_laws.specs.Laws.{HasNoText, IsHandedOn, IsReached, TwoWays, last_given}
use Rattle.link_laws.proofs.Blocks.{BlockEnds, block_ends}
use Rattle.link_laws.proofs.Levels.{counted_levelled, linked_levelled}

-- what words mean, their job means
means_job : (words : List Text) (content : Contents) (job : Job) (o : Outcome) → job_of words ≡ Some job → Means words content o → JobMeans job content o
means_job words content job o is h = subst (λ j. MatchOption j (o ≡ refuses Words) (λ k. JobMeans k content o)) is h

same_text : (a b : Text) → prints a ≡ prints b → a ≡ b
same_text a b e = cc

-- a design that counts by the one numbers and then by the others counts by the last
counted_twice : (first then : Option MillerNumbers) (d : Parts) → counted_by then (counted_by first d) ≡ counted_by (last_given first then) d
counted_twice None None d = refl
counted_twice None (Some n) d = refl
counted_twice (Some m) None d = refl
counted_twice (Some m) (Some n) d = refl

-- ---- a file that has this text, which is that of a design

held_is : (o : Option Text) (bytes text : Text) → o ≡ Some text → IfSome o (λ whole. bytes ≡ whole) → bytes ≡ text
held_is o bytes text at h = subst (λ p. IfSome p (λ whole. bytes ≡ whole)) at h

held_by : (o : Option Text) (text : Text) → o ≡ Some text → IfSome o (λ whole. text ≡ whole)
held_by o text at = subst (λ p. IfSome p (λ whole. text ≡ whole)) (sym at) refl

not_long : (o : Option Text) (text : Text) → o ≡ Some text → length text ≤ most_bytes → IfSome o (λ whole. most_bytes < length whole) → ⊥
not_long o text at fits h =
    let long : most_bytes < length text = subst (λ p. IfSome p (λ whole. most_bytes < length whole)) at h in
    absurd (omega (arith, fits, long))

not_refused : (fault : Fault) (d : Parts) → ◌≡◌ {A = Result Parts Fault} (Err fault) (Ok d) → ⊥
not_refused fault d e = absurd cc

-- what the file leads to, its design leads to
module _ (file text : Text) (content : Contents) (d : Parts) (held : content file ≡ Some text) (fits : length text ≤ most_bytes) (of : IsDesignText text d) (Leads : Parts → Type 0) (o : Outcome) (reached : IsReached o) where
  text_leads : LinkedMeans file text Leads o → Leads d
  text_leads (inl none) = absurd (not_refused none.0 d (means_one text (Err none.0) (Ok d) none.1 (means_design text d of)))
  text_leads (inr some) = subst Leads (one_design text some.0 d some.1 of) some.2

  held_leads : FileMeans file content (λ bytes. LinkedMeans file bytes Leads o) o → Leads d
  held_leads (inl cannot) = absurd (reached file cannot)
  held_leads (inr (inl long)) = absurd (not_long (content file) text held fits long.0)
  held_leads (inr (inr some)) = text_leads (subst (λ bytes. LinkedMeans file bytes Leads o) (held_is (content file) some.0 text held some.1) some.3)

-- ---- the two ways

module _ (w : TwoWays) where
  rising : IfSome w.linking.miller IsMiller
  rising = subst (λ j. IfSome j HasRising) w.links (job_rises w.link)

  -- the text that `link` means of a design that the files make is that of the design by the numbers of `link`
  abbrev Linked : Parts → Parts
  Linked d = counted_by w.linking.miller d

  design_text : (content : Contents) (text : Text) (d : Parts) → MakeDesign w.linking.files content d → text ≡ text_of (linked (Linked d)) → IsDesignText text (Linked d)
  design_text content text d m is = record {
    sound = counted_sound w.linking.miller d rising m.sound;
    levelled = counted_levelled w.linking.miller d (linked_levelled m.inputs d m.linked);
    written = is;
  }

  -- where `link` counts by the one and `solve` by the other, `report` counts by the last
  abbrev Solved : Outcome → Parts → Type 0
  Solved o d = DesignMeans w.solving.kind (counted_by w.solving.miller (Linked d)) o

  abbrev Reported : Outcome → Parts → Type 0
  Reported o d = DesignMeans w.reporting.kind (counted_by w.reporting.miller d) o

  counted : (d : Parts) → counted_by w.solving.miller (Linked d) ≡ counted_by w.reporting.miller d
  counted d = counted_twice w.linking.miller w.solving.miller d ∙ ap (λ m. counted_by m d) (sym w.miller)

  solved_is : (o : Outcome) (d : Parts) → Solved o d → Reported o d
  solved_is o d h =
      let P : ReportKind → Type 0 = λ k. DesignMeans k (counted_by w.reporting.miller d) o in
      subst P (sym w.kind) (subst (λ e. DesignMeans w.solving.kind e o) (counted d) h)

  reported_is : (o : Outcome) (d : Parts) → Reported o d → Solved o d
  reported_is o d h =
      let P : ReportKind → Type 0 = λ k. DesignMeans k (counted_by w.reporting.miller d) o in
      subst (λ e. DesignMeans w.solving.kind e o) (sym (counted d)) (subst P w.kind h)

  -- ---- what the words of the block mean

  abbrev Written : Outcome → Parts → Type 0
  Written o d = o ≡ prints (text_of (linked (Linked d)))

  link_means : (content : Contents) (o : Outcome) → Means w.link content o → BlockMeans w.linking.files content (Written o) o
  link_means content o h = means_job w.link content (Link w.linking) o w.links h

  means_link : (content : Contents) (o : Outcome) → BlockMeans w.linking.files content (Written o) o → Means w.link content o
  means_link content o h = job_means w.link content (Link w.linking) o w.links h

  report_means : (content : Contents) (o : Outcome) → Means w.report content o → BlockMeans w.linking.files content (Reported o) o
  report_means content o h =
      let P : BlockFiles → Type 0 = λ files. BlockMeans files content (Reported o) o in
      subst P w.files (means_job w.report content (Report w.reporting) o w.reports h)

  means_report : (content : Contents) (o : Outcome) → BlockMeans w.linking.files content (Reported o) o → Means w.report content o
  means_report content o h =
      let P : BlockFiles → Type 0 = λ files. BlockMeans files content (Reported o) o in
      job_means w.report content (Report w.reporting) o w.reports (subst P (sym w.files) h)

  -- ---- the clauses

  pub stopped : (content : Contents) (o : Outcome) → HasNoText o → Means w.link content o → Means w.report content o
  stopped content o none h = by (block_ends w.linking.files content (Written o) o (link_means content o h))
    where
      by : BlockEnds w.linking.files content (Written o) o → Means w.report content o
      by (inl stop) = means_report content o (block_stops w.linking.files content (Reported o) o stop.1)
      by (inr made) = absurd (none _ made.2)

  -- `solve` means of the text of a design that the files make what `report` means of it
  handed : (before after : Contents) (text : Text) (o : Outcome) (d : Parts) → MakeDesign w.linking.files before d → text ≡ text_of (linked (Linked d)) → Reported o d → IsHandedOn w before after text → Means w.solve after o
  handed before after text o d made is r h =
      let Leads : Text → Type 0 = λ bytes. LinkedMeans w.solving.file bytes (λ e. DesignMeans w.solving.kind (counted_by w.solving.miller e) o) o in
      let leads : Leads text = inr (Linked d, design_text before text d made is, reported_is o d r) in
      job_means w.solve after (Solve w.solving) o w.solves
      (file_leads w.solving.file after Leads o text (held_by (after w.solving.file) text h.held) h.fits leads)

  pub either : (before : Contents) (o : Outcome) → Means w.report before o → (HasNoText o × Means w.link before o)
      ⊎ ((text : Text) × Means w.link before (prints text) × ((after : Contents) → IsHandedOn w before after text → Means w.solve after o))
  either before o r = by (block_ends w.linking.files before (Reported o) o (report_means before o r))
    where
      by : BlockEnds w.linking.files before (Reported o) o → (HasNoText o × Means w.link before o)
          ⊎ ((text : Text) × Means w.link before (prints text) × ((after : Contents) → IsHandedOn w before after text → Means w.solve after o))
      by (inl stop) = inl (stop.0, means_link before o (block_stops w.linking.files before (Written o) o stop.1))
      by (inr made) =
          let text = text_of (linked (Linked made.0)) in
          inr (text, means_link before (prints text) (block_leads w.linking.files before (Written (prints text)) (prints text) made.0 made.1 refl), λ after h. handed before after text o made.0 made.1 refl made.2 h)

  module _ (before after : Contents) (text : Text) (o : Outcome) (h : IsHandedOn w before after text) (reached : IsReached o) where
    pub reported : Means w.solve after o → Means w.report before o
    reported s = by (block_ends w.linking.files before (Written (prints text)) (prints text) (link_means before (prints text) h.printed))
      where
        by : BlockEnds w.linking.files before (Written (prints text)) (prints text) → Means w.report before o
        by (inl stop) = absurd (stop.0 text refl)
        by (inr made) =
            let d = made.0 in
            let of = design_text before text d made.1 (same_text text _ made.2) in
            let leads = held_leads w.solving.file text after (Linked d) h.held h.fits of (λ e. DesignMeans w.solving.kind (counted_by w.solving.miller e) o) o reached
            (means_job w.solve after (Solve w.solving) o w.solves s) in
            means_report before o (block_leads w.linking.files before (Reported o) o d made.1 (solved_is o d leads))

    -- a text and a refusal are not both meant by `link`
    not_stopped : AreKnown w.link before → (p : Outcome) → IsReached p → HasNoText p → Means w.link before p → ⊥
    not_stopped known (prints other) r none m = none other refl
    not_stopped known (refuses why) r none m = one_outcome w.link before known (prints text) (refuses why) h.printed m
    not_stopped known (unread file) r none m = r file refl

    pub solved : AreKnown w.link before → Means w.report before o → Means w.solve after o
    solved known r = by (block_ends w.linking.files before (Reported o) o (report_means before o r))
      where
        by : BlockEnds w.linking.files before (Reported o) o → Means w.solve after o
        by (inl stop) = absurd (not_stopped known o reached stop.0 (means_link before o (block_stops w.linking.files before (Written o) o stop.1)))
        by (inr made) =
            let d = made.0 in
            let other = text_of (linked (Linked d)) in
            let printed = means_link before (prints other) (block_leads w.linking.files before (Written (prints other)) (prints other) d made.1 refl) in
            handed before after text o d made.1 (one_outcome w.link before known (prints text) (prints other) h.printed printed) made.2 h
