use Rattle.std.proofs.Common.{◌≡◌, ◌∙◌, [], ◌∷◌, refl, inr, subst, IfSome}
use Rattle.std.proofs.lemmas.Result.{IfErr-weaker, err_from_is_err_and}
use Rattle.xt_model.specs.Parts.{Parts}
use Rattle.call_meaning.specs.Outcome.{FileMeans, LinkedMeans, Outcome, counted_by, prints}
use Rattle.call_meaning.specs.Call.{HasFault}
use Rattle.call_meaning.specs.Eco.{EcoMeans, EditsMean}
use Rattle.call_meaning.proofs.EditSteps.{file_as}
use Rattle.call_meaning.proofs.Lifts.{answers_unread, file_leads, file_stops, kept_trans, linked_stops, stops_first, stops_later, stops_unread}
use Rattle.call_meaning.proofs.Endings.{edits_end, fails_at, fails_last, file_ends, linked_ends}
use Rattle.call_meaning.proofs.Openings.{opened_then, opens_all, opens_part}
use Rattle.xtalk_top.proofs.eco.eco.Goals as goal

pub returns-in_err-file-clause-means : goal.returns-in_err-file-clause-means
returns-in_err-file-clause-means g c =
    let content = g.F.Files.content c.args.files.now in
    let faults = g.F.Files.faults in
    let failed = err_from_is_err_and c.from_residual.result c.from_residual.ensures.1 in
    rw failed.1 (rw failed.2 (stops_first (FileMeans c.args.job.file content (λ _. ⊥)) (EcoMeans c.args.job content)
    (λ o h. file_stops c.args.job.file content _ o h) (faults c.args.files.now) (faults c.read_file.new.files) c.in_err-file.field-0.0 c.in_err-file.ensures.answer))

pub returns-in_err-design-clause-means : goal.returns-in_err-design-clause-means
returns-in_err-design-clause-means g c =
    let job = c.args.job in
    let bytes = c.in_ok-file.bytes.items in
    let content = g.F.Files.content c.args.files.now in
    let faults = g.F.Files.faults in
    let Edits : Outcome → Parts → Type 0 = λ o d. FileMeans job.edits content (λ lines. EditsMean job.edits lines (counted_by job.miller d) o) o in
    let failed = err_from_is_err_and c.from_residual-in_err-design.result c.from_residual-in_err-design.ensures.1 in
    rw failed.1 (rw failed.2 (stops_unread (LinkedMeans job.file bytes (λ _. ⊥)) (EcoMeans job content)
    (λ o h. file_leads job.file content (λ b. LinkedMeans job.file b (Edits o) o) o bytes c.in_ok-file.ensures.whole c.in_ok-file.ensures.fits
    (linked_stops job.file bytes (Edits o) o h))
    (faults c.args.files.now) (faults c.read_file.new.files) c.in_err-design.field-0.0 c.in_ok-file.ensures.answer.1
    (rw c.in_ok-file.ensures.answer.0 at c.in_err-design.ensures.stop)))

pub returns-in-Err-clause-means : goal.returns-in-Err-clause-means
returns-in-Err-clause-means g c =
    let job = c.args.job in
    let bytes = c.in_ok-file.bytes.items in
    let content = g.F.Files.content c.args.files.now in
    let later = g.F.Files.content c.read_file.new.files in
    let faults = g.F.Files.faults in
    let Edits : Outcome → Parts → Type 0 = λ o d. FileMeans job.edits content (λ lines. EditsMean job.edits lines (counted_by job.miller d) o) o in
    stops_later (FileMeans job.edits later (λ _. ⊥)) (EcoMeans job content)
    (λ o h. file_leads job.file content (λ b. LinkedMeans job.file b (Edits o) o) o bytes c.in_ok-file.ensures.whole c.in_ok-file.ensures.fits
    (inr (c.in_ok-design.design, c.in_ok-design.ensures.ok, file_stops job.edits content _ o (file_as job.edits content later (λ _. ⊥) o (c.read_file.ensures.content job.edits) h))))
    (faults c.args.files.now) (faults c.read_file.new.files) (faults c.read_file-2.new.files) c.in-Err.stop c.in_ok-file.ensures.answer.1 c.in-Err.ensures.answer

pub returns-in-Ok-clause-means : goal.returns-in-Ok-clause-means
returns-in-Ok-clause-means g c =
    let job = c.args.job in
    let bytes = c.in_ok-file.bytes.items in
    let lines = c.in-Ok.lines.items in
    let content = g.F.Files.content c.args.files.now in
    let faults = g.F.Files.faults in
    let Edits : Outcome → Parts → Type 0 = λ o d. FileMeans job.edits content (λ ls. EditsMean job.edits ls (counted_by job.miller d) o) o in
    let d = c.counted_by-design.result in
    let Meant : Outcome → Type 0 = EditsMean job.edits lines d in
    let same = c.read_file.ensures.content job.edits in
    let whole : IfSome (content job.edits) (λ whole. lines ≡ whole) = rw (← same) c.in-Ok.ensures.whole in
    let leads : (o : Outcome) → Meant o → EcoMeans job content o = λ o m.
    file_leads job.file content (λ b. LinkedMeans job.file b (Edits o) o) o bytes c.in_ok-file.ensures.whole c.in_ok-file.ensures.fits
    (inr (
      c.in_ok-design.design,
      c.in_ok-design.ensures.ok,
      file_leads job.edits content (λ ls. EditsMean job.edits ls (counted_by job.miller c.in_ok-design.design) o) o lines whole c.in-Ok.ensures.fits
          (subst (λ x. EditsMean job.edits lines x o) c.counted_by-design.ensures.value m),
    )) in
    answers_unread Meant (EcoMeans job content) leads
    _ (λ text. EcoMeans job content (prints text.items)) (λ text h. leads (prints text.items) h)
    (faults c.args.files.now) (faults c.read_file-2.new.files) c.report_of_edits.result
    (kept_trans (faults c.args.files.now) (faults c.read_file.new.files) (faults c.read_file-2.new.files) c.in_ok-file.ensures.answer.1 c.in-Ok.ensures.answer.1)
    (rw (c.in-Ok.ensures.answer.0, c.deref.ensures.value) at c.report_of_edits.ensures.ok) (rw (c.in-Ok.ensures.answer.0, c.deref.ensures.value) at c.report_of_edits.ensures.stop)

pub returns-in_err-file-clause-opened : goal.returns-in_err-file-clause-opened
returns-in_err-file-clause-opened g c =
    let opened = g.F.Files.opened in
    let failed = err_from_is_err_and c.from_residual.result c.from_residual.ensures.1 in
    rw failed.1 (opens_part (c.args.job.file ∷ []) (c.args.job.edits ∷ []) ⊥ (opened c.args.files.now) (opened c.read_file.new.files) c.read_file.ensures.opened (λ w. w))

pub returns-in_err-design-clause-opened : goal.returns-in_err-design-clause-opened
returns-in_err-design-clause-opened g c =
    let opened = g.F.Files.opened in
    let failed = err_from_is_err_and c.from_residual-in_err-design.result c.from_residual-in_err-design.ensures.1 in
    rw failed.1 (opens_part (c.args.job.file ∷ []) (c.args.job.edits ∷ []) ⊥ (opened c.args.files.now) (opened c.read_file.new.files) c.read_file.ensures.opened (λ w. w))

pub returns-in-Err-clause-opened : goal.returns-in-Err-clause-opened
returns-in-Err-clause-opened g c =
    let opened = g.F.Files.opened in
    opens_all (c.args.job.file ∷ c.args.job.edits ∷ []) _ (opened c.args.files.now) (opened c.read_file-2.new.files)
    (opened_then (c.args.job.file ∷ []) (c.args.job.edits ∷ []) (opened c.args.files.now) (opened c.read_file.new.files) (opened c.read_file-2.new.files) c.read_file.ensures.opened c.read_file-2.ensures.opened)

pub returns-in-Ok-clause-opened : goal.returns-in-Ok-clause-opened
returns-in-Ok-clause-opened g c =
    let opened = g.F.Files.opened in
    opens_all (c.args.job.file ∷ c.args.job.edits ∷ []) _ (opened c.args.files.now) (opened c.read_file-2.new.files)
    (opened_then (c.args.job.file ∷ []) (c.args.job.edits ∷ []) (opened c.args.files.now) (opened c.read_file.new.files) (opened c.read_file-2.new.files) c.read_file.ensures.opened c.read_file-2.ensures.opened)

pub returns-in_err-file-clause-content : goal.returns-in_err-file-clause-content
returns-in_err-file-clause-content g c = c.read_file.ensures.content

pub returns-in_err-design-clause-content : goal.returns-in_err-design-clause-content
returns-in_err-design-clause-content g c = c.read_file.ensures.content

pub returns-in-Err-clause-content : goal.returns-in-Err-clause-content
returns-in-Err-clause-content g c = λ m. c.read_file-2.ensures.content m ∙ c.read_file.ensures.content m

pub returns-in-Ok-clause-content : goal.returns-in-Ok-clause-content
returns-in-Ok-clause-content g c = λ m. c.read_file-2.ensures.content m ∙ c.read_file.ensures.content m

pub returns-in_err-file-clause-stopped : goal.returns-in_err-file-clause-stopped
returns-in_err-file-clause-stopped g c =
    let opened = g.F.Files.opened in
    let faults = g.F.Files.faults in
    let job = c.args.job in
    let content = g.F.Files.content c.args.files.now in
    let failed = err_from_is_err_and c.from_residual.result c.from_residual.ensures.1 in
    rw failed.1 (rw failed.2 (fails_at (job.file ∷ job.edits ∷ []) (opened c.args.files.now) (opened c.read_file.new.files) (FileMeans job.file content (λ _. ⊥))
    (HasFault (faults c.args.files.now) (faults c.read_file.new.files)) [] job.file c.in_err-file.field-0.0 (λ o h. file_ends (λ f. f ≡ job.file) ⊥ job.file content (λ _. ⊥) o refl (λ bytes never. absurd never) h)
    c.read_file.ensures.opened c.in_err-file.ensures.answer.0))

pub returns-in_err-design-clause-stopped : goal.returns-in_err-design-clause-stopped
returns-in_err-design-clause-stopped g c =
    let opened = g.F.Files.opened in
    let job = c.args.job in
    let bytes = c.in_ok-file.bytes.items in
    let failed = err_from_is_err_and c.from_residual-in_err-design.result c.from_residual-in_err-design.ensures.1 in
    rw failed.1 (rw failed.2 (fails_at (job.file ∷ job.edits ∷ []) (opened c.args.files.now) (opened c.read_file.new.files) (LinkedMeans job.file bytes (λ _. ⊥)) (λ _. ⊥)
    [] job.file c.in_err-design.field-0.0 (λ o h. linked_ends (λ f. f ≡ job.file) ⊥ job.file bytes (λ _. ⊥) o refl (λ d never. absurd never) h)
    c.read_file.ensures.opened (rw c.in_ok-file.ensures.answer.0 at c.in_err-design.ensures.stop)))

pub returns-in-Err-clause-stopped : goal.returns-in-Err-clause-stopped
returns-in-Err-clause-stopped g c =
    let opened = g.F.Files.opened in
    let faults = g.F.Files.faults in
    let job = c.args.job in
    let later = g.F.Files.content c.read_file.new.files in
    fails_at (job.file ∷ job.edits ∷ []) (opened c.args.files.now) (opened c.read_file-2.new.files) (FileMeans job.edits later (λ _. ⊥))
    (HasFault (faults c.read_file.new.files) (faults c.read_file-2.new.files)) (job.file ∷ []) job.edits c.in-Err.stop (λ o h. file_ends (λ f. f ≡ job.edits) ⊥ job.edits later (λ _. ⊥) o refl (λ bytes never. absurd never) h)
    (opened_then (job.file ∷ []) (job.edits ∷ []) (opened c.args.files.now) (opened c.read_file.new.files) (opened c.read_file-2.new.files) c.read_file.ensures.opened c.read_file-2.ensures.opened)
    c.in-Err.ensures.answer.0

pub returns-in-Ok-clause-stopped : goal.returns-in-Ok-clause-stopped
returns-in-Ok-clause-stopped g c =
    let opened = g.F.Files.opened in
    let job = c.args.job in
    let lines = c.in-Ok.lines.items in
    let d = c.counted_by-design.result in
    IfErr-weaker c.report_of_edits.result _ _ (λ stop h. fails_last (job.file ∷ []) job.edits (opened c.args.files.now) (opened c.read_file-2.new.files) (EditsMean job.edits lines d) (λ _. ⊥) stop
    (λ o m. edits_end (λ f. f ≡ job.edits) (Unit {0}) job.edits refl tt o lines d m)
    (opened_then (job.file ∷ []) (job.edits ∷ []) (opened c.args.files.now) (opened c.read_file.new.files) (opened c.read_file-2.new.files) c.read_file.ensures.opened c.read_file-2.ensures.opened)
    h) (rw (c.in-Ok.ensures.answer.0, c.deref.ensures.value) at c.report_of_edits.ensures.stop)
