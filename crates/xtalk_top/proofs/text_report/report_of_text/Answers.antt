use Rattle.std.proofs.lemmas.Result.{err_from_is_err_and}
use Rattle.call_meaning.specs.Outcome.{FileMeans, LinkedMeans, DesignMeans, Outcome, TextReportMeans, counted_by, prints}
use Rattle.call_meaning.proofs.Given.{design_leads}
use Rattle.call_meaning.proofs.Lifts.{answers_unread, file_leads, file_stops, linked_stops, stops_first, stops_unread}
use Rattle.xtalk_top.proofs.text_report.report_of_text.Goals as goal

pub returns-in_err-file-clause-means : goal.returns-in_err-file-clause-means
returns-in_err-file-clause-means g c =
    let content = g.F.Files.content c.args.files.now in
    let faults = g.F.Files.faults in
    let failed = err_from_is_err_and c.from_residual.result c.from_residual.ensures.1 in
    rw failed.1 (rw failed.2 (stops_first (FileMeans c.args.file content (λ _. ⊥)) (TextReportMeans c.args.file c.args.miller c.args.kind content)
    (λ o h. file_stops c.args.file content _ o h) (faults c.args.files.now) (faults c.read_file.new.files) c.in_err-file.field-0.0 c.in_err-file.ensures.answer))

pub returns-in_err-design-clause-means : goal.returns-in_err-design-clause-means
returns-in_err-design-clause-means g c =
    let file = c.args.file in
    let miller = c.args.miller in
    let kind = c.args.kind in
    let bytes = c.in_ok-file.bytes.items in
    let content = g.F.Files.content c.args.files.now in
    let faults = g.F.Files.faults in
    let failed = err_from_is_err_and c.from_residual-in_err-design.result c.from_residual-in_err-design.ensures.1 in
    rw failed.1 (rw failed.2 (stops_unread (LinkedMeans file bytes (λ _. ⊥)) (TextReportMeans file miller kind content)
    (λ o h. file_leads file content (λ b. LinkedMeans file b (λ d. DesignMeans kind (counted_by miller d) o) o) o bytes c.in_ok-file.ensures.whole c.in_ok-file.ensures.fits
    (linked_stops file bytes (λ d. DesignMeans kind (counted_by miller d) o) o h))
    (faults c.args.files.now) (faults c.read_file.new.files) c.in_err-design.field-0.0 c.in_ok-file.ensures.answer.1
    (rw c.in_ok-file.ensures.answer.0 at c.in_err-design.ensures.stop)))

pub returns-clause-means : goal.returns-clause-means
returns-clause-means g c =
    let text = c.in_ok-design.ensures.ok in
    let content = g.F.Files.content c.args.files.now in
    let faults = g.F.Files.faults in
    let leads : (o : Outcome) → DesignMeans c.args.kind c.counted_by-design.result o → TextReportMeans c.args.file c.args.miller c.args.kind content o = λ o m. design_leads c.args.file c.args.miller c.args.kind content c.in_ok-file.bytes.items c.in_ok-design.design c.counted_by-design.result o c.in_ok-file.ensures.whole
    c.in_ok-file.ensures.fits text c.counted_by-design.ensures.value m in
    answers_unread (DesignMeans c.args.kind c.counted_by-design.result) (TextReportMeans c.args.file c.args.miller c.args.kind content) leads
    _ (λ text. TextReportMeans c.args.file c.args.miller c.args.kind content (prints text.items)) (λ text h. leads (prints text.items) h)
    (faults c.args.files.now) (faults c.read_file.new.files) c.report-text.result c.in_ok-file.ensures.answer.1 c.report-text.ensures.ok c.report-text.ensures.stop

pub returns-in_err-file-clause-opened : goal.returns-in_err-file-clause-opened
returns-in_err-file-clause-opened g c = c.read_file.ensures.opened

pub returns-in_err-design-clause-opened : goal.returns-in_err-design-clause-opened
returns-in_err-design-clause-opened g c = c.read_file.ensures.opened

pub returns-clause-opened : goal.returns-clause-opened
returns-clause-opened g c = c.read_file.ensures.opened

pub returns-in_err-file-clause-content : goal.returns-in_err-file-clause-content
returns-in_err-file-clause-content g c = c.read_file.ensures.content

pub returns-in_err-design-clause-content : goal.returns-in_err-design-clause-content
returns-in_err-design-clause-content g c = c.read_file.ensures.content

pub returns-clause-content : goal.returns-clause-content
returns-clause-content g c = c.read_file.ensures.content
