use Rattle.std.proofs.Common.{subst}
use Rattle.std.proofs.lemmas.Result.{IfErr-weaker, err_from_is_err_and}
use Rattle.call_meaning.specs.Outcome.{DesignMeans, Outcome, counted_by, prints}
use Rattle.call_meaning.specs.Linking.{BlockMeans}
use Rattle.call_meaning.specs.Report.{ReportMeans}
use Rattle.call_meaning.proofs.Blocks.{block_leads, block_stops}
use Rattle.call_meaning.proofs.Lifts.{answers_unread, stops_first}
use Rattle.call_meaning.specs.Opened.{block_files}
use Rattle.call_meaning.proofs.Endings.{design_ends, fails_together}
use Rattle.call_meaning.proofs.Openings.{all_opened, opens_same}
use Rattle.xtalk_top.proofs.report.report_of_block.Goals as goal

pub returns-in_err-design-clause-means : goal.returns-in_err-design-clause-means
returns-in_err-design-clause-means g c =
    let content = g.F.Files.content c.args.files.now in
    let faults = g.F.Files.faults in
    let failed = err_from_is_err_and c.from_residual.result c.from_residual.ensures.1 in
    rw failed.1 (rw failed.2 (stops_first (BlockMeans c.args.job.files content (λ _. ⊥)) (ReportMeans c.args.job content)
    (λ o h. block_stops c.args.job.files content (λ d. DesignMeans c.args.job.kind (counted_by c.args.job.miller d) o) o h)
    (faults c.args.files.now) (faults c.read_block.new.files) c.in_err-design.field-0.0 c.in_err-design.ensures.means))

pub returns-clause-means : goal.returns-clause-means
returns-clause-means g c =
    let content = g.F.Files.content c.args.files.now in
    let faults = g.F.Files.faults in
    let leads : (o : Outcome) → DesignMeans c.args.job.kind c.counted_by-design.result o → ReportMeans c.args.job content o = λ o m. block_leads c.args.job.files content (λ d. DesignMeans c.args.job.kind (counted_by c.args.job.miller d) o) o c.in_ok-design.design c.in_ok-design.ensures.means.0
    (subst (λ d. DesignMeans c.args.job.kind d o) c.counted_by-design.ensures.value m) in
    answers_unread (DesignMeans c.args.job.kind c.counted_by-design.result) (ReportMeans c.args.job content) leads
    _ (λ text. ReportMeans c.args.job content (prints text.items)) (λ text h. leads (prints text.items) h)
    (faults c.args.files.now) (faults c.read_block.new.files) c.report-text.result c.in_ok-design.ensures.means.1 c.report-text.ensures.ok c.report-text.ensures.stop

pub returns-in_err-design-clause-opened : goal.returns-in_err-design-clause-opened
returns-in_err-design-clause-opened g c =
    let opened = g.F.Files.opened in
    let failed = err_from_is_err_and c.from_residual.result c.from_residual.ensures.1 in
    rw failed.1 (opens_same (block_files c.args.job.files) _ ⊥ (opened c.args.files.now) (opened c.read_block.new.files) (λ w. absurd w) c.in_err-design.ensures.opened)

pub returns-clause-opened : goal.returns-clause-opened
returns-clause-opened g c =
    let opened = g.F.Files.opened in
    opens_same (block_files c.args.job.files) _ _ (opened c.args.files.now) (opened c.read_block.new.files) (λ _. tt) c.in_ok-design.ensures.opened

pub returns-in_err-design-clause-content : goal.returns-in_err-design-clause-content
returns-in_err-design-clause-content g c = c.read_block.ensures.content

pub returns-clause-content : goal.returns-clause-content
returns-clause-content g c = c.read_block.ensures.content

pub returns-in_err-design-clause-stopped : goal.returns-in_err-design-clause-stopped
returns-in_err-design-clause-stopped g c =
    let failed = err_from_is_err_and c.from_residual.result c.from_residual.ensures.1 in
    rw failed.1 (rw failed.2 c.in_err-design.ensures.stopped)

pub returns-clause-stopped : goal.returns-clause-stopped
returns-clause-stopped g c =
    let opened = g.F.Files.opened in
    let files = block_files c.args.job.files in
    IfErr-weaker c.report-text.result _ _ (λ stop h. fails_together files (opened c.args.files.now) (opened c.read_block.new.files) (DesignMeans c.args.job.kind c.counted_by-design.result) (λ _. ⊥) stop
    (λ o m. design_ends (λ _. ⊥) (Unit {0}) c.args.job.kind c.counted_by-design.result o tt m)
    (all_opened files _ (opened c.args.files.now) (opened c.read_block.new.files) c.in_ok-design.ensures.opened tt) h) c.report-text.ensures.stop
