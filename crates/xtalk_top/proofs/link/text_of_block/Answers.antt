use Rattle.std.proofs.Common.{◌≡◌, ◌∙◌, ap}
use Rattle.std.proofs.lemmas.Result.{IfErr-weaker, err_from_is_err_and}
use Rattle.text_lines.specs.Lines.{text_of}
use Rattle.linked_text.specs.Linked.{linked}
use Rattle.call_meaning.specs.Outcome.{counted_by, prints}
use Rattle.call_meaning.specs.Link.{LinkMeans}
use Rattle.call_meaning.specs.Linking.{BlockMeans}
use Rattle.call_meaning.proofs.Blocks.{block_leads, block_stops}
use Rattle.call_meaning.proofs.Lifts.{answers_unread, stops_first}
use Rattle.call_meaning.specs.Opened.{block_files}
use Rattle.call_meaning.proofs.Endings.{fails_together}
use Rattle.call_meaning.proofs.Openings.{all_opened, opens_same}
use Rattle.xtalk_top.proofs.link.text_of_block.Goals as goal

pub returns-in_err-design-clause-means : goal.returns-in_err-design-clause-means
returns-in_err-design-clause-means g c =
    let content = g.F.Files.content c.args.files.now in
    let faults = g.F.Files.faults in
    let failed = err_from_is_err_and c.from_residual.result c.from_residual.ensures.1 in
    rw failed.1 (rw failed.2 (stops_first (BlockMeans c.args.job.files content (λ _. ⊥)) (LinkMeans c.args.job content)
    (λ o h. block_stops c.args.job.files content (λ d. o ≡ prints (text_of (linked (counted_by c.args.job.miller d)))) o h)
    (faults c.args.files.now) (faults c.read_block.new.files) c.in_err-design.field-0.0 c.in_err-design.ensures.means))

pub returns-clause-means : goal.returns-clause-means
returns-clause-means g c =
    let content = g.F.Files.content c.args.files.now in
    let faults = g.F.Files.faults in
    answers_unread (λ _. ⊥) (LinkMeans c.args.job content) (λ o m. absurd m)
    _ (λ text. LinkMeans c.args.job content (prints text.items))
    (λ text h. block_leads c.args.job.files content (λ d. prints text.items ≡ prints (text_of (linked (counted_by c.args.job.miller d)))) (prints text.items)
    c.in_ok-design.design c.in_ok-design.ensures.means.0 (ap prints (h ∙ ap (λ d. text_of (linked d)) c.counted_by-design.ensures.value)))
    (faults c.args.files.now) (faults c.read_block.new.files) c.text_of_design-text.result c.in_ok-design.ensures.means.1 c.text_of_design-text.ensures.ok c.text_of_design-text.ensures.stop

pub returns-in_err-design-clause-opened : goal.returns-in_err-design-clause-opened
returns-in_err-design-clause-opened g c =
    let opened = g.F.Files.opened in
    let failed = err_from_is_err_and c.from_residual.result c.from_residual.ensures.1 in
    rw failed.1 (opens_same (block_files c.args.job.files) _ ⊥ (opened c.args.files.now) (opened c.read_block.new.files) (λ w. absurd w) c.in_err-design.ensures.opened)

pub returns-clause-opened : goal.returns-clause-opened
returns-clause-opened g c =
    let opened = g.F.Files.opened in
    opens_same (block_files c.args.job.files) _ _ (opened c.args.files.now) (opened c.read_block.new.files) (λ _. tt) c.in_ok-design.ensures.opened

pub returns-in_err-design-clause-content : goal.returns-in_err-design-clause-content
returns-in_err-design-clause-content g c = c.read_block.ensures.content

pub returns-clause-content : goal.returns-clause-content
returns-clause-content g c = c.read_block.ensures.content

pub returns-in_err-design-clause-stopped : goal.returns-in_err-design-clause-stopped
returns-in_err-design-clause-stopped g c =
    let failed = err_from_is_err_and c.from_residual.result c.from_residual.ensures.1 in
    rw failed.1 (rw failed.2 c.in_err-design.ensures.stopped)

pub returns-clause-stopped : goal.returns-clause-stopped
returns-clause-stopped g c =
    let opened = g.F.Files.opened in
    let files = block_files c.args.job.files in
    IfErr-weaker c.text_of_design-text.result _ _ (λ stop h. fails_together files (opened c.args.files.now) (opened c.read_block.new.files) (λ _. ⊥) (λ _. ⊥) stop (λ o m. absurd m)
    (all_opened files _ (opened c.args.files.now) (opened c.read_block.new.files) c.in_ok-design.ensures.opened tt) h) c.text_of_design-text.ensures.stop
