use Rattle.std.proofs.Common.{◌≡◌, List, Option, Result, IfErr, refl, sym, subst}
use Rattle.std.proofs.lemmas.Result.{IfErr-weaker}
use Rattle.report_kind.specs.declared.kind.ReportKind.TheVariants.{All}
use Rattle.command_line.specs.Words.{HasCount, Text}
use Rattle.command_line.specs.declared.words.Job.{Job}
use Rattle.call_meaning.proofs.Lifts.{answers_unread}
use Rattle.call_meaning.specs.Outcome.{prints}
use Rattle.call_meaning.specs.Gen.{GenMeans}
use Rattle.call_meaning.specs.Opened.{FailsAfter, files_of}
use Rattle.call_meaning.specs.declared.refusal.Stop.{Stop}
use Rattle.call_meaning.specs.declared.refusal.Failure.TheVariants.{NoText}
use Rattle.std.proofs.Common.{[]}
use Rattle.call_meaning.proofs.Endings.{fails_together, generated_ends, text_report_fails}
use Rattle.call_meaning.proofs.Openings.{none_opened, opens_all}
use Rattle.xtalk_top.proofs.top.job_text.Goals as goal

-- a job that stops after its files
fails_as : {V : Type 0} (r : Result V Stop) (a z : Option (List Text)) (job other : Job) → job ≡ other → IfErr r (λ stop. FailsAfter (files_of other) a z (NoText stop))
    → IfErr r (λ stop. FailsAfter (files_of job) a z (NoText stop))
fails_as r a z job other is h =
    let P : Job → Type 0 = λ j. IfErr r (λ stop. FailsAfter (files_of j) a z (NoText stop)) in
    subst P (sym is) h

pub summary_of_generated-requires-clause-nets : goal.summary_of_generated-requires-clause-nets
summary_of_generated-requires-clause-nets g c = λ _ _.
    let counts : HasCount c.args.job = c.requires.count in
    let of_gen = rw c.in-Gen.is at counts in
    record { some = of_gen.0.some; most = of_gen.0.most }

pub returns-in-Report-clause-means : goal.returns-in-Report-clause-means
returns-in-Report-clause-means g c = rw c.in-Report.is c.report_of_block.ensures.means

pub returns-in-Solve-clause-means : goal.returns-in-Solve-clause-means
returns-in-Solve-clause-means g c = rw c.in-Solve.is c.solve.ensures.means

pub returns-in-Replay-clause-means : goal.returns-in-Replay-clause-means
returns-in-Replay-clause-means g c = rw c.in-Replay.is c.replay.ensures.means

pub returns-in-Eco-clause-means : goal.returns-in-Eco-clause-means
returns-in-Eco-clause-means g c = rw c.in-Eco.is c.eco.ensures.means

pub returns-in-Link-clause-means : goal.returns-in-Link-clause-means
returns-in-Link-clause-means g c = rw c.in-Link.is c.text_of_block.ensures.means

pub returns-in-Gen-clause-means : goal.returns-in-Gen-clause-means
returns-in-Gen-clause-means g c =
    let Meant = GenMeans c.in-Gen.job in
    let faults = g.F.Files.faults in
    rw c.in-Gen.is (answers_unread Meant Meant (λ o m. m) _ (λ text. Meant (prints text.items)) (λ text h. h)
    (faults c.args.files.now) (faults c.args.files.now) c.summary_of_generated.result (λ m. refl) c.summary_of_generated.ensures.ok c.summary_of_generated.ensures.stop)

pub returns-in-Report-clause-opened : goal.returns-in-Report-clause-opened
returns-in-Report-clause-opened g c = rw c.in-Report.is c.report_of_block.ensures.opened

pub returns-in-Solve-clause-opened : goal.returns-in-Solve-clause-opened
returns-in-Solve-clause-opened g c = rw c.in-Solve.is (opens_all _ _ (g.F.Files.opened c.args.files.now) (g.F.Files.opened c.solve.new.files) c.solve.ensures.opened)

pub returns-in-Replay-clause-opened : goal.returns-in-Replay-clause-opened
returns-in-Replay-clause-opened g c = rw c.in-Replay.is (opens_all _ _ (g.F.Files.opened c.args.files.now) (g.F.Files.opened c.replay.new.files) c.replay.ensures.opened)

pub returns-in-Eco-clause-opened : goal.returns-in-Eco-clause-opened
returns-in-Eco-clause-opened g c = rw c.in-Eco.is c.eco.ensures.opened

pub returns-in-Link-clause-opened : goal.returns-in-Link-clause-opened
returns-in-Link-clause-opened g c = rw c.in-Link.is c.text_of_block.ensures.opened

pub returns-in-Gen-clause-opened : goal.returns-in-Gen-clause-opened
returns-in-Gen-clause-opened g c =
    let at = g.F.Files.opened c.args.files.now in
    rw c.in-Gen.is (opens_all [] _ at at (none_opened at))

pub returns-in-Report-clause-content : goal.returns-in-Report-clause-content
returns-in-Report-clause-content g c = c.report_of_block.ensures.content

pub returns-in-Solve-clause-content : goal.returns-in-Solve-clause-content
returns-in-Solve-clause-content g c = c.solve.ensures.content

pub returns-in-Replay-clause-content : goal.returns-in-Replay-clause-content
returns-in-Replay-clause-content g c = c.replay.ensures.content

pub returns-in-Eco-clause-content : goal.returns-in-Eco-clause-content
returns-in-Eco-clause-content g c = c.eco.ensures.content

pub returns-in-Link-clause-content : goal.returns-in-Link-clause-content
returns-in-Link-clause-content g c = c.text_of_block.ensures.content

pub returns-in-Gen-clause-content : goal.returns-in-Gen-clause-content
returns-in-Gen-clause-content g c = λ m. refl

pub returns-in-Report-clause-stopped : goal.returns-in-Report-clause-stopped
returns-in-Report-clause-stopped g c = fails_as c.report_of_block.result (g.F.Files.opened c.args.files.now) (g.F.Files.opened c.report_of_block.new.files) _ _ c.in-Report.is c.report_of_block.ensures.stopped

pub returns-in-Solve-clause-stopped : goal.returns-in-Solve-clause-stopped
returns-in-Solve-clause-stopped g c =
    let opened = g.F.Files.opened in
    let faults = g.F.Files.faults in
    fails_as c.solve.result (g.F.Files.opened c.args.files.now) (g.F.Files.opened c.solve.new.files) _ _ c.in-Solve.is (text_report_fails c.in-Solve.job.file c.in-Solve.job.miller c.in-Solve.job.kind (g.F.Files.content c.args.files.now) _ (faults c.args.files.now) (faults c.solve.new.files)
    (opened c.args.files.now) (opened c.solve.new.files) c.solve.result c.solve.ensures.means c.solve.ensures.opened)

pub returns-in-Replay-clause-stopped : goal.returns-in-Replay-clause-stopped
returns-in-Replay-clause-stopped g c =
    let opened = g.F.Files.opened in
    let faults = g.F.Files.faults in
    fails_as c.replay.result (g.F.Files.opened c.args.files.now) (g.F.Files.opened c.replay.new.files) _ _ c.in-Replay.is (text_report_fails c.in-Replay.job.file c.in-Replay.job.miller All (g.F.Files.content c.args.files.now) _ (faults c.args.files.now) (faults c.replay.new.files)
    (opened c.args.files.now) (opened c.replay.new.files) c.replay.result c.replay.ensures.means c.replay.ensures.opened)

pub returns-in-Eco-clause-stopped : goal.returns-in-Eco-clause-stopped
returns-in-Eco-clause-stopped g c = fails_as c.eco.result (g.F.Files.opened c.args.files.now) (g.F.Files.opened c.eco.new.files) _ _ c.in-Eco.is c.eco.ensures.stopped

pub returns-in-Link-clause-stopped : goal.returns-in-Link-clause-stopped
returns-in-Link-clause-stopped g c = fails_as c.text_of_block.result (g.F.Files.opened c.args.files.now) (g.F.Files.opened c.text_of_block.new.files) _ _ c.in-Link.is c.text_of_block.ensures.stopped

pub returns-in-Gen-clause-stopped : goal.returns-in-Gen-clause-stopped
returns-in-Gen-clause-stopped g c =
    let at = g.F.Files.opened c.args.files.now in
    fails_as c.summary_of_generated.result at at _ _ c.in-Gen.is (IfErr-weaker c.summary_of_generated.result _ _ (λ stop h. fails_together [] at at (GenMeans c.in-Gen.job) (λ _. ⊥) stop
    (λ o m. generated_ends (λ _. ⊥) (Unit {0}) c.in-Gen.job o tt m) (none_opened at) h) c.summary_of_generated.ensures.stop)
