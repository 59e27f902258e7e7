use Rattle.std.proofs.Common.{◌≡◌, Err, Option, IfErr, IfSome, ap, refl, sym, subst}
use Rattle.std.specs.Prelude.{MatchOption}
use Rattle.xt_io.specs.Outside.{AreOpened}
use Rattle.command_line.specs.Words.{HasCount, bytes_of}
use Rattle.command_line.specs.declared.words.Job.{Job}
use Rattle.call_meaning.specs.declared.refusal.Refusal.TheVariants.{Words}
use Rattle.call_meaning.specs.Outcome.{Outcome, prints, refuses}
use Rattle.call_meaning.specs.Call.{JobMeans, Means}
use Rattle.command_line.proofs.Counts.{job_counts}
use Rattle.call_meaning.proofs.Lifts.{answers_first, job_means}
use Rattle.std.proofs.Common.{[]}
use Rattle.command_line.specs.Words.{job_of}
use Rattle.call_meaning.specs.Opened.{FailsAfter, files_named}
use Rattle.call_meaning.specs.declared.refusal.Failure.TheVariants.{NoText}
use Rattle.call_meaning.proofs.Openings.{none_opened, opens_part}
use Rattle.xtalk_top.proofs.top.text_of.Goals as goal

pub job_text-requires-clause-count : goal.job_text-requires-clause-count
job_text-requires-clause-count g c = λ _ _.
    let P : Option Job → Type 0 = λ j. IfSome j HasCount in
    subst P c.in-Ok.ensures.parsed (job_counts (bytes_of c.args.words.now))

pub returns-in-Ok-clause-means : goal.returns-in-Ok-clause-means
returns-in-Ok-clause-means g c =
    let words = bytes_of c.args.words.now in
    let content = g.F.Files.content c.args.files.now in
    let faults = g.F.Files.faults in
    let leads : (o : Outcome) → JobMeans c.in-Ok.job content o → Means words content o = λ o m. job_means words content c.in-Ok.job o c.in-Ok.ensures.parsed m in
    answers_first (JobMeans c.in-Ok.job content) (Means words content) leads
    _ (λ text. Means words content (prints text.items)) (λ text h. leads (prints text.items) h)
    (faults c.args.files.now) (faults c.job_text.new.files) c.job_text.result c.job_text.ensures.means

pub returns-in-Err-Bad-clause-means : goal.returns-in-Err-Bad-clause-means
returns-in-Err-Bad-clause-means g c =
    let content = g.F.Files.content c.args.files.now in
    let none = c.in-Err-Bad.ensures.bad (ap Err c.in-Err-Bad.field-0-is) in
    (subst (λ j. MatchOption j (refuses Words ≡ refuses Words) (λ job. JobMeans job content (refuses Words))) (sym none) refl, λ _ m. refl)

pub returns-in-Err-NoMemory-clause-means : goal.returns-in-Err-NoMemory-clause-means
returns-in-Err-NoMemory-clause-means g c = (tt, λ _ m. refl)

pub returns-in-Ok-clause-opened : goal.returns-in-Ok-clause-opened
returns-in-Ok-clause-opened g c = rw c.in-Ok.ensures.parsed c.job_text.ensures.opened

pub returns-in-Err-Bad-clause-opened : goal.returns-in-Err-Bad-clause-opened
returns-in-Err-Bad-clause-opened g c =
    let at = g.F.Files.opened c.args.files.now in
    opens_part [] (files_named (job_of (bytes_of c.args.words.now))) ⊥ at at (none_opened at) (λ w. w)

pub returns-in-Err-NoMemory-clause-opened : goal.returns-in-Err-NoMemory-clause-opened
returns-in-Err-NoMemory-clause-opened g c =
    let at = g.F.Files.opened c.args.files.now in
    opens_part [] (files_named (job_of (bytes_of c.args.words.now))) ⊥ at at (none_opened at) (λ w. w)

pub returns-in-Ok-clause-content : goal.returns-in-Ok-clause-content
returns-in-Ok-clause-content g c = c.job_text.ensures.content

pub returns-in-Err-Bad-clause-content : goal.returns-in-Err-Bad-clause-content
returns-in-Err-Bad-clause-content g c = λ m. refl

pub returns-in-Err-NoMemory-clause-content : goal.returns-in-Err-NoMemory-clause-content
returns-in-Err-NoMemory-clause-content g c = λ m. refl

pub returns-in-Ok-clause-stopped : goal.returns-in-Ok-clause-stopped
returns-in-Ok-clause-stopped g c =
    let opened = g.F.Files.opened in
    let P : Option Job → Type 0 = λ j. IfErr c.job_text.result (λ stop. FailsAfter (files_named j) (opened c.args.files.now) (opened c.job_text.new.files) (NoText stop)) in
    subst P (sym c.in-Ok.ensures.parsed) c.job_text.ensures.stopped

pub returns-in-Err-Bad-clause-stopped : goal.returns-in-Err-Bad-clause-stopped
returns-in-Err-Bad-clause-stopped g c =
    let at = g.F.Files.opened c.args.files.now in
    let P : Option Job → Type 0 = λ j. AreOpened (files_named j) at at in
    subst P (sym (c.in-Err-Bad.ensures.bad (ap Err c.in-Err-Bad.field-0-is))) (none_opened at)

pub returns-in-Err-NoMemory-clause-stopped : goal.returns-in-Err-NoMemory-clause-stopped
returns-in-Err-NoMemory-clause-stopped g c = tt
