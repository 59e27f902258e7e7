use Rattle.std.proofs.Common.{◌≡◌, ◌≢◌, ◌⊎◌, ◌∙◌, ℕ, zero, suc, inl, inr, refl, arith}
use Rattle.xt_io.specs.Outside.{Rose, appended}
use Rattle.call_meaning.specs.declared.refusal.Refusal.TheVariants.{Words, File, Linking, Design}
use Rattle.call_meaning.specs.declared.refusal.Unlinked.TheVariants as unlinked
use Rattle.call_meaning.specs.declared.refusal.DesignRefusal.TheVariants.{Limit}
use Rattle.call_meaning.specs.declared.refusal.TextRefusal.TheVariants.{At, Beyond}
use Rattle.call_meaning.specs.declared.refusal.FileRefusal.TheVariants.{TooLong, Content}
use Rattle.call_meaning.specs.declared.refusal.Stop.{Stop}
use Rattle.call_meaning.specs.declared.refusal.Stop.TheVariants.{Refused, Unread, NoMemory}
use Rattle.call_meaning.specs.declared.refusal.Failure.TheVariants.{NoText, Unwritten}
use Rattle.command_line.specs.Words.{bytes_of}
use Rattle.call_meaning.specs.Call.{Means, HadNoFault, HasFault}
use Rattle.call_meaning.specs.FailureWords.{WritesLine, status_of}
use Rattle.call_meaning.proofs.Agreement.{one_outcome, refused, not_both, completed, text_is_only, stop_is_only}
use Rattle.command_line.specs.Words.{job_of}
use Rattle.call_meaning.specs.Opened.{files_named}
use Rattle.call_meaning.proofs.Openings.{all_opened, opens_same}
use Rattle.xtalk_top.proofs.top.xtalk_gated.Goals as goal

-- a status of 0, or of 7
unless_seven : (status : ℕ) (P : Type 0) → (status ≡ 0 → P) → (status ≢ 0 → status ≡ 7) → status ≢ 7 → P
unless_seven zero P whole cut_off other = whole refl
unless_seven (suc n) P whole cut_off other = absurd (other (cut_off (λ e. omega (arith, e))))

-- a status of 0, where no fault rose
zero_or_eight : (status : ℕ) (Fault : Type 0) → (status ≢ 0 → Fault) → (Fault → ⊥) → (status ≡ 0) ⊎ (status ≡ 8)
zero_or_eight zero Fault cut_off quiet = inl refl
zero_or_eight (suc n) Fault cut_off quiet = absurd (quiet (cut_off (λ e. omega (arith, e))))

-- a status of 0, where no fault came
zero_if_calm : (status : ℕ) → (status ≢ 0 → status ≡ 7) → HadNoFault status → status ≡ 0
zero_if_calm zero cut_off calm = refl
zero_if_calm (suc n) cut_off calm = absurd (calm.1 (cut_off (λ e. omega (arith, e))))

-- no call without a text has the status 0
not_zero : (stop : Stop) (status : ℕ) → status ≡ status_of (NoText stop) → status ≡ 0 → ⊥
not_zero (Refused Words) status e z = omega (arith, e, z)
not_zero (Refused (File file (Content (At line code)))) status e z = omega (arith, e, z)
not_zero (Refused (File file (Content (Beyond limit)))) status e z = omega (arith, e, z)
not_zero (Refused (File file TooLong)) status e z = omega (arith, e, z)
not_zero (Refused (Linking (unlinked.Refused why))) status e z = omega (arith, e, z)
not_zero (Refused (Linking (unlinked.Beyond limit))) status e z = omega (arith, e, z)
not_zero (Refused (Design (Limit limit))) status e z = omega (arith, e, z)
not_zero (Unread file) status e z = omega (arith, e, z)
not_zero NoMemory status e z = omega (arith, e, z)

-- nor 7
not_seven : (stop : Stop) (status : ℕ) → status ≡ status_of (NoText stop) → status ≡ 7 → ⊥
not_seven (Refused Words) status e z = omega (arith, e, z)
not_seven (Refused (File file (Content (At line code)))) status e z = omega (arith, e, z)
not_seven (Refused (File file (Content (Beyond limit)))) status e z = omega (arith, e, z)
not_seven (Refused (File file TooLong)) status e z = omega (arith, e, z)
not_seven (Refused (Linking (unlinked.Refused why))) status e z = omega (arith, e, z)
not_seven (Refused (Linking (unlinked.Beyond limit))) status e z = omega (arith, e, z)
not_seven (Refused (Design (Limit limit))) status e z = omega (arith, e, z)
not_seven (Unread file) status e z = omega (arith, e, z)
not_seven NoMemory status e z = omega (arith, e, z)

pub returns-in-Ok-clause-call : goal.returns-in-Ok-clause-call
returns-in-Ok-clause-call g c =
    let words = bytes_of c.args.words.now in
    let content = g.F.Files.content c.args.files.now in
    let text = c.in-Ok.text.items in
    let opened = g.F.Files.opened in
    record {
      printed = λ whole.
          let written = c.write_text.ensures.whole whole in
          (text, c.in-Ok.ensures.means.0, rw c.deref.ensures.value at written.0, written.2);
      failed = λ bad.
          let cut = c.write_text.ensures.cut_off bad in
          (Unwritten, cut.0, (text, c.in-Ok.ensures.means.0, rw c.deref.ensures.value at cut.1), cut.2, all_opened (files_named (job_of words)) _ (opened c.args.files.now) (opened c.text_of.new.files) c.in-Ok.ensures.opened tt);
      kept = (
        λ bad other. absurd (other (c.write_text.ensures.cut_off bad).0),
        unless_seven c.write_text.result (g.O.Sink.faults c.write_text.new.out ≡ g.O.Sink.faults c.args.out.now)
            (λ whole. (c.write_text.ensures.whole whole).1) (λ bad. (c.write_text.ensures.cut_off bad).0),
        λ _. c.in-Ok.ensures.means.1,
      );
      refused = λ why meant known. absurd (not_both (Means words content) (one_outcome words content known) text why c.in-Ok.ensures.means.0 meant);
      complete = λ accepted calm quiet.
          zero_or_eight c.write_text.result (Rose (g.O.Sink.faults c.args.out.now) (g.O.Sink.faults c.write_text.new.out))
          (λ bad. (c.write_text.ensures.cut_off bad).1.1) quiet;
      only = λ known calm.
          let zero = zero_if_calm c.write_text.result (λ bad. (c.write_text.ensures.cut_off bad).0) calm in
          let written = c.write_text.ensures.whole zero in
          text_is_only (Means words content) (one_outcome words content known) c.write_text.result
          (λ x. g.O.Sink.written c.write_text.new.out ≡ appended (g.O.Sink.written c.args.out.now) x)
          (WritesLine (g.E.Sink.written c.args.err.now) (g.E.Sink.written c.write_text.new.err) (g.E.Sink.faults c.args.err.now) (g.E.Sink.faults c.write_text.new.err))
          text c.in-Ok.ensures.means.0 zero (rw c.deref.ensures.value at written.0);
    }

pub returns-in-Err-clause-call : goal.returns-in-Err-clause-call
returns-in-Err-clause-call g c =
    let words = bytes_of c.args.words.now in
    let content = g.F.Files.content c.args.files.now in
    let Fault = HasFault (g.F.Files.faults c.args.files.now) (g.F.Files.faults c.text_of.new.files) in
    let stop = c.in-Err.stop in
    let status = c.refuse.ensures.status in
    record {
      printed = λ whole. absurd (not_zero stop c.refuse.result status whole);
      failed = λ _. (NoText stop, status, c.in-Err.ensures.means.0, c.refuse.ensures.line, c.in-Err.ensures.stopped);
      kept = (λ _ _. refl, λ _. refl, λ other. c.in-Err.ensures.means.1 (λ six. other (status ∙ six)));
      refused = λ why meant known.
          refused (Means words content) Fault (one_outcome words content known) why stop c.refuse.result meant c.in-Err.ensures.means.0 status;
      complete = λ accepted calm quiet. completed (Means words content) Fault stop c.refuse.result accepted calm c.in-Err.ensures.means.0 status;
      only = λ known.
          stop_is_only (Means words content) (one_outcome words content known) c.refuse.result
          (λ text. g.O.Sink.written c.args.out.now ≡ appended (g.O.Sink.written c.args.out.now) text)
          (WritesLine (g.E.Sink.written c.args.err.now) (g.E.Sink.written c.refuse.new.err) (g.E.Sink.faults c.args.err.now) (g.E.Sink.faults c.refuse.new.err))
          Fault stop c.in-Err.ensures.means.0 status c.refuse.ensures.line;
    }

pub returns-in-Ok-clause-opened : goal.returns-in-Ok-clause-opened
returns-in-Ok-clause-opened g c =
    let opened = g.F.Files.opened in
    opens_same (files_named (job_of (bytes_of c.args.words.now))) _ _ (opened c.args.files.now) (opened c.text_of.new.files) (λ _. tt) c.in-Ok.ensures.opened

pub returns-in-Err-clause-opened : goal.returns-in-Err-clause-opened
returns-in-Err-clause-opened g c =
    let opened = g.F.Files.opened in
    opens_same (files_named (job_of (bytes_of c.args.words.now))) _ _ (opened c.args.files.now) (opened c.text_of.new.files)
    (λ whole. elim whole [
      | inl at ↦ absurd (not_zero c.in-Err.stop c.refuse.result c.refuse.ensures.status at)
      | inr at ↦ absurd (not_seven c.in-Err.stop c.refuse.result c.refuse.ensures.status at)
    ]) c.in-Err.ensures.opened

pub returns-in-Ok-clause-content : goal.returns-in-Ok-clause-content
returns-in-Ok-clause-content g c = c.text_of.ensures.content

pub returns-in-Err-clause-content : goal.returns-in-Err-clause-content
returns-in-Err-clause-content g c = c.text_of.ensures.content
