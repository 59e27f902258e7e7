use Rattle.std.proofs.lemmas.Result.{err_from_is_err_and}
use Rattle.spef_read.specs.Reading.{parasitics_of}
use Rattle.spef_read.specs.Sound.{AreSoundParasitics}
use Rattle.call_meaning.specs.Linking.{ParasiticsIn}
use Rattle.call_files.proofs.Texts.{by_place, unread, value_is}
use Rattle.call_files.proofs.block.parasitics.Goals as goal

pub returns-in_err-file-clause-read : goal.returns-in_err-file-clause-read
returns-in_err-file-clause-read g c =
    let faults = g.F.Files.faults in
    let failed = err_from_is_err_and c.from_residual.result c.from_residual.ensures.1 in
    record {
      answer = rw failed.1 (rw failed.2 (unread c.args.file (g.F.Files.content c.args.files.now) ParasiticsIn (faults c.args.files.now) (faults c.read_file.new.files) c.in_err-file.field-0.0 c.in_err-file.ensures.answer));
      kept = c.read_file.ensures.content;
      once = c.read_file.ensures.opened;
    }

pub returns-clause-read : goal.returns-clause-read
returns-clause-read g c =
    let faults = g.F.Files.faults in
    record {
      answer = rw c.in_file.ensures (by_place c.args.file c.in_ok-file.file (g.F.Files.content c.args.files.now) c.in_ok-file.bytes.items (faults c.args.files.now) (faults c.read_file.new.files)
          c.in_ok-file.ensures.answer.0 c.in_ok-file.ensures.whole c.in_ok-file.ensures.fits c.in_ok-file.ensures.answer.1 parasitics_of c.read_spef.result (rw c.deref.ensures.value at c.read_spef.ensures.value));
      kept = c.read_file.ensures.content;
      once = c.read_file.ensures.opened;
    }

pub returns-clause-sound : goal.returns-clause-sound
returns-clause-sound g c = rw c.in_file.ensures (value_is c.in_ok-file.file AreSoundParasitics c.read_spef.result c.read_spef.ensures.sound)
