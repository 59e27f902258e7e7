use Rattle.std.proofs.lemmas.Result.{err_from_is_err_and}
use Rattle.liberty_cells.specs.Library.{library_meant}
use Rattle.liberty_cells.specs.Sound.{IsSoundLibrary}
use Rattle.sdc_read.specs.Meaning.{IsScale}
use Rattle.call_meaning.specs.Linking.{LibraryIn}
use Rattle.call_files.proofs.Texts.{by_place, unread, value_is}
use Rattle.call_files.proofs.block.library.Goals as goal

pub returns-in_err-file-clause-read : goal.returns-in_err-file-clause-read
returns-in_err-file-clause-read g c =
    let faults = g.F.Files.faults in
    let failed = err_from_is_err_and c.from_residual.result c.from_residual.ensures.1 in
    record {
      answer = rw failed.1 (rw failed.2 (unread c.args.file (g.F.Files.content c.args.files.now) LibraryIn (faults c.args.files.now) (faults c.read_file.new.files) c.in_err-file.field-0.0 c.in_err-file.ensures.answer));
      kept = c.read_file.ensures.content;
      once = c.read_file.ensures.opened;
    }

pub returns-clause-read : goal.returns-clause-read
returns-clause-read g c =
    let faults = g.F.Files.faults in
    record {
      answer = rw c.in_file.ensures (by_place c.args.file c.in_ok-file.file (g.F.Files.content c.args.files.now) c.in_ok-file.bytes.items (faults c.args.files.now) (faults c.read_file.new.files)
          c.in_ok-file.ensures.answer.0 c.in_ok-file.ensures.whole c.in_ok-file.ensures.fits c.in_ok-file.ensures.answer.1 library_meant c.read_library.result (rw c.deref.ensures.value at c.read_library.ensures.value));
      kept = c.read_file.ensures.content;
      once = c.read_file.ensures.opened;
    }

pub returns-clause-sound : goal.returns-clause-sound
returns-clause-sound g c = rw c.in_file.ensures (value_is c.in_ok-file.file IsSoundLibrary c.read_library.result c.read_library.ensures.sound)

pub returns-clause-scales : goal.returns-clause-scales
returns-clause-scales g c =
    rw c.in_file.ensures (value_is c.in_ok-file.file (λ v. IsScale v.time_scale × IsScale v.cap_scale) c.read_library.result c.read_library.ensures.scales)
