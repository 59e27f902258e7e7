use Rattle.std.proofs.Common.{◌≡◌, ℤ, arith, to_z, of_z, w32}
use Rattle.std.proofs.lemmas.Result.{err_from_is_err_and}
use Rattle.std.proofs.lemmas.Int.{ints}
use Rattle.sdc_read.specs.Meaning.{IsScale}
use Rattle.sdc_read.specs.Reading.{constraints_of}
use Rattle.sdc_read.specs.Sound.{AreSoundConstraints}
use Rattle.command_line.specs.Words.{Text}
use Rattle.call_meaning.specs.Linking.{ConstraintsIn}
use Rattle.call_files.proofs.Texts.{by_place, unread, value_is}
use Rattle.call_files.proofs.block.constraints.Goals as goal

-- a scale is kept by the bits of a number
scale_kept : (x : ℤ) → IsScale x → to_z w32 (of_z w32 x) ≡ x
scale_kept x h = omega (arith, ints, h.0, h.1)

pub returns-in_err-file-clause-read : goal.returns-in_err-file-clause-read
returns-in_err-file-clause-read g c =
    let faults = g.F.Files.faults in
    let failed = err_from_is_err_and c.from_residual.result c.from_residual.ensures.1 in
    record {
      answer = rw failed.1 (rw failed.2 (unread c.args.file (g.F.Files.content c.args.files.now) (ConstraintsIn c.args.library.now c.args.netlist.now) (faults c.args.files.now) (faults c.read_file.new.files)
          c.in_err-file.field-0.0 c.in_err-file.ensures.answer));
      kept = c.read_file.ensures.content;
      once = c.read_file.ensures.opened;
    }

pub returns-clause-read : goal.returns-clause-read
returns-clause-read g c =
    let faults = g.F.Files.faults in
    let library = c.args.library.now in
    let meant = λ (bytes : Text). constraints_of bytes c.args.netlist.now.nets library.time_scale library.cap_scale in
    record {
      answer = rw c.in_file.ensures (by_place c.args.file c.in_ok-file.file (g.F.Files.content c.args.files.now) c.in_ok-file.bytes.items (faults c.args.files.now) (faults c.read_file.new.files)
          c.in_ok-file.ensures.answer.0 c.in_ok-file.ensures.whole c.in_ok-file.ensures.fits c.in_ok-file.ensures.answer.1 meant c.read_sdc.result
          (rw (c.deref.ensures.value, scale_kept library.time_scale c.requires.time, scale_kept library.cap_scale c.requires.cap) at c.read_sdc.ensures.value));
      kept = c.read_file.ensures.content;
      once = c.read_file.ensures.opened;
    }

pub returns-clause-sound : goal.returns-clause-sound
returns-clause-sound g c = rw c.in_file.ensures (value_is c.in_ok-file.file AreSoundConstraints c.read_sdc.result c.read_sdc.ensures.sound)
