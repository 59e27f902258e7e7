use Rattle.liberty_cells.proofs.SoundCells.{library_answer}
use Rattle.liberty_cells.proofs.reading.read_library.Goals as goal

pub returns-clause-sound : goal.returns-clause-sound
returns-clause-sound c = library_answer c.args.bytes.now _ c.library_in.result c.library_in.ensures.value
