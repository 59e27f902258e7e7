use Rattle.std.proofs.Common.{ap, sym, ◌∙◌, []}
use Rattle.std.specs.Prelude.{Option}
use Rattle.std.specs.Option.{option_map_or}
use Rattle.std.proofs.lemmas.Option.{slice_get-get_or}
use Rattle.xt_io.specs.Memory.{File}
use Rattle.xt_io.proofs.memory_files.bytes_at.Goals as goal

pub returns : goal.returns
returns c =
    c.as_slice.ensures.value
    ∙ sym (ap (λ (o : Option File). option_map_or (λ (f : File). f.1.items) o []) (slice_get-get_or c.args.files.now c.args.index c.index-files-index.result c.requires))

pub bounds-files-index : goal.bounds-files-index
bounds-files-index c = c.requires
