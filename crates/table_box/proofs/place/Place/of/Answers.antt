-- The place that the search leads to is that of the number.
use Rattle.std.proofs.Common.{◌∙◌, ap, to_z-of_z}
use Rattle.xt_meaning.specs.Lookup.{span_of}
use Rattle.table_box.proofs.place.Place.of.Goals as goal

pub returns : goal.returns
returns c = c.among.ensures ∙ ap (span_of c.args.index.now) (to_z-of_z c.ranges.x)
