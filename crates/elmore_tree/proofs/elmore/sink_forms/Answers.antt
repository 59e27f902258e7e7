use Rattle.std.proofs.Common.{◌∙◌, ap, length}
use Rattle.std.proofs.lemmas.List.{length-map}
use Rattle.std.specs.Int.RustNames.{unsigned_abs}
use Rattle.elmore_tree.proofs.FormLaws.{cap_sum_fits}
use Rattle.elmore_tree.proofs.elmore.sink_forms.Goals as goal

pub elmore_sums-requires-clause-count : goal.elmore_sums-requires-clause-count
elmore_sums-requires-clause-count c = ap length c.in_ok-caps.ensures ∙ (length-map c.args.tree.now.ground unsigned_abs ∙ c.sinks-sinks.ensures.sound.grounds)

pub elmore_sums-requires-clause-most : goal.elmore_sums-requires-clause-most
elmore_sums-requires-clause-most c = rw c.in_ok-caps.ensures (cap_sum_fits c.args.tree.now c.sinks-sinks.ensures.sound)

pub forms_by-requires-clause-bases : goal.forms_by-requires-clause-bases
forms_by-requires-clause-bases c = rw (c.deref.ensures.value, ← c.in_ok-caps.ensures) c.in_ok-bases.ensures.each
