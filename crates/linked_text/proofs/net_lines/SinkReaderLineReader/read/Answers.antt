use Rattle.std.proofs.Common.{◌≡◌, refl, sym, ap, ◌∙◌, to_z, of_z, arith}
use Rattle.std.specs.Int.{w128}
use Rattle.std.proofs.lemmas.Int.{ints}
use Rattle.linked_text.specs.EachLine.{sink_in, holds, numbered, worded}
use Rattle.linked_text.proofs.Cuts.{name_sound}
use Rattle.linked_text.proofs.Inversions.{goes_on}
use Rattle.linked_text.proofs.net_lines.SinkReaderLineReader.read.Goals as goal

pub from_slice-requires : goal.from_slice-requires
from_slice-requires c = name_sound c.in-Some.name.now (sym c.is_name.ensures ∙ c.if-not-is_name.false)

pub returns : goal.returns
unfolding sink_in
returns c =
    let base : to_z w128 (of_z w128 c.in-Some-between.base) ≡ c.in-Some-between.base = omega (arith, ints, c.in-Some-between.ensures.low, c.in-Some-between.ensures.high) in
    goes_on _ (ap worded c.in-Some.ensures) (goes_on _ (ap numbered c.in-Some-between.ensures.value) (goes_on _ c.in_ok-coefs.ensures (goes_on _ (ap holds (sym c.is_name.ensures ∙ c.if-not-is_name.false)) (rw (base, c.from_vec.ensures, c.in_ok-name.ensures) refl))))
