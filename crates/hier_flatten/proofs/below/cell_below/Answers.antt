use Rattle.std.proofs.Common.{◌≡◌, refl, ◌++◌, take, ap, sym, ◌∙◌, arith}
use Rattle.std.proofs.lemmas.List.{take_all}
use Rattle.hier_flatten.specs.Flat.{flat_pins, ranges_of}
use Rattle.hier_flatten.proofs.below.cell_below.Goals as goal

pub returns-clause-flat : goal.returns-clause-flat
returns-clause-flat c =
    let path = c.args.path.now.items in
    let frame = c.args.frame.now in
    let whole : path ≡ take frame.path path = sym (take_all frame.path path (omega (arith, c.requires))) in
    let name : c.in_ok-name.name ≡ take frame.path path ++ c.args.instance.now.name =
    c.in_ok-name.ensures.name ∙ (ap (λ n. path ++ n) c.bytes.ensures ∙ ap (λ p. p ++ c.args.instance.now.name) whole) in
    let pins : c.from_vec.result ≡ flat_pins (ranges_of c.args.growing.now.nets) frame.nets.now frame.meant.items c.args.instance.now.pins =
    c.from_vec.ensures ∙ (c.in_ok-pins.ensures ∙ rw (c.ranges-2.ensures.ranges, c.as_slice.ensures.value, c.as_slice-2.ensures) refl) in
    rw (c.in_ok-cell.ensures, name, pins) refl
