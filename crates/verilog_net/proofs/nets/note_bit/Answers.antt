use Rattle.std.proofs.Common.{◌∙◌, refl, ◌++◌, ◌∷◌, []}
use Rattle.name_numbers.proofs.NameLaws.{value_given_twice}
use Rattle.verilog_net.specs.Nets.{bit_nets_of}
use Rattle.verilog_net.proofs.nets.note_bit.Goals as goal

pub returns : goal.returns
returns c =
    let bus = c.args.bus.now in
    let bits = bit_nets_of bus c.args.bit_nets.now ++ c.args.bit ∷ [] in
    c.in_ok-set.ensures.given
    ∙ (rw (c.from_vec.ensures, c.in_ok-push.ensures.items, c.in_ok-numbers.ensures.numbers, c.in_ok-numbers.ensures.emptied) refl
    ∙ value_given_twice bus bits [] c.args.bit_nets.now)
