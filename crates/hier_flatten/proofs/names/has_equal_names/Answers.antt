use Rattle.std.proofs.Common.{sym, ◌∙◌}
use Rattle.hier_flatten.proofs.NamesLaws.{equal_bits, equal_instances}
use Rattle.hier_flatten.proofs.names.has_equal_names.Goals as goal

pub returns-then-have_bit_names : goal.returns-then-have_bit_names
returns-then-have_bit_names c = λ differ.
    equal_bits c.args.nets.now c.args.instances.now differ (sym c.have_bit_names.ensures ∙ c.if-have_bit_names.true)

pub returns-then-apart : goal.returns-then-apart
returns-then-apart c = λ differ.
    equal_instances c.args.nets.now c.args.instances.now differ _ (sym c.have_bit_names.ensures ∙ c.if-have_bit_names.false) (sym (c.requires c.if-apart.true))

pub returns : goal.returns
returns c = λ differ.
    equal_instances c.args.nets.now c.args.instances.now differ c.in_ok-repeated.repeated (sym c.have_bit_names.ensures ∙ c.if-have_bit_names.false)
    c.in_ok-repeated.ensures
