use Rattle.std.proofs.Common.{◌≡◌, None, ap, ◌∙◌}
use Rattle.name_numbers.specs.Names.{value_of}
use Rattle.link_index.proofs.FirstLaws.{first_new, no_value}
use Rattle.link_index.proofs.first.set_first.Goals as goal

pub returns-in_ok-set-clause-given : goal.returns-in_ok-set-clause-given
returns-in_ok-set-clause-given g c = λ other.
    let none : value_of c.args.name.now c.args.table.now ≡ None =
    no_value (λ v. v.now) c.get.result (value_of c.args.name.now c.args.table.now) c.is_none.result c.is_none.ensures c.if-is_none.true c.get.ensures in
    ap (value_of other) c.in_ok-set.ensures.given ∙ first_new other c.args.name.now c.args.value c.args.table.now none
