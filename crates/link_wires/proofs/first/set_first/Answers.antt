use Rattle.std.proofs.Common.{◌≡◌, None, ap, ◌∙◌}
use Rattle.name_numbers.specs.Names.{value_of}
use Rattle.name_parts.specs.Parts.{whole}
use Rattle.link_index.proofs.FirstLaws.{first_new, no_value}
use Rattle.link_wires.proofs.first.set_first.Goals as goal

pub returns-in_ok-set-clause-given : goal.returns-in_ok-set-clause-given
returns-in_ok-set-clause-given g c = λ other.
    let none : value_of (whole c.args.name) c.args.table.now ≡ None =
    no_value (λ v. v.now) c.get.result (value_of (whole c.args.name) c.args.table.now) c.is_none.result c.is_none.ensures c.if-is_none.true c.get.ensures in
    ap (value_of other) c.in_ok-set.ensures.given ∙ first_new other (whole c.args.name) c.args.value c.args.table.now none
