-- Each sum has room, and the quotient is that of the definition.
use Rattle.std.proofs.Common.{◌≡◌, ◌∙◌, sym, subst, to_z-of_z}
use Rattle.xt_model.specs.Tables.{IsTableNumber}
use Rattle.xt_meaning.specs.Lookup.{value_in}
use Rattle.table_box.specs.Spans.{span_in}
use Rattle.table_box.proofs.Places.{number_word}
use Rattle.table_box.proofs.Small.{first_mixable, second_mixable, both_mixable, quotient_is, quotient_number, area_back, area_fits}
use Rattle.table_box.proofs.cell.Cell.value.Goals as goal

pub mixed-first-requires : goal.mixed-first-requires
mixed-first-requires c = (_, first_mixable c.args.self.now c.requires.small _ _ c.requires.slew c.requires.load)

pub mixed-second-requires : goal.mixed-second-requires
mixed-second-requires c = (_, second_mixable c.args.self.now c.requires.small _ _ c.requires.slew c.requires.load)

pub mixed-requires : goal.mixed-requires
mixed-requires c = (_, both_mixable c.args.self.now c.requires.small _ _ c.requires.slew c.requires.load _ _ c.mixed-first.ensures c.mixed-second.ensures)

pub floor-requires : goal.floor-requires
floor-requires c = area_back c.args.self.now c.requires.small _ _ c.requires.slew c.requires.load

value_is : (c : goal.After-floor) → c.floor.result ≡ value_in c.args.self.now.table.now (span_in c.args.slew.now) (span_in c.args.load.now)
value_is c = quotient_is c.args.self.now c.requires.small _ _ c.requires.slew c.requires.load _ _ c.mixed-first.ensures c.mixed-second.ensures c.mixed.result c.floor.result c.mixed.ensures c.floor.ensures (area_fits c.args.self.now c.requires.small _ _ c.requires.slew c.requires.load)

number : (c : goal.After-floor) → IsTableNumber c.floor.result
number c = quotient_number c.args.self.now c.requires.small _ _ c.requires.slew c.requires.load _ (value_is c)

pub returns-clause-value : goal.returns-clause-value
returns-clause-value c = to_z-of_z (number_word _ (number c)) ∙ value_is c

pub returns-clause-number : goal.returns-clause-number
returns-clause-number c = subst IsTableNumber (sym (to_z-of_z (number_word _ (number c)))) (number c)
