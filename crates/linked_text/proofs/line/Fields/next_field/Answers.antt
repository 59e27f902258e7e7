use Rattle.linked_text.proofs.Splits.{next_some, next_last}
use Rattle.linked_text.proofs.line.Fields.next_field.Goals as goal

pub returns-in-Some : goal.returns-in-Some
returns-in-Some c = next_some c.args.self.now c.self.inside.more c.self.inside.rest.now c.in-Some.field.now c.in-Some.rest.now c.self.view_is c.if-not-self.false c.in-Some.ensures

pub returns-in-None : goal.returns-in-None
returns-in-None c = next_last c.args.self.now c.self.inside.more c.self.inside.rest.now c.self.view_is c.if-not-self.false c.in-None.ensures
