use Rattle.std.proofs.Common.{sym}
use Rattle.linked_text.proofs.Splits.{count_left}
use Rattle.linked_text.proofs.line.Fields.len.Goals as goal

pub returns : goal.returns
returns c =
    rw c.count_of.ensures.value
    (sym (count_left c.args.self.now c.self.inside.more c.self.inside.rest.now c.self.view_is c.if-not-self.false))
