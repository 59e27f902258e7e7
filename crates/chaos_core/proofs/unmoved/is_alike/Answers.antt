use Rattle.std.proofs.Common.{length}
use Rattle.chaos_core.proofs.LookLaws.{all_coupled}
use Rattle.chaos_core.proofs.unmoved.is_alike.Goals as goal

pub is_input_alike-requires-clause-read : goal.is_input_alike-requires-clause-read
is_input_alike-requires-clause-read c = all_coupled c.args.design.now c.args.net (length c.args.before.now) c.requires.sound c.requires.before c.requires.there
