use Rattle.std.proofs.Common.{◌≡◌, rules}
use Rattle.hier_flatten.specs.Hierarchy.{module_number}
use Rattle.hier_flatten.proofs.IndexLaws.{number_within}
use Rattle.hier_flatten.proofs.index.Index.number.Goals as goal

pub returns-clause-within : goal.returns-clause-within
returns-clause-within c =
    let value : c.copied.result ≡ module_number c.args.self.now c.args.name.now = search rules in
    number_within c.args.self.now c.args.name.now c.copied.result value
