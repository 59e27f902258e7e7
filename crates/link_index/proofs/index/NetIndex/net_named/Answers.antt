use Rattle.std.proofs.Common.{option_map, sym, ap, ◌∙◌}
use Rattle.link_rules.specs.Nodes.{net_named}
use Rattle.link_index.proofs.IndexLaws.{named_is}
use Rattle.link_index.proofs.index.NetIndex.net_named.Goals as goal

pub returns-in-Some : goal.returns-in-Some
returns-in-Some c =
    sym (ap (λ n. net_named n c.args.name.now) (sym c.self.view_is)
    ∙ named_is c.self.inside.bits c.self.inside.names c.args.name.now c.self.invariant.names ∙ ap (option_map (λ f. f.0)) (sym c.in-Some.ensures))

pub returns-in-None : goal.returns-in-None
returns-in-None c =
    sym (ap (λ n. net_named n c.args.name.now) (sym c.self.view_is)
    ∙ named_is c.self.inside.bits c.self.inside.names c.args.name.now c.self.invariant.names ∙ ap (option_map (λ f. f.0)) (sym c.in-None.ensures))
