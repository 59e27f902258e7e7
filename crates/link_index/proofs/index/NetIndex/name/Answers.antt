use Rattle.std.proofs.Common.{option_map, sym, ap, ◌∙◌}
use Rattle.std.specs.List.{slice_get}
use Rattle.verilog_net.specs.Bits.{bits}
use Rattle.link_index.proofs.IndexLaws.{name_is}
use Rattle.link_index.proofs.SpelledLaws.{spelled_at}
use Rattle.link_index.proofs.index.NetIndex.name.Goals as goal

pub returns-in-Some-clause-value : goal.returns-in-Some-clause-value
returns-in-Some-clause-value c =
    sym (ap (λ n. option_map (λ b. b.name) (slice_get (bits n.nets) c.args.net)) (sym c.self.view_is)
    ∙ name_is c.self.inside.bits c.self.inside.names c.args.net c.self.invariant.names ∙ ap (option_map (λ e. e.0)) (sym c.in-Some.ensures))

pub returns-in-None-clause-value : goal.returns-in-None-clause-value
returns-in-None-clause-value c =
    sym (ap (λ n. option_map (λ b. b.name) (slice_get (bits n.nets) c.args.net)) (sym c.self.view_is)
    ∙ name_is c.self.inside.bits c.self.inside.names c.args.net c.self.invariant.names ∙ ap (option_map (λ e. e.0)) (sym c.in-None.ensures))

pub returns-in-Some-clause-spelled : goal.returns-in-Some-clause-spelled
returns-in-Some-clause-spelled c = spelled_at c.self.inside.names c.args.net _ c.self.invariant.spelled (sym c.in-Some.ensures)
