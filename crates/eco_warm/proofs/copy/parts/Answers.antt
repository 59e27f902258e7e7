use Rattle.std.proofs.Common.{◌≡◌, refl, ◌∙◌}
use Rattle.eco_warm.proofs.copy.parts.Goals as goal

pub returns : goal.returns
returns c =
    let d = c.args.design.now in
    let tables : c.from_vec.result ≡ d.tables = c.from_vec.ensures ∙ (c.in_ok-tables.ensures ∙ c.tables.ensures.value) in
    let nets : c.from_vec-2.result ≡ d.nets = c.from_vec-2.ensures ∙ (c.in_ok-nets.ensures ∙ c.nets.ensures.value) in
    let checks : c.from_vec-3.result ≡ d.checks = c.from_vec-3.ensures ∙ (c.in_ok-checks.ensures ∙ c.checks.ensures.value) in
    rw (c.period.ensures.value, tables, nets, checks, c.miller.ensures.value) refl
