use Rattle.std.proofs.Common.{◌≡◌, ◌∙◌, refl, sym, subst}
use Rattle.xt_model.specs.Tables.{TableParts, IsTable}
use Rattle.design_link.proofs.copies.copied_table.Goals as goal

pub new-requires : goal.new-requires
new-requires c =
    let t = c.args.table.now in
    let same : ◌≡◌ {A = TableParts}
    (record { slews = c.in_ok-slews.slews; loads = c.in_ok-loads.loads; values = c.in_ok-values.values })
    (record { slews = t.slews; loads = t.loads; values = t.values }) =
    rw (c.in_ok-slews.ensures ∙ c.slews.ensures.value, c.in_ok-loads.ensures ∙ c.loads.ensures.value, c.in_ok-values.ensures ∙ c.values.ensures.value) refl in
    subst IsTable (sym same) c.slews.ensures.sound

pub returns-clause-value : goal.returns-clause-value
returns-clause-value c =
    let t = c.args.table.now in
    let same : ◌≡◌ {A = TableParts}
    (record { slews = c.in_ok-slews.slews; loads = c.in_ok-loads.loads; values = c.in_ok-values.values })
    (record { slews = t.slews; loads = t.loads; values = t.values }) =
    rw (c.in_ok-slews.ensures ∙ c.slews.ensures.value, c.in_ok-loads.ensures ∙ c.loads.ensures.value, c.in_ok-values.ensures ∙ c.values.ensures.value) refl in
    c.new.ensures ∙ same
