use Rattle.std.proofs.Common.{map, ap, ◌∙◌, ◌∷◌, []}
use Rattle.std.proofs.lemmas.List.{map-append}
use Rattle.name_numbers.specs.Names.{value_of}
use Rattle.hier_flatten.proofs.SliceLaws.{map_turn}
use Rattle.hier_flatten.proofs.index.all_links.Goals as goal

pub modules-preserved : goal.modules-preserved
modules-preserved c =
    map_turn (λ m. map (λ i. value_of i.cell c.args.numbers.now) m.instances) c.modules.rest.now _ c.module-item.result c.in_ok-links_of.field-0.items
    (map (λ k. k.items) c.modules.all.items) (map (λ k. k.items) c.push.new.self.items) _ c.in-len1-up.len_at_least c.module-item.is
    (c.in_ok-links_of.ensures ∙ ap (map (λ i. value_of i.cell c.args.numbers.now)) c.as_slice.ensures)
    (ap (map (λ k. k.items)) c.in_ok-push.ensures.items ∙ map-append (λ k. k.items) c.modules.all.items (c.in_ok-links_of.field-0 ∷ []))
    c.modules.invariant
