use Rattle.std.proofs.Common.{◌≡◌, length, map, option_map, Some, refl, ap, sym, ◌∙◌}
use Rattle.std.specs.List.{slice_get}
use Rattle.std.proofs.lemmas.Option.{slice_get_read, slice_get-map}
use Rattle.hier_flatten.proofs.IndexLaws.{linked_is}
use Rattle.hier_flatten.proofs.index.Index.linked.Goals as goal

pub returns : goal.returns
returns c =
    let found : slice_get c.self.inside.modules.now c.args.number ≡ Some c.in_ok-module.module.now =
    slice_get_read c.self.inside.modules.now (length c.self.inside.modules.now) c.args.number c.in_ok-module.module.now refl c.in_ok-module.ensures.lookup.3.0
    c.in_ok-module.ensures.lookup.1 in
    let held : slice_get c.self.inside.links.items c.args.number ≡ Some c.in_ok-links.links.now =
    ap (λ xs. slice_get xs c.args.number) (sym c.deref.ensures.value)
    ∙ slice_get_read c.deref.result.now (length c.deref.result.now) c.args.number c.in_ok-links.links.now refl c.in_ok-links.ensures.lookup.3.0
    c.in_ok-links.ensures.lookup.1 in
    let both = linked_is c.self.inside.modules.now c.args.self.now (map (λ k. k.items) c.self.inside.links.items) c.args.number c.in_ok-module.module.now
    c.in_ok-links.links.now.items c.self.view_is c.self.invariant.links found
    (slice_get-map (λ k. k.items) c.self.inside.links.items c.args.number ∙ ap (option_map (λ k. k.items)) held) in
    (both.0, c.as_slice.ensures.value ∙ both.1)
