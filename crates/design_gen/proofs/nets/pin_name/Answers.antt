use Rattle.std.proofs.Common.{ℕ, List, subst, sym, ap, ◌≡◌, ◌∙◌, ◌+◌, ◌/◌, ◌%◌, ◌++◌, [], ◌∷◌}
use Rattle.std.specs.Prelude.{IfOk}
use Rattle.xt_model.specs.Names.{IsName}
use Rattle.design_gen.specs.Generated.{net_name}
use Rattle.design_gen.proofs.NetLaws.{pin_named}
use Rattle.design_gen.proofs.nets.pin_name.Goals as goal

pub from_slice-requires : goal.from_slice-requires
from_slice-requires c =
    let whole = c.as_slice.ensures ∙ (c.in_ok-extend_from_slice.ensures.ok ∙ ap (λ xs. xs ++ 47 ∷ (65 + c.args.pin % 2) ∷ [])
    (c.in_ok-bytes.ensures ∙ ap (λ s. net_name (s + c.args.pin / 2)) c.sources.ensures)) in
    subst IsName (sym whole) (pin_named c.args.nets c.args.pin c.requires.count c.requires.pin)

pub returns : goal.returns
returns c =
    let whole = c.as_slice.ensures ∙ (c.in_ok-extend_from_slice.ensures.ok ∙ ap (λ xs. xs ++ 47 ∷ (65 + c.args.pin % 2) ∷ [])
    (c.in_ok-bytes.ensures ∙ ap (λ s. net_name (s + c.args.pin / 2)) c.sources.ensures)) in
    let P : List ℕ → Type 0 = λ xs. IfOk c.from_slice.result (λ n. n ≡ xs) in
    subst P whole c.from_slice.ensures
