use Rattle.std.proofs.Common.{ℕ, List, subst, sym, ◌≡◌, ◌∙◌}
use Rattle.std.specs.Prelude.{IfOk}
use Rattle.xt_model.specs.Names.{IsName}
use Rattle.design_gen.proofs.NetLaws.{net_named}
use Rattle.design_gen.proofs.nets.net_name.Goals as goal

pub from_slice-requires : goal.from_slice-requires
from_slice-requires c = subst IsName (sym (c.as_slice.ensures ∙ c.in_ok-bytes.ensures)) (net_named c.args.net c.requires)

pub returns : goal.returns
returns c =
    let P : List ℕ → Type 0 = λ xs. IfOk c.from_slice.result (λ n. n ≡ xs) in
    subst P (c.as_slice.ensures ∙ c.in_ok-bytes.ensures) c.from_slice.ensures
