use Rattle.std.proofs.Common.{◌≡◌, ℕ, None, option_map, ap, sym, ◌∙◌}
use Rattle.hier_flatten.specs.Hierarchy.{IsFinite, top_of}
use Rattle.hier_flatten.proofs.MeaningLaws.{no_top_means}
use Rattle.hier_flatten.proofs.flat.flatten_index.Goals as goal

pub returns-in_default-2 : goal.returns-in_default-2
returns-in_default-2 c =
    let ends : (number : ℕ) → IsFinite c.args.index.now number = rw c.if-branch.false at c.in_ok-contains_itself.ensures in
    let none : top_of c.args.index.now ≡ None = sym c.in_ok-top.ensures ∙ ap (option_map (λ m. m.now)) c.in_default-2.is in
    no_top_means c.args.index.now c.args.last_line (sym c.misfit.ensures ∙ c.in_default.is) ends none

pub flatten_top-requires-clause-fits : goal.flatten_top-requires-clause-fits
flatten_top-requires-clause-fits c = sym c.misfit.ensures ∙ c.in_default.is

pub flatten_top-requires-clause-ends : goal.flatten_top-requires-clause-ends
flatten_top-requires-clause-ends c = rw c.if-branch.false at c.in_ok-contains_itself.ensures

pub flatten_top-requires-clause-top : goal.flatten_top-requires-clause-top
flatten_top-requires-clause-top c = sym c.in_ok-top.ensures ∙ ap (option_map (λ m. m.now)) c.in-Some-2.is
