-- Each entry is of a coupling that is there.
use Rattle.std.proofs.Common.{◌≡◌, ℕ, ◌+◌, suc, List, [], ◌∷◌, ◌++◌, refl, sym, subst, arith, Some}
use Rattle.std.specs.Prelude.{IsSome}
use Rattle.std.specs.List.{All, slice_get}
use Rattle.std.proofs.lemmas.List.Elements.{All-nil, All-cons, All-append, All-filter}
use Rattle.xt_model.specs.declared.edge.Edge.{Edge}
use Rattle.xt_model.specs.declared.edge.Edge.TheVariants.{Rise, Fall}
use Rattle.xt_model.specs.declared.quad.Pair.{Pair}
use Rattle.xt_model.specs.declared.net.Coupling.{Coupling}
use Rattle.xt_model.specs.declared.net.Net.{Net}
use Rattle.xt_model.specs.Parts.{Parts}
use Rattle.aggressor_report.specs.declared.guilt.Guilt.{Guilt}
use Rattle.aggressor_report.specs.Guilt.{is_guilty, coupling_of, entry_of, edge_entries, net_entries, guilty}

-- these things stand in a list from number n on
abbrev StandFrom : {X : Type 0} → List X → ℕ → List X → Type 0
StandFrom {X} all n xs = (j : ℕ) (x : X) → slice_get xs j ≡ Some x → slice_get all (n + j) ≡ Some x

first_stands : {X : Type 0} (all : List X) (n : ℕ) (x : X) (more : List X) → StandFrom all n (x ∷ more) → slice_get all n ≡ Some x
first_stands {X} all n x more h =
    let e : n + 0 ≡ n = omega arith in
    let P : ℕ → Type 0 = λ k. slice_get all k ≡ Some x in
    subst P e (h 0 x refl)

rest_stands : {X : Type 0} (all : List X) (n : ℕ) (x : X) (more : List X) → StandFrom all n (x ∷ more) → StandFrom all (n + 1) more
rest_stands {X} all n x more h = λ j y there.
    let e : n + suc j ≡ (n + 1) + j = omega arith in
    let P : ℕ → Type 0 = λ k. slice_get all k ≡ Some y in
    subst P e (h (suc j) y there)

all_stand : {X : Type 0} (all : List X) → StandFrom all 0 all
all_stand {X} all = λ j y there.
    let e : j ≡ 0 + j = omega arith in
    let P : ℕ → Type 0 = λ k. slice_get all k ≡ Some y in
    subst P e there

module _ (d : Parts) (low high : List Pair) where
  abbrev IsThere : Guilt → Type 0
  IsThere g = IsSome (coupling_of d g)

  entry_there : (n : ℕ) (net : Net) (e : Edge) (number : ℕ) (k : Coupling) → slice_get d.nets n ≡ Some net → slice_get net.couplings number ≡ Some k
      → IsThere (entry_of d low high (record { 0 = n }) e number k)
  entry_there n net e number k there here = rw (there, here) refl

  edge_there : (n : ℕ) (net : Net) (e : Edge) (number : ℕ) (ks : List Coupling) → slice_get d.nets n ≡ Some net → StandFrom net.couplings number ks
      → All IsThere (edge_entries d low high (record { 0 = n }) e number ks)
  edge_there n net e number [] there stand = All-nil IsThere
  edge_there n net e number (k ∷ more) there stand =
      All-cons IsThere (entry_of d low high (record { 0 = n }) e number k) (edge_entries d low high (record { 0 = n }) e (number + 1) more)
      (entry_there n net e number k there (first_stands net.couplings number k more stand))
      (edge_there n net e (number + 1) more there (rest_stands net.couplings number k more stand))

  nets_there : (n : ℕ) (nets : List Net) → StandFrom d.nets n nets → All IsThere (net_entries d low high n nets)
  nets_there n [] stand = All-nil IsThere
  nets_there n (net ∷ more) stand =
      let there = first_stands d.nets n net more stand in
      let rise = edge_entries d low high (record { 0 = n }) Rise 0 net.couplings in
      let fall = edge_entries d low high (record { 0 = n }) Fall 0 net.couplings in
      let rest = net_entries d low high (n + 1) more in
      All-append IsThere rise (fall ++ rest) (edge_there n net Rise 0 net.couplings there (all_stand net.couplings))
      (All-append IsThere fall rest (edge_there n net Fall 0 net.couplings there (all_stand net.couplings))
      (nets_there (n + 1) more (rest_stands d.nets n net more stand)))

  -- each entry that matters is of a coupling that is there
  pub guilty_there : (entries : List Guilt) → entries ≡ guilty d low high → All IsThere entries
  guilty_there entries is =
      let P : List Guilt → Type 0 = λ gs. All IsThere gs in
      subst P (sym is) (All-filter is_guilty IsThere (net_entries d low high 0 d.nets) (nets_there 0 d.nets (all_stand d.nets)))
