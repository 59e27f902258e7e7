-- What is below instances is one thing, and it comes to an end where no module contains itself.
use Rattle.std.proofs.Common.{◌≡◌, refl, ℕ, zero, suc, ◌+◌, ◌<◌, ◌≤◌, List, [], ◌∷◌, ◌++◌, length, Option, Some, sym, ap, ◌∙◌, subst, arith}
use Rattle.std.specs.List.{slice_get}
use Rattle.xt_model.specs.Options.{◌>>=◌}
use Rattle.hier_flatten.proofs.SliceLaws.{element_at}
use Rattle.verilog_net.specs.declared.netlist.Instance.{Instance}
use Rattle.verilog_net.specs.declared.netlist.Netlist.{Netlist}
use Rattle.hier_flatten.specs.Hierarchy.{Hierarchy, ends, cell, inner, IsHierarchy, IsFinite, module_number, module_of, Contains, IsBelow, SomeContainsItself}
use Rattle.hier_flatten.proofs.IndexLaws.{number_within}

abbrev size : Hierarchy → ℕ
size ends = 0
size (cell i more) = 1 + size more
size (inner i m below more) = 1 + (size below + size more)

same_module : (o : Option Netlist) (m n : Netlist) → o ≡ Some m → o ≡ Some n → m ≡ n
same_module o m n a b = let same : ◌≡◌ {A = Option Netlist} (Some m) (Some n) = sym a ∙ b in cc

module _ (modules : List Netlist) where
  -- instances have one thing below them
  pub one_hierarchy : (is : List Instance) (h k : Hierarchy) → IsHierarchy modules is h → IsHierarchy modules is k → h ≡ k
  one_hierarchy [] ends ends a b = refl
  one_hierarchy [] ends (cell j more) a b = absurd b
  one_hierarchy [] ends (inner j m below more) a b = absurd b
  one_hierarchy [] (cell j more) k a b = absurd a
  one_hierarchy [] (inner j m below more) k a b = absurd a
  one_hierarchy (i ∷ is) ends k a b = absurd a
  one_hierarchy (i ∷ is) (cell j more) ends a b = absurd b
  one_hierarchy (i ∷ is) (cell j more) (cell j' more') a b =
      ap (λ x. cell x more) (sym a.0 ∙ b.0) ∙ ap (cell j') (one_hierarchy is more more' a.2 b.2)
  one_hierarchy (i ∷ is) (cell j more) (inner j' m below more') a b = absurd (cc (sym a.1 ∙ b.1))
  one_hierarchy (i ∷ is) (inner j m below more) ends a b = absurd b
  one_hierarchy (i ∷ is) (inner j m below more) (cell j' more') a b = absurd (cc (sym a.1 ∙ b.1))
  one_hierarchy (i ∷ is) (inner j m below more) (inner j' m' below' more') a b =
      let same : m ≡ m' = same_module (module_of modules i.cell) m m' a.1 b.1 in
      let within : IsHierarchy modules m.instances below' = subst (λ n. IsHierarchy modules n.instances below') (sym same) b.2 in
      ap (λ x. inner x m below more) (sym a.0 ∙ b.0)
      ∙ (ap (λ n. inner j' n below more) same
      ∙ (ap (λ x. inner j' m' x more) (one_hierarchy m.instances below below' a.2 within)
      ∙ ap (inner j' m' below') (one_hierarchy is more more' a.3 b.3)))

  -- what is below one of some instances is less than what is below all
  smaller : (before : List Instance) (i : Instance) (after : List Instance) (m : Netlist) (h : Hierarchy) → module_of modules i.cell ≡ Some m
      → IsHierarchy modules (before ++ i ∷ after) h → (k : Hierarchy) × IsHierarchy modules m.instances k × (size k < size h)
  smaller [] i after m ends e a = absurd a
  smaller [] i after m (cell j more) e a = absurd (cc (sym e ∙ a.1))
  smaller [] i after m (inner j n below more) e a =
      let same : n ≡ m = same_module (module_of modules i.cell) n m a.1 e in
      (below, subst (λ x. IsHierarchy modules x.instances below) same a.2, omega arith)
  smaller (b ∷ before) i after m ends e a = absurd a
  smaller (b ∷ before) i after m (cell j more) e a =
      let rest = smaller before i after m more e a.2 in
      (rest.0, rest.1, omega (arith, rest.2))
  smaller (b ∷ before) i after m (inner j n below more) e a =
      let rest = smaller before i after m more e a.3 in
      (rest.0, rest.1, omega (arith, rest.2))

  inside : (a b : ℕ) (ma mb : Netlist) (h : Hierarchy) → Contains modules a b → slice_get modules a ≡ Some ma → slice_get modules b ≡ Some mb
      → IsHierarchy modules ma.instances h → (k : Hierarchy) × IsHierarchy modules mb.instances k × (size k < size h)
  inside a b ma mb h contains at there is =
      let same : ma ≡ contains.holder = same_module (slice_get modules a) ma contains.holder at contains.there in
      let whole : IsHierarchy modules (contains.before ++ contains.instance ∷ contains.after) h =
      subst (λ x. IsHierarchy modules x h) (ap (λ m. m.instances) same ∙ contains.among) is in
      smaller contains.before contains.instance contains.after mb h (ap (λ o. o >>= slice_get modules) contains.named ∙ there) whole

  down : (steps a b : ℕ) (ma mb : Netlist) (h : Hierarchy) → slice_get modules a ≡ Some ma → slice_get modules b ≡ Some mb → IsBelow modules steps a b
      → IsHierarchy modules ma.instances h → (k : Hierarchy) × IsHierarchy modules mb.instances k × (size k + steps ≤ size h)
  down zero a b ma mb h at there below is =
      let same : ma ≡ mb = same_module (slice_get modules a) ma mb at (ap (slice_get modules) below ∙ there) in
      (h, subst (λ x. IsHierarchy modules x.instances h) same is, omega arith)
  down (suc steps) a b ma mb h at there (c, below, contains) is =
      let upper = down steps a c ma contains.holder h at contains.there below is in
      let lower = inside c b contains.holder mb upper.0 contains contains.there there upper.1 in
      (lower.0, lower.1, omega (arith, upper.2, lower.2))

  -- where all comes to an end, no module contains itself
  pub no_circle : ((number : ℕ) → IsFinite modules number) → SomeContainsItself modules → ⊥
  no_circle finite some =
      let way = some.below in
      let within : some.number < length modules = rw way.2.named at (number_within modules way.2.instance.cell (module_number modules way.2.instance.cell) refl) in
      let m = element_at modules some.number within in
      let h = finite some.number m.0 m.1 in
      let k = down (suc some.steps) some.number some.number m.0 m.0 h.0 m.1 m.1 way h.1 in
      let same : size k.0 ≡ size h.0 = ap size (one_hierarchy m.0.instances k.0 h.0 k.1 h.1) in
      absurd (omega (arith, same, k.2))
