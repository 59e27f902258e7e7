-- Modules by their numbers.
use Rattle.std.proofs.Common.{◌≡◌, refl, ℕ, ◌+◌, ◌<◌, ◌≤◌, get_or, subst, Bool, true, false, List, [], ◌∷◌, length, map, drop, option_map, Option, Some, None, IfSome, ap, sym, ◌∙◌, arith, if◌then◌else◌}
use Rattle.std.specs.Str.{bytes_eq}
use Rattle.name_numbers.specs.Names.{Text, value_of}
use Rattle.verilog_net.specs.declared.netlist.Netlist.{Netlist}
use Rattle.std.specs.List.{slice_get}
use Rattle.std.proofs.lemmas.List.{drop-map, length-map}
use Rattle.std.proofs.lemmas.Option.{slice_get-map}
use Rattle.xt_model.specs.Options as options
use Rattle.verilog_net.specs.declared.netlist.Instance.{Instance}
use Rattle.hier_flatten.specs.Hierarchy.{numbered, module_number, module_of, links_of, cells_in, cells_before}
use Rattle.hier_flatten.specs.Tables.{with_first, IsTableOf}
use Rattle.hier_flatten.proofs.TableLaws.{IsPart, one_more}
use Rattle.hier_flatten.proofs.SliceLaws.{rest_of, first_and_rest, element_at}

within_by : (name : Text) (at : ℕ) (ms : List Netlist) (n : ℕ) → value_of name (numbered at ms) ≡ Some n → n < at + length ms
within_by name at [] n e = absurd (cc)
within_by name at (m ∷ ms) n e = by (bytes_eq name m.«module») (within_by name (at + 1) ms n) e
  where
    by : (b : Bool) → (value_of name (numbered (at + 1) ms) ≡ Some n → n < at + 1 + length ms)
        → (if b then Some at else value_of name (numbered (at + 1) ms)) ≡ Some n → n < at + length (m ∷ ms)
    by true later e = let same : at ≡ n = cc in omega (arith, same)
    by false later e = let rest = later e in omega (arith, rest)

-- a number is that of a module
pub number_within : (modules : List Netlist) (name : Text) (o : Option ℕ) → o ≡ module_number modules name → IfSome o (λ n. n < length modules)
number_within modules name None e = tt
number_within modules name (Some n) e = let h = within_by name 0 modules n (sym e) in omega (arith, h)

-- one module's number more has been noted
pub one_numbered : (table new : List (Text × ℕ)) (at : ℕ) (rest : List Netlist) (d m : Netlist) (name : Text) (all : List (Text × ℕ))
    → 1 ≤ length rest → m ≡ get_or rest 0 d → name ≡ m.«module» → new ≡ with_first name at table → IsPart table (numbered at rest) all
    → IsPart new (numbered (at + 1) (rest_of rest)) all
one_numbered table new at rest d m name all some is named entered part =
    let whole : rest ≡ m ∷ rest_of rest = first_and_rest rest d m some is in
    let one : IsPart table ((m.«module», at) ∷ numbered (at + 1) (rest_of rest)) all = subst (λ r. IsPart table (numbered at r) all) whole part in
    let other : IsPart table ((name, at) ∷ numbered (at + 1) (rest_of rest)) all =
    subst (λ n. IsPart table ((n, at) ∷ numbered (at + 1) (rest_of rest)) all) (sym named) one in
    subst (λ t. IsPart t (numbered (at + 1) (rest_of rest)) all) (sym entered) (one_more table (numbered (at + 1) (rest_of rest)) all name at other)

-- ---- the numbers of the modules of instances
module _ (modules : List Netlist) (table : List (Text × ℕ)) (of : IsTableOf (numbered 0 modules) table) where
  pub links_same : (is : List Instance) → map (λ i. value_of i.cell table) is ≡ links_of modules is
  links_same [] = refl
  links_same (i ∷ is) =
      ap (λ o. o ∷ map (λ i. value_of i.cell table) is) (of.each i.cell) ∙ ap (λ t. module_number modules i.cell ∷ t) (links_same is)

  pub all_same : (ms : List Netlist) → map (λ m. map (λ i. value_of i.cell table) m.instances) ms ≡ map (λ m. links_of modules m.instances) ms
  all_same [] = refl
  all_same (m ∷ ms) =
      ap (λ l. l ∷ map (λ m. map (λ i. value_of i.cell table) m.instances) ms) (links_same m.instances) ∙ ap (λ t. links_of modules m.instances ∷ t) (all_same ms)

pub linked_is : (inside modules : List Netlist) (kept : List (List (Option ℕ))) (k : ℕ) (m : Netlist) (l : List (Option ℕ)) → inside ≡ modules
    → kept ≡ map (λ m. links_of inside m.instances) inside → slice_get inside k ≡ Some m → slice_get kept k ≡ Some l
    → (slice_get modules k ≡ Some m) × (l ≡ links_of modules m.instances)
linked_is inside modules kept k m l same links found held =
    let at : slice_get kept k ≡ Some (links_of inside m.instances) =
    ap (λ x. slice_get x k) links ∙ (slice_get-map (λ m. links_of inside m.instances) inside k ∙ ap (option_map (λ m. links_of inside m.instances)) found) in
    let both : ◌≡◌ {A = Option (List (Option ℕ))} (Some l) (Some (links_of inside m.instances)) = sym held ∙ at in
    let one : l ≡ links_of inside m.instances = cc both in
    rw (sym same) (found, one)

-- after instances of cells is none of a cell
pub links_head : (links : List (Option ℕ)) (o : Option ℕ) (more : List (Option ℕ)) → drop (cells_in links) links ≡ o ∷ more → o ≡ None → ⊥
links_head [] o more e none = absurd (cc)
links_head (Some k ∷ links) o more e none = absurd (cc)
links_head (None ∷ links) o more e none = links_head links o more e none

pub few_cells : (links : List (Option ℕ)) → cells_in links ≤ length links
few_cells [] = omega arith
few_cells (Some k ∷ links) = omega arith
few_cells (None ∷ links) = let h = few_cells links in omega (arith, h)

-- ---- the next instance of a module
module _ (modules : List Netlist) (is : List Instance) (ls : List (Option ℕ)) (n : ℕ) (rest : List Instance) (links : List (Option ℕ))
    (linked : ls ≡ links_of modules is) (count : n ≡ cells_in ls) (back : rest ≡ drop n is) (further_back : links ≡ drop n ls) where
  pub left_is : rest ≡ drop (cells_before modules is) is
  left_is = back ∙ ap (λ k. drop k is) (count ∙ ap cells_in linked)

  links_left : links ≡ links_of modules rest
  links_left = further_back ∙ (ap (drop n) linked ∙ (drop-map (λ i. module_number modules i.cell) n is ∙ ap (links_of modules) (sym back)))

  module _ (d i : Instance) (some : 1 ≤ length rest) (first : i ≡ get_or rest 0 d) where
    whole : rest ≡ i ∷ rest_of rest
    whole = first_and_rest rest d i some first

    pub has_link : length links < 1 → ⊥
    has_link few = let long : length links ≡ length rest = ap length links_left ∙ length-map rest (λ i. module_number modules i.cell) in omega (arith, long, some, few)

    module _ (e o : Option ℕ) (there : 1 ≤ length links) (at : o ≡ get_or links 0 e) where
      both : links_of modules (i ∷ rest_of rest) ≡ o ∷ rest_of links
      both = ap (links_of modules) (sym whole) ∙ (sym links_left ∙ first_and_rest links e o there at)

      pub not_cell : o ≡ None → ⊥
      not_cell none = links_head ls o (rest_of links) (ap (λ k. drop k ls) (sym count) ∙ (sym further_back ∙ first_and_rest links e o there at)) none

      pub left_first : drop (cells_before modules is) is ≡ i ∷ rest_of rest
      left_first = sym left_is ∙ whole

      pub named : (k : ℕ) (m : Netlist) → o ≡ Some k → slice_get modules k ≡ Some m → module_of modules i.cell ≡ Some m
      named k m is_k found =
          let number : module_number modules i.cell ≡ o = cc both in
          ap (λ p. options.◌>>=◌ p (slice_get modules)) (number ∙ is_k) ∙ found

      pub has_module : (k : ℕ) → o ≡ Some k → slice_get modules k ≡ None → ⊥
      has_module k is_k none =
          let number : module_number modules i.cell ≡ o = cc both in
          let m = element_at modules k (number_within modules i.cell (Some k) (sym (number ∙ is_k))) in
          absurd (cc (sym none ∙ m.1))

      pub further_linked : rest_of links ≡ links_of modules (rest_of rest)
      further_linked = let tail : links_of modules (rest_of rest) ≡ rest_of links = cc both in sym tail
