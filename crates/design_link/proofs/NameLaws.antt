-- The names of nets are those of the bits of a netlist, and the nets of a loop are there.
use Rattle.std.specs.Prelude.{◌≡◌, refl, ℕ, zero, suc, ◌+◌, ◌-◌, ◌<◌, ◌^◌, nat_lt, Bool, true, false, List, [], ◌∷◌, length, map, drop, Some, None, option_map, unwrap_or}
use Rattle.std.specs.List.{All, AllByRecursion, slice_get, slice_index, enumerate_from}
use Rattle.std.proofs.Common.{arith, sym, ap, ◌∙◌, subst}
use Rattle.std.proofs.lemmas.Bool.{ltb-true, ltb-false}
use Rattle.std.proofs.lemmas.List.Elements.{All-from_recursion}
use Rattle.xt_model.specs.declared.net.Net.{Net}
use Rattle.xt_model.specs.declared.net.NetId.{NetId}
use Rattle.xt_model.specs.Loops.{IsWalkBack, IsFirstLoop}
use Rattle.xt_model.specs.Names.{IsName}
use Rattle.verilog_net.specs.declared.netlist.Netlist.{Netlist}
use Rattle.liberty_cells.specs.declared.library.Library.{Library}
use Rattle.spef_read.specs.declared.parasitics.Parasitics.{Parasitics}
use Rattle.sdc_read.specs.declared.constraints.Constraints.{Constraints}
use Rattle.elmore_tree.specs.declared.form.WireForm.{WireForm}
use Rattle.link_rules.specs.Bare.{bare_net, filled_nets}
use Rattle.verilog_net.specs.Bits.{Bit, bits}
use Rattle.link_rules.specs.Circuit.{net_pins, sinks_of}
use Rattle.link_rules.specs.declared.circuit.NetPins.{NetPins}
use Rattle.link_rules.specs.Link.{name_at}
use Rattle.design_link.specs.Built.{net_name, HaveNamesOf}
use Rattle.design_link.proofs.FillLaws.{Fit}
use Rattle.design_link.proofs.Lists.{length-mapped, there, within}

-- ---- names of nets and of bits
named_at : (ns : List Net) (bs : List Bit) (i : ℕ) → map (λ (n : Net). n.name) ns ≡ map (λ (b : Bit). b.name) bs
    → option_map (λ (n : Net). n.name) (slice_get ns i) ≡ option_map (λ (b : Bit). b.name) (slice_get bs i)
named_at [] [] i e = refl
named_at [] (b ∷ bs) i e = absurd (cc)
named_at (n ∷ ns) [] i e = absurd (cc)
named_at (n ∷ ns) (b ∷ bs) zero e = let same : n.name ≡ b.name = cc in ap Some same
named_at (n ∷ ns) (b ∷ bs) (suc i) e = let rest : map (λ (n : Net). n.name) ns ≡ map (λ (b : Bit). b.name) bs = cc in named_at ns bs i rest

-- the net of a number has the name of the bit of this number
pub name_is : (netlist : Netlist) (ns : List Net) (i : ℕ) → HaveNamesOf netlist ns → name_at ns i ≡ net_name netlist i
name_is netlist ns i e = ap (λ o. unwrap_or o []) (named_at ns (bits netlist.nets) i e)

pub names_are : (netlist : Netlist) (ns : List Net) → HaveNamesOf netlist ns → (ids : List NetId) → map (λ (n : NetId). net_name netlist n.0) ids ≡ map (name_at ns) (map (λ (n : NetId). n.0) ids)
names_are netlist ns e [] = refl
names_are netlist ns e (n ∷ ids) = ap (λ t. t ∷ map (λ (n : NetId). net_name netlist n.0) ids) (sym (name_is netlist ns n.0 e)) ∙ ap (λ r. name_at ns n.0 ∷ r) (names_are netlist ns e ids)

-- nets of the same names
pub names_same : (netlist : Netlist) (ns ms : List Net) → HaveNamesOf netlist ns → HaveNamesOf netlist ms → (loop : List ℕ) → map (name_at ns) loop ≡ map (name_at ms) loop
names_same netlist ns ms a b [] = refl
names_same netlist ns ms a b (i ∷ loop) =
    ap (λ t. t ∷ map (name_at ns) loop) (name_is netlist ns i a ∙ sym (name_is netlist ms i b)) ∙ ap (λ r. name_at ms i ∷ r) (names_same netlist ns ms a b loop)

-- ---- the nets of a loop are there
module _ (nets : List Net) where
  goer_there : (walk : List ℕ) (back i : ℕ) → IsWalkBack nets walk back → i < length walk → slice_index walk i < length nets
  goer_there walk back i h lt = by (nat_lt (i + 1) (length walk)) refl
    where
      by : (b : Bool) → nat_lt (i + 1) (length walk) ≡ b → slice_index walk i < length nets
      by true e =
          let on = h.goes i (ltb-true (i + 1) (length walk) e) in
          let input = on.1.input in
          within nets (slice_index walk i) input.0 input.2
      by false e =
          let le = ltb-false (i + 1) (length walk) e in
          let last : length walk - 1 ≡ i = omega (arith, le, lt) in
          let input = h.returns.1.input in
          subst (λ k. slice_index walk k < length nets) last (within nets (slice_index walk (length walk - 1)) input.0 input.2)

  all_by : (ids : List NetId) (walk : List ℕ) (back : ℕ) → ((i : ℕ) → i < length walk → slice_index walk i < length nets) → map (λ (n : NetId). n.0) ids ≡ drop back walk
      → AllByRecursion (λ (n : NetId). n.0 < length nets) ids
  all_by [] walk back each e = tt
  all_by (n ∷ ids) [] zero each e = absurd (cc)
  all_by (n ∷ ids) [] (suc back) each e = absurd (cc)
  all_by (n ∷ ids) (a ∷ walk) zero each e =
      let first : n.0 ≡ a = cc in
      let rest : map (λ (n : NetId). n.0) ids ≡ drop 0 walk = cc in
      (subst (λ k. k < length nets) (sym first) (each 0 (omega arith)), all_by ids walk 0 (λ i lt. each (suc i) (omega (arith, lt))) rest)
  all_by (n ∷ ids) (a ∷ walk) (suc back) each e = all_by (n ∷ ids) walk back (λ i lt. each (suc i) (omega (arith, lt))) e

  loop_there : (ids : List NetId) → IsFirstLoop nets (map (λ (n : NetId). n.0) ids) → All (λ (n : NetId). n.0 < length nets) ids
  loop_there ids first_loop =
      All-from_recursion (λ (n : NetId). n.0 < length nets) ids
      (all_by ids first_loop.0 first_loop.1 (λ i lt. goer_there first_loop.0 first_loop.1 i first_loop.2 lt) first_loop.3)

count_same : (netlist : Netlist) (ns : List Net) → HaveNamesOf netlist ns → length ns ≡ length (bits netlist.nets)
count_same netlist ns e = sym (length-mapped (λ (n : Net). n.name) ns) ∙ (ap length e ∙ length-mapped (λ (b : Bit). b.name) (bits netlist.nets))

pub all_there : (netlist : Netlist) (ns : List Net) (ids : List NetId) → HaveNamesOf netlist ns → IsFirstLoop ns (map (λ (n : NetId). n.0) ids)
    → All (λ (n : NetId). n.0 < length (bits netlist.nets)) ids
all_there netlist ns ids e first_loop = subst (λ k. All (λ (n : NetId). n.0 < k) ids) (count_same netlist ns e) (loop_there ns ids first_loop)

-- the first loop, as a slice
pub first_loop_of_same : (ns ms : List Net) (ids slice : List NetId) → ns ≡ ms → slice ≡ ids → IsFirstLoop ns (map (λ (n : NetId). n.0) ids) → IsFirstLoop ms (map (λ (n : NetId). n.0) slice)
first_loop_of_same ns ms ids slice a b first_loop = subst (λ k. IsFirstLoop k (map (λ (n : NetId). n.0) slice)) a (subst (λ k. IsFirstLoop ns (map (λ (n : NetId). n.0) k)) (sym b) first_loop)

-- ---- the nets before and after their forms are filled in
pub names_filled : (ms : List Net) (fs : List WireForm) → Fit ms fs → map (λ (n : Net). n.name) (filled_nets ms fs) ≡ map (λ (n : Net). n.name) ms
names_filled [] fs fit = refl
names_filled (m ∷ ms) [] fit = absurd fit
names_filled (m ∷ ms) (f ∷ fs) fit = ap (λ r. m.name ∷ r) (names_filled ms fs fit.1)

-- what a net is known to keep
pub record IsKept (p : NetPins) : Type 0 where
  pub name : IsName p.name
  pub few : length p.sinks < 2 ^ 32

module _ (library : Library) (netlist : Netlist) (parasitics : Parasitics) (constraints : Constraints) where
  pub names_bare : (k j : ℕ) (bs : List Bit)
      → map (λ (n : Net). n.name) (map (bare_net netlist parasitics) (enumerate_from k (map (net_pins library netlist constraints) (enumerate_from j bs)))) ≡ map (λ (b : Bit). b.name) bs
  unfolding bare_net net_pins
  names_bare k j [] = refl
  names_bare k j (b ∷ bs) = ap (λ r. b.name ∷ r) (names_bare (k + 1) (j + 1) bs)

  pub kept_names : (j : ℕ) (bs : List Bit) → AllByRecursion IsKept (map (net_pins library netlist constraints) (enumerate_from j bs)) → AllByRecursion (λ b. IsName b.name) bs
  unfolding net_pins
  kept_names j [] h = tt
  kept_names j (b ∷ bs) h = (h.0.name, kept_names (j + 1) bs h.1)

  pub kept_few : (j : ℕ) (bs : List Bit) → AllByRecursion IsKept (map (net_pins library netlist constraints) (enumerate_from j bs))
      → (i : ℕ) (b : Bit) → slice_get bs i ≡ Some b → length (sinks_of library netlist constraints (j + i, b)) < 2 ^ 32
  unfolding net_pins
  kept_few j [] h i b e = absurd (cc)
  kept_few j (c ∷ bs) h zero b e =
      let same : c ≡ b = cc in
      let number : j ≡ j + 0 = omega arith in
      subst (λ k. length (sinks_of library netlist constraints (k, b)) < 2 ^ 32) number
      (subst (λ k. length (sinks_of library netlist constraints (j, k)) < 2 ^ 32) same h.0.few)
  kept_few j (c ∷ bs) h (suc i) b e =
      let number : j + 1 + i ≡ j + suc i = omega arith in
      subst (λ k. length (sinks_of library netlist constraints (k, b)) < 2 ^ 32) number (kept_few (j + 1) bs h.1 i b e)

-- ---- the bit of a number is there
module _ (netlist index : Netlist) (is_index : index ≡ netlist) where
  pub bit_there : (net : ℕ) → net < length (bits netlist.nets) → None ≡ option_map (λ (b : Bit). b.name) (slice_get (bits index.nets) net) → ⊥
  bit_there net lt e =
      let b = there (bits netlist.nets) net lt in
      let none : None ≡ option_map (λ (b : Bit). b.name) (slice_get (bits netlist.nets) net) =
      e ∙ ap (λ (n : Netlist). option_map (λ (b : Bit). b.name) (slice_get (bits n.nets) net)) is_index in
      let same : None ≡ Some b.0.name = none ∙ ap (option_map (λ (b : Bit). b.name)) b.1 in
      absurd (cc)
