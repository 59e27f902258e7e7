-- A flat netlist connects bits alone.
use Rattle.std.specs.Prelude.{◌≡◌, refl, ℕ, Bool, true, false, List, [], ◌∷◌, ◌++◌, Option, Some, None, Result, Ok, Err, if◌then◌else◌}
use Rattle.std.specs.List.{AllByRecursion, list_all, slice_get}
use Rattle.std.proofs.Common.{sym, ap, ◌∙◌, subst}
use Rattle.std.proofs.lemmas.Bool.{false≢true, and_parts}
use Rattle.std.proofs.lemmas.List.Elements.{All-from_recursion}
use Rattle.name_numbers.specs.Names.{Text}
use Rattle.xt_model.specs.Options as options
use Rattle.xt_model.specs.declared.fault.LimitKind.{LimitKind}
use Rattle.xt_model.specs.declared.code.Code.TheVariants.{V1, V5}
use Rattle.verilog_net.specs.declared.netlist.Instance.{Instance}
use Rattle.verilog_net.specs.declared.netlist.Netlist.{Netlist}
use Rattle.verilog_net.specs.declared.netlist.Wire.{Wire}
use Rattle.verilog_net.specs.declared.netlist.Wire.TheVariants as wires
use Rattle.verilog_net.specs.Nets.{Nets}
use Rattle.hier_flatten.specs.declared.fault.FlatFault.TheVariants as faults
use Rattle.hier_flatten.specs.Places.{place_in, bit_at}
use Rattle.hier_flatten.specs.Fits.{range_at, cell_pin_fits, pins_fit, instance_fits, misfit_from, first_of, misfit_in, misfit}
use Rattle.hier_flatten.specs.Hierarchy.{Hierarchy, ends, cell, inner, IsHierarchy, module_number, top_of}
use Rattle.hier_flatten.specs.Flat.{Scope, Flat, Ranges, ranges_of, range_of, counts_of, or_open, bit_of, bit_within, flat_wire, flat_pins, flat_instance, limit_of, unless_passed, scope_below, entered_below, flat_below, top_scope, at_top, built}
use Rattle.hier_flatten.specs.Names.{has_equal_names, has_long_name}
use Rattle.hier_flatten.specs.Meaning.{Outcome, named, within_limits, TopMeans, HierarchyMeans, circular, finite, unless_misfit, FlatMeans}
use Rattle.hier_flatten.proofs.MeaningLaws.{top_has}
use Rattle.text_forms.proofs.Bytes.{each_push, each-weaker, each_at}
use Rattle.hier_flatten.proofs.FlatNetlists.{bind_parts, passed_parts}
use Rattle.flat_laws.specs.Laws.{IsOneBit, ConnectsBits}

-- ---- one connection
place_bit : (net : ℕ) (o : Option ℕ) → IsOneBit (bit_of net o)
place_bit net None = tt
place_bit net (Some bit) = tt

within_bit : (flat : Ranges) (place : ℕ) (w : Wire) → IsOneBit (bit_within flat place w)
within_bit flat place wires.Open = tt
within_bit flat place wires.Constant = tt
within_bit flat place (wires.Bit decl bit) = tt
within_bit flat place (wires.Whole net) = place_bit net (bit_at (range_of net flat) place)

module _ (flat : Ranges) (nets : Nets) (meant : List Wire) where
  wire_bit : (p : Text × Wire) → cell_pin_fits p ≡ true → IsOneBit (flat_wire flat nets meant p.1)
  wire_bit (name, wires.Open) h = tt
  wire_bit (name, wires.Constant) h = tt
  wire_bit (name, wires.Bit decl bit) h = within_bit flat (place_in (range_at decl nets) bit) (or_open (slice_get meant decl))
  wire_bit (name, wires.Whole decl) h = absurd (false≢true h)

  pins_bits : (pins : List (Text × Wire)) → list_all cell_pin_fits pins ≡ true → AllByRecursion (λ p. IsOneBit p.1) (flat_pins flat nets meant pins)
  pins_bits [] h = tt
  pins_bits (p ∷ pins) h = let parts = and_parts (cell_pin_fits p) (list_all cell_pin_fits pins) h in (wire_bit p parts.0, pins_bits pins parts.1)

-- ---- instances
abbrev AreBits : Instance → Type 0
AreBits i = AllByRecursion (λ p. IsOneBit p.1) i.pins

module _ (modules : List Netlist) where
  abbrev Fit : Nets → List Instance → Type 0
  Fit nets is = AllByRecursion (λ i. instance_fits modules nets i ≡ true) is

  all_fit : (nets : Nets) (is : List Instance) → misfit_from modules nets is ≡ None → Fit nets is
  all_fit nets [] e = tt
  all_fit nets (i ∷ is) e = by (λ none. all_fit nets is none) (instance_fits modules nets i) refl e
    where
      by : (misfit_from modules nets is ≡ None → Fit nets is) → (b : Bool) → instance_fits modules nets i ≡ b
          → (if b then misfit_from modules nets is else Some i.line) ≡ None → Fit nets (i ∷ is)
      by rest true at none = (at, rest none)
      by rest false at none = absurd (cc)

  both_none : (o p : Option ℕ) → first_of o p ≡ None → (o ≡ None) × (p ≡ None)
  both_none None p e = (refl, e)
  both_none (Some line) p e = absurd (cc)

  modules_fit : (ms : List Netlist) → misfit_in modules ms ≡ None → AllByRecursion (λ m. Fit m.nets m.instances) ms
  modules_fit [] e = tt
  modules_fit (m ∷ ms) e =
      let parts = both_none (misfit_from modules m.nets m.instances) (misfit_in modules ms) e in
      (all_fit m.nets m.instances parts.0, modules_fit ms parts.1)

  module _ (fits : AllByRecursion (λ m. Fit m.nets m.instances) modules) where
    module_fits : (o : Option ℕ) (m : Netlist) → options.◌>>=◌ o (slice_get modules) ≡ Some m → Fit m.nets m.instances
    module_fits None m e = absurd (cc)
    module_fits (Some k) m e = each_at (λ n. Fit n.nets n.instances) modules k m fits e

    below_bits : (h : Hierarchy) (is : List Instance) (s : Scope) (flat new : Flat) → IsHierarchy modules is h → Fit s.nets is
        → AllByRecursion AreBits flat.instances → flat_below h s flat ≡ Ok new → AllByRecursion AreBits new.instances
    below_bits ends [] s flat new t fit bits e = let same : flat ≡ new = cc in rw same at bits
    below_bits ends (i ∷ is) s flat new t fit bits e = absurd t
    below_bits (cell j more) [] s flat new t fit bits e = absurd t
    below_bits (cell j more) (i ∷ is) s flat new t fit bits e =
        let pins : list_all cell_pin_fits i.pins ≡ true = ap (λ o. pins_fit s.nets o i.pins) (sym t.1) ∙ fit.0 in
        let one : AreBits (flat_instance (ranges_of flat.nets) s j) = subst (λ k. AreBits (flat_instance (ranges_of flat.nets) s k)) t.0 (pins_bits (ranges_of flat.nets) s.nets s.meant i.pins pins) in
        below_bits more is s (record flat { instances = flat.instances ++ flat_instance (ranges_of flat.nets) s j ∷ [] }) new t.2 fit.1
        (each_push AreBits flat.instances (flat_instance (ranges_of flat.nets) s j) bits one) e
    below_bits (inner j m below more) [] s flat new t fit bits e = absurd t
    below_bits (inner j m below more) (i ∷ is) s flat new t fit bits e =
        let entered = flat_below below (scope_below (ranges_of flat.nets) s j m) (entered_below flat s j m) in
        let parts = bind_parts (unless_passed (limit_of (counts_of flat)) entered) (flat_below more s) new e in
        let middle = below_bits below m.instances (scope_below (ranges_of flat.nets) s j m) (entered_below flat s j m) parts.0 t.2
        (module_fits (module_number modules i.cell) m t.1) bits (passed_parts (limit_of (counts_of flat)) entered parts.0 parts.1) in
        below_bits more is s parts.0 new t.3 fit.1 middle parts.2

    built_bits : (top : Netlist) (h : Hierarchy) (flat : Flat) → Fit top.nets top.instances → IsHierarchy modules top.instances h → built top h ≡ Ok flat
        → AllByRecursion AreBits flat.instances
    unfolding built
    built_bits top h flat fit is e = below_bits h top.instances (top_scope top) (at_top top) flat is fit tt e

-- ---- the netlist
all_bits : (m : Netlist) → AllByRecursion AreBits m.instances → ConnectsBits m
all_bits m h = All-from_recursion _ m.instances (each-weaker AreBits _ (λ i b. All-from_recursion (λ p. IsOneBit p.1) i.pins b) m.instances h)

named_instances : (last : ℕ) (top : Netlist) (flat : Flat) (n : Netlist) → named last top flat ≡ Ok n → flat.instances ≡ n.instances
named_instances last top flat n e = by (has_equal_names flat.nets flat.instances) (has_long_name flat.nets flat.instances) e
  where
    by : (a b : Bool) → ◌≡◌ {A = Outcome} (if a then Err (faults.Refused last V5) else if b then Err (faults.Refused last V1)
        else Ok (record { «module» = top.«module»; nets = flat.nets; instances = flat.instances })) (Ok n) → flat.instances ≡ n.instances
    by true b e = absurd (cc)
    by false true e = absurd (cc)
    by false false e =
        let whole : Netlist = record { «module» = top.«module»; nets = flat.nets; instances = flat.instances } in
        let same : whole ≡ n = cc in
        ap (λ (m : Netlist). m.instances) same

module _ (modules : List Netlist) (last : ℕ) (n : Netlist) (none : misfit modules ≡ None) where
  fits : AllByRecursion (λ m. Fit modules m.nets m.instances) modules
  unfolding misfit
  fits = modules_fit modules modules none

  limits_bits : (top : Netlist) (h : Hierarchy) → Fit modules top.nets top.instances → IsHierarchy modules top.instances h → (r : Result Flat LimitKind) → built top h ≡ r
      → Ok n ≡ within_limits last top r → ConnectsBits n
  limits_bits top h fit is (Err what) at e = absurd (cc)
  limits_bits top h fit is (Ok flat) at e =
      all_bits n (subst (AllByRecursion AreBits) (named_instances last top flat n (sym e)) (built_bits modules fits top h flat fit is at))

  top_bits : (t : Option Netlist) → top_of modules ≡ t → TopMeans modules last t (Ok n) → ConnectsBits n
  top_bits None at e = absurd (cc)
  top_bits (Some top) at (h, is, e) = limits_bits top h (top_has (λ m. Fit modules m.nets m.instances) modules top fits at) is (built top h) refl e

  hierarchy_bits : HierarchyMeans modules last (Ok n) → ConnectsBits n
  hierarchy_bits (circular some e) = absurd (cc)
  hierarchy_bits (finite free t) = top_bits (top_of modules) refl t

misfit_bits : (modules : List Netlist) (last : ℕ) (n : Netlist) (o : Option ℕ) → misfit modules ≡ o → unless_misfit o modules last (Ok n) → ConnectsBits n
misfit_bits modules last n (Some line) at e = absurd (cc)
misfit_bits modules last n None at h = hierarchy_bits modules last n at h

-- a flat netlist connects bits alone
pub flat_bits : (modules : List Netlist) (last : ℕ) (n : Netlist) → FlatMeans modules last (Ok n) → ConnectsBits n
unfolding FlatMeans
flat_bits modules last n h = misfit_bits modules last n (misfit modules) refl h
