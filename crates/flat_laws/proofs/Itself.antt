-- A module alone is its own flat netlist.
use Rattle.std.specs.Prelude.{◌≡◌, refl, ℕ, zero, suc, ◌+◌, ◌-◌, ◌<◌, ◌≤◌, nat_le, ◌&&◌, ◌||◌, Bool, true, false, List, [], ◌∷◌, ◌++◌, length, map, replicate}
use Rattle.std.specs.Prelude.{Option, Some, None, Ok}
use Rattle.std.specs.List.{AllByRecursion, slice_get, list_all, list_any}
use Rattle.std.specs.Str.{bytes_eq}
use Rattle.std.proofs.Common.{arith, sym, ap, ◌∙◌, subst, append_assoc, inl, inr}
use Rattle.std.proofs.lemmas.Bool.{false≢true, and_parts, and_from, or_parts, or_from, or_cases, leb-true, le-leb, lt-leb, le-ltb, cases_lt}
use Rattle.std.proofs.lemmas.List.{length-map, append-nil}
use Rattle.std.proofs.lemmas.Slice.Eq.{bytes_eq-Decides}
use Rattle.name_numbers.specs.Names.{Text}
use Rattle.text_forms.specs.Names.{is_name}
use Rattle.xt_model.specs.Limits.{most_text_name}
use Rattle.verilog_net.specs.declared.netlist.Instance.{Instance}
use Rattle.verilog_net.specs.declared.netlist.Net.{Net}
use Rattle.verilog_net.specs.declared.netlist.Netlist.{Netlist}
use Rattle.verilog_net.specs.declared.netlist.Wire.{Wire}
use Rattle.verilog_net.specs.declared.netlist.Wire.TheVariants as wires
use Rattle.verilog_net.specs.Nets.{Nets}
use Rattle.verilog_net.specs.Sound.{IsSoundInstance}
use Rattle.hier_flatten.specs.Places.{place_in, bit_at}
use Rattle.hier_flatten.specs.Fits.{range_at, cell_pin_fits, pins_fit, instance_fits, misfit_from, misfit}
use Rattle.hier_flatten.specs.Hierarchy.{Hierarchy, ends, cell, IsHierarchy, HasHierarchy, IsFinite, module_of, is_instanced, top_of}
use Rattle.hier_flatten.specs.Flat.{Flat, ranges_of, range_of, or_open, bit_of, bit_within, flat_wire, flat_pins, flat_instance, meant_from, flat_below, top_scope, built}
use Rattle.hier_flatten.specs.Names.{is_repeated, has_bit_name, has_equal_names, is_long, has_long_name}
use Rattle.hier_flatten.specs.Meaning.{FlatMeans}
use Rattle.hier_flatten.proofs.MeaningLaws.{built_means}
use Rattle.verilog_net.proofs.OwnNames.{Shape, shapes, AreNamedApart, named_apart}
use Rattle.text_forms.proofs.NameLaws.{short_name}
use Rattle.verilog_net.proofs.FineStates.{IsFineModule}
use Rattle.flat_laws.proofs.Known.{IsBitOf, IsConnected, AreConnected, HaveConnected, IsClosed}
use Rattle.flat_laws.proofs.ScalarNames.{scalars_free}

-- ---- places
rising : (r : ℕ × ℕ) (bit : ℕ) → r.0 ≤ bit → bit ≤ r.1 → bit_at (Some r) (place_in (Some r) bit) ≡ Some bit
rising r bit a b =
    let same : r.0 + (bit - r.0) ≡ bit = omega (arith, a) in
    rw (le-leb r.0 bit a, le-leb r.0 r.1 (omega (arith, a, b)), le-leb (bit - r.0) (r.1 - r.0) (omega (arith, a, b))) (ap (λ n. Some n) same)

falling : (r : ℕ × ℕ) (bit : ℕ) → r.1 ≤ bit → bit < r.0 → bit_at (Some r) (place_in (Some r) bit) ≡ Some bit
falling r bit a b =
    let same : r.0 - (r.0 - bit) ≡ bit = omega (arith, b) in
    rw (lt-leb r.0 bit b, lt-leb r.0 r.1 (omega (arith, a, b)), le-leb (r.0 - bit) (r.0 - r.1) (omega (arith, a, b))) (ap (λ n. Some n) same)

left_bound : (r : ℕ × ℕ) (bit : ℕ) → r.1 < bit → bit ≡ r.0 → bit_at (Some r) (place_in (Some r) bit) ≡ Some bit
left_bound r bit a e =
    let same : r.0 - (bit - r.0) ≡ bit = omega (arith, e) in
    rw (le-leb r.0 bit (omega (arith, e)), lt-leb r.0 r.1 (omega (arith, a, e)), le-leb (bit - r.0) (r.0 - r.1) (omega (arith, a, e))) (ap (λ n. Some n) same)

down : (r : ℕ × ℕ) (bit : ℕ) → r.1 ≤ bit → bit ≤ r.0 → bit_at (Some r) (place_in (Some r) bit) ≡ Some bit
down r bit a b = elim (cases_lt bit r.0) [
  | inl lt ↦ falling r bit a lt
  | inr le ↦ elim (cases_lt r.1 bit) [
    | inl lt ↦ left_bound r bit lt (omega (arith, b, le))
    | inr under ↦ rising r bit le under
  ]
]

-- the bit at the place of a bit
place_back : (o : Option (ℕ × ℕ)) (bit : ℕ) → IsBitOf o bit → bit_at o (place_in o bit) ≡ Some bit
place_back None bit is = ap (λ n. Some n) (sym is)
place_back (Some r) bit is = elim (or_cases (nat_le r.0 bit && nat_le bit r.1) (nat_le r.1 bit && nat_le bit r.0) is) [
  | inl up ↦ let parts = and_parts (nat_le r.0 bit) (nat_le bit r.1) up in rising r bit (leb-true r.0 bit parts.0) (leb-true bit r.1 parts.1)
  | inr low ↦ let parts = and_parts (nat_le r.1 bit) (nat_le bit r.0) low in down r bit (leb-true r.1 bit parts.0) (leb-true bit r.0 parts.1)
]

-- ---- connections
range_at_is : (nets : Nets) (decl : ℕ) (s : Shape) → slice_get (shapes nets) decl ≡ Some s → range_at decl nets ≡ s.1
range_at_is [] decl s e = absurd (cc)
range_at_is (net ∷ nets) zero s e = let same : ◌≡◌ {A = Shape} (net.0, net.1.range) s = cc in ap (λ x. x.1) same
range_at_is (net ∷ nets) (suc decl) s e = range_at_is nets decl s e

-- the range among those of all nets
range_among : (nets : Nets) (decl : ℕ) → range_of decl (ranges_of nets) ≡ range_at decl nets
range_among [] decl = refl
range_among (net ∷ nets) zero = refl
range_among (net ∷ nets) (suc decl) = range_among nets decl

number_of : {X : Type 0} (xs : List X) (i : ℕ) (x : X) → slice_get xs i ≡ Some x → i < length xs
number_of [] i x e = absurd (cc)
number_of (y ∷ xs) zero x e = omega arith
number_of (y ∷ xs) (suc i) x e = let lt = number_of xs i x e in omega (arith, lt)

meant_at : (n next k : ℕ) → k < n → slice_get (meant_from next (replicate n wires.Open)) k ≡ Some (wires.Whole (next + k))
meant_at zero next k lt = absurd (omega (arith, lt))
meant_at (suc n) next zero lt = ap (λ m. Some (wires.Whole m)) (omega arith)
meant_at (suc n) next (suc k) lt = meant_at n (next + 1) k (omega (arith, lt)) ∙ ap (λ m. Some (wires.Whole m)) (omega arith)

module _ (nets : Nets) where
  abbrev meant : List Wire
  meant = meant_from 0 (replicate (length nets) wires.Open)

  wire_kept : (w : Wire) → IsConnected (shapes nets) w → flat_wire (ranges_of nets) nets meant w ≡ w
  wire_kept wires.Open h = refl
  wire_kept wires.Constant h = refl
  wire_kept (wires.Whole decl) h = absurd h
  wire_kept (wires.Bit decl bit) h =
      let few : length (shapes nets) ≡ length nets = length-map nets (λ (net : Text × Net). (net.0, net.1.range)) in
      let lt = number_of (shapes nets) decl h.shape h.there in
      let there : slice_get meant decl ≡ Some (wires.Whole decl) =
      meant_at (length nets) 0 decl (omega (arith, lt, few)) ∙ ap (λ n. Some (wires.Whole n)) (omega arith) in
      let range = range_at_is nets decl h.shape h.there in
      let back = place_back (range_at decl nets) bit (subst (λ o. IsBitOf o bit) (sym range) h.within) in
      ap (λ o. bit_within (ranges_of nets) (place_in (range_at decl nets) bit) (or_open o)) there ∙ ap (bit_of decl) (ap (λ o. bit_at o (place_in (range_at decl nets) bit)) (range_among nets decl) ∙ back)

  pins_kept : (pins : List (Text × Wire)) → AreConnected (shapes nets) pins → flat_pins (ranges_of nets) nets meant pins ≡ pins
  pins_kept [] h = refl
  pins_kept (p ∷ pins) h = ap (λ w. (p.0, w) ∷ flat_pins (ranges_of nets) nets meant pins) (wire_kept p.1 h.0) ∙ ap (λ t. p ∷ t) (pins_kept pins h.1)

pin_fits : (ss : List Shape) (p : Text × Wire) → IsConnected ss p.1 → cell_pin_fits p ≡ true
pin_fits ss (name, wires.Open) h = refl
pin_fits ss (name, wires.Constant) h = refl
pin_fits ss (name, wires.Bit decl bit) h = refl
pin_fits ss (name, wires.Whole decl) h = absurd h

all_fit : (ss : List Shape) (pins : List (Text × Wire)) → AreConnected ss pins → list_all cell_pin_fits pins ≡ true
all_fit ss [] h = refl
all_fit ss (p ∷ pins) h = and_from (cell_pin_fits p) (list_all cell_pin_fits pins) (pin_fits ss p h.0) (all_fit ss pins h.1)

-- ---- what is below
abbrev cells : List Instance → Hierarchy
cells [] = ends
cells (i ∷ is) = cell i (cells is)

other_text : (a b : Text) → bytes_eq b a ≡ false → bytes_eq a b ≡ false
other_text a b e = by (bytes_eq a b) refl
  where
    by : (x : Bool) → bytes_eq a b ≡ x → bytes_eq a b ≡ false
    by false at = at
    by true at = absurd (false≢true (sym e ∙ (bytes_eq-Decides b a).1 (sym ((bytes_eq-Decides a b).0 at))))

module _ (m : Netlist) (alone : is_instanced (m ∷ []) m.«module» ≡ false) (closed : IsClosed m) where
  abbrev ms : List Netlist
  ms = m ∷ []

  abbrev AreCells : List Instance → Type 0
  AreCells is = AllByRecursion (λ i. module_of ms i.cell ≡ None) is

  are_cells : (is : List Instance) → list_any (λ i. bytes_eq m.«module» i.cell) is ≡ false → AreCells is
  are_cells [] e = tt
  are_cells (i ∷ is) e =
      let parts = or_parts (bytes_eq m.«module» i.cell) (list_any (λ j. bytes_eq m.«module» j.cell) is) e in
      let other : bytes_eq i.cell m.«module» ≡ false = other_text i.cell m.«module» parts.0 in
      (rw other refl, are_cells is parts.1)

  none : AreCells m.instances
  none = are_cells m.instances (or_parts (list_any (λ i. bytes_eq m.«module» i.cell) m.instances) false alone).0

  below : (is : List Instance) → AreCells is → IsHierarchy ms is (cells is)
  below [] h = tt
  below (i ∷ is) h = (refl, h.0, below is h.1)

  fit : (is : List Instance) → AreCells is → HaveConnected (shapes m.nets) is → misfit_from ms m.nets is ≡ None
  fit [] h c = refl
  fit (i ∷ is) h c =
      let one : instance_fits ms m.nets i ≡ true = ap (λ o. pins_fit m.nets o i.pins) h.0 ∙ all_fit (shapes m.nets) i.pins c.0 in
      rw one (fit is h.1 c.1)

  no_misfit : misfit ms ≡ None
  unfolding misfit
  no_misfit = rw (fit m.instances none closed.pins) refl

  finite : (number : ℕ) → IsFinite ms number
  finite zero x e = let same : m ≡ x = cc in subst (λ n. HasHierarchy ms n.instances) same (cells m.instances, below m.instances none)
  finite (suc number) x e = absurd (cc)

  top : top_of ms ≡ Some m
  unfolding top_of
  top = rw alone refl

  -- ---- the flat netlist
  abbrev flat_of : List Instance → Flat
  flat_of is = record { nets = m.nets; instances = is; entered = 0 }

  instance_kept : (i : Instance) → AreConnected (shapes m.nets) i.pins → flat_instance (ranges_of m.nets) (top_scope m) i ≡ i
  instance_kept i h = ap (λ (ps : List (Text × Wire)). record i { pins = ps }) (pins_kept m.nets i.pins h)

  build : (is done : List Instance) → HaveConnected (shapes m.nets) is → flat_below (cells is) (top_scope m) (flat_of done) ≡ Ok (flat_of (done ++ is))
  build [] done h = ap (λ t. Ok (flat_of t)) (sym (append-nil done))
  build (i ∷ is) done h =
      ap (λ j. flat_below (cells is) (top_scope m) (flat_of (done ++ j ∷ []))) (instance_kept i h.0)
      ∙ (build is (done ++ i ∷ []) h.1 ∙ ap (λ t. Ok (flat_of t)) (append_assoc done (i ∷ []) is))

  all_built : built m (cells m.instances) ≡ Ok (flat_of m.instances)
  unfolding built
  all_built = build m.instances [] closed.pins

-- ---- names
net_differs : (name : Text) (nets : Nets) → AllByRecursion (λ t. name ≡ t.0 → ⊥) (shapes nets) → list_any (bytes_eq name) (map (λ net. net.0) nets) ≡ false
net_differs name [] h = refl
net_differs name (net ∷ nets) h = or_from (bytes_eq name net.0) (list_any (bytes_eq name) (map (λ n. n.0) nets)) (by (bytes_eq name net.0) refl) (net_differs name nets h.1)
  where
    by : (b : Bool) → bytes_eq name net.0 ≡ b → bytes_eq name net.0 ≡ false
    by false e = e
    by true e = absurd (h.0 ((bytes_eq-Decides name net.0).0 e))

nets_differ : (nets : Nets) → AreNamedApart (shapes nets) → is_repeated (map (λ net. net.0) nets) ≡ false
nets_differ [] h = refl
nets_differ (net ∷ nets) h =
    or_from (list_any (bytes_eq net.0) (map (λ n. n.0) nets)) (is_repeated (map (λ n. n.0) nets)) (net_differs net.0 nets h.0) (nets_differ nets h.1)

long_not : (name : Text) → length name ≤ most_text_name → is_long name ≡ false
long_not name le = le-ltb most_text_name (length name) le

short_nets : (nets : Nets) → AllByRecursion (λ s. is_name s.0 ≡ true) (shapes nets) → list_any (λ net. is_long net.0) nets ≡ false
short_nets [] h = refl
short_nets (net ∷ nets) h = or_from (is_long net.0) (list_any (λ n. is_long n.0) nets) (long_not net.0 (short_name net.0 h.0).short) (short_nets nets h.1)

short_instances : (is : List Instance) → AllByRecursion IsSoundInstance is → list_any (λ i. is_long i.name) is ≡ false
short_instances [] h = refl
short_instances (i ∷ is) h = or_from (is_long i.name) (list_any (λ j. is_long j.name) is) (long_not i.name h.0.name.short) (short_instances is h.1)

module _ (m : Netlist) (fine : IsFineModule m) (closed : IsClosed m) where
  equal_not : has_equal_names m.nets m.instances ≡ false
  unfolding has_equal_names
  equal_not =
      let nets = fine.nets.1 in
      or_from (is_repeated (map (λ net. net.0) m.nets)) (list_any (has_bit_name m.nets) m.nets || is_repeated (map (λ i. i.name) m.instances))
      (nets_differ m.nets (named_apart (shapes m.nets) nets.clear))
      (or_from (list_any (has_bit_name m.nets) m.nets) (is_repeated (map (λ i. i.name) m.instances)) (scalars_free m.nets nets.clear) closed.names)

  long_none : has_long_name m.nets m.instances ≡ false
  unfolding has_long_name
  long_none =
      or_from (list_any (λ net. is_long net.0) m.nets) (list_any (λ i. is_long i.name) m.instances) (short_nets m.nets fine.nets.1.names)
      (short_instances m.instances fine.instances)

  -- a module without an instance of itself is its own flat netlist
  pub itself : (last : ℕ) → is_instanced (m ∷ []) m.«module» ≡ false → FlatMeans (m ∷ []) last (Ok m)
  itself last alone =
      built_means (m ∷ []) last m (Ok (flat_of m alone closed m.instances)) (Ok m) (no_misfit m alone closed) (finite m alone closed) (top m alone closed)
      (cells m.instances, below m alone closed m.instances (none m alone closed), all_built m alone closed) (rw (equal_not, long_none) refl)
