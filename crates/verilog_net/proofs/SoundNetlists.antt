-- A module that is fine is sound to be linked.
use Rattle.std.specs.Prelude.{◌≡◌, ◌≢◌, refl, ℕ, zero, suc, ◌+◌, ◌-◌, ◌<◌, ◌≤◌, true, false, List, [], ◌∷◌, ◌++◌, map, decimal}
use Rattle.std.specs.Prelude.{Option, Some, None, IfSome, Ok}
use Rattle.std.specs.List.{All, AllByRecursion, slice_get}
use Rattle.std.proofs.Common.{arith, sym, ap, ◌∙◌, append_assoc, inl, inr}
use Rattle.std.proofs.lemmas.Bool.{or_left, or_right, and_from, le-leb, lt-leb, cases_lt}
use Rattle.std.proofs.lemmas.List.Elements.{All-from_recursion}
use Rattle.std.proofs.lemmas.Result.{IfOk-at_ok}
use Rattle.name_numbers.specs.Names.{Text}
use Rattle.verilog_net.specs.declared.netlist.Netlist.{Netlist}
use Rattle.verilog_net.specs.Reading.{text_state, modules_in}
use Rattle.verilog_net.specs.declared.netlist.PortRole.{PortRole}
use Rattle.text_forms.specs.Names.{is_name, IsShortName}
use Rattle.verilog_net.specs.Nets.{Nets, most_bit, has_bit}
use Rattle.verilog_net.specs.Bits.{Bit, rising, falling, numbers_of, bit_name, bus_bit, bits_by, bits_from, bits}
use Rattle.verilog_net.specs.Sound.{IsSoundInstance, HaveOwnNames, IsSoundNetlist, IsSoundModule}
use Rattle.text_forms.proofs.Bytes.{each-append, each-weaker, each_at}
use Rattle.text_forms.proofs.NameLaws.{short_name}
use Rattle.verilog_net.proofs.BitNames.{tail, same_number, same_bus}
use Rattle.verilog_net.proofs.OwnNames.{Shape, shape, shapes, IsDistinct, AreDistinct, clear_distinct, IsBounded, bit_bounded}
use Rattle.verilog_net.proofs.FineTexts.{modules_fine}
use Rattle.verilog_net.proofs.FineStates.{IsFineModule}

-- ---- the numbers of a bus's bits
abbrev AreApart : List ℕ → Type 0
AreApart [] = Unit {0}
AreApart (k ∷ ks) = AllByRecursion (λ j. k ≡ j → ⊥) ks × AreApart ks

rising_within : (f n low high : ℕ) → low ≤ f → f + n ≤ high + 1 → AllByRecursion (λ k. (low ≤ k) × (k ≤ high)) (rising f n)
rising_within f zero low high a b = tt
rising_within f (suc n) low high a b = ((a, omega (arith, b)), rising_within (f + 1) n low high (omega (arith, a)) (omega (arith, b)))

rising_apart : (f n : ℕ) → AreApart (rising f n)
rising_apart f zero = tt
rising_apart f (suc n) = (
  each-weaker (λ k. (f + 1 ≤ k) × (k ≤ f + 1 + n)) (λ j. f ≡ j → ⊥) (λ j h e. omega (arith, h, e)) (rising (f + 1) n)
      (rising_within (f + 1) n (f + 1) (f + 1 + n) (omega arith) (omega arith)),
  rising_apart (f + 1) n,
)

falling_within : (f n low high : ℕ) → f ≤ high → low + n ≤ f + 1 → AllByRecursion (λ k. (low ≤ k) × (k ≤ high)) (falling f n)
falling_within f zero low high a b = tt
falling_within f (suc zero) low high a b = ((omega (arith, b), a), tt)
falling_within f (suc (suc n)) low high a b =
    ((omega (arith, b), a), falling_within (f - 1) (suc n) low high (omega (arith, a)) (omega (arith, b)))

falling_apart : (f n : ℕ) → n ≤ f + 1 → AreApart (falling f n)
falling_apart f zero h = tt
falling_apart f (suc zero) h = (tt, tt)
falling_apart f (suc (suc n)) h = (
  each-weaker (λ k. (0 ≤ k) × (k ≤ f - 1)) (λ j. f ≡ j → ⊥) (λ j w e. omega (arith, w, e, h)) (falling (f - 1) (suc n))
      (falling_within (f - 1) (suc n) 0 (f - 1) (omega arith) (omega (arith, h))),
  falling_apart (f - 1) (suc n) (omega (arith, h)),
)

-- the numbers are those of bits, and differ
record AreNumbers (r : ℕ × ℕ) (ks : List ℕ) : Type 0 where
  bits : AllByRecursion (λ k. has_bit r k ≡ true) ks
  apart : AreApart ks

up_bit : (r : ℕ × ℕ) (k : ℕ) → (r.0 ≤ k) × (k ≤ r.1) → has_bit r k ≡ true
up_bit r k h = or_left _ _ (and_from _ _ (le-leb r.0 k h.0) (le-leb k r.1 h.1))

down_bit : (r : ℕ × ℕ) (k : ℕ) → (r.1 ≤ k) × (k ≤ r.0) → has_bit r k ≡ true
down_bit r k h = or_right _ _ (and_from _ _ (le-leb r.1 k h.0) (le-leb k r.0 h.1))

numbers_are : (r : ℕ × ℕ) → AreNumbers r (numbers_of r)
numbers_are r = elim (cases_lt r.1 r.0) [
  | inl down ↦ rw (lt-leb r.0 r.1 down) (falls down)
  | inr up ↦ rw (le-leb r.0 r.1 up) (rises up)
]
  where
    rises : r.0 ≤ r.1 → AreNumbers r (rising r.0 (r.1 - r.0 + 1))
    rises up = record {
      bits = each-weaker (λ k. (r.0 ≤ k) × (k ≤ r.1)) (λ k. has_bit r k ≡ true) (up_bit r) (rising r.0 (r.1 - r.0 + 1))
          (rising_within r.0 (r.1 - r.0 + 1) r.0 r.1 (omega arith) (omega (arith, up)));
      apart = rising_apart r.0 (r.1 - r.0 + 1);
    }

    falls : r.1 < r.0 → AreNumbers r (falling r.0 (r.0 - r.1 + 1))
    falls down = record {
      bits = each-weaker (λ k. (r.1 ≤ k) × (k ≤ r.0)) (λ k. has_bit r k ≡ true) (down_bit r) (falling r.0 (r.0 - r.1 + 1))
          (falling_within r.0 (r.0 - r.1 + 1) r.1 r.0 (omega arith) (omega (arith, down)));
      apart = falling_apart r.0 (r.0 - r.1 + 1) (omega (arith, down));
    }

-- ---- bits by their names
bit_name_is : (name : Text) (k : ℕ) → bit_name name k ≡ name ++ tail k
bit_name_is name k = append_assoc (name ++ 91 ∷ []) (decimal k) (93 ∷ []) ∙ append_assoc name (91 ∷ []) (decimal k ++ 93 ∷ [])

abbrev Differ : Bit → Bit → Type 0
Differ a b = a.name ≡ b.name → ⊥

abbrev AllDiffer : List Bit → Type 0
AllDiffer [] = Unit {0}
AllDiffer (b ∷ more) = AllByRecursion (Differ b) more × AllDiffer more

differ-append : (xs ys : List Bit) → AllDiffer xs → AllDiffer ys → AllByRecursion (λ x. AllByRecursion (Differ x) ys) xs → AllDiffer (xs ++ ys)
differ-append [] ys a b c = b
differ-append (x ∷ xs) ys a b c = (each-append (Differ x) xs ys a.0 c.0, differ-append xs ys a.1 b c.1)

differ_at : (xs : List Bit) (i j : ℕ) (a b : Bit) → AllDiffer xs → i < j → slice_get xs i ≡ Some a → slice_get xs j ≡ Some b → a.name ≢ b.name
differ_at [] i j a b d lt x y = absurd (cc)
differ_at (z ∷ xs) zero (suc j) a b d lt x y =
    let same : z ≡ a = cc in
    λ e. each_at (Differ z) xs j b d.0 y (ap (λ t. t.name) same ∙ e)
differ_at (z ∷ xs) i zero a b d lt x y = absurd (omega (arith, lt))
differ_at (z ∷ xs) (suc i) (suc j) a b d lt x y = differ_at xs i j a b d.1 (omega (arith, lt)) x y

-- the one bit of a net without a range has the name of the net, a bit of a bus that of its number
abbrev IsOf : Shape → Bit → Type 0
IsOf (name, None) x = x.name ≡ name
IsOf (name, Some r) x = (k : ℕ) × (has_bit r k ≡ true) × (x.name ≡ name ++ tail k)

module _ (decl : ℕ) (name : Text) (role : PortRole) where
  bus_of : (r : ℕ × ℕ) (ks : List ℕ) → AllByRecursion (λ k. has_bit r k ≡ true) ks
      → AllByRecursion (IsOf (name, Some r)) (map (bus_bit decl name role) ks)
  bus_of r [] h = tt
  bus_of r (k ∷ ks) h = ((k, h.0, bit_name_is name k), bus_of r ks h.1)

  bits_of : (o : Option (ℕ × ℕ)) → AllByRecursion (IsOf (name, o)) (bits_by decl name role o)
  bits_of None = (refl, tt)
  bits_of (Some r) = bus_of r (numbers_of r) (numbers_are r).bits

  module _ (r : ℕ × ℕ) (bounds : IsBounded (Some r)) where
    bus_others : (k : ℕ) (js : List ℕ) → has_bit r k ≡ true → AllByRecursion (λ j. has_bit r j ≡ true) js → AllByRecursion (λ j. k ≡ j → ⊥) js
        → AllByRecursion (Differ (bus_bit decl name role k)) (map (bus_bit decl name role) js)
    bus_others k [] h hs d = tt
    bus_others k (j ∷ js) h hs d = (
      (λ e. d.0 (same_number name k j (bit_bounded (Some r) r k bounds refl h) (bit_bounded (Some r) r j bounds refl hs.0)
          (sym (bit_name_is name k) ∙ (e ∙ bit_name_is name j)))),
      bus_others k js h hs.1 d.1,
    )

    bus_differ : (ks : List ℕ) → AllByRecursion (λ k. has_bit r k ≡ true) ks → AreApart ks → AllDiffer (map (bus_bit decl name role) ks)
    bus_differ [] h a = tt
    bus_differ (k ∷ ks) h a = (bus_others k ks h.0 h.1 a.0, bus_differ ks h.1 a.1)

  own_differ : (o : Option (ℕ × ℕ)) → IsBounded o → AllDiffer (bits_by decl name role o)
  own_differ None bounds = (tt, tt)
  own_differ (Some r) bounds = bus_differ r bounds (numbers_of r) (numbers_are r).bits (numbers_are r).apart

-- bits of different nets have different names
two_differ : (s t : Shape) (x y : Bit) → IsDistinct s t → IsBounded s.1 → IsBounded t.1 → IsOf s x → IsOf t y → Differ x y
two_differ (m, None) (n, None) x y c bs bt a b e = c.differ (sym a ∙ (e ∙ b))
two_differ (m, None) (n, Some r) x y c bs bt a b e = c.second refl r b.0 refl b.1 (sym a ∙ (e ∙ b.2))
two_differ (m, Some q) (n, None) x y c bs bt a b e = c.first refl q a.0 refl a.1 (sym b ∙ (sym e ∙ a.2))
two_differ (m, Some q) (n, Some r) x y c bs bt a b e =
    c.differ (same_bus m n a.0 b.0 (bit_bounded (Some q) q a.0 bs refl a.1) (bit_bounded (Some r) r b.0 bt refl b.1) (sym a.2 ∙ (e ∙ b.2)))

rest_differ : (s : Shape) (x : Bit) (decl : ℕ) (nets : Nets) → IsBounded s.1 → IsOf s x → AllByRecursion (IsDistinct s) (shapes nets)
    → AllByRecursion (λ t. IsBounded t.1) (shapes nets) → AllByRecursion (Differ x) (bits_from decl nets)
rest_differ s x decl [] bs h c b = tt
rest_differ s x decl (e ∷ more) bs h c b =
    each-append (Differ x) (bits_by decl e.0 e.1.role e.1.range) (bits_from (decl + 1) more)
    (each-weaker (IsOf (shape e)) (Differ x) (λ y i. two_differ s (shape e) x y c.0 bs b.0 h i) (bits_by decl e.0 e.1.role e.1.range) (bits_of decl e.0 e.1.role e.1.range))
    (rest_differ s x (decl + 1) more bs h c.1 b.1)

all_differ : (decl : ℕ) (nets : Nets) → AreDistinct (shapes nets) → AllByRecursion (λ t. IsBounded t.1) (shapes nets) → AllDiffer (bits_from decl nets)
all_differ decl [] c b = tt
all_differ decl (e ∷ more) c b =
    differ-append (bits_by decl e.0 e.1.role e.1.range) (bits_from (decl + 1) more) (own_differ decl e.0 e.1.role e.1.range b.0) (all_differ (decl + 1) more c.1 b.1)
    (each-weaker (IsOf (shape e)) (λ x. AllByRecursion (Differ x) (bits_from (decl + 1) more))
    (λ x i. rest_differ (shape e) x (decl + 1) more b.0 i c.0 b.1) (bits_by decl e.0 e.1.role e.1.range) (bits_of decl e.0 e.1.role e.1.range))

-- ---- the netlist
net_names : (nets : Nets) → AllByRecursion (λ s. is_name s.0 ≡ true) (shapes nets) → AllByRecursion (λ e. IsShortName e.0) nets
net_names [] h = tt
net_names (e ∷ more) h = (short_name e.0 h.0, net_names more h.1)

pub own_names : (m : Netlist) → AreDistinct (shapes m.nets) → AllByRecursion (λ t. IsBounded t.1) (shapes m.nets) → HaveOwnNames m
unfolding bits
own_names m c b = record { differ = λ i j x y lt at bt. differ_at (bits_from 0 m.nets) i j x y (all_differ 0 m.nets c b) lt at bt }

pub netlist_sound : (m : Netlist) → IsFineModule m → IsSoundNetlist m
netlist_sound m h = record {
  nets = All-from_recursion (λ e. IsShortName e.0) m.nets (net_names m.nets h.nets.1.names);
  own = own_names m (clear_distinct (shapes m.nets) h.nets.1.clear) h.nets.1.bounded;
  instances = All-from_recursion IsSoundInstance m.instances h.instances;
}

-- ---- modules of a text
in_bounds : (o : Option (ℕ × ℕ)) → IsBounded o → IfSome o (λ r. (r.0 ≤ most_bit) × (r.1 ≤ most_bit))
in_bounds None h = tt
in_bounds (Some r) h = h r refl

net_ranges : (nets : Nets) → AllByRecursion (λ t. IsBounded t.1) (shapes nets) → AllByRecursion (λ e. IfSome e.1.range (λ r. (r.0 ≤ most_bit) × (r.1 ≤ most_bit))) nets
net_ranges [] h = tt
net_ranges (e ∷ more) h = (in_bounds e.1.range h.0, net_ranges more h.1)

pub module_sound : (m : Netlist) → IsFineModule m → IsSoundModule m
module_sound m h = record {
  nets = All-from_recursion (λ e. IsShortName e.0) m.nets (net_names m.nets h.nets.1.names);
  ranges = All-from_recursion (λ e. IfSome e.1.range (λ r. (r.0 ≤ most_bit) × (r.1 ≤ most_bit))) m.nets (net_ranges m.nets h.nets.1.bounded);
  instances = All-from_recursion IsSoundInstance m.instances h.instances;
}

-- ---- the modules of a text
module _ (bytes : List ℕ) (ms : List Netlist) where
  pub all_modules : modules_in (text_state false bytes) ≡ Ok ms → All IsSoundModule ms
  all_modules e = All-from_recursion IsSoundModule ms (each-weaker IsFineModule IsSoundModule module_sound ms (IfOk-at_ok (AllByRecursion IsFineModule) e (modules_fine false bytes)))

  pub all_netlists : modules_in (text_state true bytes) ≡ Ok ms → All IsSoundNetlist ms
  all_netlists e = All-from_recursion IsSoundNetlist ms (each-weaker IsFineModule IsSoundNetlist netlist_sound ms (IfOk-at_ok (AllByRecursion IsFineModule) e (modules_fine true bytes)))
