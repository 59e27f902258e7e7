-- Where bits stand among all bits of a netlist.
use Rattle.std.proofs.Common.{◌≡◌, ℕ, zero, suc, ◌+◌, ◌-◌, ◌<◌, ◌≤◌, Bool, true, false, cond, eqb, leb, ◌&&◌, List, [], ◌∷◌, ◌++◌, length, map, refl, sym, ap, ◌∙◌, arith, inl, inr, ◌⊎◌, append_assoc, length-append, take}
use Rattle.std.specs.Prelude.{Option, Some, None, option_map, position, nat_le}
use Rattle.std.specs.List.{position_from, slice_get}
use Rattle.std.specs.Option.{option_or}
use Rattle.std.proofs.lemmas.Bool.{cases_lt, cases_eq, eq-eqb, ne_eqb, le-leb, lt-leb}
use Rattle.std.proofs.lemmas.Iterator.Adapters.{position_from-zero}
use Rattle.std.proofs.lemmas.List.{take_more}
use Rattle.std.proofs.lemmas.Option.{slice_get_within, get_or_from_slice_get}
use Rattle.name_numbers.specs.Names.{Text}
use Rattle.verilog_net.specs.declared.netlist.Net.{Net}
use Rattle.verilog_net.specs.declared.netlist.PortRole.{PortRole}
use Rattle.verilog_net.specs.Nets.{Nets}
use Rattle.verilog_net.specs.Bits.{Bit, rising, falling, numbers_of, bus_bit, bits_by, bits_from, bits}
use Rattle.link_rules.specs.Bits.{is_bit}
use Rattle.link_index.specs.Bits.{width, offset}

-- the position, as a recursion
pub position_is : {B : Type 0} (p : B → Bool) (xs : List B) → position p xs ≡ position_from p 0 xs
position_is p xs = position_from-zero p xs

-- a value, or else none
pub or_none : {V : Type 0} (o : Option V) → option_or o None ≡ o
or_none None = refl
or_none (Some v) = refl

-- so far along
later : ℕ → Option ℕ → Option ℕ
later k o = option_map (λ i. k + i) o

pub from-append : {B : Type 0} (p : B → Bool) (i : ℕ) (xs ys : List B) → position_from p i (xs ++ ys) ≡ option_or (position_from p i xs) (position_from p (i + length xs) ys)
from-append p i [] ys = ap (λ k. position_from p k ys) (omega arith)
from-append p i (x ∷ xs) ys = by (p x) (from-append p (i + 1) xs ys ∙ ap (λ k. option_or (position_from p (i + 1) xs) (position_from p k ys)) (omega arith))
  where
    by : (b : Bool) → position_from p (i + 1) (xs ++ ys) ≡ option_or (position_from p (i + 1) xs) (position_from p (i + suc (length xs)) ys)
        → cond b (Some i) (position_from p (i + 1) (xs ++ ys)) ≡ option_or (cond b (Some i) (position_from p (i + 1) xs)) (position_from p (i + suc (length xs)) ys)
    by true h = refl
    by false h = h

pub length-rising : (f n : ℕ) → length (rising f n) ≡ n
length-rising f zero = refl
length-rising f (suc n) = ap suc (length-rising (f + 1) n)

pub length-falling : (f n : ℕ) → length (falling f n) ≡ n
length-falling f zero = refl
length-falling f (suc n) = ap suc (length-falling (f - 1) n)

length-mapped : {A B : Type 0} (g : A → B) (xs : List A) → length (map g xs) ≡ length xs
length-mapped g [] = refl
length-mapped g (x ∷ xs) = ap suc (length-mapped g xs)

-- how many numbers a bus has
pub length-numbers : (r : ℕ × ℕ) → length (numbers_of r) ≡ width (Some r)
length-numbers r = by (nat_le r.0 r.1)
  where
    by : (b : Bool) → length (cond b (rising r.0 (r.1 - r.0 + 1)) (falling r.0 (r.0 - r.1 + 1))) ≡ cond b (r.1 - r.0 + 1) (r.0 - r.1 + 1)
    by true = length-rising r.0 (r.1 - r.0 + 1)
    by false = length-falling r.0 (r.0 - r.1 + 1)

pub length-bits_by : (decl : ℕ) (name : Text) (role : PortRole) (r : Option (ℕ × ℕ)) → length (bits_by decl name role r) ≡ width r
length-bits_by decl name role None = refl
length-bits_by decl name role (Some r) = length-mapped (bus_bit decl name role) (numbers_of r) ∙ length-numbers r

pub from-parts : (decl : ℕ) (xs ys : Nets) → bits_from decl (xs ++ ys) ≡ bits_from decl xs ++ bits_from (decl + length xs) ys
from-parts decl [] ys = ap (λ k. bits_from k ys) (omega arith)
from-parts decl (x ∷ xs) ys =
    ap (λ t. bits_by decl x.0 x.1.role x.1.range ++ t) (from-parts (decl + 1) xs ys ∙ ap (λ k. bits_from (decl + 1) xs ++ bits_from k ys) (omega arith))
    ∙ sym (append_assoc (bits_by decl x.0 x.1.role x.1.range) (bits_from (decl + 1) xs) (bits_from (decl + suc (length xs)) ys))

from_mapped : {A B : Type 0} (p : B → Bool) (g : A → B) (i : ℕ) (xs : List A) → position_from p i (map g xs) ≡ position_from (λ x. p (g x)) i xs
from_mapped p g i [] = refl
from_mapped p g i (x ∷ xs) = ap (λ t. cond (p (g x)) (Some i) t) (from_mapped p g (i + 1) xs)

-- numbers that rise, and numbers that fall
rising_none : (b i f n : ℕ) → b < f → position_from (λ k. eqb k b) i (rising f n) ≡ None
rising_none b i f zero h = refl
rising_none b i f (suc n) h = rw (ne_eqb f b (λ e. omega (arith, e))) (rising_none b (i + 1) (f + 1) n (omega arith))

rising_past : (b i f n : ℕ) → f + n ≤ b → position_from (λ k. eqb k b) i (rising f n) ≡ None
rising_past b i f zero h = refl
rising_past b i f (suc n) h = rw (ne_eqb f b (λ e. omega (arith, e))) (rising_past b (i + 1) (f + 1) n (omega arith))

rising_there : (b i f n : ℕ) → f ≤ b → b < f + n → position_from (λ k. eqb k b) i (rising f n) ≡ Some (i + (b - f))
rising_there b i f zero h l = absurd (omega arith)
rising_there b i f (suc n) h l = elim (cases_eq f b) [
  | inl e ↦ rw (eq-eqb f b e) (ap Some (omega (arith, e)))
  | inr d ↦ rw (ne_eqb f b d) (rising_there b (i + 1) (f + 1) n (le_apart f b h d) (omega arith) ∙ ap Some (omega (arith, le_apart f b h d)))
]
  where
    le_apart : (x y : ℕ) → x ≤ y → (x ≡ y → ⊥) → x + 1 ≤ y
    le_apart x y le d = omega (arith, d)

falling_none : (b i f n : ℕ) → f < b → position_from (λ k. eqb k b) i (falling f n) ≡ None
falling_none b i f zero h = refl
falling_none b i f (suc n) h = rw (ne_eqb f b (λ e. omega (arith, e))) (falling_none b (i + 1) (f - 1) n (omega arith))

falling_past : (b i f n : ℕ) → b + n ≤ f → position_from (λ k. eqb k b) i (falling f n) ≡ None
falling_past b i f zero h = refl
falling_past b i f (suc n) h = rw (ne_eqb f b (λ e. omega (arith, e))) (falling_past b (i + 1) (f - 1) n (omega arith))

falling_there : (b i f n : ℕ) → b ≤ f → f < b + n → position_from (λ k. eqb k b) i (falling f n) ≡ Some (i + (f - b))
falling_there b i f zero h l = absurd (omega arith)
falling_there b i f (suc n) h l = elim (cases_eq f b) [
  | inl e ↦ rw (eq-eqb f b e) (ap Some (omega (arith, e)))
  | inr d ↦ rw (ne_eqb f b d) (falling_there b (i + 1) (f - 1) n (le_apart b f h d) (omega arith) ∙ ap Some (omega (arith, le_apart b f h d)))
]
  where
    le_apart : (x y : ℕ) → x ≤ y → (y ≡ x → ⊥) → x ≤ y - 1
    le_apart x y le d = omega (arith, d)

-- a bit among those of a net with this range
module _ (d b : ℕ) (name : Text) (role : PortRole) where
  on_bus : (i : ℕ) (ks : List ℕ) → position_from (is_bit d b) i (map (bus_bit d name role) ks) ≡ position_from (λ k. eqb k b) i ks
  on_bus i [] = refl
  on_bus i (k ∷ ks) = rw (eq-eqb d d refl) (ap (λ t. cond (eqb k b) (Some i) t) (on_bus (i + 1) ks))

  in_numbers : (i : ℕ) (r : ℕ × ℕ) → position_from (λ k. eqb k b) i (numbers_of r) ≡ option_map (λ o. i + o) (offset (Some r) b)
  in_numbers i r = elim (cases_lt r.1 r.0) [
    | inl down ↦ rw (lt-leb r.0 r.1 down) (falls down)
    | inr up ↦ rw (le-leb r.0 r.1 up) (rises up)
  ]
    where
      falls : r.1 < r.0 → position_from (λ k. eqb k b) i (falling r.0 (r.0 - r.1 + 1)) ≡ option_map (λ o. i + o) (offset (Some r) b)
      falls down = elim (cases_lt r.0 b) [
        | inl over ↦ rw (lt-leb b r.1 (omega arith), lt-leb b r.0 over, le-leb r.0 b (omega arith), le-leb r.1 b (omega arith)) (falling_none b i r.0 (r.0 - r.1 + 1) over)
        | inr within ↦ elim (cases_lt b r.1) [
          | inl under ↦ rw (lt-leb r.0 b (omega arith), lt-leb r.1 b under) (falling_past b i r.0 (r.0 - r.1 + 1) (omega arith))
          | inr above ↦ in_range within above (cases_eq r.0 b)
        ]
      ]
        where
          in_range : b ≤ r.0 → r.1 ≤ b → (r.0 ≡ b) ⊎ (r.0 ≡ b → ⊥) → position_from (λ k. eqb k b) i (falling r.0 (r.0 - r.1 + 1)) ≡ option_map (λ o. i + o) (offset (Some r) b)
          in_range le ge (inl e) = rw (le-leb r.0 b (omega (arith, e)), lt-leb b r.1 (omega (arith, e)), le-leb r.1 b ge, le-leb b r.0 le) (falling_there b i r.0 (r.0 - r.1 + 1) le (omega arith))
          in_range le ge (inr d) = rw (lt-leb r.0 b (apart_lt r.0 b le d), le-leb r.1 b ge, le-leb b r.0 le) (falling_there b i r.0 (r.0 - r.1 + 1) le (omega arith))
            where
              apart_lt : (x y : ℕ) → y ≤ x → (x ≡ y → ⊥) → y < x
              apart_lt x y l n = omega (arith, n)

      rises : r.0 ≤ r.1 → position_from (λ k. eqb k b) i (rising r.0 (r.1 - r.0 + 1)) ≡ option_map (λ o. i + o) (offset (Some r) b)
      rises up = elim (cases_lt b r.0) [
        | inl under ↦ rw (lt-leb r.0 b under) (below (cases_lt b r.1) under)
        | inr above ↦ elim (cases_lt r.1 b) [
          | inl over ↦ rw (le-leb r.0 b above, lt-leb b r.1 over, le-leb r.1 b (omega arith)) (beyond over above (cases_lt r.0 b))
          | inr within ↦ rw (le-leb r.0 b above, le-leb b r.1 within) (rising_there b i r.0 (r.1 - r.0 + 1) above (omega arith))
        ]
      ]
        where
          below : (b < r.1) ⊎ (r.1 ≤ b) → b < r.0 → position_from (λ k. eqb k b) i (rising r.0 (r.1 - r.0 + 1)) ≡ option_map (λ o. i + o) (cond (leb r.1 b && leb b r.0) (Some (r.0 - b)) None)
          below (inl lt) under = rw (lt-leb r.1 b lt) (rising_none b i r.0 (r.1 - r.0 + 1) under)
          below (inr le) under = absurd (omega arith)

          beyond : r.1 < b → r.0 ≤ b → (r.0 < b) ⊎ (b ≤ r.0) → position_from (λ k. eqb k b) i (rising r.0 (r.1 - r.0 + 1)) ≡ option_map (λ o. i + o) (cond (leb b r.0) (Some (r.0 - b)) None)
          beyond over above (inl lt) = rw (lt-leb b r.0 lt) (rising_past b i r.0 (r.1 - r.0 + 1) (omega arith))
          beyond over above (inr le) = absurd (omega arith)

  pub on_net : (i : ℕ) (r : Option (ℕ × ℕ)) → position_from (is_bit d b) i (bits_by d name role r) ≡ option_map (λ o. i + o) (offset r b)
  on_net i None = elim (cases_eq b 0) [
    | inl e ↦ rw (eq-eqb d d refl, eq-eqb b 0 e, eq-eqb 0 b (sym e)) (ap Some (omega arith))
    | inr n ↦ rw (eq-eqb d d refl, ne_eqb b 0 n, ne_eqb 0 b (λ e. n (sym e))) refl
  ]
  on_net i (Some r) = on_bus i (numbers_of r) ∙ in_numbers i r

-- no bit of another net
module _ (d b other : ℕ) (apart : other ≡ d → ⊥) (name : Text) (role : PortRole) where
  off_bus : (i : ℕ) (ks : List ℕ) → position_from (is_bit d b) i (map (bus_bit other name role) ks) ≡ None
  off_bus i [] = refl
  off_bus i (k ∷ ks) = rw (ne_eqb other d apart) (off_bus (i + 1) ks)

  off_net : (i : ℕ) (r : Option (ℕ × ℕ)) → position_from (is_bit d b) i (bits_by other name role r) ≡ None
  off_net i None = rw (ne_eqb other d apart) refl
  off_net i (Some r) = off_bus i (numbers_of r)

past : (d b i from : ℕ) (nets : Nets) → d < from → position_from (is_bit d b) i (bits_from from nets) ≡ None
past d b i from [] h = refl
past d b i from (x ∷ xs) h =
    from-append (is_bit d b) i (bits_by from x.0 x.1.role x.1.range) (bits_from (from + 1) xs)
    ∙ rw (off_net d b from (λ e. omega (arith, e)) x.0 x.1.role i x.1.range) (past d b (i + length (bits_by from x.0 x.1.role x.1.range)) (from + 1) xs (omega arith))

-- where a bit stands, when that many bits are before those of its net
abbrev pub stands_at : ℕ → Option (Text × Net) → ℕ → Option ℕ
stands_at start None b = None
stands_at start (Some e) b = option_map (λ o. start + o) (offset e.1.range b)

in_from : (d b i from k : ℕ) (nets : Nets) → d ≡ from + k
    → position_from (is_bit d b) i (bits_from from nets) ≡ stands_at (i + length (bits_from from (take k nets))) (slice_get nets k) b
in_from d b i from zero [] e = refl
in_from d b i from zero (x ∷ xs) e =
    let same : d ≡ from = omega (arith, e) in
    from-append (is_bit d b) i (bits_by from x.0 x.1.role x.1.range) (bits_from (from + 1) xs)
    ∙ rw (past d b (i + length (bits_by from x.0 x.1.role x.1.range)) (from + 1) xs (omega (arith, e))) (
    or_none (position_from (is_bit d b) i (bits_by from x.0 x.1.role x.1.range))
    ∙ ap (λ f. position_from (is_bit d b) i (bits_by f x.0 x.1.role x.1.range)) (sym same)
    ∙ on_net d b x.0 x.1.role i x.1.range
    ∙ ap (λ s. option_map (λ o. s + o) (offset x.1.range b)) (plus_none i))
  where
    plus_none : (n : ℕ) → n ≡ n + 0
    plus_none n = omega arith
in_from d b i from (suc k) [] e = refl
in_from d b i from (suc k) (x ∷ xs) e =
    let first : List Bit = bits_by from x.0 x.1.role x.1.range in
    from-append (is_bit d b) i first (bits_from (from + 1) xs)
    ∙ rw (off_net d b from (λ f. omega (arith, e, f)) x.0 x.1.role i x.1.range) (
    in_from d b (i + length first) (from + 1) k xs (omega (arith, e))
    ∙ ap (λ s. stands_at s (slice_get xs k) b) (regroup i (length first) (length (bits_from (from + 1) (take k xs))) ∙ ap (λ n. i + n) (sym (length-append first (bits_from (from + 1) (take k xs))))))
  where
    regroup : (a c e : ℕ) → a + c + e ≡ a + (c + e)
    regroup a c e = omega arith

pub net_is : (nets : Nets) (d b : ℕ) → position (is_bit d b) (bits_from 0 nets) ≡ stands_at (length (bits_from 0 (take d nets))) (slice_get nets d) b
net_is nets d b =
    position_is (is_bit d b) (bits_from 0 nets) ∙ in_from d b 0 0 d nets (omega arith)
    ∙ ap (λ s. stands_at s (slice_get nets d) b) (none_plus (length (bits_from 0 (take d nets))))
  where
    none_plus : (n : ℕ) → 0 + n ≡ n
    none_plus n = omega arith

-- all bits, numbered from the first net on
pub bits_are : (nets : Nets) → bits nets ≡ bits_from 0 nets
unfolding bits
bits_are nets = refl

place_is : (nets : Nets) (d b : ℕ) → position (is_bit d b) (bits nets) ≡ stands_at (length (bits (take d nets))) (slice_get nets d) b
place_is nets d b =
    ap (position (is_bit d b)) (bits_are nets) ∙ net_is nets d b
    ∙ ap (λ l. stands_at (length l) (slice_get nets d) b) (sym (bits_are (take d nets)))

-- where a bit stands: nowhere without its net, nowhere where its net has no such bit, and else behind the bits of the
-- nets before
pub bit_nowhere : (nets : Nets) (d b : ℕ) → slice_get nets d ≡ None → position (is_bit d b) (bits nets) ≡ None
bit_nowhere nets d b h = place_is nets d b ∙ ap (λ o. stands_at (length (bits (take d nets))) o b) h

pub bit_off : (nets : Nets) (d b : ℕ) (e : Text × Net) → slice_get nets d ≡ Some e → offset e.1.range b ≡ None → position (is_bit d b) (bits nets) ≡ None
bit_off nets d b e h o =
    place_is nets d b ∙ ap (λ x. stands_at (length (bits (take d nets))) x b) h ∙ ap (option_map (λ x. length (bits (take d nets)) + x)) o

pub bit_there : (nets : Nets) (d b k : ℕ) (e : Text × Net) → slice_get nets d ≡ Some e → offset e.1.range b ≡ Some k
    → position (is_bit d b) (bits nets) ≡ Some (length (bits (take d nets)) + k)
bit_there nets d b k e h o =
    place_is nets d b ∙ ap (λ x. stands_at (length (bits (take d nets))) x b) h ∙ ap (option_map (λ x. length (bits (take d nets)) + x)) o

-- ---- the bits of the first nets

-- the bits of one net more
pub bits_more : (nets : Nets) (k : ℕ) (e : Text × Net) → slice_get nets k ≡ Some e
    → length (bits_from 0 (take (k + 1) nets)) ≡ length (bits_from 0 (take k nets)) + width e.1.range
bits_more nets k e there =
    ap (λ t. length (bits_from 0 t)) (one_more k nets e there)
    ∙ ap length (from-parts 0 (take k nets) (e ∷ []))
    ∙ length-append (bits_from 0 (take k nets)) (bits_from (0 + length (take k nets)) (e ∷ []))
    ∙ ap (λ n. length (bits_from 0 (take k nets)) + n) (
    length-append (bits_by (0 + length (take k nets)) e.0 e.1.role e.1.range) []
    ∙ omega (arith, length-bits_by (0 + length (take k nets)) e.0 e.1.role e.1.range))
  where
    one_more : {X : Type 0} (i : ℕ) (xs : List X) (x : X) → slice_get xs i ≡ Some x → take (i + 1) xs ≡ take i xs ++ x ∷ []
    one_more i xs x h = take_more xs i x (slice_get_within xs i x h) ∙ ap (λ y. take i xs ++ y ∷ []) (get_or_from_slice_get xs i x x h)
