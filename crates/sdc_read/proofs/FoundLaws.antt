-- What is found for a bit behind mentions.
use Rattle.std.proofs.Common.{◌≡◌, refl, sym, ap, ◌∙◌, subst, ℕ, zero, suc, ◌+◌, ◌-◌, ◌≤◌, [], ◌∷◌, length, arith}
use Rattle.std.specs.Prelude.{List, Bool, true, false, not, ◌&&◌, ◌||◌, ◌==◌, if◌then◌else◌, nat_le, nat_lt, Option, Some, None}
use Rattle.std.specs.List.{slice_get}
use Rattle.std.proofs.lemmas.Bool.Decides.{nat_tests}
use Rattle.std.proofs.lemmas.Option.{slice_get_past}
use Rattle.verilog_net.specs.declared.netlist.Net.{Net}
use Rattle.verilog_net.specs.declared.netlist.PortRole.{PortRole}
use Rattle.verilog_net.specs.declared.netlist.PortRole.TheVariants.{Input, Output, Inner}
use Rattle.verilog_net.specs.declared.port.PortFound.{PortFound}
use Rattle.verilog_net.specs.declared.port.PortFound.TheVariants as found_ports
use Rattle.verilog_net.specs.Ports.{bits_by}
use Rattle.sdc_read.specs.declared.change.Bits as of_code
use Rattle.sdc_read.specs.declared.change.Change.{Change}
use Rattle.sdc_read.specs.declared.mentions.Mention.{Mention}
use Rattle.sdc_read.specs.declared.ports.PortBit.{PortBit}
use Rattle.sdc_read.specs.declared.ports.PortSides.{PortSides}
use Rattle.sdc_read.specs.declared.set_numbers.SetNumbers.{SetNumbers}
use Rattle.sdc_read.specs.Ports.{Ports, same_bit, found_sides, with_sides}
use Rattle.sdc_read.specs.Changes.{Bits, changed, or_unset, is_input_delay, is_clock, change_bit, bit_at, bit_count, over_first, change_bits, role_for}
use Rattle.sdc_read.specs.Objects.{any_below, bits_if, same_role, change_if, over_all}
use Rattle.sdc_read.specs.Mentions.{found_bits, port_bits, step_for, step, told, is_within, has_bit, role_by, role_at, is_role, names_bit, hits}
use Rattle.sdc_read.specs.Levels.{over_set, put_if, set_by}
use Rattle.sdc_read.specs.View.{bits_text}
use Rattle.sdc_read.proofs.NumberLaws.{changed_twice, over_changed}
use Rattle.sdc_read.proofs.PortLaws.{same_bits}

-- what is found once a command has changed a bit, or not
abbrev mark : Bool → Change → Option PortSides → Option PortSides
mark true c o = Some (changed c (or_unset o))
mark false c o = o

mark_twice : (a b : Bool) (c : Change) (o : Option PortSides) → mark b c (mark a c o) ≡ mark (a || b) c o
mark_twice true true c o = ap Some (changed_twice c (or_unset o))
mark_twice true false c o = refl
mark_twice false true c o = refl
mark_twice false false c o = refl

-- ---- one bit

same_self : (b : PortBit) → same_bit b b ≡ true
same_self b = grind (arith, nat_tests)

set_by_same : (u : Bool) (v x f : Option PortSides) → (if u then v else f) ≡ (if u then v else (if u then x else f))
set_by_same true v x f = refl
set_by_same false v x f = refl

set_by_other : (a b : Bool) (v x f : Option PortSides) → (a && b) ≡ false
    → (if a then x else (if b then v else f)) ≡ (if b then v else (if a then x else f))
set_by_other true true v x f h = absurd (cc)
set_by_other true false v x f h = refl
set_by_other false true v x f h = refl
set_by_other false false v x f h = refl

found_set_by : (t : Bool) (at b : PortBit) (v : PortSides) (e : PortBit × PortSides) (es : Ports) → same_bit b e.0 ≡ t
    → found_sides at (with_sides b v es) ≡ (if same_bit at b then Some v else found_sides at es)
    → found_sides at (if t then (e.0, v) ∷ es else e ∷ with_sides b v es)
    ≡ (if same_bit at b then Some v else (if same_bit at e.0 then Some e.1 else found_sides at es))
found_set_by true at b v e es h rest =
    ap (λ k. if same_bit at k then Some v else found_sides at es) (sym (same_bits b e.0 h))
    ∙ (set_by_same (same_bit at b) (Some v) (Some e.1) (found_sides at es)
    ∙ ap (λ k. if same_bit at b then Some v else (if same_bit at k then Some e.1 else found_sides at es)) (same_bits b e.0 h))
found_set_by false at b v e es h rest =
    let apart : (same_bit at e.0 && same_bit at b) ≡ false = grind (arith, nat_tests) in
    ap (λ r. if same_bit at e.0 then Some e.1 else r) rest
    ∙ set_by_other (same_bit at e.0) (same_bit at b) (Some v) (Some e.1) (found_sides at es) apart

-- what is found once a bit is set
found_set : (at b : PortBit) (v : PortSides) (ps : Ports)
    → found_sides at (with_sides b v ps) ≡ (if same_bit at b then Some v else found_sides at ps)
found_set at b v [] = refl
found_set at b v (e ∷ es) = found_set_by (same_bit b e.0) at b v e es refl (found_set at b v es)

if_true : {A : Type 0} (t : Bool) (x y : A) → t ≡ true → (if t then x else y) ≡ x
if_true true x y h = refl
if_true false x y h = absurd (cc)

if_false : {A : Type 0} (t : Bool) (x y : A) → t ≡ false → (if t then x else y) ≡ y
if_false true x y h = absurd (cc)
if_false false x y h = refl

module _ (clock : Option PortBit) (c : Change) (at : PortBit) where
  -- the command ignores the bit
  abbrev ignores : Bool
  ignores = is_input_delay c && is_clock clock at

  at_same : (x : Bool) (ps : Ports)
      → found_sides at (if x then ps else with_sides at (changed c (or_unset (found_sides at ps))) ps)
      ≡ mark (not x) c (found_sides at ps)
  at_same true ps = refl
  at_same false ps =
      found_set at at (changed c (or_unset (found_sides at ps))) ps
      ∙ if_true (same_bit at at) (Some (changed c (or_unset (found_sides at ps)))) (found_sides at ps) (same_self at)

  at_other : (x : Bool) (b : PortBit) (v : PortSides) (ps : Ports) → same_bit at b ≡ false
      → found_sides at (if x then ps else with_sides b v ps) ≡ found_sides at ps
  at_other true b v ps h = refl
  at_other false b v ps h = found_set at b v ps ∙ if_false (same_bit at b) (Some v) (found_sides at ps) h

  bit_by : (t : Bool) (b : PortBit) (ps : Ports) → same_bit at b ≡ t
      → found_sides at (change_bit clock c b ps) ≡ mark (t && not ignores) c (found_sides at ps)
  bit_by true b ps h =
      let P : PortBit → Type 0 = λ k. found_sides at (change_bit clock c k ps) ≡ mark (not ignores) c (found_sides at ps) in
      subst P (same_bits at b h) (at_same ignores ps)
  bit_by false b ps h =
      at_other (is_input_delay c && is_clock clock b) b (changed c (or_unset (found_sides b ps))) ps h

  found_bit : (b : PortBit) (ps : Ports)
      → found_sides at (change_bit clock c b ps) ≡ mark (same_bit at b && not ignores) c (found_sides at ps)
  found_bit b ps = bit_by (same_bit at b) b ps refl

  -- steps, of which each changes the bit or not
  over_found : (h : ℕ → Bool) (f : ℕ → Ports → Ports)
      → ((i : ℕ) (ps : Ports) → found_sides at (f i ps) ≡ mark (h i) c (found_sides at ps)) → (n : ℕ) (ps : Ports)
      → found_sides at (over_first f n ps) ≡ mark (any_below h n) c (found_sides at ps)
  over_found h f step zero ps = refl
  over_found h f step (suc n) ps =
      step n (over_first f n ps)
      ∙ (ap (mark (h n) c) (over_found h f step n ps) ∙ mark_twice (any_below h n) (h n) c (found_sides at ps))

-- ---- some number below one

or_and : (a b y : Bool) → ((a && y) || (b && y)) ≡ ((a || b) && y)
or_and true b true = refl
or_and true true false = refl
or_and true false false = refl
or_and false b y = refl

any_and : (p : ℕ → Bool) (y : Bool) (n : ℕ) → any_below (λ i. p i && y) n ≡ (any_below p n && y)
any_and p y zero = refl
any_and p y (suc n) = ap (λ a. a || (p n && y)) (any_and p y n) ∙ or_and (any_below p n) (p n) y

none_below : (n : ℕ) → any_below (λ i. false) n ≡ false
none_below zero = refl
none_below (suc n) = ap (λ a. a || false) (none_below n)

and_any : (z : Bool) (p : ℕ → Bool) (n : ℕ) → any_below (λ i. z && p i) n ≡ (z && any_below p n)
and_any true p n = refl
and_any false p n = none_below n

up_step : (f x n : ℕ) → ((nat_le f x && nat_lt x (f + n)) || x == f + n) ≡ (nat_le f x && nat_lt x (f + suc n))
up_step f x n = grind (arith, nat_tests)

up : (f x n : ℕ) → any_below (λ i. x == f + i) n ≡ (nat_le f x && nat_lt x (f + n))
up f x zero = grind (arith, nat_tests)
up f x (suc n) = ap (λ a. a || x == f + n) (up f x n) ∙ up_step f x n

down_step : (f x n : ℕ) → n ≤ f
    → ((nat_le x f && nat_lt f (x + n)) || x == f - n) ≡ (nat_le x f && nat_lt f (x + suc n))
down_step f x n h = grind (arith, nat_tests)

down : (f x n : ℕ) → n ≤ f + 1 → any_below (λ i. x == f - i) n ≡ (nat_le x f && nat_lt f (x + n))
down f x zero h = grind (arith, nat_tests)
down f x (suc n) h =
    ap (λ a. a || x == f - n) (down f x n (omega arith)) ∙ down_step f x n (omega arith)

any_by : (t : Bool) (f l x : ℕ) → nat_le f l ≡ t
    → any_below (λ i. x == (if t then f + i else f - i)) (if t then l - f + 1 else f - l + 1)
    ≡ (if t then nat_le f x && nat_le x l else nat_le l x && nat_le x f)
any_by true f l x h =
    let k : (nat_le f x && nat_lt x (f + (l - f + 1))) ≡ (nat_le f x && nat_le x l) = grind (arith, nat_tests) in
    up f x (l - f + 1) ∙ k
any_by false f l x h =
    let few : f - l + 1 ≤ f + 1 = omega arith in
    let k : (nat_le x f && nat_lt f (x + (f - l + 1))) ≡ (nat_le l x && nat_le x f) = grind (arith, nat_tests) in
    down f x (f - l + 1) few ∙ k

any_within : (f l x : ℕ) → any_below (λ i. x == bit_at f l i) (bit_count f l) ≡ is_within f l x
any_within f l x = any_by (nat_le f l) f l x refl

-- only one number passes
one_step : (h : ℕ → Bool) (k n : ℕ) (t : Bool) → (n == k) ≡ t → ((n == k) ≡ false → h n ≡ false)
    → ((nat_lt k n && h k) || h n) ≡ (nat_lt k (suc n) && h k)
one_step h k n true e apart =
    let same : n ≡ k = grind (arith, nat_tests) in
    let a : nat_lt k n ≡ false = grind (arith, nat_tests) in
    let b : nat_lt k (suc n) ≡ true = grind (arith, nat_tests) in
    rw (a, b, same) refl
one_step h k n false e apart =
    let a : nat_lt k n ≡ nat_lt k (suc n) = grind (arith, nat_tests) in
    rw (apart e, a) (or_nothing (nat_lt k (suc n) && h k))
  where
    or_nothing : (a : Bool) → (a || false) ≡ a
    or_nothing true = refl
    or_nothing false = refl

only_one : (h : ℕ → Bool) (k : ℕ) → ((i : ℕ) → (i == k) ≡ false → h i ≡ false) → (n : ℕ)
    → any_below h n ≡ (nat_lt k n && h k)
only_one h k apart zero = let a : nat_lt k 0 ≡ false = grind (arith, nat_tests) in rw a refl
only_one h k apart (suc n) =
    ap (λ a. a || h n) (only_one h k apart n) ∙ one_step h k n (n == k) refl (apart n)

-- ---- ports

abbrev has_if : Option Bits → PortBit → Bool
has_if (Some b) at = has_bit b at
has_if None at = false

module _ (clock : Option PortBit) (c : Change) (at : PortBit) where
  found_bits_of : (b : Bits) (ps : Ports)
      → found_sides at (change_bits clock c b ps)
      ≡ mark (has_bit b at && not (is_input_delay c && is_clock clock at)) c (found_sides at ps)
  unfolding change_bits
  found_bits_of b ps =
      let y : Bool = not (is_input_delay c && is_clock clock at) in
      over_found clock c at (λ i. same_bit at (record { decl = b.0; bit = bit_at b.1 b.2 i }) && y)
      (λ i. change_bit clock c (record { decl = b.0; bit = bit_at b.1 b.2 i }))
      (λ i qs. found_bit clock c at (record { decl = b.0; bit = bit_at b.1 b.2 i }) qs) (bit_count b.1 b.2) ps
      ∙ ap (λ t. mark t c (found_sides at ps))
      (any_and (λ i. same_bit at (record { decl = b.0; bit = bit_at b.1 b.2 i })) y (bit_count b.1 b.2)
      ∙ ap (λ t. t && y)
      (and_any (at.decl == b.0) (λ i. at.bit == bit_at b.1 b.2 i) (bit_count b.1 b.2)
      ∙ ap (λ t. at.decl == b.0 && t) (any_within b.1 b.2 at.bit)))

  found_if : (o : Option Bits) (ps : Ports)
      → found_sides at (change_if clock c o ps)
      ≡ mark (has_if o at && not (is_input_delay c && is_clock clock at)) c (found_sides at ps)
  found_if (Some b) ps = found_bits_of b ps
  found_if None ps = refl

module _ (wanted : PortRole) (at : PortBit) where
  apart_by : (i : ℕ) (f : PortFound) → (i == at.decl) ≡ false
      → ((first last : ℕ) (role : PortRole) (d : ℕ) → f ≡ found_ports.Bits d first last role → d ≡ i)
      → has_if (bits_if wanted f) at ≡ false
  apart_by i found_ports.Absent h k = refl
  apart_by i (found_ports.Bits d first last role) h k = apart_role (same_role wanted role) (k first last role d refl)
    where
      apart_role : (t : Bool) → d ≡ i → has_if (if t then Some (d, first, last) else None) at ≡ false
      apart_role true e = let a : (at.decl == d) ≡ false = grind (arith, nat_tests) in rw a refl
      apart_role false e = refl

  decl_by : (i : ℕ) (range : Option (ℕ × ℕ)) (role : PortRole) (first last : ℕ) (r : PortRole) (d : ℕ)
      → bits_by i range role ≡ found_ports.Bits d first last r → d ≡ i
  decl_by i (Some range) role first last r d h = cc
  decl_by i None Input first last r d h = cc
  decl_by i None Output first last r d h = cc
  decl_by i None Inner first last r d h = absurd (cc)

  decl_in : (i : ℕ) (o : Option Net) (first last : ℕ) (r : PortRole) (d : ℕ)
      → found_bits i o ≡ found_ports.Bits d first last r → d ≡ i
  decl_in i None first last r d h = absurd (cc)
  decl_in i (Some net) first last r d h = decl_by i net.range net.role first last r d h

  here_by : (f : PortFound) → ((first last : ℕ) (role : PortRole) (d : ℕ) → f ≡ found_ports.Bits d first last role → d ≡ at.decl)
      → has_if (bits_if wanted f) at ≡ is_role wanted (role_by at.bit f)
  here_by found_ports.Absent k = refl
  here_by (found_ports.Bits d first last role) k =
      here_role (same_role wanted role) (is_within first last at.bit) refl refl (k first last role d refl)
    where
      here_role : (t w : Bool) → same_role wanted role ≡ t → is_within first last at.bit ≡ w → d ≡ at.decl
          → has_if (if t then Some (d, first, last) else None) at ≡ is_role wanted (if w then Some role else None)
      here_role true true e i same = let a : (at.decl == d) ≡ true = grind (arith, nat_tests) in rw (a, i, e) refl
      here_role true false e i same = let a : (at.decl == d) ≡ true = grind (arith, nat_tests) in rw (a, i) refl
      here_role false true e i same = sym e
      here_role false false e i same = refl

  module _ (ns : List Net) where
    past_by : (t : Bool) → nat_lt at.decl (length ns) ≡ t
        → (t && has_if (port_bits wanted ns at.decl) at) ≡ has_if (port_bits wanted ns at.decl) at
    past_by true h = refl
    past_by false h =
        let past : length ns ≤ at.decl = grind (arith, nat_tests) in
        sym (ap (λ o. has_if (bits_if wanted (found_bits at.decl o)) at) (slice_get_past ns at.decl past))

    -- the one port that has the bit
    any_port : any_below (λ i. has_if (port_bits wanted ns i) at) (length ns) ≡ is_role wanted (role_at ns at)
    any_port =
        only_one (λ i. has_if (port_bits wanted ns i) at) at.decl
        (λ i h. apart_by i (found_bits i (slice_get ns i)) h (decl_in i (slice_get ns i))) (length ns)
        ∙ (past_by (nat_lt at.decl (length ns)) refl
        ∙ here_by (found_bits at.decl (slice_get ns at.decl)) (decl_in at.decl (slice_get ns at.decl)))

module _ (ns : List Net) (at : PortBit) where
  found_step_for : (clock : Option PortBit) (c : Change) (o : Option of_code.Bits) (ps : Ports)
      → found_sides at (step_for ns clock c o ps)
      ≡ mark (names_bit ns (role_for c) o at && not (is_input_delay c && is_clock clock at)) c (found_sides at ps)
  found_step_for clock c (Some b) ps = found_bits_of clock c at (bits_text b) ps
  found_step_for clock c None ps =
      let y : Bool = not (is_input_delay c && is_clock clock at) in
      over_found clock c at (λ i. has_if (port_bits (role_for c) ns i) at && y)
      (λ i. change_if clock c (port_bits (role_for c) ns i)) (λ i qs. found_if clock c at (port_bits (role_for c) ns i) qs) (length ns) ps
      ∙ ap (λ t. mark t c (found_sides at ps))
      (any_and (λ i. has_if (port_bits (role_for c) ns i) at) y (length ns) ∙ ap (λ t. t && y) (any_port (role_for c) at ns))

  set_on : (h : Bool) (c : Change) (s : Option SetNumbers) (o : Option PortSides)
      → over_set s (mark h c o) ≡ over_set (put_if h c s) o
  set_on true c s o = over_changed s c o
  set_on false c s o = refl

  found_over : (ms : List Mention) (ps : Ports)
      → found_sides at (over_all (step ns) ms ps) ≡ over_set (set_by ns at ms) (found_sides at ps)
  found_over [] ps = refl
  found_over (m ∷ ms) ps =
      found_over ms (step ns m ps)
      ∙ (ap (over_set (set_by ns at ms)) (found_step_for m.clock m.change m.bits ps)
      ∙ set_on (hits ns m at) m.change (set_by ns at ms) (found_sides at ps))

  -- what mentions set for a bit is what is found for it
  pub found_told : (ms : List Mention) → found_sides at (told ns ms) ≡ over_set (set_by ns at ms) None
  found_told ms = found_over ms []
