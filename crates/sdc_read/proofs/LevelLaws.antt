-- What levels hold for a bit is what mentions set for it.
use Rattle.std.proofs.Common.{◌≡◌, refl, sym, ap, ◌∙◌, subst, ℕ, [], ◌∷◌, arith}
use Rattle.std.specs.Prelude.{List, Bool, true, false, not, ◌&&◌, ◌==◌, if◌then◌else◌, nat_le, Option, Some, None, IfSome}
use Rattle.std.specs.List.{slice_get}
use Rattle.std.specs.Map.{lookup}
use Rattle.std.proofs.lemmas.Bool.Decides.{nat_tests}
use Rattle.std.proofs.lemmas.List.Elements.{All-head, All-tail}
use Rattle.indexmap.specs.IndexMap.{insert_entry}
use Rattle.verilog_net.specs.declared.netlist.Net.{Net}
use Rattle.verilog_net.specs.declared.netlist.PortRole.{PortRole}
use Rattle.verilog_net.specs.declared.netlist.PortRole.TheVariants.{Input, Output, Inner}
use Rattle.verilog_net.specs.declared.port.PortFound.{PortFound}
use Rattle.verilog_net.specs.declared.port.PortFound.TheVariants as found_ports
use Rattle.sdc_read.specs.declared.change.Bits as of_code
use Rattle.sdc_read.specs.declared.change.Change.{Change}
use Rattle.sdc_read.specs.declared.mentions.Mention.{Mention}
use Rattle.sdc_read.specs.declared.ports.PortBit.{PortBit}
use Rattle.sdc_read.specs.declared.set_numbers.SetNumbers.{SetNumbers}
use Rattle.sdc_read.specs.Ports.{same_bit}
use Rattle.sdc_read.specs.Changes.{Bits, is_input_delay, is_clock, role_for}
use Rattle.sdc_read.specs.Objects.{bits_if, same_role}
use Rattle.sdc_read.specs.Mentions.{found_bits, port_bits, is_within, has_bit, role_by, role_at, is_role, names_bit, Fits, AllFit, IsPlace}
use Rattle.sdc_read.specs.Levels.{Levels, no_levels, or_set, put, put_if, set_by, for_role, for_port, for_rest, for_bit, with_bit, with_port, with_role, with_all, with_place, levels_of}
use Rattle.sdc_read.specs.View.{bits_text}
use Rattle.sdc_read.proofs.NumberLaws.{put_over, put_under}
use Rattle.sdc_read.proofs.PortLaws.{same_bits}

-- ---- a table of bits, and one of ports

by_two : {V : Type 0} (a b : Bool) (v x : V) (f : Option V) → (a && b) ≡ false
    → (if a then Some x else (if b then Some v else f)) ≡ (if b then Some v else (if a then Some x else f))
by_two true true v x f h = absurd (cc)
by_two true false v x f h = refl
by_two false true v x f h = refl
by_two false false v x f h = refl

by_same : {V : Type 0} (u : Bool) (v x : V) (f : Option V)
    → (if u then Some v else f) ≡ (if u then Some v else (if u then Some x else f))
by_same true v x f = refl
by_same false v x f = refl

module _ {K V : Type 0} (same : K → K → Bool) (q b : K) (v : V) (equal : (x y : K) → same x y ≡ true → x ≡ y)
    (apart : (x : K) → same b x ≡ false → (same q x && same q b) ≡ false) where
  found_by : (t : Bool) (e : K × V) (es : List (K × V)) → same b e.0 ≡ t
      → lookup (same q) (insert_entry same es b v) ≡ (if same q b then Some v else lookup (same q) es)
      → lookup (same q) (if t then (e.0, v) ∷ es else e ∷ insert_entry same es b v)
      ≡ (if same q b then Some v else (if same q e.0 then Some e.1 else lookup (same q) es))
  found_by true e es h rest =
      ap (λ k. if same q k then Some v else lookup (same q) es) (sym (equal b e.0 h))
      ∙ (by_same (same q b) v e.1 (lookup (same q) es)
      ∙ ap (λ k. if same q b then Some v else (if same q k then Some e.1 else lookup (same q) es)) (equal b e.0 h))
  found_by false e es h rest =
      ap (λ r. if same q e.0 then Some e.1 else r) rest
      ∙ by_two (same q e.0) (same q b) v e.1 (lookup (same q) es) (apart e.0 h)

  -- what is found once a value is put
  found_put : (es : List (K × V))
      → lookup (same q) (insert_entry same es b v) ≡ (if same q b then Some v else lookup (same q) es)
  found_put [] = refl
  found_put (e ∷ es) = found_by (same b e.0) e es refl (found_put es)

bit_put : (q b : PortBit) (v : SetNumbers) (es : List (PortBit × SetNumbers))
    → lookup (same_bit q) (insert_entry same_bit es b v) ≡ (if same_bit q b then Some v else lookup (same_bit q) es)
bit_put q b v es = found_put same_bit q b v same_bits (λ x h. let k : (same_bit q x && same_bit q b) ≡ false = grind (arith, nat_tests) in k) es

port_put : (q b : ℕ) (v : SetNumbers) (es : List (ℕ × SetNumbers))
    → lookup (λ d. q == d) (insert_entry (λ x y. x == y) es b v) ≡ (if q == b then Some v else lookup (λ d. q == d) es)
port_put q b v es =
    found_put (λ x y. x == y) q b v (λ x y h. let k : x ≡ y = grind (arith, nat_tests) in k)
    (λ x h. let k : (q == x && q == b) ≡ false = grind (arith, nat_tests) in k) es

-- ---- directions

same_roles : (a b : PortRole) → same_role a b ≡ true → a ≡ b
same_roles Input Input h = refl
same_roles Output Output h = refl
same_roles Input Output h = absurd (cc)
same_roles Input Inner h = absurd (cc)
same_roles Output Input h = absurd (cc)
same_roles Output Inner h = absurd (cc)
same_roles Inner Input h = absurd (cc)
same_roles Inner Output h = absurd (cc)
same_roles Inner Inner h = absurd (cc)

role_put : (r role : PortRole) (n : SetNumbers) (l : Levels)
    → for_role (with_role r n l) role ≡ (if same_role r role then Some n else for_role l role)
role_put Input Input n l = refl
role_put Input Output n l = refl
role_put Input Inner n l = refl
role_put Output Input n l = refl
role_put Output Output n l = refl
role_put Output Inner n l = refl
role_put Inner Input n l = refl
role_put Inner Output n l = refl
role_put Inner Inner n l = refl

bits_kept : (r : PortRole) (n : SetNumbers) (l : Levels) → (with_role r n l).bits ≡ l.bits
bits_kept Input n l = refl
bits_kept Output n l = refl
bits_kept Inner n l = refl

ports_kept : (r : PortRole) (n : SetNumbers) (l : Levels) → (with_role r n l).ports ≡ l.ports
ports_kept Input n l = refl
ports_kept Output n l = refl
ports_kept Inner n l = refl

for_role_bits : (l : Levels) (bs : List (PortBit × SetNumbers)) (role : PortRole) → for_role (record l { bits = bs }) role ≡ for_role l role
for_role_bits l bs Input = refl
for_role_bits l bs Output = refl
for_role_bits l bs Inner = refl

for_role_ports : (l : Levels) (ps : List (ℕ × SetNumbers)) (role : PortRole) → for_role (record l { ports = ps }) role ≡ for_role l role
for_role_ports l ps Input = refl
for_role_ports l ps Output = refl
for_role_ports l ps Inner = refl

for_rest_bits : (l : Levels) (bs : List (PortBit × SetNumbers)) (d : ℕ) (o : Option PortRole) → for_rest (record l { bits = bs }) d o ≡ for_rest l d o
for_rest_bits l bs d None = refl
for_rest_bits l bs d (Some role) = ap (or_set (lookup (λ x. d == x) l.ports)) (for_role_bits l bs role)

module _ (ns : List Net) (at : PortBit) (l : Levels) (c : Change) where
  abbrev own : Option SetNumbers
  own = lookup (same_bit at) l.bits

  -- ---- a bit
  bit_by : (t : Bool) (b : PortBit) → same_bit at b ≡ t
      → or_set (if t then Some (put (for_bit ns l b) c) else own) (for_rest l at.decl (role_at ns at)) ≡ put_if t c (for_bit ns l at)
  bit_by true b h =
      let P : PortBit → Type 0 = λ k. or_set (Some (put (for_bit ns l k) c)) (for_rest l at.decl (role_at ns at)) ≡ Some (put (for_bit ns l at) c) in
      subst P (same_bits at b h) (put_over own (for_rest l at.decl (role_at ns at)) c)
  bit_by false b h = refl

  bit_placed : (b : PortBit) → for_bit ns (with_bit ns b c l) at ≡ put_if (same_bit at b) c (for_bit ns l at)
  bit_placed b =
      let v : SetNumbers = put (for_bit ns l b) c in
      ap (or_set (lookup (same_bit at) (insert_entry same_bit l.bits b v))) (for_rest_bits l (insert_entry same_bit l.bits b v) at.decl (role_at ns at))
      ∙ (ap (λ o. or_set o (for_rest l at.decl (role_at ns at))) (bit_put at b v l.bits)
      ∙ bit_by (same_bit at b) b refl)

  -- ---- a whole port
  abbrev ports_with : ℕ → List (ℕ × SetNumbers)
  ports_with d = insert_entry (λ x y. x == y) l.ports d (put (for_port l d (role_for c)) c)

  port_rest : (d : ℕ) (o : Option PortRole)
      → for_rest (with_port d c l) at.decl o ≡ for_rest (record l { ports = ports_with d }) at.decl o
  port_rest d o = refl

  port_other : (d : ℕ) (o : Option PortRole) → (at.decl == d) ≡ false → for_rest (with_port d c l) at.decl o ≡ for_rest l at.decl o
  port_other d None h = refl
  port_other d (Some role) h =
      ap (or_set (lookup (λ x. at.decl == x) (ports_with d))) (for_role_ports l (ports_with d) role)
      ∙ ap (λ o. or_set o (for_role l role))
      (port_put at.decl d (put (for_port l d (role_for c)) c) l.ports
      ∙ ap (λ t. if t then Some (put (for_port l d (role_for c)) c) else lookup (λ x. at.decl == x) l.ports) h)

  port_here : (role : PortRole) → role_for c ≡ role
      → for_rest (with_port at.decl c l) at.decl (Some role) ≡ Some (put (for_port l at.decl role) c)
  port_here role same =
      let v : SetNumbers = put (for_port l at.decl (role_for c)) c in
      let self : (at.decl == at.decl) ≡ true = grind (arith, nat_tests) in
      ap (or_set (lookup (λ x. at.decl == x) (ports_with at.decl))) (for_role_ports l (ports_with at.decl) role)
      ∙ (ap (λ o. or_set o (for_role l role))
      (port_put at.decl at.decl v l.ports ∙ ap (λ t. if t then Some v else lookup (λ x. at.decl == x) l.ports) self)
      ∙ (ap (λ r. or_set (Some (put (for_port l at.decl r) c)) (for_role l role)) same
      ∙ put_over (lookup (λ x. at.decl == x) l.ports) (for_role l role) c))

  port_by : (f : PortFound) (b : Bits) (d : ℕ) → d ≡ at.decl → bits_if (role_for c) f ≡ Some b
      → or_set own (for_rest (with_port d c l) at.decl (role_by at.bit f))
      ≡ put_if (is_within b.1 b.2 at.bit) c (or_set own (for_rest l at.decl (role_by at.bit f)))
  port_by found_ports.Absent b d e h = absurd (cc)
  port_by (found_ports.Bits i first last role) b d e h = port_role (same_role (role_for c) role) refl h
    where
      port_in : (w : Bool) → role_for c ≡ role
          → or_set own (for_rest (with_port at.decl c l) at.decl (if w then Some role else None))
          ≡ put_if w c (or_set own (for_rest l at.decl (if w then Some role else None)))
      port_in true same = ap (or_set own) (port_here role same) ∙ put_under own (for_port l at.decl role) c
      port_in false same = refl

      port_role : (t : Bool) → same_role (role_for c) role ≡ t → (if t then Some (i, first, last) else None) ≡ Some b
          → or_set own (for_rest (with_port d c l) at.decl (if is_within first last at.bit then Some role else None))
          ≡ put_if (is_within b.1 b.2 at.bit) c (or_set own (for_rest l at.decl (if is_within first last at.bit then Some role else None)))
      port_role true same k =
          let bounds : ◌≡◌ {A = Bits} (i, first, last) b = cc in
          let P : ℕ → Type 0 = λ x. or_set own (for_rest (with_port x c l) at.decl (if is_within first last at.bit then Some role else None))
          ≡ put_if (is_within first last at.bit) c (or_set own (for_rest l at.decl (if is_within first last at.bit then Some role else None))) in
          let Q : Bits → Type 0 = λ y. or_set own (for_rest (with_port d c l) at.decl (if is_within first last at.bit then Some role else None))
          ≡ put_if (is_within y.1 y.2 at.bit) c (or_set own (for_rest l at.decl (if is_within first last at.bit then Some role else None))) in
          subst Q bounds (subst P (sym e) (port_in (is_within first last at.bit) (same_roles (role_for c) role same)))
      port_role false same k = absurd (cc)

  port_decl : (t : Bool) (b : Bits) → (at.decl == b.0) ≡ t → port_bits (role_for c) ns b.0 ≡ Some b
      → or_set own (for_rest (with_port b.0 c l) at.decl (role_at ns at)) ≡ put_if (t && is_within b.1 b.2 at.bit) c (for_bit ns l at)
  port_decl true b e is =
      let same : b.0 ≡ at.decl = grind (arith, nat_tests) in
      port_by (found_bits at.decl (slice_get ns at.decl)) b b.0 same
      (sym (ap (λ i. bits_if (role_for c) (found_bits i (slice_get ns i))) same) ∙ is)
  port_decl false b e is = ap (or_set own) (port_other b.0 (role_at ns at) e)

  -- ---- all ports of a direction
  all_rest : (o : Option PortRole)
      → for_rest (with_all c l) at.decl o
      ≡ put_if (is_role (role_for c) o) c (for_rest l at.decl o)
  all_rest None = refl
  all_rest (Some role) =
      let n : SetNumbers = put (for_role l (role_for c)) c in
      ap (λ ps. or_set (lookup (λ x. at.decl == x) ps) (for_role (with_role (role_for c) n l) role)) (ports_kept (role_for c) n l)
      ∙ (ap (or_set (lookup (λ x. at.decl == x) l.ports)) (role_put (role_for c) role n l)
      ∙ all_role (same_role (role_for c) role) refl)
    where
      all_role : (t : Bool) → same_role (role_for c) role ≡ t
          → or_set (lookup (λ x. at.decl == x) l.ports) (if t then Some (put (for_role l (role_for c)) c) else for_role l role)
          ≡ put_if t c (for_port l at.decl role)
      all_role true same =
          ap (λ r. or_set (lookup (λ x. at.decl == x) l.ports) (Some (put (for_role l r) c))) (same_roles (role_for c) role same)
          ∙ put_under (lookup (λ x. at.decl == x) l.ports) (for_role l role) c
      all_role false same = refl

  under_if : (t : Bool) (o : Option SetNumbers) → or_set own (put_if t c o) ≡ put_if t c (or_set own o)
  under_if true o = put_under own o c
  under_if false o = refl

  all_placed : for_bit ns (with_all c l) at ≡ put_if (is_role (role_for c) (role_at ns at)) c (for_bit ns l at)
  all_placed =
      ap (λ bs. or_set (lookup (same_bit at) bs) (for_rest (with_all c l) at.decl (role_at ns at))) (bits_kept (role_for c) (put (for_role l (role_for c)) c) l)
      ∙ (ap (or_set own) (all_rest (role_at ns at))
      ∙ under_if (is_role (role_for c) (role_at ns at)) (for_rest l at.decl (role_at ns at)))

  -- ---- any place
  within_one : (first last bit : ℕ) → (first == last) ≡ true → (bit == first) ≡ is_within first last bit
  within_one first last bit h = by_order (nat_le first last) refl
    where
      by_order : (t : Bool) → nat_le first last ≡ t
          → (bit == first) ≡ (if t then nat_le first bit && nat_le bit last else nat_le last bit && nat_le bit first)
      by_order true e = grind (arith, nat_tests)
      by_order false e = grind (arith, nat_tests)

  placed_by : (t : Bool) (b : of_code.Bits) → (b.first == b.last) ≡ t → IsPlace ns (role_for c) b
      → for_bit ns (if t then with_bit ns (record { decl = b.decl; bit = b.first }) c l else with_port b.decl c l) at
      ≡ put_if (has_bit (bits_text b) at) c (for_bit ns l at)
  placed_by true b e is =
      bit_placed (record { decl = b.decl; bit = b.first })
      ∙ ap (λ t. put_if (at.decl == b.decl && t) c (for_bit ns l at)) (within_one b.first b.last at.bit e)
  placed_by false b e is = port_decl (at.decl == b.decl) (bits_text b) refl (is e)

  placed : (o : Option of_code.Bits) → IfSome o (IsPlace ns (role_for c))
      → for_bit ns (with_place ns o c l) at ≡ put_if (names_bit ns (role_for c) o at) c (for_bit ns l at)
  placed (Some b) is = placed_by (b.first == b.last) b refl is
  placed None is = all_placed

-- ---- a bit that is not the clock's is never ignored

other_clock : (clock o : Option PortBit) (at : PortBit) → IfSome o (λ b. clock ≡ Some b) → is_clock clock at ≡ false
    → is_clock o at ≡ false
other_clock clock None at same other = refl
other_clock clock (Some b) at same other = ap (λ k. is_clock k at) (sym same) ∙ other

never : (a b x : Bool) → x ≡ false → (a && not (b && x)) ≡ a
never true true x h = rw h refl
never true false x h = refl
never false b x h = refl

no_level : (ns : List Net) (at : PortBit) → for_bit ns no_levels at ≡ None
no_level ns at = by_role (role_at ns at)
  where
    by_kind : (role : PortRole) → for_port no_levels at.decl role ≡ None
    by_kind Input = refl
    by_kind Output = refl
    by_kind Inner = refl

    by_role : (o : Option PortRole) → or_set None (for_rest no_levels at.decl o) ≡ None
    by_role None = refl
    by_role (Some role) = by_kind role

module _ (ns : List Net) (clock : Option PortBit) (at : PortBit) (other : is_clock clock at ≡ false) where
  -- what is kept for the bit is what mentions set for it
  pub level_told : (ms : List Mention) → AllFit ns clock ms → for_bit ns (levels_of ns ms) at ≡ set_by ns at ms
  level_told [] all = no_level ns at
  level_told (m ∷ ms) all =
      let fit : Fits ns clock m = All-head (Fits ns clock) m ms all in
      placed ns at (levels_of ns ms) m.change m.bits fit.bits
      ∙ (ap (λ o. put_if (names_bit ns (role_for m.change) m.bits at) m.change o) (level_told ms (All-tail (Fits ns clock) m ms all))
      ∙ ap (λ t. put_if t m.change (set_by ns at ms))
      (sym (never (names_bit ns (role_for m.change) m.bits at) (is_input_delay m.change) (is_clock m.clock at) (other_clock clock m.clock at fit.clock other))))
