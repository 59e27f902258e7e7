-- The bits of nets, one net after another.
use Rattle.std.proofs.Common.{◌≡◌, ℕ, ◌+◌, ◌<◌, ◌≤◌, List, [], ◌∷◌, ◌++◌, length, map, take, get_or, Some, refl, sym, ap, ◌∙◌, arith, append_assoc}
use Rattle.std.specs.List.{slice_get}
use Rattle.std.specs.Option.{IsSomeAnd}
use Rattle.std.proofs.lemmas.List.{append-nil, map-append, take_all, length-take-le, get_or-map}
use Rattle.std.proofs.lemmas.Option.{slice_get_within, get_or_from_slice_get}
use Rattle.name_numbers.specs.Names.{Text}
use Rattle.verilog_net.specs.declared.netlist.Net.{Net}
use Rattle.verilog_net.specs.declared.netlist.PortRole.{PortRole}
use Rattle.verilog_net.specs.Nets.{Nets}
use Rattle.verilog_net.specs.Bits.{Bit, bus_bit, bits_by, bits_from, bits}
use Rattle.link_index.proofs.BitLaws.{bits_are, from-parts}
use Rattle.link_pins.specs.declared.bits.BitAt.{BitAt}
use Rattle.link_pins.specs.Seen.{bit_at, numbered_bit}
use Rattle.link_pins.proofs.PinLaws.{some_and, take_next}

-- the bits of one net more
bits_next : (nets : Nets) (k : ℕ) (e : Text × Net) → slice_get nets k ≡ Some e
    → bits (take (k + 1) nets) ≡ bits (take k nets) ++ bits_by k e.0 e.1.role e.1.range
bits_next nets k e there =
    let within : k < length nets = slice_get_within nets k e there in
    let len : 0 + length (take k nets) ≡ k = omega (arith, length-take-le k nets (omega arith)) in
    bits_are (take (k + 1) nets)
    ∙ ap (bits_from 0) (take_next k nets e there)
    ∙ from-parts 0 (take k nets) (e ∷ [])
    ∙ ap (λ m. bits_from 0 (take k nets) ++ bits_from m (e ∷ [])) len
    ∙ ap (λ l. bits_from 0 (take k nets) ++ l) (append-nil (bits_by k e.0 e.1.role e.1.range))
    ∙ ap (λ l. l ++ bits_by k e.0 e.1.role e.1.range) (sym (bits_are (take k nets)))

-- a number more of a bus
pub numbered_more : (f : ℕ → BitAt) (ks : List ℕ) (i k : ℕ) (old cur new : List BitAt) → slice_get ks i ≡ Some k → cur ≡ old ++ map f (take i ks) → new ≡ cur ++ f k ∷ []
    → new ≡ old ++ map f (take (i + 1) ks)
numbered_more f ks i k old cur new at so_far push =
    let one : map f (take (i + 1) ks) ≡ map f (take i ks) ++ f k ∷ [] =
    ap (map f) (take_next i ks k at) ∙ map-append f (take i ks) (k ∷ []) in
    push ∙ ap (λ l. l ++ f k ∷ []) so_far ∙ append_assoc old (map f (take i ks)) (f k ∷ []) ∙ ap (λ l. old ++ l) (sym one)

pub numbered_all : (f : ℕ → BitAt) (ks : List ℕ) (i : ℕ) (old cur : List BitAt) → length ks ≤ i → cur ≡ old ++ map f (take i ks) → cur ≡ old ++ map f ks
numbered_all f ks i old cur past so_far = so_far ∙ ap (λ l. old ++ map f l) (take_all i ks past)

-- a bus's bits without their names
pub bus_bits : (decl : ℕ) (name : Text) (role : PortRole) (ks : List ℕ) → map bit_at (map (bus_bit decl name role) ks) ≡ map (numbered_bit decl role) ks
bus_bits decl name role [] = refl
bus_bits decl name role (k ∷ ks) = ap (λ l. numbered_bit decl role k ∷ l) (bus_bits decl name role ks)

-- a net more
pub nets_more : (nets : Nets) (k : ℕ) (cur new : List BitAt) → cur ≡ map bit_at (bits (take k nets))
    → IsSomeAnd (slice_get nets k) (λ e. new ≡ cur ++ map bit_at (bits_by k e.0 e.1.role e.1.range)) → new ≡ map bit_at (bits (take (k + 1) nets))
nets_more nets k cur new so_far h =
    let s = some_and (slice_get nets k) (λ (e : Text × Net). new ≡ cur ++ map bit_at (bits_by k e.0 e.1.role e.1.range)) h in
    s.2 ∙ ap (λ l. l ++ map bit_at (bits_by k s.0.0 s.0.1.role s.0.1.range)) so_far
    ∙ sym (map-append bit_at (bits (take k nets)) (bits_by k s.0.0 s.0.1.role s.0.1.range))
    ∙ ap (map bit_at) (sym (bits_next nets k s.0 s.1))

pub nets_all : (nets : Nets) (k : ℕ) (cur : List BitAt) → length nets ≤ k → cur ≡ map bit_at (bits (take k nets)) → cur ≡ map bit_at (bits nets)
nets_all nets k cur past so_far = so_far ∙ ap (λ (l : Nets). map bit_at (bits l)) (take_all k nets past)

pub no_nets : (nets : Nets) → [] ≡ map bit_at (bits (take 0 nets))
no_nets nets = ap (map bit_at) (sym (bits_are []))

-- a bit that is read
pub bit_read : (bs : List Bit) (ats : List BitAt) (i : ℕ) (b : Bit) (d : BitAt) → ats ≡ map bit_at bs → slice_get bs i ≡ Some b → get_or ats i d ≡ bit_at b
bit_read bs ats i b d are at =
    ap (λ (l : List BitAt). get_or l i d) are
    ∙ (get_or-map bit_at bs i b d (slice_get_within bs i b at) ∙ ap bit_at (get_or_from_slice_get bs i b b at))
