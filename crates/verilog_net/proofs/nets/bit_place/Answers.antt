use Rattle.std.proofs.Common.{◌≡◌, refl, sym, ◌∙◌, ℕ, ◌+◌, ◌-◌, ◌≤◌, ◌==◌, List, [], ◌∷◌, length, drop, get_or, slice_index, None, false, arith, rules}
use Rattle.std.proofs.lemmas.List.{take_rest}
use Rattle.verilog_net.specs.Nets.{bit_from, closed_number}
use Rattle.verilog_net.proofs.LastBytes.{no_bit}
use Rattle.verilog_net.proofs.nets.bit_place.Goals.{then-byte-eq91+in_default-closed_number, else-byte-eq91}
use Rattle.verilog_net.proofs.nets.bit_place.Goals as goal

-- no bit begins at the first byte
other_byte : (at : ℕ) (bs : List ℕ) → (get_or bs 0 0 ≡ 91 → ⊥) → bit_from (at + 1) (drop 1 bs) ≡ bit_from at bs
other_byte at [] n = refl
other_byte at (b ∷ bs) n =
    let apart : (b == 91) ≡ false = search rules in
    rw apart refl

unclosed : (at : ℕ) (bs : List ℕ) → get_or bs 0 0 ≡ 91 → closed_number (drop 1 bs) ≡ None → bit_from (at + 1) (drop 1 bs) ≡ bit_from at bs
unclosed at [] e n = refl
unclosed at (b ∷ bs) e n = rw (e, n) refl

one_less : (bs : List ℕ) → 1 ≤ length bs → 1 + length (drop 1 bs) ≡ length bs
one_less [] h = absurd (omega (arith, h))
one_less (b ∷ bs) h = omega arith

pub bytes-preserved : goal.bytes-preserved
bytes-preserved c =
    let rest : List ℕ = c.bytes.rest.now in
    let on : bit_from (c.bytes.at + 1) (drop 1 rest) ≡ bit_from c.bytes.at rest = elim c.if-byte-eq91.branch [
      | then-byte-eq91+in_default-closed_number w ↦ unclosed c.bytes.at rest w.if-byte-eq91.true
          (rw (take_rest rest 1) at (sym w.closed_number.ensures ∙ w.in_default-closed_number.is))
      | else-byte-eq91 w ↦ other_byte c.bytes.at rest w.if-byte-eq91.false
    ] in
    let less = one_less rest c.in-len1-up.len_at_least in
    record {
      value = rw (take_rest rest 1) (on ∙ c.bytes.invariant.value);
      within = rw (take_rest rest 1) (omega (arith, less, c.bytes.invariant.within));
    }

pub returns-then-not-ends_bit-clause-value : goal.returns-then-not-ends_bit-clause-value
returns-then-not-ends_bit-clause-value c =
    let apart : (slice_index c.args.name.now (length c.args.name.now - 1) == 93) ≡ false = search rules in
    sym (no_bit 0 c.args.name.now apart)
