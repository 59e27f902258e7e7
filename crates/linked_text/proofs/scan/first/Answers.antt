use Rattle.std.proofs.Common.{◌≡◌, ℕ, List, Bool, true, false, Option, Some, None, eqb, length, refl, arith}
use Rattle.std.specs.List.{position, position_or_len}
use Rattle.std.proofs.lemmas.Bool.{le-ltb, lt-ltb}
use Rattle.std.proofs.lemmas.List.Sums.{position_or_len_is}
use Rattle.memchr.specs.Find.{IsFirstByte, is_byte}
use Rattle.linked_text.proofs.scan.first.Goals as goal

missed : (b : Bool) → ¬ (b ≡ true) → b ≡ false
missed true h = absurd (h refl)
missed false h = refl

-- the first place of a byte, as the definitions have it
first_is : (mark : ℕ) (bytes : List ℕ) (r : Option ℕ) → IsFirstByte (is_byte mark) bytes r → r ≡ position (λ b. eqb b mark) bytes
first_is mark bytes None h =
    let past : position_or_len (λ b. eqb b mark) bytes ≡ length bytes =
    position_or_len_is (λ b. eqb b mark) bytes (length bytes) 0 (omega arith) (λ k lt. missed _ (h k (omega arith) lt)) (λ lt. absurd (omega (arith, lt))) in
    rw (past, le-ltb (length bytes) (length bytes) (omega arith)) refl
first_is mark bytes (Some k) h =
    let found : position_or_len (λ b. eqb b mark) bytes ≡ k =
    position_or_len_is (λ b. eqb b mark) bytes k 0 (omega (arith, h.0.high)) (λ j lt. missed _ (h.0.before j (omega arith) lt)) (λ lt. h.1) in
    rw (found, lt-ltb k (length bytes) h.0.high) refl

pub returns-clause-value : goal.returns-clause-value
returns-clause-value c = first_is c.args.mark c.args.bytes.now c.memchr.result c.memchr.ensures
