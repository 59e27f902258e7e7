-- A number that is read is the number that was written, and what was written is read again.
use Rattle.std.proofs.Common.{◌≡◌, ℕ, ◌<◌, ◌^◌, true, ltb, ◌&&◌, List, Some, None, refl, sym, subst}
use Rattle.std.specs.Fmt.{decimal}
use Rattle.std.specs.Str.{bytes_eq}
use Rattle.std.specs.Str.Parse.{digits_value}
use Rattle.std.proofs.lemmas.Bool.{ltb-true, lt-ltb}
use Rattle.std.proofs.lemmas.Fmt.{decimal_is_IsNumeral_wide}
use Rattle.std.proofs.lemmas.Slice.Eq.{bytes_eq-Decides}
use Rattle.linked_text.specs.Fields.{number_of}
use Rattle.linked_text.proofs.Options.{passed, is_none, both_true}

pub number_takes : (limit : ℕ) (bytes : List ℕ) (n : ℕ) → number_of limit bytes ≡ Some n → (bytes ≡ decimal n) × (n < limit)
number_takes limit bytes n e =
    let v : ℕ = digits_value 10 bytes in
    let g = passed (ltb v limit && bytes_eq (decimal v) bytes) v n e in
    let b = both_true (ltb v limit) (bytes_eq (decimal v) bytes) g.0 in
    let same : decimal v ≡ bytes = (bytes_eq-Decides (decimal v) bytes).0 b.1 in
    subst (λ (m : ℕ). (bytes ≡ decimal m) × (m < limit)) g.1 (sym same, ltb-true _ _ b.0)

pub number_again : (limit n : ℕ) → n < limit → n < 10 ^ 64 → number_of limit (decimal n) ≡ Some n
number_again limit n lt fits =
    let v = (decimal_is_IsNumeral_wide n fits).1 in
    let t : ltb n limit ≡ true = lt-ltb _ _ lt in
    let q : bytes_eq (decimal n) (decimal n) ≡ true = (bytes_eq-Decides (decimal n) (decimal n)).1 refl in
    rw (v, t, q) refl

pub no_number : (limit : ℕ) (bytes : List ℕ) → ((n : ℕ) → n < limit → bytes ≡ decimal n → ⊥) → number_of limit bytes ≡ None
no_number limit bytes f = is_none (number_of limit bytes) (λ n e. let t = number_takes limit bytes n e in f n t.1 t.0)
