-- The names of bits: bit k of a bus `a` has the name `a[k]`, in which its bus and its number are found.
use Rattle.std.specs.Prelude.{◌≡◌, refl, ℕ, suc, ◌+◌, ◌-◌, ◌*◌, ◌/◌, ◌%◌, ◌<◌, ◌≤◌, ◌^◌, nat_le, ◌==◌, true, [], ◌∷◌, ◌++◌, length, decimal}
use Rattle.std.specs.Prelude.{Option, Some, None}
use Rattle.std.specs.List.{AllByRecursion}
use Rattle.std.specs.Str.{bytes_eq}
use Rattle.std.proofs.Common.{arith, sym, ap, ◌∙◌, append_assoc}
use Rattle.std.proofs.lemmas.Bool.{cond_both, le-leb, leb-true}
use Rattle.std.proofs.lemmas.Fmt.{decimal_by_steps}
use Rattle.std.proofs.lemmas.List.{length_push, get_or_push, take_at, append_cancel_right}
use Rattle.std.proofs.lemmas.Slice.Eq.{bytes_eq-Decides}
use Rattle.name_numbers.specs.Names.{Text}
use Rattle.verilog_net.specs.Nets.{most_bit, value_after, number_of, written, closed_number, bit_from}

-- what is after the name of the bus
abbrev pub tail : ℕ → Text
tail k = 91 ∷ (decimal k ++ 93 ∷ [])

-- ---- the digits of a number
value_push : (n : ℕ) (ds : Text) (c : ℕ) → value_after n (ds ++ c ∷ []) ≡ value_after n ds * 10 + (c - 48)
value_push n [] c = refl
value_push n (d ∷ ds) c = value_push (n * 10 + (d - 48)) ds c

value_more : (n : ℕ) (ds : Text) → 10 ≤ n → value_after 0 ds ≡ n / 10 → value_after 0 (ds ++ ((48 + n % 10) ∷ [])) ≡ n
value_more n ds h e = value_push 0 ds (48 + n % 10) ∙ (ap (λ v. v * 10 + (48 + n % 10 - 48)) e ∙ omega arith)

wide : (k : ℕ) → k ≤ most_bit → k < 2 ^ 64
wide k h = omega (arith, h)

value_is : (k : ℕ) → k ≤ most_bit → value_after 0 (decimal k) ≡ k
value_is k h = decimal_by_steps (λ n ds. value_after 0 ds ≡ n) (λ n lt. omega arith) value_more k (wide k h)

-- no left bracket is among digits
abbrev NoBracket : Text → Type 0
NoBracket ds = AllByRecursion (λ c. c ≡ 91 → ⊥) ds

bracket_push : (ds : Text) (c : ℕ) → NoBracket ds → (c ≡ 91 → ⊥) → NoBracket (ds ++ c ∷ [])
bracket_push [] c h n = (n, tt)
bracket_push (d ∷ ds) c h n = (h.0, bracket_push ds c h.1 n)

digits_plain : (k : ℕ) → k ≤ most_bit → NoBracket (decimal k)
digits_plain k h =
    decimal_by_steps (λ n ds. NoBracket ds) (λ n lt. ((λ e. omega (arith, e, lt)), tt))
    (λ n ds le plain. bracket_push ds (48 + n % 10) plain (λ e. omega (arith, e))) k (wide k h)

bracket_within : (pre post : Text) → NoBracket (pre ++ 91 ∷ post) → ⊥
bracket_within [] post h = h.0 refl
bracket_within (c ∷ pre) post h = bracket_within pre post h.1

-- ---- the number of a bit after its left bracket
closed_is : (xs : Text) → closed_number (xs ++ 93 ∷ []) ≡ written xs (number_of xs)
closed_is xs =
    let len : length (xs ++ 93 ∷ []) - 1 ≡ length xs = omega (arith, length_push xs 93) in
    rw (len, get_or_push xs 93 0 (length xs) refl, take_at xs (93 ∷ []) (length xs) refl) refl

number_is : (k : ℕ) → k ≤ most_bit → number_of (decimal k) ≡ Some k
number_is k h = rw (value_is k h, le-leb k most_bit h) refl

closed_some : (k : ℕ) → k ≤ most_bit → closed_number (decimal k ++ 93 ∷ []) ≡ Some k
closed_some k h = closed_is (decimal k) ∙ rw (number_is k h, (bytes_eq-Decides (decimal k) (decimal k)).1 refl) refl

module _ (pre post : Text) where
  abbrev cut : Text
  cut = pre ++ 91 ∷ post

  -- no number is written so
  other_digits : (v : ℕ) → v ≤ most_bit → bytes_eq (decimal v) cut ≡ true → ⊥
  other_digits v le e = bracket_within pre post (rw ((bytes_eq-Decides (decimal v) cut).0 e) at (digits_plain v le))

  written_none : written cut (number_of cut) ≡ None
  written_none =
      let v = value_after 0 cut in
      cond_both (nat_le v most_bit) (Some v) None (λ o. written cut o ≡ None) (λ le.
      cond_both (bytes_eq (decimal v) cut) (Some v) None (λ o. o ≡ None)
      (λ e. absurd (other_digits v (leb-true v most_bit le) e)) (λ e. refl)) (λ e. refl)

closed_none : (pre : Text) (k : ℕ) → closed_number (pre ++ tail k) ≡ None
closed_none pre k =
    ap closed_number (sym (append_assoc pre (91 ∷ decimal k) (93 ∷ []))) ∙ (closed_is (pre ++ 91 ∷ decimal k) ∙ written_none pre (decimal k))

-- ---- the bus and the bit of a name
bit_from_name : (at k : ℕ) (name : Text) → k ≤ most_bit → bit_from at (name ++ tail k) ≡ Some (at + length name, k)
bit_from_name at k [] h = rw (closed_some k h) (ap (λ p. Some (p, k)) (omega arith))
bit_from_name at k (b ∷ name) h =
    let further : bit_from (at + 1) (name ++ tail k) ≡ Some (at + suc (length name), k) =
    bit_from_name (at + 1) k name h ∙ ap (λ p. Some (p, k)) (omega arith) in
    cond_both (b == 91) _ _ (λ o. o ≡ Some (at + suc (length name), k)) (λ e. rw (closed_none name k) further) (λ e. further)

pub found_bit : (k : ℕ) (name : Text) → k ≤ most_bit → bit_from 0 (name ++ tail k) ≡ Some (length name, k)
found_bit k name h = bit_from_name 0 k name h ∙ ap (λ p. Some (p, k)) (omega arith)

-- bits of one bus with the same name are the same, and so are the buses of bits with the same name
pair_of : (a b c d : ℕ) → ◌≡◌ {A = Option (ℕ × ℕ)} (Some (a, b)) (Some (c, d)) → b ≡ d
pair_of a b c d e = let same : ◌≡◌ {A = ℕ × ℕ} (a, b) (c, d) = cc in ap (λ x. x.1) same

pub same_number : (name : Text) (j k : ℕ) → j ≤ most_bit → k ≤ most_bit → name ++ tail j ≡ name ++ tail k → j ≡ k
same_number name j k hj hk e =
    pair_of (length name) j (length name) k (sym (found_bit j name hj) ∙ (ap (bit_from 0) e ∙ found_bit k name hk))

pub same_bus : (a b : Text) (j k : ℕ) → j ≤ most_bit → k ≤ most_bit → a ++ tail j ≡ b ++ tail k → a ≡ b
same_bus a b j k hj hk e =
    let number : j ≡ k = pair_of (length a) j (length b) k (sym (found_bit j a hj) ∙ (ap (bit_from 0) e ∙ found_bit k b hk)) in
    append_cancel_right a b (tail k) (ap (λ m. a ++ tail m) (sym number) ∙ e)
