-- The names of bits are names that a design may have.
use Rattle.std.specs.Prelude.{◌≡◌, ℕ, zero, suc, Bool, true, false, cond, List, [], ◌∷◌, ◌++◌, length, decimal, Some, Result, Ok, Err, OnOk}
use Rattle.std.specs.List.{All, slice_get}
use Rattle.std.specs.Int.Digits.{digits_of}
use Rattle.std.specs.Str.{bytes_eq}
use Rattle.std.proofs.Common.{sym, subst, arith, ◌+◌, ◌<◌, ◌≤◌, ◌^◌}
use Rattle.std.proofs.lemmas.Int.Digits.{all_below_base_digits_of}
use Rattle.std.proofs.lemmas.Fmt.{decimal_digit, decimal-digits_of, length-decimal-le}
use Rattle.std.proofs.lemmas.List.{length-append}
use Rattle.std.proofs.lemmas.List.Elements.{All-nil, All-cons, All-head, All-tail, All-get_or, All-weaker, All-map, All-append, All-from_recursion}
use Rattle.std.proofs.lemmas.Option.{slice_get_within, get_or_from_slice_get}
use Rattle.xt_model.specs.Names.{IsName}
use Rattle.name_numbers.specs.Names.{Text, with_value}
use Rattle.verilog_net.specs.declared.netlist.Net.{Net}
use Rattle.verilog_net.specs.Nets.{Nets}
use Rattle.verilog_net.specs.Bits.{bit_name}
use Rattle.text_forms.specs.Names.{IsShortName}
use Rattle.link_index.specs.Names.{AreNames}

abbrev IsPrintable : ℕ → Type 0
IsPrintable b = (33 ≤ b) × (b ≤ 126)

decimal_printable : (n : ℕ) → n < 2 ^ 64 → All IsPrintable (decimal n)
decimal_printable zero h = subst (All IsPrintable) (sym (decimal_digit 0 (omega arith))) (All-cons IsPrintable 48 [] (omega arith, omega arith) (All-nil IsPrintable))
decimal_printable (suc n) h =
    let e = decimal-digits_of (suc n) (omega arith) h in
    subst (All IsPrintable) (sym e) (All-map IsPrintable (λ d. 48 + d) (digits_of 10 (suc n))
    (All-weaker (λ d. d < 10) (λ d. IsPrintable (48 + d)) (λ d k. (omega arith, omega arith)) (digits_of 10 (suc n))
    (All-from_recursion (λ d. d < 10) (digits_of 10 (suc n)) (all_below_base_digits_of 10 (suc n) (omega arith)))))

spelled_parts : (name digits : Text) → IsShortName name → length digits ≤ 10 → All IsPrintable digits → IsName (name ++ 91 ∷ [] ++ digits ++ 93 ∷ [])
spelled_parts name digits short few printable =
    let opened = length-append name (91 ∷ []) in
    let numbered = length-append (name ++ 91 ∷ []) digits in
    let closed = length-append (name ++ 91 ∷ [] ++ digits) (93 ∷ []) in
    record {
      some = omega (arith, opened, numbered, closed, short.name.some);
      short = omega (arith, opened, numbered, closed, few, short.short);
      printable =
          All-append IsPrintable (name ++ 91 ∷ [] ++ digits) (93 ∷ [])
          (All-append IsPrintable (name ++ 91 ∷ []) digits
          (All-append IsPrintable name (91 ∷ []) short.name.printable (All-cons IsPrintable 91 [] (omega arith, omega arith) (All-nil IsPrintable))) printable)
          (All-cons IsPrintable 93 [] (omega arith, omega arith) (All-nil IsPrintable));
    }

-- a number of 32 bits in brackets takes at most 12 bytes
pub bit_spelled : (name : Text) (k : ℕ) → k < 2 ^ 32 → IsShortName name → IsName (bit_name name k)
bit_spelled name k h short =
    spelled_parts name (decimal k) short (length-decimal-le 10 k (omega arith) (omega arith) (omega arith)) (decimal_printable k (omega arith))

-- a table with one name more
pub set_spelled : (n : Text) (t : List (Text × Unit {0})) → IsName n → AreNames t → AreNames (with_value n tt t)
set_spelled n [] name h = All-cons (λ e. IsName e.0) (n, tt) [] name (All-nil (λ e. IsName e.0))
set_spelled n (e ∷ more) name h =
    let first = All-head (λ e. IsName e.0) e more h in
    let rest = All-tail (λ e. IsName e.0) e more h in
    by (bytes_eq n e.0) (All-cons (λ e. IsName e.0) (e.0, tt) more first rest)
    (All-cons (λ e. IsName e.0) e (with_value n tt more) first (set_spelled n more name rest))
  where
    by : (b : Bool) → AreNames ((e.0, tt) ∷ more) → AreNames (e ∷ with_value n tt more) → AreNames (cond b ((e.0, tt) ∷ more) (e ∷ with_value n tt more))
    by true p q = p
    by false p q = q

-- what a table has at a place
pub spelled_at : (t : List (Text × Unit {0})) (k : ℕ) (e : Text × Unit {0}) → AreNames t → slice_get t k ≡ Some e → IsName e.0
spelled_at t k e h at =
    subst (λ (x : Text × Unit {0}). IsName x.0) (get_or_from_slice_get t k e e at) (All-get_or (λ x. IsName x.0) t k e (slice_get_within t k e at) h)

-- the name of a net
pub short_at : (nets : Nets) (k : ℕ) (e : Text × Net) → All (λ net. IsShortName net.0) nets → slice_get nets k ≡ Some e → IsShortName e.0
short_at nets k e h at =
    subst (λ (x : Text × Net). IsShortName x.0) (get_or_from_slice_get nets k e e at) (All-get_or (λ x. IsShortName x.0) nets k e (slice_get_within nets k e at) h)

-- what holds of an answer, in other words
pub ok_so : {A E : Type 0} (r : Result A E) (P Q : Type 0) → (P → Q) → OnOk r P → OnOk r Q
ok_so (Ok x) P Q f h = f h
ok_so (Err e) P Q f h = h
