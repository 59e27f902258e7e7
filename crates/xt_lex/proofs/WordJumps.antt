-- In a SPEF text the bytes between those at which strings and comments begin may be passed over; where the last of
-- them is printable a word goes on.
use Rattle.std.proofs.Common.{◌≡◌, ℕ, zero, suc, ◌+◌, ◌-◌, ◌≤◌, nat_lt, Bool, true, false, ◌&&◌, ◌||◌, not, List, [], ◌∷◌, length, drop, slice_index, cond, ◌==◌, sym, ap, ◌∙◌, refl, arith}
use Rattle.std.proofs.lemmas.Bool.{false≢true, and_parts, or_parts, false_from_ne_true}
use Rattle.std.proofs.lemmas.Bool.Decides.{nat_tests}
use Rattle.std.specs.List.{prefix_len}
use Rattle.std.specs.Char.{is_ascii_graphic}
use Rattle.memchr.specs.Find.{Nowhere, Passes, is_byte2}
use Rattle.xt_lex.specs.declared.front.Front.{Front}
use Rattle.xt_lex.specs.declared.rules.Rules.TheVariants.{Spef}
use Rattle.xt_lex.specs.Bytes.{is_white, begins, opens_comment}
use Rattle.xt_lex.specs.Spef.{spef_front, spef_part, is_in_word}
use Rattle.xt_lex.specs.Pieces.{front_of, pieces_of}
use Rattle.xt_lex.specs.Faults.{is_unclosed, any_unclosed}
use Rattle.xt_lex.proofs.Open.{is_left_open, any_unclosed_of, passed}

-- whether a piece is left open, of bytes with which a word goes on, or which begin a piece
abbrev pub left_open : Bool → List ℕ → Bool
left_open true bytes = is_left_open Spef false (prefix_len is_ascii_graphic bytes) bytes
left_open false bytes = is_left_open Spef false 0 bytes

-- whether a line begins is nothing to a SPEF text
any_fresh : (f g : Bool) (k : ℕ) (bytes : List ℕ) → is_left_open Spef f k bytes ≡ is_left_open Spef g k bytes
unfolding front_of
any_fresh f g zero [] = refl
any_fresh f g (suc k) [] = refl
any_fresh f g zero (b ∷ more) = refl
any_fresh f g (suc k) (b ∷ more) = any_fresh f g k more

pub left_open_of : (bytes : List ℕ) → left_open false bytes ≡ any_unclosed (pieces_of Spef bytes)
left_open_of bytes = any_fresh false true 0 bytes ∙ any_unclosed_of Spef bytes

by_run : (t : Bool) (n c : ℕ) (more : List ℕ) → (t ≡ true → is_left_open Spef false n more ≡ left_open false (c ∷ more))
    → is_left_open Spef false (cond t (1 + n) 0) (c ∷ more) ≡ left_open false (c ∷ more)
by_run true n c more h = let e : 1 + n ≡ suc n = omega arith in rw e (h refl)
by_run false n c more h = refl

-- white space may be cut anywhere
whites_pass : (more : List ℕ) → is_left_open Spef false (prefix_len is_white more) more ≡ left_open false more
unfolding spef_front front_of
whites_pass [] = refl
whites_pass (c ∷ more) = by_run (is_white c) (prefix_len is_white more) c more (λ e. rw e refl)

not_white : (c : ℕ) → is_ascii_graphic c ≡ true → is_white c ≡ false
not_white c h = grind (arith, nat_tests)

-- a printable byte at which neither a string nor a comment begins
printable_byte : (in_word : Bool) (b : ℕ) (more : List ℕ) → is_byte2 34 47 b ≡ false → is_ascii_graphic b ≡ true
    → left_open in_word (b ∷ more) ≡ left_open true more
unfolding spef_front front_of
printable_byte true b more h g = let e : 1 + prefix_len is_ascii_graphic more ≡ suc (prefix_len is_ascii_graphic more) = omega arith in rw (g, e) refl
printable_byte false b more h g =
    let neither = or_parts (b == 34) (b == 47) h in
    rw (not_white b g, g, neither.1, neither.0) refl

-- a byte that is not printable
other_byte_first : (t : Bool) (b : ℕ) (more : List ℕ) → is_white b ≡ t → is_ascii_graphic b ≡ false → left_open false (b ∷ more) ≡ left_open false more
unfolding spef_front front_of
other_byte_first true b more e g = rw e (whites_pass more)
other_byte_first false b more e g = rw (e, g) refl

other_byte : (in_word : Bool) (b : ℕ) (more : List ℕ) → is_ascii_graphic b ≡ false → left_open in_word (b ∷ more) ≡ left_open false more
other_byte true b more g = rw g (other_byte_first (is_white b) b more refl g)
other_byte false b more g = other_byte_first (is_white b) b more refl g

any_byte : (in_word t : Bool) (b : ℕ) (more : List ℕ) → is_byte2 34 47 b ≡ false → is_ascii_graphic b ≡ t
    → left_open in_word (b ∷ more) ≡ left_open t more
any_byte in_word true b more h g = printable_byte in_word b more h g
any_byte in_word false b more h g = other_byte in_word b more g

-- whether a word goes on behind so many bytes
abbrev pub goes_on : Bool → ℕ → List ℕ → Bool
goes_on in_word zero bytes = in_word
goes_on in_word (suc k) bytes = is_ascii_graphic (slice_index bytes k)

goes_on_from : (in_word : Bool) (k b : ℕ) (more : List ℕ) → goes_on (is_ascii_graphic b) k more ≡ goes_on in_word (suc k) (b ∷ more)
goes_on_from in_word zero b more = refl
goes_on_from in_word (suc k) b more = refl

-- bytes at which none begins
plain_bytes : (in_word : Bool) (bytes : List ℕ) (k : ℕ) → k ≤ length bytes → Nowhere (Passes (is_byte2 34 47) bytes) 0 k
    → left_open in_word bytes ≡ left_open (goes_on in_word k bytes) (drop k bytes)
plain_bytes in_word bytes zero h none = refl
plain_bytes in_word [] (suc k) h none = absurd (omega arith)
plain_bytes in_word (b ∷ more) (suc k) h none =
    any_byte in_word (is_ascii_graphic b) b more (false_from_ne_true (is_byte2 34 47 b) (λ e. none 0 (omega arith) (omega arith) e)) refl
    ∙ (plain_bytes (is_ascii_graphic b) more k (omega arith) (λ j low high p. none (suc j) (omega arith) (omega arith) p)
    ∙ ap (λ (t : Bool). left_open t (drop k more)) (goes_on_from in_word k b more))

none_in : (in_word : Bool) (bytes : List ℕ) → Nowhere (Passes (is_byte2 34 47) bytes) 0 (length bytes) → false ≡ left_open in_word bytes
none_in true [] none = refl
none_in false [] none = refl
none_in in_word (b ∷ more) none =
    none_in (is_ascii_graphic b) more (λ j low high p. none (suc j) (omega arith) (omega arith) p)
    ∙ sym (any_byte in_word (is_ascii_graphic b) b more (false_from_ne_true (is_byte2 34 47 b) (λ e. none 0 (omega arith) (omega arith) e)) refl)

pub none_begins : (bytes : List ℕ) → Nowhere (Passes (is_byte2 34 47) bytes) 0 (length bytes) → false ≡ left_open false bytes
none_begins bytes none = none_in false bytes none

in_word_is : (k : ℕ) (bytes : List ℕ) → is_in_word k bytes ≡ goes_on false k bytes
in_word_is zero bytes = refl
in_word_is (suc k) bytes =
    let e : suc k - 1 ≡ k = omega arith in
    let some : nat_lt 0 (suc k) ≡ true = grind (arith, nat_tests) in
    rw (some, e) refl

first_of : (rest : List ℕ) (k b : ℕ) (more : List ℕ) → drop k rest ≡ b ∷ more → slice_index rest k ≡ b
first_of rest zero b more e = ap (λ (bs : List ℕ). slice_index bs 0) e
first_of [] (suc k) b more e = let l : 0 ≡ length (b ∷ more) = ap (λ (bs : List ℕ). length bs) e in absurd (omega (arith, l))
first_of (c ∷ rest) (suc k) b more e = first_of rest k b more e

mark_printable : (b : ℕ) → is_byte2 34 47 b ≡ true → is_ascii_graphic b ≡ true
mark_printable b h = grind (arith, nat_tests)

-- the piece at the front, or what is left of a word
part_is : (in_word : Bool) (b : ℕ) (more : List ℕ) → is_ascii_graphic b ≡ true
    → left_open in_word (b ∷ more)
    ≡ (is_unclosed (spef_part in_word b more).class || is_left_open Spef (spef_part in_word b more).fresh (spef_part in_word b more).inner more)
unfolding front_of
part_is true b more g = let e : 1 + prefix_len is_ascii_graphic more ≡ suc (prefix_len is_ascii_graphic more) = omega arith in rw (g, e) refl
part_is false b more g = refl

-- the piece at the first byte where one may begin, or what is left of a word
module _ (rest here : List ℕ) (k b : ℕ) (more : List ℕ) (front : Front) (in_word : Bool) (high : k ≤ length rest)
    (none : Nowhere (Passes (is_byte2 34 47) rest) 0 k) (mark : is_byte2 34 47 (slice_index rest k) ≡ true) (is_in : in_word ≡ is_in_word k rest)
    (cut : here ≡ drop k rest) (begun : here ≡ b ∷ more) (is_front : front ≡ spef_part in_word b more) where
  at_front : left_open false rest ≡ (is_unclosed front.class || is_left_open Spef front.fresh front.inner more)
  at_front =
      plain_bytes false rest k high none ∙ (ap (λ (t : Bool). left_open t (drop k rest)) (sym (is_in ∙ in_word_is k rest))
      ∙ (ap (left_open in_word) (sym cut ∙ begun) ∙ rw is_front (part_is in_word b more (mark_printable b (ap (is_byte2 34 47) (sym (first_of rest k b more (sym cut ∙ begun))) ∙ mark)))))

  pub is_open : is_unclosed front.class ≡ true → true ≡ left_open false rest
  is_open h = sym (at_front ∙ rw h refl)

  pub goes_behind : is_unclosed front.class ≡ false → (back : List ℕ) → back ≡ drop front.inner more → left_open false back ≡ left_open false rest
  goes_behind h back e =
      ap (left_open false) e ∙ (sym (passed Spef false front.inner more)
      ∙ (any_fresh false front.fresh front.inner more ∙ sym (at_front ∙ rw h refl)))
