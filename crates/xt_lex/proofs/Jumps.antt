-- In a Liberty text what lies between strings and comments may be passed over byte by byte.
use Rattle.std.proofs.Common.{◌≡◌, ℕ, zero, suc, ◌+◌, Bool, true, false, ◌&&◌, ◌||◌, not, List, [], ◌∷◌, length, drop, cond, ◌==◌, sym, ap, ◌∙◌, refl, arith, add-one}
use Rattle.std.proofs.lemmas.Bool.{false≢true, and_parts, or_parts, false_from_ne_true}
use Rattle.std.proofs.lemmas.Bool.Decides.{nat_tests}
use Rattle.std.specs.List.{prefix_len}
use Rattle.std.specs.Char.{is_ascii_graphic}
use Rattle.memchr.specs.Find.{Nowhere, Passes, is_byte2}
use Rattle.xt_lex.specs.declared.front.Front.{Front}
use Rattle.xt_lex.specs.declared.rules.Rules.TheVariants.{Liberty}
use Rattle.xt_lex.specs.Bytes.{is_white, begins, opens_comment, joins_lines}
use Rattle.xt_lex.specs.Liberty.{is_liberty_mark, ends_liberty_word, liberty_word, liberty_front}
use Rattle.xt_lex.specs.Pieces.{front_of, pieces_of}
use Rattle.xt_lex.specs.Faults.{is_unclosed, any_unclosed}
use Rattle.xt_lex.proofs.Open.{is_left_open, any_unclosed_of, passed}

-- whether a piece is left open, of bytes that begin a piece
abbrev pub left_open : List ℕ → Bool
left_open bytes = is_left_open Liberty false 0 bytes

-- whether a line begins is nothing to a Liberty text
any_fresh : (f g : Bool) (k : ℕ) (bytes : List ℕ) → is_left_open Liberty f k bytes ≡ is_left_open Liberty g k bytes
unfolding front_of
any_fresh f g zero [] = refl
any_fresh f g (suc k) [] = refl
any_fresh f g zero (b ∷ more) = refl
any_fresh f g (suc k) (b ∷ more) = any_fresh f g k more

pub left_open_of : (bytes : List ℕ) → left_open bytes ≡ any_unclosed (pieces_of Liberty bytes)
left_open_of bytes = any_fresh false true 0 bytes ∙ any_unclosed_of Liberty bytes

-- a piece of this front leaves open what the bytes behind its first one do
abbrev Goes : Front → List ℕ → Type 0
Goes front more = (is_unclosed front.class || is_left_open Liberty front.fresh front.inner more) ≡ left_open more

by_case : (t : Bool) (f g : Front) (more : List ℕ) → (t ≡ true → Goes f more) → (t ≡ false → Goes g more) → Goes (cond t f g) more
by_case true f g more h k = h refl
by_case false f g more h k = k refl

by_white : (t : Bool) (n c : ℕ) (more : List ℕ) → (t ≡ true → is_left_open Liberty false n more ≡ left_open (c ∷ more))
    → is_left_open Liberty false (cond t (1 + n) 0) (c ∷ more) ≡ left_open (c ∷ more)
by_white true n c more h = let e : 1 + n ≡ suc n = omega arith in rw e (h refl)
by_white false n c more h = refl

by_word : (t : Bool) (n c : ℕ) (more : List ℕ) → (t ≡ false → is_left_open Liberty false n more ≡ left_open (c ∷ more))
    → is_left_open Liberty false (cond t 0 (n + 1)) (c ∷ more) ≡ left_open (c ∷ more)
by_word true n c more h = refl
by_word false n c more h = rw add-one (h refl)

-- white space may be cut anywhere
whites_pass : (more : List ℕ) → is_left_open Liberty false (prefix_len is_white more) more ≡ left_open more
unfolding liberty_front front_of
whites_pass [] = refl
whites_pass (c ∷ more) = by_white (is_white c) (prefix_len is_white more) c more (λ e. rw e refl)

joined_pass : (more : List ℕ) → begins 10 more ≡ true → is_left_open Liberty false 1 more ≡ left_open more
unfolding liberty_front front_of
joined_pass [] h = refl
joined_pass (c ∷ more) h = let e : c ≡ 10 = grind (arith, nat_tests) in rw e (sym (whites_pass more))

not_white : (c : ℕ) → not (is_ascii_graphic c) ≡ false → is_white c ≡ false
not_white c h = grind (arith, nat_tests)

-- so may a word
word_pass : (more : List ℕ) → is_left_open Liberty false (liberty_word more) more ≡ left_open more
unfolding liberty_front front_of
word_pass [] = refl
word_pass (c ∷ more) =
    by_word (ends_liberty_word c more) (liberty_word more) c more (λ e.
    let printable = or_parts (not (is_ascii_graphic c)) _ e in
    let mark = or_parts (is_liberty_mark c) _ printable.1 in
    let quote = or_parts (c == 34) _ mark.1 in
    let comment = or_parts (opens_comment c more) (joins_lines c more) quote.1 in
    rw (not_white c printable.0, comment.1, printable.0, comment.0, quote.0, mark.0) refl)

-- a byte at which neither a string nor a comment begins
plain_byte : (b : ℕ) (more : List ℕ) → is_byte2 34 47 b ≡ false → left_open (b ∷ more) ≡ left_open more
unfolding liberty_front front_of
plain_byte b more h =
    let neither = or_parts (b == 34) (b == 47) h in
    by_case (is_white b) _ _ more (λ _. whites_pass more) (λ _.
    by_case (b == 92 && begins 10 more) _ _ more (λ f. joined_pass more (and_parts (b == 92) _ f).1) (λ _.
    by_case (not (is_ascii_graphic b)) _ _ more (λ _. refl) (λ _.
    by_case (b == 47 && begins 42 more) _ _ more (λ f. absurd (false≢true (sym neither.1 ∙ (and_parts (b == 47) _ f).0))) (λ _.
    by_case (b == 34) _ _ more (λ f. absurd (false≢true (sym neither.0 ∙ f))) (λ _.
    by_case (is_liberty_mark b) _ _ more (λ _. refl) (λ _. word_pass more))))))

-- bytes at which none begins
plain_bytes : (bytes : List ℕ) (k : ℕ) → Nowhere (Passes (is_byte2 34 47) bytes) 0 k → left_open bytes ≡ left_open (drop k bytes)
plain_bytes bytes zero none = refl
plain_bytes [] (suc k) none = refl
plain_bytes (b ∷ more) (suc k) none =
    plain_byte b more (false_from_ne_true (is_byte2 34 47 b) (λ e. none 0 (omega arith) (omega arith) e))
    ∙ plain_bytes more k (λ j low high p. none (suc j) (omega arith) (omega arith) p)

pub none_begins : (bytes : List ℕ) → Nowhere (Passes (is_byte2 34 47) bytes) 0 (length bytes) → false ≡ left_open bytes
none_begins [] none = refl
none_begins (b ∷ more) none =
    none_begins more (λ j low high p. none (suc j) (omega arith) (omega arith) p)
    ∙ sym (plain_byte b more (false_from_ne_true (is_byte2 34 47 b) (λ e. none 0 (omega arith) (omega arith) e)))

-- the piece at the first byte where one may begin
module _ (rest here : List ℕ) (k b : ℕ) (more : List ℕ) (front : Front) (none : Nowhere (Passes (is_byte2 34 47) rest) 0 k)
    (cut : here ≡ drop k rest) (begun : here ≡ b ∷ more) (is_front : front ≡ liberty_front b more) where
  at_front : left_open rest ≡ (is_unclosed front.class || is_left_open Liberty front.fresh front.inner more)
  unfolding front_of
  at_front = plain_bytes rest k none ∙ (ap left_open (sym cut ∙ begun) ∙ rw is_front refl)

  pub is_open : is_unclosed front.class ≡ true → true ≡ left_open rest
  is_open h = sym (at_front ∙ rw h refl)

  pub goes_behind : is_unclosed front.class ≡ false → (back : List ℕ) → back ≡ drop front.inner more → left_open back ≡ left_open rest
  goes_behind h back e =
      ap left_open e ∙ (sym (passed Liberty false front.inner more)
      ∙ (any_fresh false front.fresh front.inner more ∙ sym (at_front ∙ rw h refl)))
