-- Names cut at different places, and what is hashed of names in two parts.
use Rattle.std.specs.Prelude.{◌≡◌, ◌+◌, ◌<◌, refl, ℕ, Bool, true, false, ◌&&◌, ◌==◌, ◌≢◌, List, [], ◌∷◌, ◌++◌, length}
use Rattle.std.specs.List.{fold}
use Rattle.std.specs.Str.{bytes_eq}
use Rattle.std.proofs.Common.{sym, ap, ◌∙◌, arith, append_assoc}
use Rattle.std.specs.Bool.{one_answer}
use Rattle.std.proofs.lemmas.Bool.{false≢true}
use Rattle.std.proofs.lemmas.Bool.Decides.{nat_tests}
use Rattle.std.proofs.lemmas.Slice.Eq.{bytes_eq-Decides}
use Rattle.std.proofs.lemmas.List.{length-append}
use Rattle.name_numbers.specs.Eights.{eights}
use Rattle.name_numbers.specs.Names.{Text}
use Rattle.name_numbers.proofs.EightLaws.{eight_first, fewer}

-- fewer than eight bytes in two slices are written at once
pub all_at_once : {S : Type 0} (write : S → List ℕ → S) (old end : S) (left rest both : Text) → length left + length rest < 8
    → both ≡ left ++ rest → end ≡ write old both → end ≡ fold write old (eights (left ++ rest))
all_at_once write old end left rest both n one step =
    let few : length (left ++ rest) < 8 = omega (arith, n, length-append left rest) in
    step ∙ ap (write old) one ∙ sym (ap (fold write old) (fewer (left ++ rest) few))

-- eight bytes across the end of a slice, and what comes after them
pub after_eight : {S : Type 0} (write : S → List ℕ → S) (old here end : S) (left rest front more both : Text)
    → rest ≡ front ++ more → length left + length front ≡ 8 → both ≡ left ++ front → here ≡ write old both
    → end ≡ fold write here (eights more) → end ≡ fold write old (eights (left ++ rest))
after_eight write old here end left rest front more both cut n one step last =
    let eight : length (left ++ front) ≡ 8 = omega (arith, n, length-append left front) in
    last
    ∙ ap (λ s. fold write s (eights more)) (step ∙ ap (write old) one)
    ∙ sym (ap (fold write old) (eight_first (left ++ front) more eight))
    ∙ ap (λ r. fold write old (eights r)) (append_assoc left front more)
    ∙ sym (ap (λ r. fold write old (eights (left ++ r))) cut)

-- where nothing is left of the first slice, the second is written as if it were alone
pub none_left : {S : Type 0} (write : S → List ℕ → S) (old here end : S) (prefix rest left : Text) → (length left == 0) ≡ true
    → ((more : List ℕ) → fold write old (eights (prefix ++ more)) ≡ fold write here (eights (left ++ more)))
    → end ≡ fold write here (eights rest) → end ≡ fold write old (eights (prefix ++ rest))
none_left write old here end prefix rest [] none h last = last ∙ sym (h rest)
none_left write old here end prefix rest (x ∷ left) none h last =
    let empty : length (x ∷ left) ≡ 0 = grind (arith, nat_tests) in
    absurd (omega (arith, empty))

both_tests : (a b c : Bool) → (a && (b && c)) ≡ ((a && b) && c)
both_tests true b c = refl
both_tests false b c = refl

-- bytes in front that are as many are compared by themselves
pub cut_alike : (a b c d : Text) → length a ≡ length c → bytes_eq (a ++ b) (c ++ d) ≡ (bytes_eq a c && bytes_eq b d)
cut_alike [] b [] d h = refl
cut_alike [] b (y ∷ c) d h = absurd (omega (arith, h))
cut_alike (x ∷ a) b [] d h = absurd (omega (arith, h))
cut_alike (x ∷ a) b (y ∷ c) d h =
    rw (cut_alike a b c d (omega (arith, h))) (both_tests (x == y) (bytes_eq a c) (bytes_eq b d))

-- the bytes of two slices and those of two others, where the first is no longer than the third: what the two have in
-- front, then what lies in the second and the third, then the rest
pub cut_thrice : (prefix rest longer last front behind middle end : Text)
    → longer ≡ front ++ behind → rest ≡ middle ++ end → length prefix ≡ length front → length middle ≡ length behind
    → bytes_eq (prefix ++ rest) (longer ++ last)
    ≡ (bytes_eq prefix front && (bytes_eq middle behind && bytes_eq end last))
cut_thrice prefix rest longer last front behind middle end long short one two =
    ap (λ q. bytes_eq (prefix ++ rest) (q ++ last)) long
    ∙ ap (bytes_eq (prefix ++ rest)) (append_assoc front behind last)
    ∙ cut_alike prefix rest front (behind ++ last) one
    ∙ ap (λ r. bytes_eq prefix front && bytes_eq r (behind ++ last)) short
    ∙ ap (λ b. bytes_eq prefix front && b) (cut_alike middle end behind last two)

-- three tests of which one fails, and three of which two hold
pub first_differs : (a more : Bool) → a ≡ false → (a && more) ≡ false
first_differs a more h = rw h refl

pub middle_differs : (a b c : Bool) → b ≡ false → (a && (b && c)) ≡ false
middle_differs true b c h = rw h refl
middle_differs false b c h = refl

pub last_counts : (a b c : Bool) → a ≡ true → b ≡ true → (a && (b && c)) ≡ c
last_counts a b c h k = rw (h, k) refl

-- names of other lengths differ
pub lengths_differ : (a b : Text) → length a ≢ length b → false ≡ bytes_eq a b
lengths_differ a b apart = one_answer false (bytes_eq a b) (λ f. absurd (false≢true f), λ e. absurd (apart (ap length e))) (bytes_eq-Decides a b)

-- which of two names is compared with the other does not matter
pub either_way : (a b : Text) → bytes_eq a b ≡ bytes_eq b a
either_way a b = one_answer (bytes_eq a b) (bytes_eq b a) (λ h. sym ((bytes_eq-Decides a b).0 h), λ e. (bytes_eq-Decides a b).1 (sym e)) (bytes_eq-Decides b a)
