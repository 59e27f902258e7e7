-- The laws of the fields: what was read stood there, and what stands there is read.
use Rattle.std.proofs.Common.{◌≡◌, ℕ, zero, suc, ◌+◌, ◌<◌, ◌≤◌, ◌^◌, Bool, true, false, cond, eqb, ltb, leb, ◌&&◌, List, [], ◌∷◌, ◌++◌, length, get_or, take, drop, ℤ, pos, negsuc, Some, refl, sym, ap, subst, ◌∙◌, append_assoc, drop-cons, add-one, arith}
use Rattle.std.specs.Fmt.{decimal, signed_decimal}
use Rattle.std.specs.List.{AllByRecursion, list_all, position_or_len}
use Rattle.std.specs.Str.Parse.{AllDigits, IsNumeral}
use Rattle.std.proofs.lemmas.Bool.{ltb-true, lt-ltb, leb-true, le-leb, eqb-true, eq-eqb, ne_eqb}
use Rattle.std.proofs.lemmas.Fmt.{decimal_is_IsNumeral_wide}
use Rattle.std.proofs.lemmas.Int.{ints}
use Rattle.std.proofs.lemmas.List.{take_at, drop_at, take-append-drop, length-append}
use Rattle.std.proofs.lemmas.List.Elements.{recursion_from_All}
use Rattle.std.proofs.lemmas.List.Sums.{passes_at_first, AllPass-from_list_all, list_all-from_AllPass}
use Rattle.std.proofs.lemmas.Str.Parse.{digit_from_value}
use Rattle.xt_model.specs.Names.{IsName}
use Rattle.xt_model.specs.Options.{◌>>=◌}
use Rattle.linked_text.specs.Fields.{cut_at, number_of, negative_of, signed_of, is_name}
use Rattle.linked_text.specs.Fits.{IsSmaller}
use Rattle.linked_text.proofs.Options.{first_step, passed, both_true, some_is}
use Rattle.linked_text.proofs.Decimals.{number_takes, number_again}

-- ---- fields up to a mark

abbrev pub Lacks : ℕ → List ℕ → Type 0
Lacks mark f = AllByRecursion (λ b. eqb b mark ≡ false) f

first_mark : (mark : ℕ) (f rest : List ℕ) → Lacks mark f → position_or_len (λ b. eqb b mark) (f ++ mark ∷ rest) ≡ length f
first_mark mark [] rest h = rw (eq-eqb mark mark refl) refl
first_mark mark (b ∷ f) rest h = rw h.0 (omega (arith, first_mark mark f rest h.1))

pub cut_again : (mark : ℕ) (f rest : List ℕ) → Lacks mark f → cut_at mark (f ++ mark ∷ rest) ≡ Some (f, rest)
unfolding cut_at
cut_again mark f rest h =
    let place = first_mark mark f rest h in
    let within : ltb (length f) (length (f ++ mark ∷ rest)) ≡ true = lt-ltb _ _ (omega (arith, length-append f (mark ∷ rest))) in
    let back : drop (length f + 1) (f ++ mark ∷ rest) ≡ rest = ap (drop (length f + 1)) (sym (append_assoc f (mark ∷ []) rest)) ∙ drop_at (f ++ mark ∷ []) rest (length f + 1) (length-append f (mark ∷ [])) in
    rw (place, within, take_at f (mark ∷ rest) (length f) refl, back) refl

pub cut_takes : (mark : ℕ) (bytes f rest : List ℕ) → cut_at mark bytes ≡ Some (f, rest) → bytes ≡ f ++ mark ∷ rest
unfolding cut_at
cut_takes mark bytes f rest e =
    let p : ℕ → Bool = λ b. eqb b mark in
    let b = first_step e in
    let g = passed (ltb (position_or_len p bytes) (length bytes)) (position_or_len p bytes) b.0 b.1 in
    let within : position_or_len p bytes < length bytes = ltb-true _ _ g.0 in
    let marked : get_or bytes (position_or_len p bytes) 0 ≡ mark = eqb-true _ _ (passes_at_first p bytes 0 within) in
    let i : ℕ = position_or_len p bytes in
    let there : bytes ≡ take i bytes ++ get_or bytes i 0 ∷ drop (i + 1) bytes = sym (take-append-drop i bytes) ∙ ap (λ (t : List ℕ). take i bytes ++ t) (drop-cons bytes i 0 within ∙ ap (λ (n : ℕ). get_or bytes i 0 ∷ drop n bytes) (sym (add-one i))) in
    let so : bytes ≡ take i bytes ++ mark ∷ drop (i + 1) bytes = there ∙ ap (λ (m : ℕ). take i bytes ++ m ∷ drop (i + 1) bytes) marked in
    let q = some_is (take b.0 bytes, drop (b.0 + 1) bytes) (f, rest) b.2 in
    let same : i ≡ b.0 = g.1 in
    let P : ℕ → Type 0 = λ n. bytes ≡ take n bytes ++ mark ∷ drop (n + 1) bytes in
    subst (λ (x : List ℕ × List ℕ). bytes ≡ x.0 ++ mark ∷ x.1) q (subst P same so)

-- ---- what a number and a name consist of

-- no byte is a space or a line's end
abbrev pub Visible : List ℕ → Type 0
Visible f = AllByRecursion (λ b. 33 ≤ b) f

pub lacks : (mark : ℕ) → mark ≤ 32 → (f : List ℕ) → Visible f → Lacks mark f
lacks mark low [] h = tt
lacks mark low (b ∷ f) h = (ne_eqb b mark (λ (e : b ≡ mark). omega (arith, h.0)), lacks mark low f h.1)

visible_digits : (ds : List ℕ) → AllDigits 10 ds → Visible ds
visible_digits [] h = tt
visible_digits (d ∷ ds) h = (omega (arith, digit_from_value d h.0), visible_digits ds h.1)

pub visible_decimal : (n : ℕ) → n < 10 ^ 64 → Visible (decimal n)
visible_decimal n fits = visible_digits (decimal n) (decimal_is_IsNumeral_wide n fits).0.1

pub visible_signed : (x : ℤ) → IsSmaller (2 ^ 127) x → Visible (signed_decimal x)
visible_signed (pos n) h = visible_decimal n (omega (arith, ints, h.high))
visible_signed (negsuc n) h = (omega arith, visible_decimal (suc n) (omega (arith, ints, h.low)))

pub visible_name : (f : List ℕ) → IsName f → Visible f
visible_name f h = weaker f (recursion_from_All (λ b. (33 ≤ b) × (b ≤ 126)) f h.printable)
  where
    weaker : (f : List ℕ) → AllByRecursion (λ b. (33 ≤ b) × (b ≤ 126)) f → Visible f
    weaker [] h = tt
    weaker (b ∷ f) h = (h.0.0, weaker f h.1)

-- a numeral is some digit and more
pub record StartsLow (f : List ℕ) : Type 0 where
  pub first : ℕ
  pub more : List ℕ
  pub is : f ≡ first ∷ more
  pub low : first ≤ 57

first_digit : (ds : List ℕ) → IsNumeral 10 ds → (b : ℕ) × (more : List ℕ) × (ds ≡ b ∷ more) × (48 ≤ b) × (b ≤ 57)
first_digit [] h = absurd (omega (arith, h.0))
first_digit (d ∷ ds) h = let r = digit_from_value d h.1.0 in (d, ds, refl, r.0, r.1)

pub starts_low : (x : ℤ) → IsSmaller (2 ^ 127) x → StartsLow (signed_decimal x)
starts_low (pos n) h = let d = first_digit (decimal n) (decimal_is_IsNumeral_wide n (omega (arith, ints, h.high))).0 in record { first = d.0; more = d.1; is = d.2; low = d.4 }
starts_low (negsuc n) h = record { first = 45; more = decimal (suc n); is = refl; low = omega arith }

-- ---- numbers

pub signed_takes : (limit : ℕ) (bytes : List ℕ) (x : ℤ) → signed_of limit bytes ≡ Some x → (bytes ≡ signed_decimal x) × IsSmaller limit x
signed_takes limit [] x e = absurd cc
signed_takes limit (b ∷ more) x e = by_sign (eqb b 45) refl e
  where
    plain : (y : ℤ) → (number_of limit (b ∷ more) >>= λ n. Some (pos n)) ≡ Some y → (b ∷ more ≡ signed_decimal y) × IsSmaller limit y
    plain y e =
        let s = first_step e in
        let t = number_takes limit (b ∷ more) s.0 s.1 in
        subst (λ (z : ℤ). (b ∷ more ≡ signed_decimal z) × IsSmaller limit z) (some_is (pos s.0) y s.2) (t.0, record { low = omega (arith, ints, t.1); high = omega (arith, ints, t.1) })

    minus : (n : ℕ) (y : ℤ) → b ≡ 45 → more ≡ decimal n → n < limit → negative_of n ≡ Some y → (b ∷ more ≡ signed_decimal y) × IsSmaller limit y
    minus zero y is text lt e = absurd cc
    minus (suc n) y is text lt e =
        let some : eqb (suc n) 0 ≡ false = ne_eqb (suc n) 0 (λ (z : suc n ≡ 0). omega arith) in
        let made : Some (negsuc n) ≡ Some y = rw some at e in
        subst (λ (z : ℤ). (b ∷ more ≡ signed_decimal z) × IsSmaller limit z) (some_is (negsuc n) y made) (rw (is, text) refl, record { low = omega (arith, ints, lt); high = omega (arith, ints, lt) })

    by_sign : (t : Bool) → eqb b 45 ≡ t → cond t (number_of limit more >>= negative_of) (number_of limit (b ∷ more) >>= λ n. Some (pos n)) ≡ Some x → (b ∷ more ≡ signed_decimal x) × IsSmaller limit x
    by_sign true is e =
        let s = first_step e in
        let t = number_takes limit more s.0 s.1 in
        minus s.0 x (eqb-true b 45 is) t.0 t.1 s.2
    by_sign false is e = plain x e

pub signed_again : (limit : ℕ) (x : ℤ) → limit ≤ 2 ^ 127 → IsSmaller limit x → signed_of limit (signed_decimal x) ≡ Some x
signed_again limit (pos n) most h =
    let small : n < limit = omega (arith, ints, h.high) in
    let fits : n < 10 ^ 64 = omega (arith, small, most) in
    let d = first_digit (decimal n) (decimal_is_IsNumeral_wide n fits).0 in
    let again : number_of limit (d.0 ∷ d.1) ≡ Some n = ap (number_of limit) (sym d.2) ∙ number_again limit n small fits in
    let no_sign : eqb d.0 45 ≡ false = ne_eqb d.0 45 (λ (e : d.0 ≡ 45). omega (arith, d.3)) in
    ap (signed_of limit) d.2 ∙ rw (no_sign, again) refl
signed_again limit (negsuc n) most h =
    let small : suc n < limit = omega (arith, ints, h.low) in
    let some : eqb (suc n) 0 ≡ false = ne_eqb (suc n) 0 (λ (z : suc n ≡ 0). omega arith) in
    rw (number_again limit (suc n) small (omega (arith, small, most)), some) refl

-- ---- names

pub name_sound : (f : List ℕ) → is_name f ≡ true → IsName f
name_sound f e =
    let a = both_true (ltb 0 (length f)) (leb (length f) 2049 && list_all (λ b. leb 33 b && leb b 126) f) e in
    let b = both_true (leb (length f) 2049) (list_all (λ b. leb 33 b && leb b 126) f) a.1 in
    let each = AllPass-from_list_all (λ b. leb 33 b && leb b 126) f b.1 in
    record { some = ltb-true _ _ a.0; short = leb-true _ _ b.0; printable = λ k d lt. let p = both_true (leb 33 (get_or f k d)) (leb (get_or f k d) 126) (each k d lt) in (leb-true _ _ p.0, leb-true _ _ p.1) }

pub name_tested : (f : List ℕ) → IsName f → is_name f ≡ true
name_tested f h =
    let some : ltb 0 (length f) ≡ true = lt-ltb _ _ h.some in
    let short : leb (length f) 2049 ≡ true = le-leb _ _ h.short in
    let each : list_all (λ b. leb 33 b && leb b 126) f ≡ true = list_all-from_AllPass (λ b. leb 33 b && leb b 126) f (λ k d lt. let p = h.printable k d lt in rw (le-leb _ _ p.0, le-leb _ _ p.1) refl) in
    rw (some, short, each) refl
