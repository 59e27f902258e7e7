-- The laws of fields: what was read is written so, and what is written so is read.
use Rattle.std.proofs.Common.{◌≡◌, ℕ, suc, ◌<◌, ◌≤◌, ◌^◌, Bool, true, false, leb, ◌&&◌, List, [], ◌∷◌, length, map, ℤ, ◌≤ℤ◌, int_le, Option, Some, None, refl, ap, subst, ◌∙◌, arith, cond}
use Rattle.std.specs.Prelude.{codes}
use Rattle.std.specs.Fmt.{decimal, signed_decimal}
use Rattle.std.specs.List.{AllByRecursion}
use Rattle.std.specs.Str.{bytes_eq}
use Rattle.std.proofs.lemmas.Bool.{leb-true, le-leb}
use Rattle.std.proofs.lemmas.Int.{ints}
use Rattle.xt_model.specs.declared.edge.Edge.{Edge}
use Rattle.xt_model.specs.declared.edge.Edge.TheVariants.{Rise, Fall}
use Rattle.xt_model.specs.Names.{IsName}
use Rattle.text_lines.specs.Lines.{Line}
use Rattle.text_lines.specs.Words.{edge_word}
use Rattle.linked_text.specs.Fits.{IsSmaller}
use Rattle.linked_text.specs.Fields.{between, count, size, each, edge_of, kind_of}
use Rattle.linked_text.specs.Linked.{kind_field}
use Rattle.linked_text.proofs.Options.{first_step, passed, both_true, some_is}
use Rattle.linked_text.proofs.Decimals.{number_takes, number_again}
use Rattle.linked_text.proofs.Cuts.{Visible, visible_decimal, visible_signed, visible_name, signed_takes, signed_again}
use Rattle.linked_text.proofs.Inversions.{is_word}

-- ---- fields without spaces and newlines

-- each byte is above those of white space
abbrev pub Clear : List ℕ → Type 0
Clear f = AllByRecursion (λ b. leb 33 b ≡ true) f

clear : (f : List ℕ) → Visible f → Clear f
clear [] h = tt
clear (b ∷ f) h = (le-leb 33 b h.0, clear f h.1)

pub clear_count : (n : ℕ) → n < 2 ^ 32 → Clear (decimal n)
clear_count n lt = clear (decimal n) (visible_decimal n (omega (arith, lt)))

pub clear_signed : (x : ℤ) → IsSmaller (2 ^ 127) x → Clear (signed_decimal x)
clear_signed x h = clear (signed_decimal x) (visible_signed x h)

pub clear_name : (f : List ℕ) → IsName f → Clear f
clear_name f h = clear f (visible_name f h)

-- ---- numbers

pub count_takes : (f : List ℕ) (n : ℕ) → count f ≡ Some n → (f ≡ decimal n) × (n < 2 ^ 32)
count_takes f n e = number_takes (2 ^ 32) f n e

pub count_again : (n : ℕ) → n < 2 ^ 32 → count (decimal n) ≡ Some n
count_again n lt = number_again (2 ^ 32) n lt (omega (arith, lt))

pub size_takes : (f : List ℕ) (n : ℕ) → size f ≡ Some n → (f ≡ decimal n) × (1 ≤ n) × (n ≤ 64)
unfolding size
size_takes f n e =
    let a = first_step e in
    let g = passed (leb 1 a.0) a.0 n a.2 in
    let t = number_takes 65 f a.0 a.1 in
    subst (λ m. (f ≡ decimal m) × (1 ≤ m) × (m ≤ 64)) g.1 (t.0, leb-true _ _ g.0, omega (arith, t.1))

pub size_again : (n : ℕ) → 1 ≤ n → n ≤ 64 → size (decimal n) ≡ Some n
unfolding size
size_again n some most = rw (number_again 65 n (omega (arith, most)) (omega (arith, most)), le-leb 1 n some) refl

int_le_from : (a b : ℤ) → int_le a b ≡ true → a ≤ℤ b
int_le_from a b h = grind (arith, ints)

pub le_int_le : (a b : ℤ) → a ≤ℤ b → int_le a b ≡ true
le_int_le a b h = grind (arith, ints)

pub between_takes : (low high : ℤ) (f : List ℕ) (x : ℤ) → between low high f ≡ Some x → (f ≡ signed_decimal x) × (low ≤ℤ x) × (x ≤ℤ high)
unfolding between
between_takes low high f x e =
    let a = first_step e in
    let g = passed (int_le low a.0 && int_le a.0 high) a.0 x a.2 in
    let b = both_true (int_le low a.0) (int_le a.0 high) g.0 in
    let t = signed_takes (2 ^ 127) f a.0 a.1 in
    subst (λ y. (f ≡ signed_decimal y) × (low ≤ℤ y) × (y ≤ℤ high)) g.1 (t.0, int_le_from low a.0 b.0, int_le_from a.0 high b.1)

pub between_again : (low high x : ℤ) → IsSmaller (2 ^ 127) x → low ≤ℤ x → x ≤ℤ high → between low high (signed_decimal x) ≡ Some x
unfolding between
between_again low high x h least most = rw (signed_again (2 ^ 127) x (omega arith) h, le_int_le low x least, le_int_le x high most) refl

-- ---- words that say something

pub edge_takes : (f : List ℕ) (e : Edge) → edge_of f ≡ Some e → f ≡ edge_word e
edge_takes f e h = by_rise (bytes_eq f (codes "rise")) refl h
  where
    by_fall : (b : Bool) → bytes_eq f (codes "fall") ≡ b → cond b (Some Fall) None ≡ Some e → f ≡ edge_word e
    by_fall true t h = subst (λ x. f ≡ edge_word x) (some_is Fall e h) (is_word f (codes "fall") t)
    by_fall false t h = absurd cc

    by_rise : (b : Bool) → bytes_eq f (codes "rise") ≡ b → cond b (Some Rise) (cond (bytes_eq f (codes "fall")) (Some Fall) None) ≡ Some e → f ≡ edge_word e
    by_rise true t h = subst (λ x. f ≡ edge_word x) (some_is Rise e h) (is_word f (codes "rise") t)
    by_rise false t h = by_fall (bytes_eq f (codes "fall")) refl h

pub edge_again : (e : Edge) → edge_of (edge_word e) ≡ Some e
edge_again Rise = refl
edge_again Fall = refl

pub clear_edge : (e : Edge) → Clear (edge_word e)
clear_edge Rise = (refl, (refl, (refl, (refl, tt))))
clear_edge Fall = (refl, (refl, (refl, (refl, tt))))

-- one of two words
pub two_words : (f u w : List ℕ) (b : Bool) → cond (bytes_eq f u) (Some true) (cond (bytes_eq f w) (Some false) None) ≡ Some b → f ≡ cond b u w
two_words f u w b h = by_first (bytes_eq f u) refl h
  where
    by_second : (t : Bool) → bytes_eq f w ≡ t → cond t (Some false) None ≡ Some b → f ≡ cond b u w
    by_second true t h = subst (λ x. f ≡ cond x u w) (some_is false b h) (is_word f w t)
    by_second false t h = absurd cc

    by_first : (t : Bool) → bytes_eq f u ≡ t → cond t (Some true) (cond (bytes_eq f w) (Some false) None) ≡ Some b → f ≡ cond b u w
    by_first true t h = subst (λ x. f ≡ cond x u w) (some_is true b h) (is_word f u t)
    by_first false t h = by_second (bytes_eq f w) refl h

pub kind_takes : (f : List ℕ) (b : Bool) → kind_of f ≡ Some b → f ≡ kind_field b
kind_takes f b h = two_words f (codes "i") (codes "w") b h

pub kind_again : (b : Bool) → kind_of (kind_field b) ≡ Some b
kind_again true = refl
kind_again false = refl

pub clear_kind : (b : Bool) → Clear (kind_field b)
clear_kind true = (refl, tt)
clear_kind false = (refl, tt)

-- ---- several fields

pub each_takes : {A : Type 0} (of : List ℕ → Option A) (text : A → List ℕ) (Fit : A → Type 0) → ((f : List ℕ) (x : A) → of f ≡ Some x → (f ≡ text x) × Fit x)
    → (fs : Line) (xs : List A) → each of fs ≡ Some xs → (fs ≡ map text xs) × (length xs ≡ length fs) × AllByRecursion Fit xs
each_takes {A} of text Fit one [] xs e = subst (λ (ys : List A). ([] ≡ map text ys) × (length ys ≡ 0) × AllByRecursion Fit ys) (some_is [] xs e) (refl, refl, tt)
each_takes {A} of text Fit one (f ∷ fs) xs e =
    let a = first_step e in
    let b = first_step a.2 in
    let t = one f a.0 a.1 in
    let more = each_takes of text Fit one fs b.0 b.1 in
    let made : List A = a.0 ∷ b.0 in
    let text_is : f ∷ fs ≡ map text made = ap (λ (g : List ℕ). g ∷ fs) t.0 ∙ ap (λ (l : Line). text a.0 ∷ l) more.0 in
    subst (λ (ys : List A). (f ∷ fs ≡ map text ys) × (length ys ≡ suc (length fs)) × AllByRecursion Fit ys) (some_is made xs b.2) (text_is, ap suc more.1, (t.1, more.2))

pub each_again : {A : Type 0} (of : List ℕ → Option A) (text : A → List ℕ) (Fit : A → Type 0) → ((x : A) → Fit x → of (text x) ≡ Some x)
    → (xs : List A) → AllByRecursion Fit xs → each of (map text xs) ≡ Some xs
each_again of text Fit one [] h = refl
each_again of text Fit one (x ∷ xs) h = rw (one x h.0, each_again of text Fit one xs h.1) refl

pub clear_each : {A : Type 0} (text : A → List ℕ) (Fit : A → Type 0) → ((x : A) → Fit x → Clear (text x)) → (xs : List A) → AllByRecursion Fit xs → AllByRecursion Clear (map text xs)
clear_each text Fit one [] h = tt
clear_each text Fit one (x ∷ xs) h = (one x h.0, clear_each text Fit one xs h.1)
