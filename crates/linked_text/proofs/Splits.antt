-- The fields of a line, one after another.
use Rattle.std.proofs.Common.{◌≡◌, ℕ, ◌+◌, ◌<◌, Bool, true, false, eqb, ltb, List, [], ◌∷◌, length, take, drop, Option, Some, None, refl, sym, ap, subst, ◌∙◌, arith}
use Rattle.std.specs.Prelude.{if◌then◌else◌}
use Rattle.std.specs.List.{count_by, position_or_len}
use Rattle.std.proofs.lemmas.Bool.{ltb-true, ltb-false}
use Rattle.std.proofs.lemmas.List.Splits.{slice_split_first, slice_split_none, length-slice_split}
use Rattle.std.proofs.lemmas.List.Sums.{fails_before_first}
use Rattle.linked_text.specs.Fields.{cut_at, fields_of, one, two, three, four, five, seven, nine}
use Rattle.linked_text.proofs.Inversions.{one_is, two_is, three_is, four_is}
use Rattle.linked_text.proofs.Options.{first_step, passed, some_is}

abbrev is_space : ℕ → Bool
is_space b = eqb b 32

pub first_field : (line f rest : List ℕ) → cut_at 32 line ≡ Some (f, rest) → fields_of line ≡ f ∷ fields_of rest
unfolding cut_at
first_field line f rest e =
    let a = first_step e in
    let g = passed (ltb (position_or_len is_space line) (length line)) (position_or_len is_space line) a.0 a.1 in
    let within : position_or_len is_space line < length line = ltb-true _ _ g.0 in
    let split : fields_of line ≡ take (position_or_len is_space line) line ∷ fields_of (drop (position_or_len is_space line + 1) line) = slice_split_first is_space line 0 within in
    let at : fields_of line ≡ take a.0 line ∷ fields_of (drop (a.0 + 1) line) = subst (λ i. fields_of line ≡ take i line ∷ fields_of (drop (i + 1) line)) g.1 split in
    subst (λ (x : List ℕ × List ℕ). fields_of line ≡ x.0 ∷ fields_of x.1) (some_is (take a.0 line, drop (a.0 + 1) line) (f, rest) a.2) at

pub last_field : (line : List ℕ) → cut_at 32 line ≡ None → fields_of line ≡ line ∷ []
unfolding cut_at
last_field line e = slice_split_none is_space line (λ k d lt. fails_before_first is_space line k d (by_cases (ltb (position_or_len is_space line) (length line)) refl k lt))
  where
    by_cases : (b : Bool) → ltb (position_or_len is_space line) (length line) ≡ b → (k : ℕ) → k < length line → k < position_or_len is_space line
    by_cases true t k lt = let never : ◌≡◌ {A = Option (List ℕ × List ℕ)} (Some (take (position_or_len is_space line) line, drop (position_or_len is_space line + 1) line)) None = rw t at e in absurd cc
    by_cases false t k lt = omega (arith, lt, ltb-false _ _ t)

-- ---- the fields that are left

abbrev pub left : Bool → List ℕ → List (List ℕ)
left more line = if more then fields_of line else []

pub next_some : (now : List (List ℕ)) (more : Bool) (line f rest : List ℕ) → left more line ≡ now → more ≡ true → cut_at 32 line ≡ Some (f, rest) → now ≡ f ∷ left more rest
next_some now more line f rest e m cut = sym e ∙ rw m (first_field line f rest cut)

pub next_last : (now : List (List ℕ)) (more : Bool) (line : List ℕ) → left more line ≡ now → more ≡ true → cut_at 32 line ≡ None → now ≡ line ∷ []
next_last now more line e m cut = sym e ∙ rw m (last_field line cut)

pub count_left : (now : List (List ℕ)) (more : Bool) (line : List ℕ) → left more line ≡ now → more ≡ true → length now ≡ count_by is_space line + 1
count_left now more line e m = ap length (sym e) ∙ rw m (length-slice_split is_space line)

-- ---- lines of fewer fields, and of as many

pub few_four : (xs : List (List ℕ)) → length xs < 4 → four xs ≡ None
few_four [] few = refl
few_four (a ∷ []) few = refl
few_four (a ∷ b ∷ []) few = refl
few_four (a ∷ b ∷ c ∷ []) few = refl
few_four (a ∷ b ∷ c ∷ d ∷ xs) few = absurd (omega (arith, few))

pub few_five : (xs : List (List ℕ)) → length xs < 5 → five xs ≡ None
few_five [] few = refl
few_five (a ∷ []) few = refl
few_five (a ∷ b ∷ []) few = refl
few_five (a ∷ b ∷ c ∷ []) few = refl
few_five (a ∷ b ∷ c ∷ d ∷ []) few = refl
few_five (a ∷ b ∷ c ∷ d ∷ e ∷ xs) few = absurd (omega (arith, few))

pub few_seven : (xs : List (List ℕ)) → length xs < 7 → seven xs ≡ None
few_seven [] few = refl
few_seven (a ∷ []) few = refl
few_seven (a ∷ b ∷ []) few = refl
few_seven (a ∷ b ∷ c ∷ []) few = refl
few_seven (a ∷ b ∷ c ∷ d ∷ []) few = refl
few_seven (a ∷ b ∷ c ∷ d ∷ e ∷ []) few = refl
few_seven (a ∷ b ∷ c ∷ d ∷ e ∷ f ∷ []) few = refl
few_seven (a ∷ b ∷ c ∷ d ∷ e ∷ f ∷ g ∷ xs) few = absurd (omega (arith, few))

pub few_nine : (xs : List (List ℕ)) → length xs < 9 → nine xs ≡ None
few_nine [] few = refl
few_nine (a ∷ []) few = refl
few_nine (a ∷ b ∷ []) few = refl
few_nine (a ∷ b ∷ c ∷ []) few = refl
few_nine (a ∷ b ∷ c ∷ d ∷ []) few = refl
few_nine (a ∷ b ∷ c ∷ d ∷ e ∷ []) few = refl
few_nine (a ∷ b ∷ c ∷ d ∷ e ∷ f ∷ []) few = refl
few_nine (a ∷ b ∷ c ∷ d ∷ e ∷ f ∷ g ∷ []) few = refl
few_nine (a ∷ b ∷ c ∷ d ∷ e ∷ f ∷ g ∷ h ∷ []) few = refl
few_nine (a ∷ b ∷ c ∷ d ∷ e ∷ f ∷ g ∷ h ∷ i ∷ xs) few = absurd (omega (arith, few))

-- one, two or three fields, and those after them
pub short_one : {a : List ℕ} {xs : List (List ℕ)} → xs ≡ a ∷ [] → length xs < 4
short_one e = rw e (omega arith)

pub short_two : {a b : List ℕ} {xs ys : List (List ℕ)} → xs ≡ a ∷ ys → ys ≡ b ∷ [] → length xs < 4
short_two e f = rw (e, f) (omega arith)

pub short_three : {a b c : List ℕ} {xs ys zs : List (List ℕ)} → xs ≡ a ∷ ys → ys ≡ b ∷ zs → zs ≡ c ∷ [] → length xs < 4
short_three e f g = rw (e, f, g) (omega arith)

pub three_first : {a b c : List ℕ} {xs ys zs ws : List (List ℕ)} → xs ≡ a ∷ ys → ys ≡ b ∷ zs → zs ≡ c ∷ ws → xs ≡ a ∷ b ∷ c ∷ ws
three_first e f g = rw (e, f, g) refl

pub six_first : {a b c d e f : List ℕ} {xs ys zs : List (List ℕ)} → xs ≡ a ∷ b ∷ c ∷ ys → ys ≡ d ∷ e ∷ f ∷ zs → xs ≡ a ∷ b ∷ c ∷ d ∷ e ∷ f ∷ zs
six_first h k = rw (h, k) refl

-- a line that is more than one field
not_one : (a : List ℕ) (xs : List (List ℕ)) (n : ℕ) → length xs ≡ n + 1 → one (a ∷ xs) ≡ None
not_one a [] n e = absurd (omega (arith, e))
not_one a (b ∷ xs) n e = refl

pub one_none : (a rest : List ℕ) (ys : List (List ℕ)) → ys ≡ a ∷ fields_of rest → one ys ≡ None
one_none a rest ys e = rw e (not_one a (fields_of rest) (count_by is_space rest) (length-slice_split is_space rest))

-- a line of two: one after one
pub two_some : (a : List ℕ) (xs ys : List (List ℕ)) → ys ≡ a ∷ xs → (x : List ℕ) → one xs ≡ Some x → two ys ≡ Some (a, x)
two_some a xs ys e x h = rw (e, one_is xs x h) refl

pub two_none : (a : List ℕ) (xs ys : List (List ℕ)) → ys ≡ a ∷ xs → one xs ≡ None → two ys ≡ None
two_none a [] ys e h = rw e refl
two_none a (z1 ∷ []) ys e h = absurd cc
two_none a (z1 ∷ z2 ∷ xs) ys e h = rw e refl

-- a line of three: two after one
pub three_some : (a : List ℕ) (xs ys : List (List ℕ)) → ys ≡ a ∷ xs → (x : List ℕ × List ℕ) → two xs ≡ Some x → three ys ≡ Some (a, x.0, x.1)
three_some a xs ys e x h = rw (e, two_is xs x h) refl

pub three_none : (a : List ℕ) (xs ys : List (List ℕ)) → ys ≡ a ∷ xs → two xs ≡ None → three ys ≡ None
three_none a [] ys e h = rw e refl
three_none a (z1 ∷ []) ys e h = rw e refl
three_none a (z1 ∷ z2 ∷ []) ys e h = absurd cc
three_none a (z1 ∷ z2 ∷ z3 ∷ xs) ys e h = rw e refl

-- a line of four: one after three
pub four_some : (a b c : List ℕ) (xs ys : List (List ℕ)) → ys ≡ a ∷ b ∷ c ∷ xs → (x : List ℕ) → one xs ≡ Some x → four ys ≡ Some (a, b, c, x)
four_some a b c xs ys e x h = rw (e, one_is xs x h) refl

pub four_none : (a b c : List ℕ) (xs ys : List (List ℕ)) → ys ≡ a ∷ b ∷ c ∷ xs → one xs ≡ None → four ys ≡ None
four_none a b c [] ys e h = rw e refl
four_none a b c (z1 ∷ []) ys e h = absurd cc
four_none a b c (z1 ∷ z2 ∷ xs) ys e h = rw e refl

-- a line of five: two after three
pub five_some : (a b c : List ℕ) (xs ys : List (List ℕ)) → ys ≡ a ∷ b ∷ c ∷ xs → (x : List ℕ × List ℕ) → two xs ≡ Some x → five ys ≡ Some (a, b, c, x.0, x.1)
five_some a b c xs ys e x h = rw (e, two_is xs x h) refl

pub five_none : (a b c : List ℕ) (xs ys : List (List ℕ)) → ys ≡ a ∷ b ∷ c ∷ xs → two xs ≡ None → five ys ≡ None
five_none a b c [] ys e h = rw e refl
five_none a b c (z1 ∷ []) ys e h = rw e refl
five_none a b c (z1 ∷ z2 ∷ []) ys e h = absurd cc
five_none a b c (z1 ∷ z2 ∷ z3 ∷ xs) ys e h = rw e refl

-- a line of seven: four after three
pub seven_some : (a b c : List ℕ) (xs ys : List (List ℕ)) → ys ≡ a ∷ b ∷ c ∷ xs → (x : List ℕ × List ℕ × List ℕ × List ℕ) → four xs ≡ Some x → seven ys ≡ Some (a, b, c, x.0, x.1, x.2, x.3)
seven_some a b c xs ys e x h = rw (e, four_is xs x h) refl

pub seven_none : (a b c : List ℕ) (xs ys : List (List ℕ)) → ys ≡ a ∷ b ∷ c ∷ xs → four xs ≡ None → seven ys ≡ None
seven_none a b c [] ys e h = rw e refl
seven_none a b c (z1 ∷ []) ys e h = rw e refl
seven_none a b c (z1 ∷ z2 ∷ []) ys e h = rw e refl
seven_none a b c (z1 ∷ z2 ∷ z3 ∷ []) ys e h = rw e refl
seven_none a b c (z1 ∷ z2 ∷ z3 ∷ z4 ∷ []) ys e h = absurd cc
seven_none a b c (z1 ∷ z2 ∷ z3 ∷ z4 ∷ z5 ∷ xs) ys e h = rw e refl

-- a line of nine: three after six
pub nine_some : (a b c d g i : List ℕ) (xs ys : List (List ℕ)) → ys ≡ a ∷ b ∷ c ∷ d ∷ g ∷ i ∷ xs → (x : List ℕ × List ℕ × List ℕ) → three xs ≡ Some x → nine ys ≡ Some (a, b, c, d, g, i, x.0, x.1, x.2)
nine_some a b c d g i xs ys e x h = rw (e, three_is xs x h) refl

pub nine_none : (a b c d g i : List ℕ) (xs ys : List (List ℕ)) → ys ≡ a ∷ b ∷ c ∷ d ∷ g ∷ i ∷ xs → three xs ≡ None → nine ys ≡ None
nine_none a b c d g i [] ys e h = rw e refl
nine_none a b c d g i (z1 ∷ []) ys e h = rw e refl
nine_none a b c d g i (z1 ∷ z2 ∷ []) ys e h = rw e refl
nine_none a b c d g i (z1 ∷ z2 ∷ z3 ∷ []) ys e h = absurd cc
nine_none a b c d g i (z1 ∷ z2 ∷ z3 ∷ z4 ∷ xs) ys e h = rw e refl
