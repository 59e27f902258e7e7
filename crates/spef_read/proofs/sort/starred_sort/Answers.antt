use Rattle.std.proofs.Common.{◌≡◌, refl, sym, ◌∙◌, ℕ, ◌≤◌, ◌<◌, List, [], ◌∷◌, length, drop, get_or, true, false, arith}
use Rattle.std.specs.Char.{is_ascii_digit}
use Rattle.std.proofs.lemmas.List.{take_rest}
use Rattle.spef_read.specs.Sorts.{index_sort, keyword_sort, starred_sort}
use Rattle.spef_read.specs.declared.sort.Sort.TheVariants.{Starred}
use Rattle.spef_read.proofs.sort.starred_sort.Goals as goal

star_alone : (bs : List ℕ) → length bs < 1 → Starred ≡ starred_sort bs
unfolding starred_sort
star_alone [] h = refl
star_alone (b ∷ bs) h = absurd (omega (arith, h))

star_and_digit : (bs : List ℕ) → 1 ≤ length bs → is_ascii_digit (get_or bs 0 0) ≡ true → index_sort (drop 1 bs) ≡ starred_sort bs
unfolding starred_sort
star_and_digit [] h e = absurd (omega (arith, h))
star_and_digit (b ∷ bs) h e = rw e refl

star_and_word : (bs : List ℕ) → 1 ≤ length bs → is_ascii_digit (get_or bs 0 0) ≡ false → keyword_sort bs ≡ starred_sort bs
unfolding starred_sort
star_and_word [] h e = absurd (omega (arith, h))
star_and_word (b ∷ bs) h e = rw e refl

pub returns-in-empty : goal.returns-in-empty
returns-in-empty c = star_alone c.args.bytes.now c.in-empty.len_below

pub returns-then-is_ascii_digit : goal.returns-then-is_ascii_digit
returns-then-is_ascii_digit c =
    (rw (take_rest c.args.bytes.now 1) at c.index_sort.ensures)
    ∙ star_and_digit c.args.bytes.now c.in-len1-up.len_at_least (sym c.if-is_ascii_digit.ensures.value)

pub returns-else-is_ascii_digit : goal.returns-else-is_ascii_digit
returns-else-is_ascii_digit c =
    c.keyword_sort.ensures ∙ star_and_word c.args.bytes.now c.in-len1-up.len_at_least (sym c.if-is_ascii_digit.ensures.value)
