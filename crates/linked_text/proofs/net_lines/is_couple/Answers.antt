use Rattle.std.proofs.Common.{◌≡◌, ℕ, true, List, [], ◌∷◌, length, get_or, sym, arith, rules}
use Rattle.std.specs.Str.{bytes_eq}
use Rattle.linked_text.proofs.Inversions.{same_word}
use Rattle.linked_text.proofs.net_lines.is_couple.Goals as goal

-- a list of these six
six : (xs : List ℕ) (a b c d e f : ℕ) → length xs ≡ 6 → get_or xs 0 0 ≡ a → get_or xs 1 0 ≡ b → get_or xs 2 0 ≡ c → get_or xs 3 0 ≡ d → get_or xs 4 0 ≡ e → get_or xs 5 0 ≡ f
    → true ≡ bytes_eq xs (a ∷ b ∷ c ∷ d ∷ e ∷ f ∷ [])
six (x ∷ y ∷ z ∷ u ∷ v ∷ w ∷ []) a b c d e f count h0 h1 h2 h3 h4 h5 = rw (h0, h1, h2, h3, h4, h5) (sym (same_word (a ∷ b ∷ c ∷ d ∷ e ∷ f ∷ [])))
six [] a b c d e f count h0 h1 h2 h3 h4 h5 = absurd (omega (arith, count))
six (x ∷ []) a b c d e f count h0 h1 h2 h3 h4 h5 = absurd (omega (arith, count))
six (x ∷ y ∷ []) a b c d e f count h0 h1 h2 h3 h4 h5 = absurd (omega (arith, count))
six (x ∷ y ∷ z ∷ []) a b c d e f count h0 h1 h2 h3 h4 h5 = absurd (omega (arith, count))
six (x ∷ y ∷ z ∷ u ∷ []) a b c d e f count h0 h1 h2 h3 h4 h5 = absurd (omega (arith, count))
six (x ∷ y ∷ z ∷ u ∷ v ∷ []) a b c d e f count h0 h1 h2 h3 h4 h5 = absurd (omega (arith, count))
six (x ∷ y ∷ z ∷ u ∷ v ∷ w ∷ t ∷ more) a b c d e f count h0 h1 h2 h3 h4 h5 = absurd (omega (arith, count))

pub returns-in-couple : goal.returns-in-couple
returns-in-couple c =
    six c.args.word.now _ _ _ _ _ _ (omega (arith, c.in-couple.len_at_least, c.in-couple.len_below)) (search rules) (search rules) (search rules) (search rules) (search rules) (search rules)
