-- Bytes eight at a time.
use Rattle.std.specs.Prelude.{◌≡◌, refl, ◌<◌, ℕ, List, [], ◌∷◌, ◌++◌, length}
use Rattle.std.specs.List.{fold}
use Rattle.std.proofs.Common.{sym, ap, ◌∙◌, arith, append_assoc, append-nil}
use Rattle.name_numbers.specs.Eights.{eights}

-- eight bytes and those after them
pub eight_first : (eight more : List ℕ) → length eight ≡ 8 → eights (eight ++ more) ≡ eight ∷ eights more
unfolding eights
eight_first [] more n = absurd (omega (arith, n))
eight_first (a ∷ []) more n = absurd (omega (arith, n))
eight_first (a ∷ b ∷ []) more n = absurd (omega (arith, n))
eight_first (a ∷ b ∷ c ∷ []) more n = absurd (omega (arith, n))
eight_first (a ∷ b ∷ c ∷ d ∷ []) more n = absurd (omega (arith, n))
eight_first (a ∷ b ∷ c ∷ d ∷ e ∷ []) more n = absurd (omega (arith, n))
eight_first (a ∷ b ∷ c ∷ d ∷ e ∷ f ∷ []) more n = absurd (omega (arith, n))
eight_first (a ∷ b ∷ c ∷ d ∷ e ∷ f ∷ g ∷ []) more n = absurd (omega (arith, n))
eight_first (a ∷ b ∷ c ∷ d ∷ e ∷ f ∷ g ∷ h ∷ []) more n = refl
eight_first (a ∷ b ∷ c ∷ d ∷ e ∷ f ∷ g ∷ h ∷ i ∷ rest) more n = absurd (omega (arith, n))

-- fewer than eight bytes
pub fewer : (few : List ℕ) → length few < 8 → eights few ≡ few ∷ []
unfolding eights
fewer [] n = refl
fewer (a ∷ []) n = refl
fewer (a ∷ b ∷ []) n = refl
fewer (a ∷ b ∷ c ∷ []) n = refl
fewer (a ∷ b ∷ c ∷ d ∷ []) n = refl
fewer (a ∷ b ∷ c ∷ d ∷ e ∷ []) n = refl
fewer (a ∷ b ∷ c ∷ d ∷ e ∷ f ∷ []) n = refl
fewer (a ∷ b ∷ c ∷ d ∷ e ∷ f ∷ g ∷ []) n = refl
fewer (a ∷ b ∷ c ∷ d ∷ e ∷ f ∷ g ∷ h ∷ rest) n = absurd (omega (arith, n))

-- one more eight is written, and what is left is to be written as before
pub written_further : {S : Type 0} (write : S → List ℕ → S) (old here next : S) (bytes rest eight left more : List ℕ)
    → rest ≡ eight ++ left → length eight ≡ 8 → next ≡ write here eight
    → fold write old (eights (bytes ++ more)) ≡ fold write here (eights (rest ++ more))
    → fold write old (eights (bytes ++ more)) ≡ fold write next (eights (left ++ more))
written_further write old here next bytes rest eight left more cut n step h =
    h
    ∙ ap (λ r. fold write here (eights (r ++ more))) cut
    ∙ ap (λ r. fold write here (eights r)) (append_assoc eight left more)
    ∙ ap (fold write here) (eight_first eight (left ++ more) n)
    ∙ ap (λ s. fold write s (eights (left ++ more))) (sym step)

-- where nothing follows, what is left is written as it is
pub all_written : {S : Type 0} (write : S → List ℕ → S) (old here end : S) (bytes left : List ℕ) → length left < 8
    → ((more : List ℕ) → fold write old (eights (bytes ++ more)) ≡ fold write here (eights (left ++ more)))
    → end ≡ write here left → end ≡ fold write old (eights bytes)
all_written write old here end bytes left n h step =
    step
    ∙ sym (ap (fold write here) (fewer left n))
    ∙ ap (λ l. fold write here (eights l)) (sym (append-nil left))
    ∙ sym (h [])
    ∙ ap (λ b. fold write old (eights b)) (append-nil bytes)
