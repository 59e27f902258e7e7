-- Names that end with no `]`.
use Rattle.std.specs.Prelude.{◌≡◌, refl, ℕ, suc, ◌+◌, ◌-◌, ◌==◌, false, [], ◌∷◌, length, slice_index, None}
use Rattle.std.proofs.Common.{ap, sym, ◌∙◌, arith}
use Rattle.std.proofs.lemmas.Bool.{cond_both}
use Rattle.name_numbers.specs.Names.{Text}
use Rattle.verilog_net.specs.Nets.{bit_from, closed_number}

-- the last of two bytes and more is that of all but the first
last_of_rest : (b c : ℕ) (rest : Text)
    → slice_index (b ∷ c ∷ rest) (length (b ∷ c ∷ rest) - 1) ≡ slice_index (c ∷ rest) (length (c ∷ rest) - 1)
last_of_rest b c rest =
    let one : length (b ∷ c ∷ rest) - 1 ≡ suc (length (c ∷ rest) - 1) = omega arith in
    ap (slice_index (b ∷ c ∷ rest)) one ∙ refl

-- no number, where the last byte is no `]`
not_closed : (bytes : Text) → (slice_index bytes (length bytes - 1) == 93) ≡ false → closed_number bytes ≡ None
not_closed bytes h = rw h refl

-- where the last byte is no `]` there is no bit's name
pub no_bit : (at : ℕ) (name : Text) → (slice_index name (length name - 1) == 93) ≡ false → bit_from at name ≡ None
no_bit at [] h = refl
no_bit at (b ∷ []) h = cond_both (b == 91) _ _ (λ o. o ≡ None) (λ e. refl) (λ e. refl)
no_bit at (b ∷ c ∷ rest) h =
    let k : (slice_index (c ∷ rest) (length (c ∷ rest) - 1) == 93) ≡ false = ap (λ n. n == 93) (sym (last_of_rest b c rest)) ∙ h in
    let further = no_bit (at + 1) (c ∷ rest) k in
    cond_both (b == 91) _ _ (λ o. o ≡ None) (λ e. rw (not_closed (c ∷ rest) k) further) (λ e. further)
