-- Pieces of a text written one after another.
use Rattle.std.proofs.Common.{◌≡◌, ℕ, ◌+◌, ◌-◌, ◌≤◌, List, ◌++◌, length, take, drop, Option, Some, None, refl, sym, ap, ◌∙◌, append_assoc}
use Rattle.std.proofs.lemmas.List.{take-take}
use Rattle.std.proofs.Math.Seq.{take-add}
use Rattle.xt_io.specs.Outside.{appended}

-- two texts added one after the other
appended-twice : (w : Option (List ℕ)) (a b : List ℕ) → appended (appended w a) b ≡ appended w (a ++ b)
appended-twice None a b = refl
appended-twice (Some w) a b = ap (λ t. Some t) (append_assoc w a b)

-- the first `n` bytes of what is left after `at` bytes, added to these
pub appended_piece : (w : Option (List ℕ)) (bytes : List ℕ) (at n : ℕ) → n ≤ length bytes - at
    → appended (appended w (take at bytes)) (take n (take (length bytes - at) (drop at bytes)))
    ≡ appended w (take (at + n) bytes)
appended_piece w bytes at n within =
    appended-twice w (take at bytes) (take n (take (length bytes - at) (drop at bytes)))
    ∙ ap (λ t. appended w t)
    (ap (λ t. take at bytes ++ t) (take-take n (length bytes - at) (drop at bytes) within)
    ∙ sym (take-add at n bytes))
