-- Names that are apart have numbers of their own.
use Rattle.std.specs.Prelude.{◌≡◌, refl, ℕ, zero, suc, ◌+◌, Bool, true, false, not, cond, List, [], ◌∷◌, map, Some}
use Rattle.std.specs.List.{slice_get, IsDistinct, AllByRecursion}
use Rattle.std.specs.Str.{bytes_eq}
use Rattle.std.proofs.Common.{sym, ap, ◌∙◌, arith, subst}
use Rattle.std.proofs.lemmas.Option.{none-some, same_Some}
use Rattle.std.proofs.lemmas.Slice.Eq.{bytes_eq-Decides}
use Rattle.name_numbers.specs.Names.{Text, number_of}
use Rattle.name_parts.specs.Own.{HaveOwnNumbers}
use Rattle.name_parts.proofs.PartLaws.{either_way}

-- what is apart from all is apart from what is at a place
apart_at : (x name : Text) (names : List Text) (k : ℕ) → AllByRecursion (λ y. bytes_eq x y ≡ false) names → slice_get names k ≡ Some name
    → bytes_eq x name ≡ false
apart_at x name [] k all h = absurd (none-some name h)
apart_at x name (y ∷ names) zero all h = subst (λ z. bytes_eq x z ≡ false) (same_Some y name h) all.0
apart_at x name (y ∷ names) (suc k) all h = apart_at x name names k all.1 h

here_by : (b : Bool) (n : ℕ) → b ≡ true → cond (not b) (1 + n) 0 ≡ 0
here_by b n h = rw h refl

later_by : (b : Bool) (n k : ℕ) → b ≡ false → n ≡ k → cond (not b) (1 + n) 0 ≡ suc k
later_by b n k h e = rw h (omega (arith, e))

own_number : (names : List Text) (k : ℕ) (name : Text) → IsDistinct bytes_eq names → slice_get names k ≡ Some name → number_of name names ≡ k
unfolding IsDistinct
own_number [] k name apart h = absurd (none-some name h)
own_number (x ∷ names) zero name apart h =
    here_by (bytes_eq name x) (number_of name names) ((bytes_eq-Decides name x).1 (sym (same_Some x name h)))
own_number (x ∷ names) (suc k) name apart h =
    later_by (bytes_eq name x) (number_of name names) k (either_way name x ∙ apart_at x name names k apart.0 h)
    (own_number names k name apart.1 h)

pub keys_same : {V : Type 0} (es : List (Text × V)) → map (λ e. e.0) (map {B = Text × V} (λ e. (e.0, e.1)) es) ≡ map (λ e. e.0) es
keys_same [] = refl
keys_same (e ∷ es) = ap (λ r. e.0 ∷ r) (keys_same es)

pub own_numbers : (names : List Text) → IsDistinct bytes_eq names → HaveOwnNumbers names
own_numbers names apart = record { each = λ k name h. own_number names k name apart h }
