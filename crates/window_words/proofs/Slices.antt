-- What is in a vector whose places were written by way of a slice.
use Rattle.std.proofs.Common.{◌≡◌, ℕ, suc, ◌<◌, sym, subst, ◌∙◌, List, [], ◌∷◌, ◌++◌, length, take, drop, get_or, arith}
use Rattle.std.specs.List.{AllZip}
use Rattle.std.proofs.Math.Seq.{take-append_seam}

-- two lists of one length, place by place
pub zip_each : {X : Type 0} (R : X → X → Type 0) (xs ys : List X) → length ys ≡ length xs → ((i : ℕ) (d : X) → i < length xs → R (get_or xs i d) (get_or ys i d)) → AllZip R xs ys
zip_each R [] [] e each = tt
zip_each R [] (y ∷ ys) e each = absurd (omega arith)
zip_each R (x ∷ xs) [] e each = absurd (omega arith)
zip_each R (x ∷ xs) (y ∷ ys) e each = (each 0 x (omega arith), zip_each R xs ys (omega arith) (λ i d h. each (suc i) d (omega arith)))

-- what is in a vector after all its places were written by way of a slice
pub slice_back : {X : Type 0} (n : ℕ) (xs ys : List X) → n ≡ length xs → length ys ≡ length xs → take n (ys ++ drop (length ys) xs) ≡ ys
slice_back n xs ys is same =
    let P : ℕ → Type 0 = λ k. take k (ys ++ drop (length ys) xs) ≡ ys in
    subst P (same ∙ sym is) (take-append_seam ys (drop (length ys) xs))
