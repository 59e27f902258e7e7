-- A sum over the coefficients of a sink, one at a time.
use Rattle.std.proofs.Common.{◌≡◌, ℕ, ◌+◌, ◌*◌, ◌<◌, ◌≤◌, ◌^◌, List, ◌∷◌, length, drop, get_or, refl, ap, ◌∙◌, arith, mul-le-mul_right}
use Rattle.std.specs.Prelude.{ℤ}
use Rattle.std.specs.Int.RustNames.{unsigned_abs}
use Rattle.std.specs.List.{sum_by}
use Rattle.std.proofs.lemmas.List.{at_drop_more, at_drop_all}
use Rattle.std.proofs.lemmas.List.Sums.{sum_by-cons}
use Rattle.elmore_tree.specs.Sums.{SinkSums, IsSinkSums, quarters}
use Rattle.elmore_tree.specs.Quarters.{IsQuarterSum}

pub quarter_begins : (s : SinkSums) (factors : List ℕ) → IsSinkSums s → IsQuarterSum s factors 0 (4 * unsigned_abs s.base)
quarter_begins s factors w = let most = w.most in record { rest = refl; most = omega arith }

parts : (s : SinkSums) (i : ℕ) (c : ℤ) → i < length s.coefs → sum_by unsigned_abs (drop i s.coefs) ≡ unsigned_abs (get_or s.coefs i c) + sum_by unsigned_abs (drop (i + 1) s.coefs)
parts s i c lt = at_drop_more (sum_by unsigned_abs) s.coefs i c lt ∙ sum_by-cons unsigned_abs (get_or s.coefs i c) (drop (i + 1) s.coefs)

pub quarter_coef : (s : SinkSums) (factors : List ℕ) (i sum : ℕ) (c : ℤ) → i < length s.coefs → IsQuarterSum s factors i sum → sum + 12 * unsigned_abs (get_or s.coefs i c) ≤ 12 * 2 ^ 102
quarter_coef s factors i sum c lt w = let most = w.most in omega (arith, most, parts s i c lt)

pub quarter_turn : (s : SinkSums) (factors : List ℕ) (i sum f x : ℕ) (c : ℤ) → i < length factors → length factors ≡ length s.coefs → f ≤ 12 → f ≡ get_or factors i 0
    → x ≡ f * unsigned_abs (get_or s.coefs i c) → IsQuarterSum s factors i sum → IsQuarterSum s factors (i + 1) (sum + x)
quarter_turn s factors i sum f x c lt same few is_f is_x w =
    let cs_lt : i < length s.coefs = omega arith in
    let step : quarters (drop i factors) (drop i s.coefs) ≡ quarters (get_or factors i 0 ∷ drop (i + 1) factors) (drop i s.coefs) = at_drop_more (λ r. quarters r (drop i s.coefs)) factors i 0 lt in
    let more : quarters (get_or factors i 0 ∷ drop (i + 1) factors) (drop i s.coefs) ≡ get_or factors i 0 * unsigned_abs (get_or s.coefs i c) + quarters (drop (i + 1) factors) (drop (i + 1) s.coefs) =
    at_drop_more (quarters (get_or factors i 0 ∷ drop (i + 1) factors)) s.coefs i c cs_lt in
    let x_is : x ≡ get_or factors i 0 * unsigned_abs (get_or s.coefs i c) = is_x ∙ ap (λ n. n * unsigned_abs (get_or s.coefs i c)) is_f in
    let at_most : f * unsigned_abs (get_or s.coefs i c) ≤ 12 * unsigned_abs (get_or s.coefs i c) = mul-le-mul_right (unsigned_abs (get_or s.coefs i c)) few in
    let rest = w.rest in
    let most = w.most in
    record {
      rest = omega (arith, rest, step, more, x_is);
      most = omega (arith, most, parts s i c cs_lt, at_most, is_x);
    }

pub quarter_ends : (s : SinkSums) (factors : List ℕ) (i sum : ℕ) → length factors ≤ i → IsQuarterSum s factors i sum → sum ≡ 4 * unsigned_abs s.base + quarters factors s.coefs
quarter_ends s factors i sum past w =
    let e : quarters (drop i factors) (drop i s.coefs) ≡ 0 = at_drop_all (λ r. quarters r (drop i s.coefs)) factors i past in
    let rest = w.rest in
    omega (arith, rest, e)
