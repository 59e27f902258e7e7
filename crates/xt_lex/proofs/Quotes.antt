-- Where a string of Liberty ends, by the first quote or backslash in it.
use Rattle.std.proofs.Common.{◌≡◌, ℕ, zero, suc, ◌+◌, ◌<◌, Bool, true, false, ◌||◌, List, [], ◌∷◌, length, drop, Option, Some, None, ◌==◌, ◌≢◌, slice_index, sym, ap, ◌∙◌, refl, arith}
use Rattle.std.proofs.lemmas.Bool.{false≢true, or_parts, false_from_ne_true}
use Rattle.std.proofs.lemmas.Bool.Decides.{nat_tests}
use Rattle.std.proofs.lemmas.List.{drop-drop}
use Rattle.memchr.specs.Find.{Nowhere, Passes, is_byte2}
use Rattle.xt_lex.specs.Runs.{further}
use Rattle.xt_lex.specs.Liberty.{past_quote}

right_true : (a b : Bool) → (a || b) ≡ true → a ≡ false → b ≡ true
right_true true b e f = absurd (false≢true (sym f))
right_true false b e f = e

further_more : (a b : ℕ) (o : Option ℕ) → further a (further b o) ≡ further (a + b) o
further_more a b None = refl
further_more a b (Some n) = ap Some (omega arith)

-- one byte that is neither
plain_byte : (b : ℕ) (more : List ℕ) → is_byte2 34 92 b ≡ false → past_quote false (b ∷ more) ≡ further 1 (past_quote false more)
plain_byte b more h = let neither = or_parts (b == 34) (b == 92) h in rw (neither.0, neither.1) refl

first_plain : (b : ℕ) (more : List ℕ) (n : ℕ) → Nowhere (Passes (is_byte2 34 92) (b ∷ more)) 0 (suc n) → is_byte2 34 92 b ≡ false
first_plain b more n h = false_from_ne_true (is_byte2 34 92 b) (λ e. h 0 (omega arith) (omega arith) e)

others_plain : (b : ℕ) (more : List ℕ) (n : ℕ) → Nowhere (Passes (is_byte2 34 92) (b ∷ more)) 0 (suc n) → Nowhere (Passes (is_byte2 34 92) more) 0 n
others_plain b more n h = λ k low high p. h (suc k) (omega arith) (omega arith) p

-- bytes with neither
never : (bytes : List ℕ) → Nowhere (Passes (is_byte2 34 92) bytes) 0 (length bytes) → past_quote false bytes ≡ None
never [] h = refl
never (b ∷ more) h =
    plain_byte b more (first_plain b more (length more) h) ∙ ap (further 1) (never more (others_plain b more (length more) h))

-- the first of them is a quote
stops : (bytes : List ℕ) (k : ℕ) → k < length bytes → Nowhere (Passes (is_byte2 34 92) bytes) 0 k → slice_index bytes k ≡ 34
    → past_quote false bytes ≡ Some (k + 1)
stops [] k h none e = absurd (omega arith)
stops (b ∷ more) zero h none e = rw e refl
stops (b ∷ more) (suc k) h none e =
    plain_byte b more (first_plain b more k none) ∙ (ap (further 1) (stops more k (omega arith) (others_plain b more k none) e) ∙ ap Some (omega arith))

kept : (more : List ℕ) → past_quote true more ≡ further 1 (past_quote false (drop 1 more))
kept [] = refl
kept (b ∷ more) = refl

-- the first of them is a backslash
goes_on : (bytes : List ℕ) (k : ℕ) → k < length bytes → Nowhere (Passes (is_byte2 34 92) bytes) 0 k → is_byte2 34 92 (slice_index bytes k) ≡ true
    → slice_index bytes k ≢ 34 → past_quote false bytes ≡ further (k + 2) (past_quote false (drop (k + 2) bytes))
goes_on [] k h none mark e = absurd (omega arith)
goes_on (b ∷ more) zero h none mark ne =
    let e : (b == 34) ≡ false = false_from_ne_true (b == 34) (λ f. let k : b ≡ 34 = grind (arith, nat_tests) in ne k) in
    rw (e, right_true (b == 34) (b == 92) mark e) (ap (further 1) (kept more) ∙ further_more 1 1 (past_quote false (drop 1 more)))
goes_on (b ∷ more) (suc k) h none mark e =
    let n : suc k + 2 ≡ suc (k + 2) = omega arith in
    plain_byte b more (first_plain b more k none)
    ∙ (ap (further 1) (goes_on more k (omega arith) (others_plain b more k none) mark e)
    ∙ (further_more 1 (k + 2) (past_quote false (drop (k + 2) more)) ∙ rw n (let m : 1 + (k + 2) ≡ suc (k + 2) = omega arith in rw m refl)))

-- the same of a rest of some bytes
module _ (bytes rest : List ℕ) (i : ℕ) (before : further i (past_quote false (drop i bytes)) ≡ past_quote false bytes) (cut : rest ≡ drop i bytes) where
  pub never_ends : Nowhere (Passes (is_byte2 34 92) rest) 0 (length rest) → None ≡ past_quote false bytes
  never_ends h = sym (ap (further i) (ap (past_quote false) (sym cut) ∙ never rest h)) ∙ before

  pub ends_at : (k : ℕ) → k < length rest → Nowhere (Passes (is_byte2 34 92) rest) 0 k → slice_index rest k ≡ 34
      → Some (i + k + 1) ≡ past_quote false bytes
  ends_at k h none e =
      ap Some (omega arith) ∙ (sym (ap (further i) (ap (past_quote false) (sym cut) ∙ stops rest k h none e)) ∙ before)

  pub goes_past : (k : ℕ) → k < length rest → Nowhere (Passes (is_byte2 34 92) rest) 0 k → is_byte2 34 92 (slice_index rest k) ≡ true
      → slice_index rest k ≢ 34 → further (i + (k + 2)) (past_quote false (drop (i + (k + 2)) bytes)) ≡ past_quote false bytes
  goes_past k h none mark e =
      let d : drop (i + (k + 2)) bytes ≡ drop (k + 2) rest = sym (drop-drop (k + 2) i bytes) ∙ ap (drop (k + 2)) (sym cut) in
      rw d (sym (further_more i (k + 2) (past_quote false (drop (k + 2) rest)))
      ∙ (ap (further i) (sym (goes_on rest k h none mark e) ∙ ap (past_quote false) cut) ∙ before))
