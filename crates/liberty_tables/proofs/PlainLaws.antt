-- What a string holds, by the first quote or backslash in it.
use Rattle.std.proofs.Common.{◌≡◌, ℕ, zero, suc, ◌<◌, Bool, true, false, ◌||◌, List, [], ◌∷◌, length, take, if◌then◌else◌, ◌==◌, ◌≢◌, slice_index, sym, ap, ◌∙◌, refl, arith}
use Rattle.std.proofs.lemmas.Bool.{false≢true, false_from_ne_true}
use Rattle.std.proofs.lemmas.Bool.Decides.{nat_tests}
use Rattle.memchr.specs.Find.{Nowhere, Passes, is_byte2}
use Rattle.liberty_tables.specs.Contents.{unquoted, has_escape}

-- a byte that is neither is held as it stands
plain_by : (quote escape : Bool) (b : ℕ) (more : List ℕ) → (quote || escape) ≡ false
    → (if quote then [] else if escape then unquoted true more else b ∷ unquoted false more) ≡ b ∷ unquoted false more
plain_by true escape b more h = absurd (false≢true (sym h))
plain_by false true b more h = absurd (false≢true (sym h))
plain_by false false b more h = refl

plain_byte : (b : ℕ) (more : List ℕ) → is_byte2 34 92 b ≡ false → b ∷ unquoted false more ≡ unquoted false (b ∷ more)
plain_byte b more h = sym (plain_by (b == 34) (b == 92) b more h)

escape_by : (quote escape : Bool) (more : List ℕ) → (quote || escape) ≡ false
    → (if quote then false else if escape then true else has_escape more) ≡ has_escape more
escape_by true escape more h = absurd (false≢true (sym h))
escape_by false true more h = absurd (false≢true (sym h))
escape_by false false more h = refl

first_plain : (b : ℕ) (more : List ℕ) (n : ℕ) → Nowhere (Passes (is_byte2 34 92) (b ∷ more)) 0 (suc n) → is_byte2 34 92 b ≡ false
first_plain b more n h = false_from_ne_true (is_byte2 34 92 b) (λ e. h 0 (omega arith) (omega arith) e)

others_plain : (b : ℕ) (more : List ℕ) (n : ℕ) → Nowhere (Passes (is_byte2 34 92) (b ∷ more)) 0 (suc n) → Nowhere (Passes (is_byte2 34 92) more) 0 n
others_plain b more n h = λ k low high p. h (suc k) (omega arith) (omega arith) p

-- bytes with neither
pub all_held : (bytes : List ℕ) → Nowhere (Passes (is_byte2 34 92) bytes) 0 (length bytes) → bytes ≡ unquoted false bytes
all_held [] h = refl
all_held (b ∷ more) h =
    ap (λ (bs : List ℕ). b ∷ bs) (all_held more (others_plain b more (length more) h)) ∙ plain_byte b more (first_plain b more (length more) h)

-- the first of them is a quote
pub held_before : (bytes : List ℕ) (k : ℕ) → k < length bytes → Nowhere (Passes (is_byte2 34 92) bytes) 0 k → slice_index bytes k ≡ 34
    → take k bytes ≡ unquoted false bytes
held_before [] k h none e = absurd (omega arith)
held_before (b ∷ more) zero h none e = rw e refl
held_before (b ∷ more) (suc k) h none e =
    ap (λ (bs : List ℕ). b ∷ bs) (held_before more k (omega arith) (others_plain b more k none) e) ∙ plain_byte b more (first_plain b more k none)

escape_at : (quote escape : Bool) (more : List ℕ) → (quote || escape) ≡ true → quote ≡ false
    → (if quote then false else if escape then true else has_escape more) ≡ true
escape_at true escape more h ne = absurd (false≢true (sym ne))
escape_at false true more h ne = refl
escape_at false false more h ne = absurd (false≢true h)

-- the first of them is a backslash
pub escape_behind : (bytes : List ℕ) (k : ℕ) → k < length bytes → Nowhere (Passes (is_byte2 34 92) bytes) 0 k → is_byte2 34 92 (slice_index bytes k) ≡ true
    → slice_index bytes k ≢ 34 → has_escape bytes ≡ true
escape_behind [] k h none mark e = absurd (omega arith)
escape_behind (b ∷ more) zero h none mark e =
    escape_at (b == 34) (b == 92) more mark (false_from_ne_true (b == 34) (λ f. let k : b ≡ 34 = grind (arith, nat_tests) in e k))
escape_behind (b ∷ more) (suc k) h none mark e =
    escape_by (b == 34) (b == 92) more (first_plain b more k none) ∙ escape_behind more k (omega arith) (others_plain b more k none) mark e
