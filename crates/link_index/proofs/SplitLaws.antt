-- The last delimiter of a name.
use Rattle.std.specs.Prelude.{◌≡◌, refl, ℕ, zero, suc, Bool, true, false, cond, eqb, List, [], ◌∷◌, length, take, drop, Option, Some, None, slice_index}
use Rattle.std.proofs.Common.{ap, ◌∙◌, arith, ◌+◌, ◌<◌, ◌≤◌}
use native.Mathlib.Numerals.{unary_clauses}
use Rattle.link_rules.specs.Nodes.{split_here, split_last}

-- no byte is the delimiter
pub split_none : (d : ℕ) (bytes : List ℕ) → ((k : ℕ) → k < length bytes → eqb (slice_index bytes k) d ≡ true → ⊥) → split_last d bytes ≡ None
split_none d [] h = refl
split_none d (b ∷ more) h =
    ap (split_here d b more) (split_none d more (λ k lt e. h (suc k) (omega arith) e)) ∙ by (eqb b d) refl
  where
    by : (t : Bool) → eqb b d ≡ t → cond {A = Option (List ℕ × List ℕ)} t (Some ([], more)) None ≡ None
    by true e = absurd (h 0 (omega arith) e)
    by false e = refl

-- the delimiter at this place is the last one
pub split_at : (d : ℕ) (bytes : List ℕ) (at : ℕ) → at < length bytes → eqb (slice_index bytes at) d ≡ true
    → ((k : ℕ) → at + 1 ≤ k → k < length bytes → eqb (slice_index bytes k) d ≡ true → ⊥)
    → split_last d bytes ≡ Some (take at bytes, drop (at + 1) bytes)
split_at d [] at lt is none = absurd (omega arith)
split_at d (b ∷ more) zero lt is none =
    ap (split_here d b more) (split_none d more (λ k l e. none (suc k) (omega arith) (omega arith) e)) ∙ ap (λ (t : Bool). cond {A = Option (List ℕ × List ℕ)} t (Some ([], more)) None) is
split_at d (b ∷ more) (suc at) lt is none =
    ap (split_here d b more) (split_at d more at (omega arith) is (λ k l u e. none (suc k) (omega arith) (omega arith) e))
    ∙ ap (λ (t : List ℕ). Some (b ∷ take at more, t)) (simp unary_clauses)
