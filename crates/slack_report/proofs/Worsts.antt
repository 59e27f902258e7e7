-- The worst check so far.
use Rattle.std.proofs.Common.{◌≡◌, ℕ, ◌+◌, ◌<◌, ◌≤◌, inl, inr, refl, sym, subst, ◌∙◌, Bool, true, false, List, length, ℤ, ◌≤ℤ◌, ◌<ℤ◌, arith}
use Rattle.std.specs.Prelude.{Option, Some, None, int_le, if◌then◌else◌, MatchOption}
use Rattle.std.specs.List.{slice_get}
use Rattle.std.proofs.lemmas.Int.{ints}
use Rattle.std.proofs.lemmas.Bool.{cases_lt}
use Rattle.std.proofs.lemmas.Option.{same_Some, slice_get_within}
use Rattle.xt_model.specs.Parts.{Parts}
use Rattle.slack_report.specs.declared.slack.Slack.{Slack}
use Rattle.slack_report.specs.Kinds.{Counts, IsWorst, HasNone, worse_of}

-- of the checks before place i that count, the worst is number k
pub record IsWorstTo (d : Parts) (hold : Bool) (all : List Slack) (i k : ℕ) (s : Slack) : Type 0 where
  pub before : k < i
  pub there : slice_get all k ≡ Some s
  pub counts : Counts d hold s
  pub least : (j : ℕ) (t : Slack) → j < i → slice_get all j ≡ Some t → Counts d hold t → s.greatest ≤ℤ t.greatest
  pub first : (j : ℕ) (t : Slack) → j < k → slice_get all j ≡ Some t → Counts d hold t → s.greatest <ℤ t.greatest

-- it is the one that was found, or none counts
abbrev pub IsWorstBefore : Parts → Bool → List Slack → ℕ → Option Slack → Type 0
IsWorstBefore d hold all i None = (j : ℕ) (t : Slack) → j < i → slice_get all j ≡ Some t → Counts d hold t → ⊥
IsWorstBefore d hold all i (Some s) = (k : ℕ) × IsWorstTo d hold all i k s

below_or_at : (i j : ℕ) → j < i + 1 → i ≤ j → j ≡ i
below_or_at i j h k = omega (arith, h, k)

le_of_test : (a b : ℤ) → int_le a b ≡ true → a ≤ℤ b
le_of_test a b h = grind (arith, ints)

lt_of_test : (a b : ℤ) → int_le a b ≡ false → b <ℤ a
lt_of_test a b h = grind (arith, ints)

-- a check more that does not count
pub worst_kept : (d : Parts) (hold : Bool) (all : List Slack) (i : ℕ) (x : Slack) (o : Option Slack) → slice_get all i ≡ Some x → (Counts d hold x → ⊥) → IsWorstBefore d hold all i o → IsWorstBefore d hold all (i + 1) o
worst_kept d hold all i x None at not h = λ j t lt there counts. elim (cases_lt j i) [
  | inl p ↦ h j t p there counts
  | inr p ↦
      let P : ℕ → Type 0 = λ m. slice_get all m ≡ Some t in
      let same : t ≡ x = same_Some t x (sym (subst P (below_or_at i j lt p) there) ∙ at) in
      not (subst (Counts d hold) same counts)
]
worst_kept d hold all i x (Some s) at not h = (
  h.0,
  record {
    before = (let k = h.1.before in omega (arith, k));
    there = h.1.there;
    counts = h.1.counts;
    least = λ j t lt there counts. elim (cases_lt j i) [
      | inl p ↦ h.1.least j t p there counts
      | inr p ↦
          let P : ℕ → Type 0 = λ m. slice_get all m ≡ Some t in
          let same : t ≡ x = same_Some t x (sym (subst P (below_or_at i j lt p) there) ∙ at) in
          absurd (not (subst (Counts d hold) same counts))
    ];
    first = h.1.first;
  },
)

-- the new one is the worst
new_worst : (d : Parts) (hold : Bool) (all : List Slack) (i : ℕ) (x : Slack) → slice_get all i ≡ Some x → Counts d hold x
    → ((j : ℕ) (t : Slack) → j < i → slice_get all j ≡ Some t → Counts d hold t → x.greatest <ℤ t.greatest) → IsWorstTo d hold all (i + 1) i x
new_worst d hold all i x at counts below = record {
  before = omega arith;
  there = at;
  counts = counts;
  least = λ j t lt there c. elim (cases_lt j i) [
    | inl p ↦ (let k = below j t p there c in omega (arith, ints, k))
    | inr p ↦
        let P : ℕ → Type 0 = λ m. slice_get all m ≡ Some t in
        let same : x ≡ t = same_Some x t (sym at ∙ subst P (below_or_at i j lt p) there) in
        let Q : Slack → Type 0 = λ s. x.greatest ≤ℤ s.greatest in
        subst Q same (omega (arith, ints))
  ];
  first = below;
}

-- the old one is
old_worst : (d : Parts) (hold : Bool) (all : List Slack) (i k : ℕ) (s x : Slack) → slice_get all i ≡ Some x → s.greatest ≤ℤ x.greatest → IsWorstTo d hold all i k s → IsWorstTo d hold all (i + 1) k s
old_worst d hold all i k s x at le h = record {
  before = (let b = h.before in omega (arith, b));
  there = h.there;
  counts = h.counts;
  least = λ j t lt there c. elim (cases_lt j i) [
    | inl p ↦ h.least j t p there c
    | inr p ↦
        let P : ℕ → Type 0 = λ m. slice_get all m ≡ Some t in
        let same : x ≡ t = same_Some x t (sym at ∙ subst P (below_or_at i j lt p) there) in
        let Q : Slack → Type 0 = λ y. s.greatest ≤ℤ y.greatest in
        subst Q same le
  ];
  first = h.first;
}

chosen : (d : Parts) (hold : Bool) (all : List Slack) (i k : ℕ) (s x : Slack) (b : Bool) → int_le s.greatest x.greatest ≡ b → slice_get all i ≡ Some x → Counts d hold x → IsWorstTo d hold all i k s
    → IsWorstBefore d hold all (i + 1) (Some (if b then s else x))
chosen d hold all i k s x true e at counts h = (k, old_worst d hold all i k s x at (le_of_test s.greatest x.greatest e) h)
chosen d hold all i k s x false e at counts h = (i, new_worst d hold all i x at counts (λ j t lt there c. let a = lt_of_test s.greatest x.greatest e in let b = h.least j t lt there c in omega (arith, ints, a, b)))

-- a check more that counts
pub worst_more : (d : Parts) (hold : Bool) (all : List Slack) (i : ℕ) (x : Slack) (o : Option Slack) → slice_get all i ≡ Some x → Counts d hold x → IsWorstBefore d hold all i o
    → IsWorstBefore d hold all (i + 1) (Some (worse_of o x))
worst_more d hold all i x None at counts h = (i, new_worst d hold all i x at counts (λ j t lt there c. absurd (h j t lt there c)))
worst_more d hold all i x (Some s) at counts h = chosen d hold all i h.0 s x (int_le s.greatest x.greatest) refl at counts h.1

-- with all checks looked at
pub worst_all : (d : Parts) (hold : Bool) (all : List Slack) (i : ℕ) (o : Option Slack) → length all ≤ i → IsWorstBefore d hold all i o
    → MatchOption o (HasNone d hold all) (λ s. (k : ℕ) × IsWorst d hold all k s)
worst_all d hold all i None past h = λ j t there counts. h j t (let w = slice_get_within all j t there in omega (arith, past, w)) there counts
worst_all d hold all i (Some s) past h = (
  h.0,
  record {
    there = h.1.there;
    counts = h.1.counts;
    least = λ j t there counts. h.1.least j t (let w = slice_get_within all j t there in omega (arith, past, w)) there counts;
    first = h.1.first;
  },
)
