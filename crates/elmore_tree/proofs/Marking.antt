-- Marks that are set, one at a time.
use Rattle.std.proofs.Common.{◌≡◌, ℕ, ◌+◌, ◌<◌, Bool, true, false, ◌||◌, List, [], length, take, get_or, set, refl, sym, ap, ◌∙◌, inl, inr}
use Rattle.std.specs.Prelude.{◌==◌}
use Rattle.std.specs.List.{list_any}
use Rattle.std.proofs.Math.Bool.{or_assoc}
use Rattle.std.proofs.lemmas.Bool.{cases_eq}
use Rattle.std.proofs.lemmas.List.{get_or-set_same, get_or-set_other, length-set}
use Rattle.std.proofs.lemmas.List.Folds.{list_any_more}
use Rattle.elmore_tree.specs.Paths.{is_in}
use Rattle.elmore_tree.specs.Gathering.{AreMarked}
use Rattle.elmore_tree.proofs.Bools.{eqb_same, eqb_apart}

or_false : (b : Bool) → b ≡ (b || false)
or_false true = refl
or_false false = refl

or_true : (b : Bool) → true ≡ (b || true)
or_true true = refl
or_true false = refl

set_at : (marks : List Bool) (n k : ℕ) → n < length marks → is_in (set marks n true) k ≡ (is_in marks k || n == k)
set_at marks n k there = elim (cases_eq k n) [
  | inl e ↦ rw e (get_or-set_same marks n true false there ∙ (or_true (is_in marks n) ∙ ap (λ (b : Bool). is_in marks n || b) (sym (eqb_same n))))
  | inr ne ↦ get_or-set_other marks n k true false ne ∙ (or_false (is_in marks k) ∙ ap (λ (b : Bool). is_in marks k || b) (sym (eqb_apart n k (λ e. ne (sym e)))))
]

pub none_marked : {X : Type 0} (node_of : X → ℕ) (marks : List Bool) → AreMarked node_of [] marks marks
none_marked node_of marks = record { count = refl; each = λ k. or_false (is_in marks k) }

pub one_marked : {X : Type 0} (node_of : X → ℕ) (xs : List X) (i : ℕ) (d : X) (old marks : List Bool) → i < length xs → node_of (get_or xs i d) < length marks → AreMarked node_of (take i xs) old marks
    → AreMarked node_of (take (i + 1) xs) old (set marks (node_of (get_or xs i d)) true)
one_marked node_of xs i d old marks lt there before =
    let n = node_of (get_or xs i d) in
    record {
      count = length-set marks n true ∙ before.count;
      each = λ k.
          set_at marks n k there
          ∙ (ap (λ (b : Bool). b || n == k) (before.each k)
          ∙ (or_assoc (is_in old k) (list_any (λ x. node_of x == k) (take i xs)) (n == k)
          ∙ ap (λ (b : Bool). is_in old k || b) (sym (list_any_more (λ x. node_of x == k) xs i d lt))));
    }
