-- Groups of tables, one table after another.
use Rattle.std.proofs.Common.{◌≡◌, ℕ, zero, suc, refl, ◌+◌, ◌-◌, ◌<◌, inl, inr, sym, ◌∙◌, ap, subst, List, [], ◌∷◌, ◌++◌, length, arith}
use Rattle.std.specs.Prelude.{slice_index}
use Rattle.std.specs.List.{slice_get}
use Rattle.std.proofs.lemmas.Bool.{cases_lt}
use Rattle.std.proofs.lemmas.List.{get_or_append_left, length-append}
use Rattle.std.proofs.lemmas.Option.{same_Some, slice_get_within}
use Rattle.xt_model.specs.Tables.{TableParts}
use Rattle.table_box.specs.Groups.{AreGroups, IsGrouped}

-- the groups of the first tables
pub record AreGrouped (tables : List TableParts) (groups : List ℕ) (n : ℕ) : Type 0 where
  pub count : length groups ≡ n
  pub each : (i : ℕ) → i < n → IsGrouped tables i (slice_index groups i)

last_at : (groups : List ℕ) (group i : ℕ) → length groups ≡ i → slice_index (groups ++ group ∷ []) i ≡ group
last_at [] group zero e = refl
last_at [] group (suc i) e = absurd (omega arith)
last_at (g ∷ groups) group zero e = absurd (omega arith)
last_at (g ∷ groups) group (suc i) e = last_at groups group i (omega arith)

pub grouped_more : (tables : List TableParts) (groups : List ℕ) (n group : ℕ) → AreGrouped tables groups n → IsGrouped tables n group → AreGrouped tables (groups ++ group ∷ []) (n + 1)
grouped_more tables groups n group before here =
    let count = before.count in
    record {
      count = let e = length-append groups (group ∷ []) in omega (arith, count, e);
      each = λ i h. elim (cases_lt i n) [
        | inl p ↦ subst (IsGrouped tables i) (sym (get_or_append_left groups (group ∷ []) 0 i (omega (arith, count, p)))) (before.each i p)
        | inr p ↦
            let e : length groups ≡ i = omega (arith, count, h, p) in
            let f : n ≡ i = omega (arith, h, p) in
            let there : slice_index (groups ++ group ∷ []) i ≡ group = last_at groups group i e in
            subst (λ (k : ℕ). IsGrouped tables k (slice_index (groups ++ group ∷ []) i)) f (subst (IsGrouped tables n) (sym there) here)
      ];
    }

pub groups_done : (tables : List TableParts) (groups : List ℕ) (n : ℕ) → length tables ≡ n → AreGrouped tables groups n → AreGroups tables groups
groups_done tables groups n many all = record {
  each = λ i j t u t_there u_there some same.
      let i_low = slice_get_within tables i t t_there in let j_low = slice_get_within tables j u u_there in
      let a = all.each i (omega (arith, i_low, many)) t t_there some in
      let b = all.each j (omega (arith, j_low, many)) u u_there (omega (arith, some, same)) in
      let heads : a.head ≡ b.head = same_Some a.head b.head (sym a.there ∙ (ap (λ g. slice_get tables (g - 1)) same ∙ b.there)) in
      record {
        first = a.monotone;
        second = b.monotone;
        slews = a.slews ∙ (ap (λ h. h.slews) heads ∙ sym b.slews);
        loads = a.loads ∙ (ap (λ h. h.loads) heads ∙ sym b.loads);
      };
}
