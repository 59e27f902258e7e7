-- Marks, and what a change of one leaves.
use Rattle.std.proofs.Common.{◌≡◌, ◌≢◌, ◌⊎◌, ℕ, zero, suc, ◌+◌, ◌-◌, ◌*◌, ◌<◌, ◌≤◌, inl, inr, refl, sym, subst, ◌∙◌, List, [], ◌∷◌, ◌++◌, length, length-set, set, get_or, arith}
use Rattle.std.specs.Prelude.{slice_index, bit_or}
use Rattle.std.proofs.lemmas.Bool.{cases_eq}
use Rattle.std.proofs.lemmas.List.{get_or-set_same, get_or-set_other, set-append_left, set-append_right, get_or-append_right, get_or_append_left}
use Rattle.std.proofs.Math.Seq.{set-append_seam, get_or-append_seam}
use Rattle.chaos_core.specs.declared.setting.Setting.{Setting}
use Rattle.chaos_core.specs.Boards.{nets_of}
use Rattle.dirty_words.specs.Rule.{mark_at, AreMarks}

pub zero_or_one : (n : ℕ) → n ≤ 1 → (n ≡ 0) ⊎ (n ≡ 1)
zero_or_one n h = elim (cases_eq n 0) [ inl e ↦ inl e | inr ne ↦ inr (one n h ne) ] where
  one : (n : ℕ) → n ≤ 1 → n ≢ 0 → n ≡ 1
  one zero h ne = absurd (ne refl)
  one (suc n) h ne = omega (arith, h)

pub not_both : (n : ℕ) → n ≡ 0 → n ≡ 1 → ⊥
not_both n h k = omega (arith, h, k)

pub set_bit : (n : ℕ) → n ≤ 1 → bit_or n 1 ≡ 1
set_bit n h = elim (zero_or_one n h) [
  | inl e ↦ subst (λ m. bit_or m 1 ≡ 1) (sym e) refl
  | inr e ↦ subst (λ m. bit_or m 1 ≡ 1) (sym e) refl
]

module _ (a : Setting) (marks : List ℕ) (are : AreMarks a marks) (net x : ℕ) (inside : net < nets_of a) where
  there : net < length marks
  there = let c = are.count in let h = inside in omega (arith, c, h)

  pub mark_here : mark_at (set marks net x) net ≡ x
  mark_here = get_or-set_same marks net x 0 there

  pub mark_else : (m : ℕ) → m ≢ net → mark_at (set marks net x) m ≡ mark_at marks m
  mark_else m ne = get_or-set_other marks net m x 0 ne

  pub marks_set : x ≤ 1 → AreMarks a (set marks net x)
  marks_set few = record {
    count = length-set marks net x ∙ are.count;
    each = λ m. elim (cases_eq m net) [
      | inl e ↦ let h = mark_here in subst (λ k. mark_at (set marks net x) k ≤ 1) (sym e) (omega (arith, h, few))
      | inr ne ↦ let h = mark_else m ne in let k = are.each m in omega (arith, h, k)
    ];
  }

-- ---- words: those of the bounds, the marks, the draw word
module _ (now marks : List ℕ) (next nets : ℕ) (wide : length now ≡ 8 * nets) (long : length marks ≡ nets) where
  abbrev all' : List ℕ
  all' = now ++ (marks ++ next ∷ [])

  pub bound_at_word : (i : ℕ) → i < 8 * nets → slice_index all' i ≡ slice_index now i
  bound_at_word i h = get_or_append_left now (marks ++ next ∷ []) 0 i (let w = wide in omega (arith, w, h))

  pub set_bound : (i x : ℕ) → i < 8 * nets → set all' i x ≡ set now i x ++ (marks ++ next ∷ [])
  set_bound i x h = set-append_left now (marks ++ next ∷ []) i x (let w = wide in omega (arith, w, h))

  pub mark_at_word : (net : ℕ) → net < nets → slice_index all' (8 * nets + net) ≡ mark_at marks net
  mark_at_word net h =
      let e : 8 * nets + net - 8 * nets ≡ net = omega arith in
      let l = long in
      get_or-append_right now (marks ++ next ∷ []) (8 * nets) (8 * nets + net) 0 wide (omega arith)
      ∙ (subst (λ i. get_or (marks ++ next ∷ []) i 0 ≡ get_or (marks ++ next ∷ []) net 0) (sym e) refl ∙ get_or_append_left marks (next ∷ []) 0 net (omega (arith, l, h)))

  pub set_mark : (net x : ℕ) → net < nets → set all' (8 * nets + net) x ≡ now ++ (set marks net x ++ next ∷ [])
  set_mark net x h =
      let e : 8 * nets + net - 8 * nets ≡ net = omega arith in
      let l = long in
      let P : ℕ → Type 0 = λ i. now ++ set (marks ++ next ∷ []) i x ≡ now ++ (set marks net x ++ next ∷ []) in
      let one : set (marks ++ next ∷ []) net x ≡ set marks net x ++ next ∷ [] = set-append_left marks (next ∷ []) net x (omega (arith, l, h)) in
      set-append_right now (marks ++ next ∷ []) (8 * nets) (8 * nets + net) x wide (omega arith) ∙ subst P (sym e) (λ i. now ++ one i)

  pub draw_at_word : slice_index all' (9 * nets) ≡ next
  draw_at_word =
      let e : 9 * nets - 8 * nets ≡ length marks = let l = long in omega (arith, l) in
      get_or-append_right now (marks ++ next ∷ []) (8 * nets) (9 * nets) 0 wide (omega arith)
      ∙ (subst (λ i. get_or (marks ++ next ∷ []) i 0 ≡ get_or (marks ++ next ∷ []) (length marks) 0) (sym e) refl ∙ get_or-append_seam marks next [] 0)

  pub set_draw : (x : ℕ) → set all' (9 * nets) x ≡ now ++ (marks ++ x ∷ [])
  set_draw x =
      let e : 9 * nets - 8 * nets ≡ length marks = let l = long in omega (arith, l) in
      let P : ℕ → Type 0 = λ i. now ++ set (marks ++ next ∷ []) i x ≡ now ++ (marks ++ x ∷ []) in
      let one : set (marks ++ next ∷ []) (length marks) x ≡ marks ++ x ∷ [] = set-append_seam marks next [] x in
      set-append_right now (marks ++ next ∷ []) (8 * nets) (9 * nets) x wide (omega arith) ∙ subst P (sym e) (λ i. now ++ one i)
