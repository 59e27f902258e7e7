-- The edit that a line says is between two nets of the design, one of which has a coupling to the other, and its amount
-- is in range.
use Rattle.std.proofs.Common.{◌≡◌, ℕ, suc, ◌<◌, ◌==◌, ◌^◌, Bool, true, false, true≢false, ◌&&◌, ◌||◌, ◌⊎◌, inl, inr, refl, sym, subst, List, [], ◌∷◌, length, ltb, ℤ, pos, ◌≤ℤ◌, cond, codes, Result, Ok, Err, arith}
use Rattle.std.specs.Prelude.{IsTrue, IfOk, Option, Some, None, int_le, option_and_then}
use Rattle.std.specs.List.{slice_get, list_any, position_or_len, Contains}
use Rattle.std.specs.Str.{bytes_eq}
use Rattle.std.proofs.lemmas.Bool.{eqb-true, ltb-true}
use Rattle.std.proofs.lemmas.Int.{ints}
use Rattle.xt_model.specs.declared.net.Coupling.{Coupling}
use Rattle.xt_model.specs.declared.net.Net.{Net}
use Rattle.xt_model.specs.Levels.{CouplesTo}
use Rattle.xt_model.specs.Results.{◌>>=◌}
use Rattle.text_lines.specs.Lines.{Line}
use Rattle.linked_text.specs.Fields.{between, signed_of, three, four}
use Rattle.eco_warm.specs.declared.edit.Edit.{Edit}
use Rattle.eco_warm.specs.declared.edit.EditFault.{EditFault}
use Rattle.eco_warm.specs.Edits.{move_of, first_of, second_of}
use Rattle.eco_warm.specs.Possible.{IsAmount, IsEditOf, IsMove}
use Rattle.eco_warm.specs.Reading.{Reads, has_coupling, are_coupled, net_named, coupled, nets_in, amount_in, or_e2, shield_of, apart_of, near_of, moved_in, shield_in, move_in, edit_in}

-- ---- couplings

no_lie : IsTrue false → ⊥
no_lie h = true≢false (sym h)

-- a coupling to a net, where one is found
found : (ks : List Coupling) (to : ℕ) → IsTrue (list_any (λ k. k.to.0 == to) ks) → (k : Coupling) × Contains ks k × (k.to.0 ≡ to)
found [] to h = absurd (no_lie h)
found (k ∷ ks) to h = go (k.to.0 == to) refl (found ks to)
  where
    go : (b : Bool) → (k.to.0 == to) ≡ b → (IsTrue (list_any (λ j. j.to.0 == to) ks) → (j : Coupling) × Contains ks j × (j.to.0 ≡ to)) → (j : Coupling) × Contains (k ∷ ks) j × (j.to.0 ≡ to)
    go true e more = (k, (0, omega arith, refl), eqb-true k.to.0 to e)
    go false e more =
        let here : IsTrue ((k.to.0 == to) || list_any (λ j. j.to.0 == to) ks) = h in
        let rest : IsTrue (list_any (λ j. j.to.0 == to) ks) = rw e at here in
        let f = more rest in
        let has = f.1 in
        let lt = has.1 in
        (f.0, (suc has.0, omega (arith, lt), has.2), f.2)

couples : (nets : List Net) (a b : ℕ) (o : Option Net) → slice_get nets a ≡ o → IsTrue (has_coupling o b) → CouplesTo nets a b
couples nets a b None at h = absurd (no_lie h)
couples nets a b (Some n) at h = let f = found n.couplings b h in (n, f.0, at, f.1, f.2)

coupled_nets : (nets : List Net) (a b : ℕ) → IsTrue (are_coupled nets a b) → CouplesTo nets a b ⊎ CouplesTo nets b a
coupled_nets nets a b h = go (has_coupling (slice_get nets a) b) refl
  where
    go : (t : Bool) → has_coupling (slice_get nets a) b ≡ t → CouplesTo nets a b ⊎ CouplesTo nets b a
    go true e = inl (couples nets a b (slice_get nets a) refl e)
    go false e =
        let either : IsTrue (has_coupling (slice_get nets a) b || has_coupling (slice_get nets b) a) = h in
        let k : IsTrue (has_coupling (slice_get nets b) a) = rw e at either in
        inr (couples nets b a (slice_get nets b) refl k)

-- ---- steps that gave something

ok_step : {A B : Type 0} (r : Result A EditFault) (f : A → Result B EditFault) (y : B) → (r >>= f) ≡ Ok y → (x : A) × (r ≡ Ok x) × (f x ≡ Ok y)
ok_step (Ok x) f y e = (x, refl, e)
ok_step (Err c) f y e = absurd cc

is_some : {A : Type 0} (b : Bool) (x y : A) → cond b (Some x) None ≡ Some y → (b ≡ true) × (x ≡ y)
is_some true x y e = (refl, cc)
is_some false x y e = absurd cc

-- a net that has the name is one of them
pub named_within : (nets : List Net) (name : List ℕ) (i : ℕ) → net_named nets name ≡ Some i → i < length nets
named_within nets name i e =
    let at = position_or_len (λ n. bytes_eq n.name name) nets in
    let g = is_some (ltb at (length nets)) at i e in
    subst (λ j. j < length nets) g.1 (ltb-true at (length nets) g.0)

-- two nets that are there, one of which has a coupling to the other
record AreBetween (nets : List Net) (a b : ℕ) : Type 0 where
  first : a < length nets
  second : b < length nets
  couples : CouplesTo nets a b ⊎ CouplesTo nets b a

nets_between : (nets : List Net) (a b : List ℕ) (p : ℕ × ℕ) → nets_in nets a b ≡ Ok p → AreBetween nets p.0 p.1
nets_between nets a b p e = go (net_named nets a) (net_named nets b) (named_within nets a) (named_within nets b) e
  where
    both : (i j : ℕ) → i < length nets → j < length nets → (t : Bool) → are_coupled nets i j ≡ t → ◌≡◌ {A = Result (ℕ × ℕ) EditFault} (cond t (Ok (i, j)) (Err EditFault.E3)) (Ok p) → AreBetween nets p.0 p.1
    both i j first second true is e =
        let at : i ≡ p.0 = cc in
        let to : j ≡ p.1 = cc in
        let h : AreBetween nets i j = record { first = first; second = second; couples = coupled_nets nets i j is } in
        subst (λ x. AreBetween nets x p.1) at (subst (AreBetween nets i) to h)
    both i j first second false is e = absurd cc

    go : (o q : Option ℕ) → ((i : ℕ) → o ≡ Some i → i < length nets) → ((i : ℕ) → q ≡ Some i → i < length nets) → coupled nets o q ≡ Ok p → AreBetween nets p.0 p.1
    go (Some i) (Some j) first second e = both i j (first i refl) (second j refl) (are_coupled nets i j) refl e
    go (Some i) None first second e = absurd cc
    go None q first second e = absurd cc

both_true : (a b : Bool) → (a && b) ≡ true → (a ≡ true) × (b ≡ true)
both_true true true e = (refl, refl)
both_true true false e = absurd cc
both_true false b e = absurd cc

le_from : (a b : ℤ) → int_le a b ≡ true → a ≤ℤ b
le_from a b h = grind (arith, ints)

amount_between : (f : List ℕ) (by : ℤ) → amount_in f ≡ Ok by → IsAmount by
unfolding between
amount_between f by e = go (signed_of (2 ^ 127) f) e
  where
    tested : (x : ℤ) (t : Bool) → (int_le (pos 1) x && int_le x (pos 1099511627776)) ≡ t → or_e2 (cond t (Some x) None) ≡ Ok by → IsAmount by
    tested x true is e =
        let same : x ≡ by = cc in
        let b = both_true (int_le (pos 1) x) (int_le x (pos 1099511627776)) is in
        let r : IsAmount x = record { least = le_from (pos 1) x b.0; most = le_from x (pos 1099511627776) b.1 } in
        subst IsAmount same r
    tested x false is e = absurd cc

    go : (o : Option ℤ) → or_e2 (option_and_then (λ (x : ℤ). cond (int_le (pos 1) x && int_le x (pos 1099511627776)) (Some x) None) o) ≡ Ok by → IsAmount by
    go None e = absurd cc
    go (Some x) e = tested x (int_le (pos 1) x && int_le x (pos 1099511627776)) refl e

-- ---- the edit of a line

-- an edit between the two nets
is_edit : (nets : List Net) (e : Edit) → AreBetween nets (first_of e) (second_of e) → IsMove (move_of e) → IsEditOf nets e
is_edit nets e h amount = record { first = h.first; second = h.second; couples = h.couples; amount = amount }

module _ (nets : List Net) where
  shield_is : (a b : List ℕ) (e : Edit) → (nets_in nets a b >>= λ p. Ok (shield_of p)) ≡ Ok e → IsEditOf nets e
  shield_is a b e h =
      let s = ok_step (nets_in nets a b) (λ p. Ok (shield_of p)) e h in
      let is : shield_of s.0 ≡ e = cc in
      subst (IsEditOf nets) is (is_edit nets (shield_of s.0) (nets_between nets a b s.0 s.1) tt)

  moved_is : (of : ℤ → ℕ × ℕ → Edit) → ((by : ℤ) (p : ℕ × ℕ) → AreBetween nets p.0 p.1 → IsAmount by → IsEditOf nets (of by p))
      → (a b by : List ℕ) (e : Edit) → moved_in of nets a b by ≡ Ok e → IsEditOf nets e
  moved_is of makes a b by e h =
      let s = ok_step (amount_in by) (λ d. nets_in nets a b >>= λ p. Ok (of d p)) e h in
      let t = ok_step (nets_in nets a b) (λ p. Ok (of s.0 p)) e s.2 in
      let is : of s.0 t.0 ≡ e = cc in
      subst (IsEditOf nets) is (makes s.0 t.0 (nets_between nets a b t.0 t.1) (amount_between by s.0 s.1))

  apart_is : (by : ℤ) (p : ℕ × ℕ) → AreBetween nets p.0 p.1 → IsAmount by → IsEditOf nets (apart_of by p)
  apart_is by p h amount = is_edit nets (apart_of by p) h amount

  near_is : (by : ℤ) (p : ℕ × ℕ) → AreBetween nets p.0 p.1 → IsAmount by → IsEditOf nets (near_of by p)
  near_is by p h amount = is_edit nets (near_of by p) h amount

  shield_between : (word a b : List ℕ) (e : Edit) → shield_in nets word a b ≡ Ok e → IsEditOf nets e
  shield_between word a b e h = by_word (bytes_eq word (codes "shield")) h
    where
      by_word : (t : Bool) → cond t (nets_in nets a b >>= λ p. Ok (shield_of p)) (Err EditFault.E1) ≡ Ok e → IsEditOf nets e
      by_word true h = shield_is a b e h
      by_word false h = absurd cc

  move_between : (word a b by : List ℕ) (e : Edit) → move_in nets word a b by ≡ Ok e → IsEditOf nets e
  move_between word a b by e h = by_apart (bytes_eq word (codes "apart")) h
    where
      by_near : (t : Bool) → cond t (moved_in near_of nets a b by) (Err EditFault.E1) ≡ Ok e → IsEditOf nets e
      by_near true h = moved_is near_of near_is a b by e h
      by_near false h = absurd cc

      by_apart : (t : Bool) → cond t (moved_in apart_of nets a b by) (cond (bytes_eq word (codes "near")) (moved_in near_of nets a b by) (Err EditFault.E1)) ≡ Ok e → IsEditOf nets e
      by_apart true h = moved_is apart_of apart_is a b by e h
      by_apart false h = by_near (bytes_eq word (codes "near")) h

  pub edit_between : (fields : Line) (e : Edit) → edit_in nets fields ≡ Ok e → IsEditOf nets e
  edit_between [] e h = absurd cc
  edit_between (word ∷ []) e h = absurd cc
  edit_between (word ∷ a ∷ []) e h = absurd cc
  edit_between (word ∷ a ∷ b ∷ []) e h = shield_between word a b e h
  edit_between (word ∷ a ∷ b ∷ by ∷ []) e h = move_between word a b by e h
  edit_between (word ∷ a ∷ b ∷ by ∷ more ∷ rest) e h = absurd cc

  -- an edit that was read is between two nets
  pub read_between : (r : Result Edit EditFault) (fields : Line) → Reads (λ e. e) r (edit_in nets fields) → IfOk r (IsEditOf nets)
  read_between (Ok e) fields h = edit_between fields e h
  read_between (Err fault) fields h = tt

  -- ---- lines of four fields

  pub moves_to : (of : ℤ → ℕ × ℕ → Edit) (a b by : List ℕ) (d : ℤ) (p : ℕ × ℕ) → amount_in by ≡ Ok d → nets_in nets a b ≡ Ok p → moved_in of nets a b by ≡ Ok (of d p)
  moves_to of a b by d p e h = rw (e, h) refl

  pub moves_apart : (word a b by : List ℕ) (r : Result Edit EditFault) → bytes_eq word (codes "apart") ≡ true → moved_in apart_of nets a b by ≡ r → move_in nets word a b by ≡ r
  moves_apart word a b by r e h = rw e h

  pub moves_near : (word a b by : List ℕ) (r : Result Edit EditFault) → bytes_eq word (codes "apart") ≡ false → bytes_eq word (codes "near") ≡ true → moved_in near_of nets a b by ≡ r
      → move_in nets word a b by ≡ r
  moves_near word a b by r e f h = rw (e, f) h

  -- ---- lines by the count of their fields

  pub of_three : (fields : Line) (word a b : List ℕ) → three fields ≡ Some (word, a, b) → edit_in nets fields ≡ shield_in nets word a b
  of_three [] word a b e = absurd cc
  of_three (x ∷ []) word a b e = absurd cc
  of_three (x ∷ y ∷ []) word a b e = absurd cc
  of_three (x ∷ y ∷ z ∷ []) word a b e =
      let same : (x, y, z) ≡ (word, a, b) = cc in
      subst (λ (t : List ℕ × List ℕ × List ℕ). shield_in nets x y z ≡ shield_in nets t.0 t.1 t.2) same refl
  of_three (x ∷ y ∷ z ∷ u ∷ more) word a b e = absurd cc

  pub of_four : (fields : Line) (word a b by : List ℕ) → four fields ≡ Some (word, a, b, by) → edit_in nets fields ≡ move_in nets word a b by
  of_four [] word a b by e = absurd cc
  of_four (x ∷ []) word a b by e = absurd cc
  of_four (x ∷ y ∷ []) word a b by e = absurd cc
  of_four (x ∷ y ∷ z ∷ []) word a b by e = absurd cc
  of_four (x ∷ y ∷ z ∷ u ∷ []) word a b by e =
      let same : (x, y, z, u) ≡ (word, a, b, by) = cc in
      subst (λ (t : List ℕ × List ℕ × List ℕ × List ℕ). move_in nets x y z u ≡ move_in nets t.0 t.1 t.2 t.3) same refl
  of_four (x ∷ y ∷ z ∷ u ∷ v ∷ more) word a b by e = absurd cc

  pub of_others : (fields : Line) → three fields ≡ None → four fields ≡ None → edit_in nets fields ≡ Err EditFault.E1
  of_others [] no_three no_four = refl
  of_others (x ∷ []) no_three no_four = refl
  of_others (x ∷ y ∷ []) no_three no_four = refl
  of_others (x ∷ y ∷ z ∷ []) no_three no_four = absurd cc
  of_others (x ∷ y ∷ z ∷ u ∷ []) no_three no_four = absurd cc
  of_others (x ∷ y ∷ z ∷ u ∷ v ∷ more) no_three no_four = refl
