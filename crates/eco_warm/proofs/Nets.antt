-- Two lists of nets, net by net; and the nets before and after an edit.
use Rattle.std.proofs.Common.{◌≡◌, ℕ, zero, suc, inl, inr, refl, sym, ap, subst, ◌∙◌, List, [], ◌∷◌, length}
use Rattle.std.specs.Prelude.{Option, Some, None, IfSome}
use Rattle.std.specs.Option.{option_map}
use Rattle.std.specs.List.{slice_get}
use Rattle.std.proofs.lemmas.Bool.{cases_eq}
use Rattle.xt_model.specs.declared.net.Net.{Net}
use Rattle.eco_warm.specs.declared.edit.Move.{Move}
use Rattle.eco_warm.specs.Edits.{net_left, at_net, nets_left}

abbrev pub IsRelated : (Net → Net → Type 0) → Option Net → Option Net → Type 0
IsRelated R None None = Unit {0}
IsRelated R None (Some x) = ⊥
IsRelated R (Some y) None = ⊥
IsRelated R (Some y) (Some x) = R y x

-- R holds of each net of the one list and the net of the other that has its number
pub record AreRelated (R : Net → Net → Type 0) (ys xs : List Net) : Type 0 where
  pub each : (i : ℕ) → IsRelated R (slice_get ys i) (slice_get xs i)

turned : (R : Net → Net → Type 0) (o p : Option Net) → IsRelated R o p → IsRelated (λ x y. R y x) p o
turned R None None h = tt
turned R None (Some x) h = absurd h
turned R (Some y) None h = absurd h
turned R (Some y) (Some x) h = h

pub turn_round : (R : Net → Net → Type 0) (ys xs : List Net) → AreRelated R ys xs → AreRelated (λ x y. R y x) xs ys
turn_round R ys xs h = record { each = λ i. turned R (slice_get ys i) (slice_get xs i) (h.each i) }

mapped : (R : Net → Net → Type 0) (f : Net → Net) (o : Option Net) → IfSome o (λ n. R (f n) n) → IsRelated R (option_map f o) o
mapped R f None h = tt
mapped R f (Some n) h = h

kept : (R : Net → Net → Type 0) → ((n : Net) → R n n) → (o : Option Net) → IsRelated R o o
kept R r None = tt
kept R r (Some n) = r n

-- ---- one net in its place
pub at_same : (i : ℕ) (f : Net → Net) (nets : List Net) → slice_get (at_net i f nets) i ≡ option_map f (slice_get nets i)
at_same zero f [] = refl
at_same (suc i) f [] = refl
at_same zero f (n ∷ nets) = refl
at_same (suc i) f (n ∷ nets) = at_same i f nets

pub at_other : (i : ℕ) (f : Net → Net) (nets : List Net) (j : ℕ) → (j ≡ i → ⊥) → slice_get (at_net i f nets) j ≡ slice_get nets j
at_other i f [] j h = refl
at_other zero f (n ∷ nets) zero h = absurd (h refl)
at_other zero f (n ∷ nets) (suc j) h = refl
at_other (suc i) f (n ∷ nets) zero h = refl
at_other (suc i) f (n ∷ nets) (suc j) h = at_other i f nets j (λ e. h (ap suc e))

pub length-at_net : (i : ℕ) (f : Net → Net) (nets : List Net) → length (at_net i f nets) ≡ length nets
length-at_net i f [] = refl
length-at_net zero f (n ∷ nets) = refl
length-at_net (suc i) f (n ∷ nets) = ap suc (length-at_net i f nets)

-- ---- both nets of an edit
module _ (R : Net → Net → Type 0) (same : (n : Net) → R n n) (m : Move) (a b : ℕ) (apart : b ≡ a → ⊥) (nets : List Net)
    (first : IfSome (slice_get nets a) (λ n. R (net_left m b n) n)) (second : IfSome (slice_get nets b) (λ n. R (net_left m a n) n)) where
  at_second : IsRelated R (slice_get (nets_left m a b nets) b) (slice_get nets b)
  at_second =
      let e : slice_get (nets_left m a b nets) b ≡ option_map (net_left m a) (slice_get nets b) =
      at_same b (net_left m a) (at_net a (net_left m b) nets) ∙ ap (option_map (net_left m a)) (at_other a (net_left m b) nets b apart) in
      let P : Option Net → Type 0 = λ o. IsRelated R o (slice_get nets b) in
      subst P (sym e) (mapped R (net_left m a) (slice_get nets b) second)

  at_first : IsRelated R (slice_get (nets_left m a b nets) a) (slice_get nets a)
  at_first =
      let e : slice_get (nets_left m a b nets) a ≡ option_map (net_left m b) (slice_get nets a) =
      at_other b (net_left m a) (at_net a (net_left m b) nets) a (λ e. apart (sym e)) ∙ at_same a (net_left m b) nets in
      let P : Option Net → Type 0 = λ o. IsRelated R o (slice_get nets a) in
      subst P (sym e) (mapped R (net_left m b) (slice_get nets a) first)

  elsewhere : (j : ℕ) → (j ≡ a → ⊥) → (j ≡ b → ⊥) → IsRelated R (slice_get (nets_left m a b nets) j) (slice_get nets j)
  elsewhere j x y =
      let e : slice_get (nets_left m a b nets) j ≡ slice_get nets j =
      at_other b (net_left m a) (at_net a (net_left m b) nets) j y ∙ at_other a (net_left m b) nets j x in
      let P : Option Net → Type 0 = λ o. IsRelated R o (slice_get nets j) in
      subst P (sym e) (kept R same (slice_get nets j))

  pub nets_related : AreRelated R (nets_left m a b nets) nets
  nets_related = record {
    each = λ j. elim (cases_eq j b) [
      | inl e ↦ let P : ℕ → Type 0 = λ i. IsRelated R (slice_get (nets_left m a b nets) i) (slice_get nets i) in subst P (sym e) at_second
      | inr y ↦ elim (cases_eq j a) [
        | inl e ↦ let P : ℕ → Type 0 = λ i. IsRelated R (slice_get (nets_left m a b nets) i) (slice_get nets i) in subst P (sym e) at_first
        | inr x ↦ elsewhere j x y
      ]
    ];
  }

pub length-nets_left : (m : Move) (a b : ℕ) (nets : List Net) → length (nets_left m a b nets) ≡ length nets
length-nets_left m a b nets = length-at_net b (net_left m a) (at_net a (net_left m b) nets) ∙ length-at_net a (net_left m b) nets
