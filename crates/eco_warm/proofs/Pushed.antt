-- What is left of the couplings of a net and of their coefficients, one coupling after another.
use Rattle.std.proofs.Common.{◌≡◌, ℕ, zero, suc, ◌+◌, ◌<◌, refl, sym, ap, subst, ◌∙◌, List, [], ◌∷◌, ◌++◌, length, drop, get_or, ℤ, append_assoc, arith}
use Rattle.std.specs.List.{All}
use Rattle.std.proofs.lemmas.Bool.{ne_eqb, eq-eqb}
use Rattle.std.proofs.lemmas.List.Elements.{All-head, All-tail, All-append, All-cons, All-nil}
use Rattle.xt_model.specs.declared.net.Coupling.{Coupling}
use Rattle.xt_model.specs.Sound.{IsProduct}
use Rattle.eco_warm.specs.declared.edit.EditFault.{EditFault}
use Rattle.eco_warm.specs.declared.edit.EditFault.TheVariants as faults
use Rattle.eco_warm.specs.declared.edit.Move.{Move}
use Rattle.eco_warm.specs.declared.edit.Move.TheVariants.{Whole, ToGround, FromGround}
use Rattle.std.proofs.lemmas.List.{at_drop_more}
use Rattle.eco_warm.specs.Edits.{coef_left, coupling_before, couplings_left, coef_before, coefs_left}
use Rattle.eco_warm.specs.Possible.{IsImpossible}

pub kept_coupling : (m : Move) (other : ℕ) (k : Coupling) (ks : List Coupling) → (k.to.0 ≡ other → ⊥) → couplings_left m other (k ∷ ks) ≡ k ∷ couplings_left m other ks
kept_coupling m other k ks h = rw (ne_eqb k.to.0 other h) refl

pub moved_coupling : (m : Move) (other : ℕ) (k : Coupling) (ks : List Coupling) → k.to.0 ≡ other → couplings_left m other (k ∷ ks) ≡ coupling_before m k (couplings_left m other ks)
moved_coupling m other k ks h = rw (eq-eqb k.to.0 other h) refl

pub kept_coef : (m : Move) (other : ℕ) (k : Coupling) (ks : List Coupling) (c : ℤ) (cs : List ℤ) → (k.to.0 ≡ other → ⊥) → coefs_left m other (k ∷ ks) (c ∷ cs) ≡ c ∷ coefs_left m other ks cs
kept_coef m other k ks c cs h = rw (ne_eqb k.to.0 other h) refl

pub moved_coef : (m : Move) (other : ℕ) (k : Coupling) (ks : List Coupling) (c : ℤ) (cs : List ℤ) → k.to.0 ≡ other → coefs_left m other (k ∷ ks) (c ∷ cs) ≡ coef_before m k.cap c (coefs_left m other ks cs)
moved_coef m other k ks c cs h = rw (eq-eqb k.to.0 other h) refl

-- one more at the end of what there is, before a rest
pub pushed : {X : Type 0} (old new : List X) (x : X) (rest whole : List X) → new ≡ old ++ x ∷ [] → whole ≡ x ∷ rest → new ++ rest ≡ old ++ whole
pushed old new x rest whole h k = rw (h, k) (append_assoc old (x ∷ []) rest)

-- P of one behind others
pub later : {X : Type 0} (P : X → Type 0) (xs : List X) (y : X) (ys : List X) → All P (xs ++ y ∷ ys) → P y
later P [] y ys h = All-head P y ys h
later P (x ∷ xs) y ys h = later P xs y ys (All-tail P x (xs ++ y ∷ ys) h)

pub later_all : {X : Type 0} (P : X → Type 0) (xs ys : List X) → All P (xs ++ ys) → All P ys
later_all P [] ys h = h
later_all P (x ∷ xs) ys h = later_all P xs ys (All-tail P x (xs ++ ys) h)

pub one_more : {X : Type 0} (P : X → Type 0) (xs : List X) (y : X) → All P xs → P y → All P (xs ++ y ∷ [])
one_more P xs y h k = All-append P xs (y ∷ []) h (All-cons P y [] k (All-nil P))

-- ---- one coefficient
pub moved_one : (m : Move) (other : ℕ) (k : Coupling) (c x : ℤ) → k.to.0 ≡ other → (m ≡ Whole → ⊥) → x ≡ coef_left m k.cap c → (ks : List Coupling) (cs : List ℤ)
    → coefs_left m other (k ∷ ks) (c ∷ cs) ≡ x ∷ coefs_left m other ks cs
moved_one Whole other k c x h n is ks cs = absurd (n refl)
moved_one (ToGround by) other k c x h n is ks cs = moved_coef (ToGround by) other k ks c cs h ∙ ap (λ y. y ∷ coefs_left (ToGround by) other ks cs) (sym is)
moved_one (FromGround by) other k c x h n is ks cs = moved_coef (FromGround by) other k ks c cs h ∙ ap (λ y. y ∷ coefs_left (FromGround by) other ks cs) (sym is)

pub coef_past : (m : Move) (other : ℕ) (k : Coupling) (c : ℤ) → k.to.0 ≡ other → (m ≡ Whole → ⊥) → (IsProduct (coef_left m k.cap c) → ⊥) → (ks : List Coupling) (cs : List ℤ)
    → All IsProduct (coefs_left m other (k ∷ ks) (c ∷ cs)) → ⊥
coef_past m other k c h n past ks cs all =
    let e = moved_one m other k c (coef_left m k.cap c) h n refl ks cs in
    past (All-head IsProduct (coef_left m k.cap c) (coefs_left m other ks cs) (subst (All IsProduct) e all))

-- ---- why an edit is refused
pub impossible_weaker : (A B : Type 0) (f : EditFault) → (A → B) → IsImpossible A f → IsImpossible B f
impossible_weaker A B faults.E1 g h = h
impossible_weaker A B faults.E2 g h = h
impossible_weaker A B faults.E3 g h = h
impossible_weaker A B faults.E4 g h = g h
impossible_weaker A B (faults.Load net value) g h = h
impossible_weaker A B faults.NoMemory g h = h

-- ---- the coefficients of a sink, one after another
at_both : (m : Move) (other : ℕ) (ks : List Coupling) (cs : List ℤ) (i : ℕ) (k : Coupling) (x : ℤ) → i < length ks → length cs ≡ length ks → k ≡ get_or ks i k → x ≡ get_or cs i x
    → coefs_left m other (drop i ks) (drop i cs) ≡ coefs_left m other (k ∷ drop (i + 1) ks) (x ∷ drop (i + 1) cs)
at_both m other ks cs i k x h len at_k at_x =
    at_drop_more (λ xs. coefs_left m other xs (drop i cs)) ks i k h
    ∙ (at_drop_more (λ ys. coefs_left m other (get_or ks i k ∷ drop (i + 1) ks) ys) cs i x (omega (arith, h, len))
    ∙ (ap (λ y. coefs_left m other (y ∷ drop (i + 1) ks) (get_or cs i x ∷ drop (i + 1) cs)) (sym at_k) ∙ ap (λ y. coefs_left m other (k ∷ drop (i + 1) ks) (y ∷ drop (i + 1) cs)) (sym at_x)))

pub coefs_turn : (m : Move) (other : ℕ) (ks : List Coupling) (cs : List ℤ) (i : ℕ) (k : Coupling) (x : ℤ) (old new : List ℤ) → i < length ks → length cs ≡ length ks
    → k ≡ get_or ks i k → x ≡ get_or cs i x → ((xs : List Coupling) (ys : List ℤ) → (new ++ coefs_left m other xs ys) ≡ (old ++ coefs_left m other (k ∷ xs) (x ∷ ys)))
    → (old ++ coefs_left m other (drop i ks) (drop i cs)) ≡ coefs_left m other ks cs
    → (new ++ coefs_left m other (drop (i + 1) ks) (drop (i + 1) cs)) ≡ coefs_left m other ks cs
coefs_turn m other ks cs i k x old new h len at_k at_x step before =
    step (drop (i + 1) ks) (drop (i + 1) cs) ∙ (ap (λ r. old ++ r) (sym (at_both m other ks cs i k x h len at_k at_x)) ∙ before)

pub coefs_stop : (m : Move) (other : ℕ) (ks : List Coupling) (cs : List ℤ) (i : ℕ) (k : Coupling) (x : ℤ) (old : List ℤ) (f : EditFault) → i < length ks → length cs ≡ length ks
    → k ≡ get_or ks i k → x ≡ get_or cs i x → (old ++ coefs_left m other (drop i ks) (drop i cs)) ≡ coefs_left m other ks cs
    → IsImpossible ((xs : List Coupling) (ys : List ℤ) → All IsProduct (coefs_left m other (k ∷ xs) (x ∷ ys)) → ⊥) f
    → IsImpossible (All IsProduct (coefs_left m other ks cs) → ⊥) f
coefs_stop m other ks cs i k x old f h len at_k at_x before refused =
    impossible_weaker ((xs : List Coupling) (ys : List ℤ) → All IsProduct (coefs_left m other (k ∷ xs) (x ∷ ys)) → ⊥) (All IsProduct (coefs_left m other ks cs) → ⊥) f
    (λ never all.
    let rest = later_all IsProduct old (coefs_left m other (drop i ks) (drop i cs)) (subst (All IsProduct) (sym before) all) in
    never (drop (i + 1) ks) (drop (i + 1) cs) (subst (All IsProduct) (at_both m other ks cs i k x h len at_k at_x) rest)) refused

pub any_default : {X : Type 0} (xs : List X) (i : ℕ) (d : X) → i < length xs → get_or xs i d ≡ get_or xs i (get_or xs i d)
any_default [] i d h = absurd (omega (arith, h))
any_default (x ∷ xs) zero d h = refl
any_default (x ∷ xs) (suc i) d h = any_default xs i d (omega (arith, h))
