-- Marks of nets whose windows a round did not move.
use Rattle.std.proofs.Common.{◌≡◌, ℕ, zero, suc, ◌<◌, ◌≤◌, inl, inr, sym, ap, subst, ◌∙◌, List, [], ◌∷◌, length, get_or, set, Bool, false, arith}
use Rattle.std.specs.Prelude.{IsTrue, IfSome, Some, None, Option}
use Rattle.std.specs.List.{All, Contains, slice_get}
use Rattle.std.proofs.lemmas.Bool.{cases_lt}
use Rattle.std.proofs.lemmas.List.{get_or_past}
use Rattle.std.proofs.lemmas.List.Elements.{Contains-get_or}
use Rattle.xt_model.specs.declared.direction.Direction.{Direction}
use Rattle.xt_model.specs.declared.direction.Direction.TheVariants.{Widen, Narrow}
use Rattle.xt_model.specs.declared.edge.Edge.{Edge}
use Rattle.xt_model.specs.declared.net.Net.{Net}
use Rattle.xt_model.specs.declared.net.NetId.{NetId}
use Rattle.xt_model.specs.declared.quad.Quad.{Quad}
use Rattle.xt_model.specs.declared.quad.Pair.{Pair}
use Rattle.xt_model.specs.Parts.{Parts}
use Rattle.xt_model.specs.Sound.{IsSound, IsSoundNet}
use Rattle.xt_model.specs.Assign.{assigned, quad_of_pair}
use Rattle.xt_meaning.specs.Operator.{step}
use Rattle.xt_meaning.specs.Reads.{HoldsOfEnds, HoldsOfReads}
use Rattle.xt_meaning.specs.Barrier.{IsNoFurther, IsFittingStart}
use Rattle.xt_meaning.specs.Words.{numbers_of}
use Rattle.xt_meaning.proofs.Order.{within_antisym}
use Rattle.xt_meaning.proofs.ReadLists.{holds_from_looked_at}
use Rattle.net_eval.specs.Closing.{IsSteadyAt}
use Rattle.net_eval.specs.ReadLists.{AreReadLists, ids, reads_of}
use Rattle.chaos_core.specs.declared.setting.Setting.{Setting}
use Rattle.chaos_core.specs.Tasks.{list_of}
use Rattle.chaos_core.specs.Rounds.{HasCarried}
use Rattle.chaos_core.specs.Alike.{AreDecidedAlike}
use Rattle.chaos_core.specs.Spared.{AreRead}
use Rattle.chaos_core.proofs.Deciding.{same_where_decided}
use Rattle.chaos_core.proofs.Places.{no_lie, id_at, ids_count, looked_there, read_there}
use Rattle.chaos_core.proofs.Settling.{past_windows}

-- ---- marks
pub marks_set : (P : ℕ → Type 0) (marks : List Bool) (k : ℕ) (b : Bool) → k < length marks → ((n : ℕ) → n < k → IsTrue (get_or marks n false) → P n) → (IsTrue b → P k) → (n : ℕ) → n < suc k
    → IsTrue (get_or (set marks k b) n false) → P n
marks_set P [] k b there h t n below true = absurd (omega (arith, there))
marks_set P (x ∷ marks) zero b there h t zero below true = t true
marks_set P (x ∷ marks) zero b there h t (suc n) below true = absurd (omega (arith, below))
marks_set P (x ∷ marks) (suc k) b there h t zero below true = h 0 (omega arith) true
marks_set P (x ∷ marks) (suc k) b there h t (suc n) below true = marks_set (λ i. P (suc i)) marks k b (omega (arith, there)) (λ i u v. h (suc i) (omega (arith, u)) v) t n (omega (arith, below)) true

-- one mark is put anew
pub marks_put : (P : ℕ → Type 0) (marks : List Bool) (k : ℕ) (b : Bool) → k < length marks → ((n : ℕ) → IsTrue (get_or marks n false) → P n) → (IsTrue b → P k) → (n : ℕ) → IsTrue (get_or (set marks k b) n false) → P n
marks_put P [] k b there h t n true = absurd (omega (arith, there))
marks_put P (x ∷ marks) zero b there h t zero true = t true
marks_put P (x ∷ marks) zero b there h t (suc n) true = h (suc n) true
marks_put P (x ∷ marks) (suc k) b there h t zero true = h 0 true
marks_put P (x ∷ marks) (suc k) b there h t (suc n) true = marks_put (λ i. P (suc i)) marks k b (omega (arith, there)) (λ i v. h (suc i) v) t n true

-- no mark stands past the last
pub marks_all : (P : ℕ → Type 0) (marks : List Bool) (k : ℕ) → length marks ≤ k → ((n : ℕ) → n < k → IsTrue (get_or marks n false) → P n) → (n : ℕ) → IsTrue (get_or marks n false) → P n
marks_all P marks k all h n true = elim (cases_lt n k) [
  | inl below ↦ h n below true
  | inr past ↦ absurd (no_lie (subst IsTrue (get_or_past marks n false (omega (arith, all, past))) true))
]

pub same_pairs : (v w : List Pair) (n : ℕ) (p q : Pair) → slice_get v n ≡ Some p → slice_get w n ≡ Some q → p ≡ q → (e : Edge) → assigned v n e ≡ assigned w n e
same_pairs v w n p q h k r e = ap (λ (o : Option Pair). quad_of_pair o e) (h ∙ (ap Some r ∙ sym k))

pub reads_inside : (d : Parts) (lists : List (List NetId)) (net count : ℕ) (reads : List NetId) → IsSound d → AreReadLists d lists → net < length d.nets → count ≡ length d.nets → reads ≡ reads_of lists net
    → All (λ (m : NetId). m.0 < count) reads
reads_inside d lists net count reads sound are there many same i x h =
    let c = ids_count reads in
    let e : ids reads ≡ list_of lists net = ap ids same in
    let at = id_at reads i x h in
    let has : Contains (list_of lists net) (get_or reads i x).0 = subst (λ xs. Contains xs (get_or reads i x).0) e (subst (Contains (ids reads)) at (Contains-get_or (ids reads) i 0 (omega (arith, c, h)))) in
    let lt = read_there d net (get_or reads i x).0 (list_of lists net) sound (are.each net there) has in
    omega (arith, lt, many)

-- an evaluation looks at nets of the design alone
pub all_read : (d : Parts) (net count : ℕ) → IsSound d → count ≡ length d.nets → net < length d.nets → HoldsOfReads (λ m. m < count) d net
all_read d net count sound many there = holds_from_looked_at (λ m. m < count) d net (λ m looked. let h = looked_there d net m sound looked in omega (arith, h, many))

-- the couplings of a net are to nets of the design alone
pub all_coupled : (d : Parts) (net count : ℕ) → IsSound d → count ≡ length d.nets → net < length d.nets → AreRead d (λ m. m < count) net
all_coupled d net count sound many there = record { own = omega (arith, many, there); ends = ends (slice_get d.nets net) (sound.nets net) } where
  ends : (o : Option Net) → IfSome o (IsSoundNet d net) → IfSome o (λ (n : Net). HoldsOfEnds (λ m. m < count) n.couplings)
  ends None h = tt
  ends (Some n) h = λ i k lt. let inside = (h.couplings i k lt).there in omega (arith, inside, many)

-- ---- a net is steady after a round that did not move what decides it
antisym : (way : Direction) (q r : Quad) → IsNoFurther way q r → IsNoFurther way r q → q ≡ r
antisym Widen q r h k = within_antisym q r h k
antisym Narrow q r h k = within_antisym q r k h

pub steady_kept : (a : Setting) (d : Parts) (way : Direction) (v w : List Pair) (words later : List ℕ) → a.design ≡ d → a.way ≡ way → IsFittingStart way d v → IsFittingStart way d w → numbers_of v ≡ words
    → numbers_of w ≡ later → HasCarried a words later → (n : ℕ) → AreDecidedAlike d (assigned v) (assigned w) n → IsSteadyAt d w n
steady_kept a d way v w words later own same before after is was carry n alike = record {
  fixed = λ e.
      let past = past_windows a d way v w words later own same before after is was carry in
      let moved : step d v n e ≡ step d w n e = same_where_decided d (assigned v) (assigned w) n e alike in
      let P : Quad → Type 0 = λ q. IsNoFurther way q (assigned w n e) in
      antisym way (step d w n e) (assigned w n e) (subst P moved (past.each n e)) (after.fits.each n e);
}
