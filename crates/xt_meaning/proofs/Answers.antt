-- Only answers for coupled nets matter, and with more overlaps the operator makes wider windows.
use Rattle.std.proofs.Common.{◌≡◌, ℕ, ◌<◌, inl, inr, ◌⊎◌, refl, sym, ◌∙◌, List, arith}
use Rattle.std.specs.Prelude.{IsTrue, Some}
use Rattle.std.specs.List.{All, Contains, slice_get}
use Rattle.std.proofs.lemmas.Bool.{cases_lt, cases_eq}
use Rattle.std.proofs.lemmas.List.Elements.{All-weaker, All-contains, All-contains_itself}
use Rattle.xt_model.specs.declared.edge.Edge.{Edge}
use Rattle.xt_model.specs.declared.net.Coupling.{Coupling}
use Rattle.xt_model.specs.declared.net.TimingArc.{TimingArc}
use Rattle.xt_model.specs.declared.net.Net.{Net}
use Rattle.xt_model.specs.Quads.{IsWithin}
use Rattle.xt_model.specs.Levels.{CouplesTo, ArePairs}
use Rattle.xt_model.specs.Parts.{Parts}
use Rattle.xt_model.specs.Sound.{IsSound, IsSoundCoupling}
use Rattle.xt_model.specs.Assign.{Assignment}
use Rattle.xt_meaning.specs.Overlap.{Answers}
use Rattle.xt_meaning.specs.Operator.{operator_by}
use Rattle.xt_meaning.specs.Fixpoint.{IsContained}
use Rattle.xt_meaning.specs.AnswerLaws.{IsSymmetric, AgreeOnCouplings, AgreeOnPairs, IsImplied}
use Rattle.xt_meaning.proofs.Order.{within_refl, within_antisym}
use Rattle.xt_meaning.proofs.Growth.{AreWired, IsImpliedAt}
use Rattle.xt_meaning.proofs.Monotone.{ArcGrows, operator_by_mono}
use Rattle.xt_meaning.proofs.Widest.{IfSome_there}
use Rattle.xt_meaning.proofs.Limits.{sound_at}

-- ---- coupled nets
agreed_at : (d : Parts) (b c : Answers) (n : ℕ) (net : Net) → AgreeOnCouplings d b c → slice_get d.nets n ≡ Some net → IsImpliedAt b c n net.couplings
agreed_at d b c n net agree there = record {
  each = λ e f. All-weaker (Contains net.couplings) (λ k. IsTrue (b n e k.to.0 f) → IsTrue (c n e k.to.0 f))
      (λ k has t. sym (agree.each n k.to.0 e f (net, k, there, has, refl)) ∙ t) net.couplings (All-contains_itself net.couplings);
}

agreed_arc : (d : Parts) (b c : Answers) (W : Assignment) (n : ℕ) (net : Net) (a : TimingArc) → AgreeOnCouplings d b c → slice_get d.nets n ≡ Some net → ArcGrows d b c W W n net a
agreed_arc d b c W n net a agree there = record {
  input = λ e. within_refl (W a.from.0 e);
  own = agreed_at d b c n net agree there;
  wire = IfSome_there (λ m. IsImpliedAt b c a.from.0 m.couplings) (slice_get d.nets a.from.0) (λ m at. agreed_at d b c a.from.0 m agree at);
}

agreed_within : (d : Parts) (b c : Answers) (W : Assignment) (n : ℕ) (e : Edge) → AreWired d → AgreeOnCouplings d b c → IsWithin (operator_by d b W n e) (operator_by d c W n e)
agreed_within d b c W n e ws agree = operator_by_mono d b c W W n e ws (record {
  arcs = IfSome_there (λ net. All (ArcGrows d b c W W n net) net.arcs) (slice_get d.nets n) (λ net there k x h. agreed_arc d b c W n net _ agree there);
})

turned_agreement : (d : Parts) (b c : Answers) → AgreeOnCouplings d b c → AgreeOnCouplings d c b
turned_agreement d b c agree = record { each = λ n m e f k. sym (agree.each n m e f k) }

pub agreed_same : (d : Parts) (b c : Answers) (W : Assignment) (n : ℕ) (e : Edge) → AreWired d → AgreeOnCouplings d b c → operator_by d b W n e ≡ operator_by d c W n e
agreed_same d b c W n e ws agree =
    within_antisym (operator_by d b W n e) (operator_by d c W n e) (agreed_within d b c W n e ws agree) (agreed_within d c b W n e ws (turned_agreement d b c agree))

-- ---- pairs of coupled nets
-- of two coupled nets that differ one has the lesser number; a net that is coupled to itself has no pair
pub agreed_pairs : (d : Parts) (pairs : List (ℕ × ℕ)) (b c : Answers) → ArePairs d.nets pairs → ((n m : ℕ) → CouplesTo d.nets n m → (n < m) ⊎ (m < n))
    → IsSymmetric b → IsSymmetric c → AgreeOnPairs pairs b c → AgreeOnCouplings d b c
agreed_pairs d pairs b c are apart sb sc agree = record {
  each = λ n m e f k. elim (apart n m k) [
    | inl less ↦ agree.each n m e f ((are.members n m).1 (less, inl k))
    | inr more ↦ sb.turned n m e f ∙ (agree.each m n f e ((are.members m n).1 (more, inr k)) ∙ sym (sc.turned n m e f))
  ];
}

-- in a sound design no net is coupled to itself
pub coupled_apart : (d : Parts) → IsSound d → (n m : ℕ) → CouplesTo d.nets n m → (n < m) ⊎ (m < n)
coupled_apart d s n m c =
    let net = c.0 in
    let k = sound_at d n net s c.2 in
    let other = (All-contains (IsSoundCoupling d n) net.couplings c.1 k.couplings c.3).other in
    elim (cases_lt n m) [
      | inl less ↦ inl less
      | inr more ↦ elim (cases_eq m n) [
        | inl e ↦ absurd (other (c.4 ∙ e))
        | inr differ ↦ inr (omega arith)
      ]
    ]

-- ---- more overlaps
implied_at : (b c : Answers) (n : ℕ) (ks : List Coupling) → IsImplied b c → IsImpliedAt b c n ks
implied_at b c n ks h = record { each = λ e f k x within t. h.each n _ e f t }

implied_arc : (d : Parts) (b c : Answers) (W V : Assignment) (n : ℕ) (net : Net) (a : TimingArc) → IsImplied b c → IsContained W V → ArcGrows d b c W V n net a
implied_arc d b c W V n net a h w = record {
  input = λ e. w.each a.from.0 e;
  own = implied_at b c n net.couplings h;
  wire = IfSome_there (λ m. IsImpliedAt b c a.from.0 m.couplings) (slice_get d.nets a.from.0) (λ m at. implied_at b c a.from.0 m.couplings h);
}

pub answers_widen : (d : Parts) (b c : Answers) (W V : Assignment) → AreWired d → IsImplied b c → IsContained W V → IsContained (operator_by d b W) (operator_by d c V)
answers_widen d b c W V ws h w = record {
  each = λ n e. operator_by_mono d b c W V n e ws (record {
    arcs = IfSome_there (λ net. All (ArcGrows d b c W V n net) net.arcs) (slice_get d.nets n) (λ net there k x i. implied_arc d b c W V n net _ h w);
  });
}
