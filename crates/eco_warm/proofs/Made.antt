-- A sink and a net after an edit, as they are made.
use Rattle.std.proofs.Common.{◌≡◌, ℕ, zero, suc, ◌+◌, ◌<◌, ◌≤◌, refl, sym, ap, subst, ◌∙◌, List, [], ◌∷◌, length, map, take, get_or, ℤ, pos, ◌+ℤ◌, ◌-ℤ◌, ◌≤ℤ◌, ◌++◌, arith}
use Rattle.std.specs.List.{All}
use Rattle.std.proofs.lemmas.Int.{ints}
use Rattle.std.proofs.lemmas.List.Elements.{All-head, All-tail}
use Rattle.xt_model.specs.declared.net.Coupling.{Coupling}
use Rattle.xt_model.specs.declared.net.SinkPin.{SinkPin}
use Rattle.xt_model.specs.declared.net.Net.{Net}
use Rattle.xt_model.specs.Limits.{most_cap, most_couplings, most_product}
use Rattle.xt_model.specs.Sound.{IsCap, coupling_sum}
use Rattle.eco_warm.specs.declared.edit.EditFault.{EditFault}
use Rattle.eco_warm.specs.declared.edit.Move.{Move}
use Rattle.eco_warm.specs.Edits.{couplings_left, coef_moved, coefs_left, sink_left, net_left, total}
use Rattle.eco_warm.specs.Possible.{AreInBounds, IsInBounds, HasProducts, IsImpossible, IsMove, IsPossible}
use Rattle.eco_warm.proofs.Kept.{counts_left, fewer_couplings}
use Rattle.eco_warm.proofs.Pushed.{impossible_weaker, one_more}
use Rattle.eco_warm.proofs.Totals.{coef_moved_is, cap_moved_is, sum_left_natural}

-- ---- a sink
pub few_left : (m : Move) (other : ℕ) (ks : List Coupling) (cs left : List ℤ) → length cs ≡ length ks → length ks ≤ most_couplings → left ≡ coefs_left m other ks cs → length left ≤ most_couplings
few_left m other ks cs left count few is =
    let e = ap length is in
    let n = counts_left m other ks cs count in
    let h = fewer_couplings m other ks in
    omega (arith, e, n, h, few)

pub base_is : (m : Move) (other : ℕ) (ks : List Coupling) (s : SinkPin) (left : List ℤ) (base before after : ℤ) → length s.coefs ≡ length ks → left ≡ coefs_left m other ks s.coefs
    → before ≡ total s.coefs → after ≡ total left → base ≡ ((s.base +ℤ before) -ℤ after) → base ≡ (s.base +ℤ coef_moved m other ks s.coefs)
base_is m other ks s left base before after count is b a e =
    let moved = coef_moved_is m other ks s.coefs count in
    let t = ap total is in
    omega (arith, ints, moved, t, b, a, e)

pub sink_made : (m : Move) (other : ℕ) (ks : List Coupling) (s : SinkPin) (name : List ℕ) (base : ℤ) (coefs : List ℤ) → name ≡ s.name → base ≡ (s.base +ℤ coef_moved m other ks s.coefs)
    → coefs ≡ coefs_left m other ks s.coefs → ◌≡◌ {A = SinkPin} (record { name = name; base = base; coefs = coefs }) (sink_left m other ks s)
sink_made m other ks s name base coefs a b c = rw (a, b, c) refl

pub base_past : (m : Move) (other : ℕ) (ks : List Coupling) (s : SinkPin) (base : ℤ) → base ≡ (s.base +ℤ coef_moved m other ks s.coefs) → (pos 0 ≤ℤ base → base ≤ℤ most_product → ⊥)
    → HasProducts (sink_left m other ks s) → ⊥
base_past m other ks s base is past h =
    let low = h.base.least in
    let high = h.base.most in
    past (omega (arith, ints, is, low)) (omega (arith, ints, is, high))

sink_never : (f : SinkPin → SinkPin) (ss : List SinkPin) (i : ℕ) (s : SinkPin) → i < length ss → s ≡ get_or ss i s → (HasProducts (f s) → ⊥) → All HasProducts (map f ss) → ⊥
sink_never f [] i s h at never all = absurd (omega (arith, h))
sink_never f (x ∷ ss) zero s h at never all = never (subst (λ y. HasProducts (f y)) (sym at) (All-head HasProducts (f x) (map f ss) all))
sink_never f (x ∷ ss) (suc i) s h at never all = sink_never f ss i s (omega (arith, h)) at never (All-tail HasProducts (f x) (map f ss) all)

pub sinks_stop : (f : SinkPin → SinkPin) (ss : List SinkPin) (i : ℕ) (s : SinkPin) (fault : EditFault) → i < length ss → s ≡ get_or ss i s → IsImpossible (HasProducts (f s) → ⊥) fault
    → IsImpossible (All HasProducts (map f ss) → ⊥) fault
sinks_stop f ss i s fault h at refused =
    impossible_weaker (HasProducts (f s) → ⊥) (All HasProducts (map f ss) → ⊥) fault (λ never all. sink_never f ss i s h at never all) refused

pub sinks_turn : (f : SinkPin → SinkPin) (ss done new : List SinkPin) (i : ℕ) (s r : SinkPin) → i < length ss → s ≡ get_or ss i s → done ≡ map f (take i ss) → r ≡ f s → new ≡ done ++ r ∷ []
    → new ≡ map f (take (i + 1) ss)
sinks_turn f [] done new i s r h at d is n = absurd (omega (arith, h))
sinks_turn f (x ∷ ss) done new zero s r h at d is n = let e : r ≡ f x = is ∙ ap f at in n ∙ rw (d, e) refl
sinks_turn f (x ∷ ss) done new (suc i) s r h at d is n =
    let rest : (map f (take i ss) ++ r ∷ []) ≡ map f (take (i + 1) ss) = sinks_turn f ss (map f (take i ss)) (map f (take i ss) ++ r ∷ []) i s r (omega (arith, h)) at refl is refl in
    let e : new ≡ f x ∷ (map f (take i ss) ++ r ∷ []) = n ∙ ap (λ y. y ++ r ∷ []) d in
    let z : suc (i + 1) ≡ suc i + 1 = omega arith in
    e ∙ (ap (λ y. f x ∷ y) rest ∙ ap (λ j. map f (take j (x ∷ ss))) z)

pub products_more : (done new : List SinkPin) (r : SinkPin) → new ≡ done ++ r ∷ [] → All HasProducts done → HasProducts r → All HasProducts new
products_more done new r n all one = subst (All HasProducts) (sym n) (one_more HasProducts done r all one)

pub net_stop : (m : Move) (other : ℕ) (n : Net) (f : EditFault) → IsImpossible (All HasProducts (map (sink_left m other n.couplings) n.sinks) → ⊥) f → IsImpossible (IsPossible m other n → ⊥) f
net_stop m other n f refused =
    impossible_weaker (All HasProducts (map (sink_left m other n.couplings) n.sinks) → ⊥) (IsPossible m other n → ⊥) f (λ never p. never p.sinks) refused

pub net_made : (m : Move) (other : ℕ) (n : Net) (after : Net) → after.name ≡ n.name → after.input ≡ n.input → after.load ≡ (net_left m other n).load → after.given ≡ n.given
    → after.couplings ≡ couplings_left m other n.couplings → after.sinks ≡ map (sink_left m other n.couplings) n.sinks → after.arcs ≡ n.arcs → after ≡ net_left m other n
net_made m other n after a b c d e f g =
    let whole : ◌≡◌ {A = Net} (record { name = after.name; input = after.input; load = after.load; given = after.given; couplings = after.couplings; sinks = after.sinks; arcs = after.arcs }) (net_left m other n) =
    rw (a, b, c, d, e, f, g) refl in
    whole

-- ---- a net
pub few_couplings_left : (m : Move) (other : ℕ) (ks left : List Coupling) → AreInBounds ks → left ≡ couplings_left m other ks → length left ≤ most_couplings
few_couplings_left m other ks left b is =
    let e = ap length is in
    let h = fewer_couplings m other ks in
    omega (arith, e, h, b.few)

pub load_is : (m : Move) (other : ℕ) (n : Net) (left : List Coupling) (load : ℤ) → left ≡ couplings_left m other n.couplings → load ≡ (n.load +ℤ (coupling_sum n.couplings -ℤ coupling_sum left))
    → load ≡ (net_left m other n).load
load_is m other n left load is e =
    let moved = cap_moved_is m other n.couplings in
    let t = ap coupling_sum is in
    omega (arith, ints, moved, t, e)

pub load_most : (m : Move) (other : ℕ) (n : Net) → IsMove m → IsInBounds n → (net_left m other n).load ≤ℤ most_cap
load_most m other n h b =
    let moved = cap_moved_is m other n.couplings in
    let left = sum_left_natural m other n.couplings h b.couplings in
    let before = caps_natural n.couplings b.couplings.caps in
    omega (arith, ints, moved, left, before, b.most_load)
  where
    caps_natural : (ks : List Coupling) → All (λ k. IsCap k.cap) ks → pos 0 ≤ℤ coupling_sum ks
    caps_natural [] a = omega (arith, ints)
    caps_natural (k ∷ ks) a =
        let x = All-head (λ k. IsCap k.cap) k ks a in
        let y = caps_natural ks (All-tail (λ k. IsCap k.cap) k ks a) in
        omega (arith, ints, x.least, y)
