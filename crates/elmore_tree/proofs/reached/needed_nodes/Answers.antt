use Rattle.std.proofs.Common.{◌≡◌, ℕ, zero, suc, ◌∙◌, ap, refl, Bool, List, [], ◌∷◌, ◌++◌, length, take, map, get_or, ℤ, pos, negsuc, ◌≤ℤ◌, nat_lt, arith}
use Rattle.std.specs.Prelude.{int_lt, ◌==◌}
use Rattle.std.proofs.Math.Bool.{or_assoc}
use Rattle.std.specs.Int.RustNames.{unsigned_abs}
use Rattle.std.specs.List.{All, list_any, refill}
use Rattle.std.proofs.lemmas.Int.{ints}
use Rattle.std.proofs.lemmas.List.{take_all, drop_all, append-nil, length-map}
use Rattle.std.proofs.lemmas.List.Elements.{All-head, All-tail}
use Rattle.elmore_tree.specs.declared.part.Tap.{Tap}
use Rattle.elmore_tree.specs.Trees.{TreeParts, is_needed}
use Rattle.elmore_tree.specs.Paths.{is_in}
use Rattle.elmore_tree.specs.Gathering.{AreMarked}
use Rattle.elmore_tree.proofs.reached.needed_nodes.Goals as goal

-- what is written back in whole
refill_all : (xs ws : List Bool) → length ws ≡ length xs → refill (length xs) xs ws ≡ ws
refill_all xs ws e =
    ap (λ (rest : List Bool). take (length xs) (ws ++ rest)) (drop_all (length ws) xs (omega (arith, e))) ∙ (ap (λ (all : List Bool). take (length xs) all) (append-nil ws) ∙ take_all (length xs) ws (omega (arith, e)))

charged_one : (g : ℤ) → pos 0 ≤ℤ g → int_lt (pos 0) g ≡ nat_lt 0 (unsigned_abs g)
charged_one (pos n) h = refl
charged_one (negsuc n) h = absurd (omega (arith, ints, h))

charged : (ground : List ℤ) (k : ℕ) → All (λ g. pos 0 ≤ℤ g) ground → is_in (map (λ g. int_lt (pos 0) g) ground) k ≡ nat_lt 0 (unsigned_abs (get_or ground k (pos 0)))
charged [] k h = refl
charged (g ∷ ground) zero h = charged_one g (All-head (λ g. pos 0 ≤ℤ g) g ground h)
charged (g ∷ ground) (suc k) h = charged ground k (All-tail (λ g. pos 0 ≤ℤ g) g ground h)

-- the marks of nodes with capacitance, then of sinks, then of taps
needed_each : (t : TreeParts) (first second third : List Bool) (sinks : List ℕ) (taps : List Tap) → All (λ g. pos 0 ≤ℤ g) t.ground → first ≡ map (λ g. int_lt (pos 0) g) t.ground → sinks ≡ t.sinks → taps ≡ t.taps
    → AreMarked (λ p. p) sinks first second → AreMarked (λ (tap : Tap). tap.node) taps second third → (k : ℕ) → is_in third k ≡ is_needed t k
needed_each t first second third sinks taps natural is_first is_sinks is_taps a b k =
    rw (b.each k, a.each k, is_first, is_sinks, is_taps, charged t.ground k natural)
    (or_assoc (nat_lt 0 (unsigned_abs (get_or t.ground k (pos 0)))) (list_any (λ p. p == k) t.sinks) (list_any (λ (tap : Tap). tap.node == k) t.taps))

pub mark_sinks-requires : goal.mark_sinks-requires
mark_sinks-requires c = λ k d below.
    let sound = c.sinks.ensures.sound in
    let there = sound.sinks k d (rw c.sinks.ensures.value at below) in
    let same = ap length c.deref_mut.ensures.value in
    let is = ap length c.in_ok-needed.ensures in
    let count = length-map c.args.tree.now.ground (λ (g : ℤ). int_lt (pos 0) g) in
    let grounds = sound.grounds in
    rw c.sinks.ensures.value (omega (arith, there, same, is, count, grounds))

pub mark_taps-requires : goal.mark_taps-requires
mark_taps-requires c = λ k d below.
    let sound = c.taps.ensures.sound in
    let there = (sound.taps k d (rw c.taps.ensures.value at below)).node in
    let same = ap length c.deref_mut.ensures.value in
    let first = c.mark_sinks.ensures.count ∙ same in
    let second = ap length (c.deref_mut-2.ensures.value ∙ refill_all c.in_ok-needed.needed.items c.mark_sinks.new.marks first) in
    let is = ap length c.in_ok-needed.ensures in
    let count = length-map c.args.tree.now.ground (λ (g : ℤ). int_lt (pos 0) g) in
    let grounds = sound.grounds in
    rw c.taps.ensures.value (omega (arith, there, same, first, second, is, count, grounds))

pub returns-clause-count : goal.returns-clause-count
returns-clause-count c =
    let first = c.mark_sinks.ensures.count ∙ ap length c.deref_mut.ensures.value in
    let second = c.mark_taps.ensures.count ∙ ap length c.deref_mut-2.ensures.value in
    let one = refill_all c.in_ok-needed.needed.items c.mark_sinks.new.marks first in
    let all = refill_all (refill (length c.in_ok-needed.needed.items) c.in_ok-needed.needed.items c.mark_sinks.new.marks) c.mark_taps.new.marks second in
    ap length all ∙ (second ∙ (ap length one ∙ (first ∙ (ap length c.in_ok-needed.ensures ∙ (length-map c.args.tree.now.ground (λ (g : ℤ). int_lt (pos 0) g) ∙ c.sinks.ensures.sound.grounds)))))

pub returns-clause-each : goal.returns-clause-each
returns-clause-each c = λ k.
    let first = c.mark_sinks.ensures.count ∙ ap length c.deref_mut.ensures.value in
    let second = c.mark_taps.ensures.count ∙ ap length c.deref_mut-2.ensures.value in
    let one = refill_all c.in_ok-needed.needed.items c.mark_sinks.new.marks first in
    let all = refill_all (refill (length c.in_ok-needed.needed.items) c.in_ok-needed.needed.items c.mark_sinks.new.marks) c.mark_taps.new.marks second in
    let taps : AreMarked (λ (tap : Tap). tap.node) c.taps.result.now c.mark_sinks.new.marks c.mark_taps.new.marks = rw (c.deref_mut-2.ensures.value ∙ one) at c.mark_taps.ensures in
    ap (λ (marks : List Bool). is_in marks k) all
    ∙ needed_each c.args.tree.now c.deref_mut.result.now c.mark_sinks.new.marks c.mark_taps.new.marks c.sinks.result.now c.taps.result.now c.sinks.ensures.sound.natural (c.deref_mut.ensures.value ∙ c.in_ok-needed.ensures)
    c.sinks.ensures.value c.taps.ensures.value c.mark_sinks.ensures taps k
