-- Wires that a load and a number of sinks tell.
use Rattle.std.proofs.Common.{◌≡◌, ℕ, suc, ◌+◌, ◌*◌, ◌<◌, ◌≤◌, ◌^◌, List, [], ◌∷◌, length, replicate, refl, sym, ap, ◌∙◌, arith, subst}
use Rattle.std.proofs.Common.{to_z, of_z, w64}
use Rattle.std.specs.Prelude.{ℤ, pos, negsuc, ◌≤ℤ◌, slice_index_or}
use Rattle.std.specs.Int.RustNames.{unsigned_abs}
use Rattle.std.specs.List.{All}
use Rattle.std.proofs.lemmas.Int.{ints}
use Rattle.std.proofs.lemmas.List.{nil_from_length}
use Rattle.std.proofs.lemmas.List.Sums.{sum_by-cons}
use Rattle.xt_model.specs.declared.net.Coupling.{Coupling}
use Rattle.elmore_tree.specs.declared.part.Resistor.{Resistor}
use Rattle.elmore_tree.specs.declared.part.Tap.{Tap}
use Rattle.elmore_tree.specs.Trees.{TreeParts, IsSoundTree, ground_sum, tap_sum}
use Rattle.link_wires.specs.declared.wire.NetWire.{NetWire}
use Rattle.link_wires.specs.Plain.{plain_wire}

zeros : (xs : List ℕ) → All (λ p. p < 1) xs → xs ≡ replicate (length xs) 0
zeros [] all = refl
zeros (x ∷ xs) all =
    let here : x < 1 = all 0 x (omega arith) in
    let head : x ≡ 0 = omega (arith, here) in
    let tail : xs ≡ replicate (length xs) 0 = zeros xs (λ i d lt. all (suc i) d (omega (arith, lt))) in
    ap (λ y. y ∷ xs) head ∙ ap (λ ys. 0 ∷ ys) tail

alone : (xs : List ℤ) → length xs ≡ 1 → xs ≡ slice_index_or xs 0 (pos 0) ∷ []
alone [] e = absurd (omega (arith, e))
alone (x ∷ []) e = refl
alone (x ∷ y ∷ xs) e = absurd (omega (arith, e))

same_tree : (t u : TreeParts) → t.nodes ≡ u.nodes → t.root ≡ u.root → t.resistors ≡ u.resistors → t.ground ≡ u.ground → t.taps ≡ u.taps → t.sinks ≡ u.sinks → t ≡ u
same_tree t u a b c d e f =
    let tree : ℕ → ℕ → List Resistor → List ℤ → List Tap → List ℕ → TreeParts =
    λ n r rs gs ts ss. record { nodes = n; root = r; resistors = rs; ground = gs; taps = ts; sinks = ss } in
    ap (λ x. tree x t.root t.resistors t.ground t.taps t.sinks) a ∙ (ap (λ x. tree u.nodes x t.resistors t.ground t.taps t.sinks) b
    ∙ (ap (λ x. tree u.nodes u.root x t.ground t.taps t.sinks) c ∙ (ap (λ x. tree u.nodes u.root u.resistors x t.taps t.sinks) d
    ∙ (ap (λ x. tree u.nodes u.root u.resistors u.ground x t.sinks) e ∙ ap (λ x. tree u.nodes u.root u.resistors u.ground u.taps x) f))))

same_wire : (w v : NetWire) → w.couplings ≡ v.couplings → w.tree ≡ v.tree → w ≡ v
same_wire w v a b =
    let wire : List Coupling → TreeParts → NetWire = λ cs t. record { couplings = cs; tree = t } in
    ap (λ x. wire x w.tree) a ∙ ap (λ x. wire v.couplings x) b

stored_load : (z : ℤ) → pos 0 ≤ℤ z → unsigned_abs z ≤ 2 ^ 46 → to_z w64 (of_z w64 z) ≡ z
stored_load (pos n) a b = omega (arith, ints, b)
stored_load (negsuc n) a b = absurd (omega (arith, ints, a))

module _ (w : NetWire) (sound : IsSoundTree w.tree) (load : ℤ) (ground : w.tree.ground ≡ load ∷ []) where
  load_stored : to_z w64 (of_z w64 load) ≡ load
  load_stored =
      let size : length w.tree.ground ≡ length (load ∷ []) = ap length ground in
      let at = sound.natural 0 (pos 0) (omega (arith, size)) in
      let natural : pos 0 ≤ℤ load = subst (λ g. pos 0 ≤ℤ slice_index_or g 0 (pos 0)) ground at in
      let whole : ground_sum (load ∷ []) + 2 * tap_sum w.tree.taps ≤ 2 ^ 46 = subst (λ g. ground_sum g + 2 * tap_sum w.tree.taps ≤ 2 ^ 46) ground sound.most_load in
      let sum = sum_by-cons unsigned_abs load [] in
      stored_load load natural (omega (arith, whole, sum))

  plain_is : w.couplings ≡ [] → w.tree.resistors ≡ [] → w.tree.taps ≡ [] → w ≡ plain_wire load (length w.tree.sinks)
  plain_is couplings resistors taps =
      let size : length w.tree.ground ≡ length (load ∷ []) = ap length ground in
      let count = sound.grounds in
      let nodes : w.tree.nodes ≡ 1 = omega (arith, size, count) in
      let first = sound.root in
      let root : w.tree.root ≡ 0 = omega (arith, nodes, first) in
      let sinks : w.tree.sinks ≡ replicate (length w.tree.sinks) 0 = zeros w.tree.sinks (subst (λ n. All (λ p. p < n) w.tree.sinks) nodes sound.sinks) in
      same_wire w (plain_wire load (length w.tree.sinks)) couplings
      (same_tree w.tree (plain_wire load (length w.tree.sinks)).tree nodes root resistors ground taps sinks)

-- a wire of one node without resistors and couplings, by the lists of its tree
pub plain_stored : (w : NetWire) (rs : List Resistor) (gs : List ℤ) (ts : List Tap) (ss : List ℕ) → IsSoundTree w.tree → length w.couplings ≡ 0
    → rs ≡ w.tree.resistors → length rs ≡ 0 → ts ≡ w.tree.taps → length ts ≡ 0 → gs ≡ w.tree.ground → length gs ≡ 1 → ss ≡ w.tree.sinks
    → w ≡ plain_wire (to_z w64 (of_z w64 (slice_index_or gs 0 (pos 0)))) (length ss)
plain_stored w rs gs ts ss sound couplings r no_r t no_t g one s =
    let load : ℤ = slice_index_or gs 0 (pos 0) in
    let ground : w.tree.ground ≡ load ∷ [] = sym g ∙ alone gs one in
    let stored = load_stored w sound load ground in
    plain_is w sound load ground (nil_from_length w.couplings couplings) (sym r ∙ nil_from_length rs no_r) (sym t ∙ nil_from_length ts no_t)
    ∙ (ap (λ z. plain_wire z (length w.tree.sinks)) (sym stored) ∙ ap (λ n. plain_wire (to_z w64 (of_z w64 load)) n) (ap length (sym s)))
