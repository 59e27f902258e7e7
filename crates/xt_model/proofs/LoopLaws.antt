-- Laws of loops: the first loop is a loop, and nets have one at most; from each place of a list of nets that leads
-- back into itself a walk never ends.
use Rattle.std.proofs.Common.{◌≡◌, ℕ, zero, suc, ◌+◌, ◌-◌, ◌<◌, ◌==◌, List, length, drop, get_or, if◌then◌else◌, refl, sym, ap, ◌∙◌, subst, arith, inl, inr}
use Rattle.std.specs.List.{slice_get}
use Rattle.std.proofs.lemmas.Bool.{cases_lt, cases_eq}
use Rattle.std.proofs.lemmas.Bool.Decides.{nat_tests}
use Rattle.std.proofs.lemmas.List.{get_or-drop, length-drop, ext_get_or}
use Rattle.std.proofs.lemmas.Option.{same_Some, slice_get_within, get_or_from_slice_get}
use Rattle.xt_model.specs.declared.net.TimingArc.{TimingArc}
use Rattle.xt_model.specs.declared.net.Net.{Net}
use Rattle.xt_model.specs.Levels.{Reads, IsLoop}
use Rattle.xt_model.specs.Loops.{IsInput, IsEndless, IsLeastEndless, GoesTo, IsWalkBack, IsFirstLoop}

-- the place after this one on a list of so many places, where `back` comes after the last
abbrev next_place : ℕ → ℕ → ℕ → ℕ
next_place size back k = if k + 1 == size then back else k + 1

-- the place that a walk reaches from place k by so many steps
abbrev place_after : ℕ → ℕ → ℕ → ℕ → ℕ
place_after size back k zero = k
place_after size back k (suc i) = next_place size back (place_after size back k i)

place_within : (size back k i : ℕ) → back < size → k < size → place_after size back k i < size
place_within size back k zero b h = h
place_within size back k (suc i) b h =
    let so_far : place_after size back k i < size = place_within size back k i b h in
    grind (arith, nat_tests)

-- a net reads the input of each of its arcs
pub input_reads : (nets : List Net) (a k b : ℕ) → IsInput nets a k b → Reads nets a b
input_reads nets a k b i =
    (i.0, i.1, i.2, (k, slice_get_within i.0.arcs k i.1 i.3, get_or_from_slice_get i.0.arcs k i.1 i.1 i.3), i.4)

-- where each net of a path reads the next and the last reads one of them, each is endless
pub endless_at : (nets : List Net) (path : List ℕ) (back : ℕ) → back < length path
    → ((k : ℕ) → k + 1 < length path → Reads nets (get_or path k 0) (get_or path (k + 1) 0))
    → Reads nets (get_or path (length path - 1) 0) (get_or path back 0)
    → (k : ℕ) → k < length path → IsEndless nets (get_or path k 0)
endless_at nets path back within steps closes k h =
    let at : ℕ → ℕ = place_after (length path) back k in (
      λ i. get_or path (at i) 0,
      refl,
      λ i.
          let here : at i < length path = place_within (length path) back k i within h in
          let more : at (i + 1) ≡ next_place (length path) back (at i) = ap at (let e : i + 1 ≡ suc i = omega arith in e) in
          elim (cases_eq (at i + 1) (length path)) [
            | inl e ↦
                let last : at i ≡ length path - 1 = omega arith in
                let next : at (i + 1) ≡ back = more ∙ (let n : next_place (length path) back (at i) ≡ back = grind (arith, nat_tests) in n) in
                rw (next, last) closes
            | inr ne ↦
                let next : at (i + 1) ≡ at i + 1 = more ∙ (let n : next_place (length path) back (at i) ≡ at i + 1 = grind (arith, nat_tests) in n) in
                rw next (steps (at i) (omega arith))
          ],
    )

goes_reads : (nets : List Net) (a b : ℕ) → GoesTo nets a b → Reads nets a b
goes_reads nets a b g = input_reads nets a g.0 b g.1.input

-- the first loop is a loop
pub first_is_loop : (nets : List Net) (loop : List ℕ) → IsFirstLoop nets loop → IsLoop nets loop
first_is_loop nets loop t =
    let walk = t.0 in
    let back = t.1 in
    let w = t.2 in
    let len : length (drop back walk) ≡ length walk - back = length-drop back walk in
    let within : back < length walk = w.within in
    rw t.3 (record {
      some = omega arith;
      steps = λ k h.
          let a : get_or (drop back walk) k 0 ≡ get_or walk (back + k) 0 = get_or-drop back walk k 0 in
          let b : get_or (drop back walk) (k + 1) 0 ≡ get_or walk ((back + k) + 1) 0 = get_or-drop back walk (k + 1) 0 ∙ ap (λ m. get_or walk m 0) (omega arith) in
          rw (a, b) (goes_reads nets _ _ (w.goes (back + k) (omega arith)));
      closes =
          let a : get_or (drop back walk) (length (drop back walk) - 1) 0 ≡ get_or walk (length walk - 1) 0 = get_or-drop back walk (length (drop back walk) - 1) 0 ∙ ap (λ m. get_or walk m 0) (omega arith) in
          let b : get_or (drop back walk) 0 0 ≡ get_or walk back 0 = get_or-drop back walk 0 0 ∙ ap (λ m. get_or walk m 0) (omega arith) in
          rw (a, b) (goes_reads nets _ _ w.returns);
    })

-- a net has one input at most by the arc of a number
input_is_one : (nets : List Net) (a k b c : ℕ) → IsInput nets a k b → IsInput nets a k c → b ≡ c
input_is_one nets a k b c i j =
    let net : i.0 ≡ j.0 = same_Some i.0 j.0 (sym i.2 ∙ j.2) in
    let at : slice_get i.0.arcs k ≡ slice_get j.0.arcs k = ap (λ (n : Net). slice_get n.arcs k) net in
    let arc : i.1 ≡ j.1 = same_Some i.1 j.1 (sym i.3 ∙ (at ∙ j.3)) in
    sym i.4 ∙ (ap (λ (m : TimingArc). m.from.0) arc ∙ j.4)

-- the walk goes to one net at most
goes_to_one : (nets : List Net) (a b c : ℕ) → GoesTo nets a b → GoesTo nets a c → b ≡ c
goes_to_one nets a b c g h =
    elim (cases_lt g.0 h.0) [
      | inl lt ↦ absurd (h.1.first g.0 b lt g.1.input g.1.endless)
      | inr ge ↦ elim (cases_lt h.0 g.0) [
        | inl lt ↦ absurd (g.1.first h.0 c lt h.1.input h.1.endless)
        | inr le ↦ let e : h.0 ≡ g.0 = omega arith in input_is_one nets a g.0 b c g.1.input (rw e at h.1.input)
      ]
    ]

-- there is one least endless net at most
least_is_one : (nets : List Net) (a b : ℕ) → IsLeastEndless nets a → IsLeastEndless nets b → a ≡ b
least_is_one nets a b la lb =
    elim (cases_lt a b) [
      | inl lt ↦ absurd (lb.least a lt la.endless)
      | inr ge ↦ elim (cases_lt b a) [
        | inl lt ↦ absurd (la.least b lt lb.endless)
        | inr le ↦ omega arith
      ]
    ]

module _ (nets : List Net) where
  -- two walks stand at one net after as many steps
  walks_agree : (a b : List ℕ) (p q : ℕ) → IsWalkBack nets a p → IsWalkBack nets b q → (i : ℕ) → i < length a → i < length b → get_or a i 0 ≡ get_or b i 0
  walks_agree a b p q wa wb zero h k = least_is_one nets (get_or a 0 0) (get_or b 0 0) wa.starts wb.starts
  walks_agree a b p q wa wb (suc i) h k =
      let so_far : get_or a i 0 ≡ get_or b i 0 = walks_agree a b p q wa wb i (omega arith) (omega arith) in
      let on : GoesTo nets (get_or b i 0) (get_or a (i + 1) 0) = rw so_far at (wa.goes i (omega arith)) in
      let same : get_or a (i + 1) 0 ≡ get_or b (i + 1) 0 = goes_to_one nets (get_or b i 0) (get_or a (i + 1) 0) (get_or b (i + 1) 0) on (wb.goes i (omega arith)) in
      let e : i + 1 ≡ suc i = omega arith in
      subst (λ j. get_or a j 0 ≡ get_or b j 0) e same

  -- and the first to come back is the only one
  no_longer : (a b : List ℕ) (p q : ℕ) → IsWalkBack nets a p → IsWalkBack nets b q → length a < length b → ⊥
  no_longer a b p q wa wb lt =
      let within : p < length a = wa.within in
      let last = length a - 1 in
      let at_last : get_or a last 0 ≡ get_or b last 0 = walks_agree a b p q wa wb last (omega arith) (omega arith) in
      let at_back : get_or a p 0 ≡ get_or b p 0 = walks_agree a b p q wa wb p within (omega arith) in
      let back : GoesTo nets (get_or b last 0) (get_or a p 0) = rw at_last at wa.returns in
      let same : get_or a p 0 ≡ get_or b (last + 1) 0 = goes_to_one nets (get_or b last 0) (get_or a p 0) (get_or b (last + 1) 0) back (wb.goes last (omega arith)) in
      wb.once p (last + 1) (omega arith) (omega arith) (sym at_back ∙ same)

  walk_is_one : (a b : List ℕ) (p q : ℕ) → IsWalkBack nets a p → IsWalkBack nets b q → a ≡ b
  walk_is_one a b p q wa wb =
      let le : length a < length b → ⊥ = no_longer a b p q wa wb in
      let ge : length b < length a → ⊥ = no_longer b a q p wb wa in
      ext_get_or 0 a b (omega arith) (λ i h. walks_agree a b p q wa wb i h (omega arith))

  back_is_one : (a : List ℕ) (p q : ℕ) → IsWalkBack nets a p → IsWalkBack nets a q → p ≡ q
  back_is_one a p q wp wq =
      let same : get_or a p 0 ≡ get_or a q 0 = goes_to_one nets (get_or a (length a - 1) 0) (get_or a p 0) (get_or a q 0) wp.returns wq.returns in
      elim (cases_lt p q) [
        | inl lt ↦ absurd (wp.once p q lt wq.within same)
        | inr ge ↦ elim (cases_lt q p) [
          | inl lt ↦ absurd (wp.once q p lt wp.within (sym same))
          | inr le ↦ omega arith
        ]
      ]

  -- nets have one first loop at most
  pub first_is_one : (a b : List ℕ) → IsFirstLoop nets a → IsFirstLoop nets b → a ≡ b
  first_is_one a b s t =
      let walk : s.0 ≡ t.0 = walk_is_one s.0 t.0 s.1 t.1 s.2 t.2 in
      let back : s.1 ≡ t.1 = back_is_one s.0 s.1 t.1 s.2 (rw (← walk) at t.2) in
      s.3 ∙ (ap (λ k. drop k s.0) back ∙ (ap (λ (w : List ℕ). drop t.1 w) walk ∙ sym t.3))
