-- An edge of a net has one path at most: from its end on, each step back is the only one, and a source has none.
use Rattle.std.proofs.Common.{◌≡◌, ℕ, ◌<◌, refl, sym, ap, subst, ◌∙◌, Bool, List, [], ◌∷◌, ◌++◌, length, reverse, append_assoc, append-nil, ℤ, inl, inr, arith}
use Rattle.std.specs.Prelude.{Some}
use Rattle.std.specs.List.{slice_get}
use Rattle.std.proofs.lemmas.Bool.{cases_lt}
use Rattle.std.proofs.lemmas.List.{reverse-append, reverse-reverse}
use Rattle.std.proofs.lemmas.Option.{same_Some, slice_get_within}
use Rattle.xt_model.specs.declared.edge.Edge.{Edge}
use Rattle.xt_model.specs.declared.net.Net.{Net}
use Rattle.xt_model.specs.declared.net.TimingArc.{TimingArc}
use Rattle.xt_model.specs.Parts.{Parts}
use Rattle.xt_model.specs.Assign.{Assignment}
use Rattle.aggressor_report.specs.declared.path.PathStep.{PathStep}
use Rattle.aggressor_report.specs.declared.path.Path.{Path}
use Rattle.aggressor_report.specs.Passages.{bound_of}
use Rattle.aggressor_report.specs.Paths.{Gives, IsStep, Lead, IsPath, arc_wire, arc_delay}

same_step : (s t : PathStep) → s.net.0 ≡ t.net.0 → s.edge ≡ t.edge → s.arc ≡ t.arc → s.wire ≡ t.wire → s.delay ≡ t.delay → s ≡ t
same_step s t a b c w v =
    let made : ℕ → Edge → ℕ → ℤ → ℤ → PathStep = λ n e i x y. record { net = record { 0 = n }; edge = e; arc = i; wire = x; delay = y } in
    let e : made s.net.0 s.edge s.arc s.wire s.delay ≡ made t.net.0 t.edge t.arc t.wire t.delay = rw (a, b, c, w, v) refl in
    e

same_path : (p q : Path) → p.net.0 ≡ q.net.0 → p.edge ≡ q.edge → p.time ≡ q.time → p.steps ≡ q.steps → p ≡ q
same_path p q a b c w =
    let made : ℕ → Edge → ℤ → List PathStep → Path = λ n e t steps. record { net = record { 0 = n }; edge = e; time = t; steps = steps } in
    let e : made p.net.0 p.edge p.time p.steps ≡ made q.net.0 q.edge q.time q.steps = rw (a, b, c, w) refl in
    e

module _ (late : Bool) (d : Parts) (W : Assignment) where
  -- the first arc of a net that gives the bound of its edge
  record IsFirst (m : ℕ) (f : Edge) (net : Net) (i : ℕ) (a : TimingArc) : Type 0 where
    arc_at : slice_get net.arcs i ≡ Some a
    gives : Gives late d W m f net a
    first : (j : ℕ) (b : TimingArc) → j < i → slice_get net.arcs j ≡ Some b → Gives late d W m f net b → ⊥

  one_number : (m : ℕ) (f : Edge) (net : Net) (i j : ℕ) (a b : TimingArc) → IsFirst m f net i a → IsFirst m f net j b → i ≡ j
  one_number m f net i j a b x y = elim (cases_lt i j) [
    | inl lt ↦ absurd (y.first i a lt x.arc_at x.gives)
    | inr ge ↦ elim (cases_lt j i) [
      | inl lt ↦ absurd (x.first j b lt y.arc_at y.gives)
      | inr le ↦ omega (arith, ge, le)
    ]
  ]

  one_arc : (m : ℕ) (f : Edge) (net : Net) (i j : ℕ) (a b : TimingArc) → IsFirst m f net i a → IsFirst m f net j b → a ≡ b
  one_arc m f net i j a b x y = same_Some a b (sym x.arc_at ∙ (ap (slice_get net.arcs) (one_number m f net i j a b x y) ∙ y.arc_at))

  -- a step to edge f of net m, with its net and its arc
  record IsStepTo (m : ℕ) (f : Edge) (n : ℕ) (e : Edge) (s : PathStep) (net : Net) (arc : TimingArc) : Type 0 where
    there : slice_get d.nets m ≡ Some net
    arc_is : IsFirst m f net s.arc arc
    comes_from : arc.from.0 ≡ n
    comes_at : arc.input ≡ e
    wire : s.wire ≡ arc_wire late d W arc
    delay : s.delay ≡ arc_delay late d W m f net arc

  step_to : (n : ℕ) (e : Edge) (s : PathStep) (h : IsStep late d W n e s) → IsStepTo s.net.0 s.edge n e s h.net h.arc
  step_to n e s h = record {
    there = h.there;
    arc_is = record { arc_at = h.arc_at; gives = h.gives; first = h.first };
    comes_from = h.comes_from;
    comes_at = h.comes_at;
    wire = h.wire;
    delay = h.delay;
  }

  -- two steps to one edge of a net are one, and come from one place
  record AreOne (n o : ℕ) (e g : Edge) (s t : PathStep) : Type 0 where
    from : n ≡ o
    input : e ≡ g
    arc : s.arc ≡ t.arc
    wire : s.wire ≡ t.wire
    delay : s.delay ≡ t.delay

  steps_to : (m : ℕ) (f : Edge) (n o : ℕ) (e g : Edge) (s t : PathStep) (net : Net) (a b : TimingArc)
      → IsStepTo m f n e s net a → IsStepTo m f o g t net b → AreOne n o e g s t
  steps_to m f n o e g s t net a b x y =
      let same : a ≡ b = one_arc m f net s.arc t.arc a b x.arc_is y.arc_is in record {
        from = sym x.comes_from ∙ (ap (λ k. k.from.0) same ∙ y.comes_from);
        input = sym x.comes_at ∙ (ap (λ k. k.input) same ∙ y.comes_at);
        arc = one_number m f net s.arc t.arc a b x.arc_is y.arc_is;
        wire = x.wire ∙ (ap (arc_wire late d W) same ∙ sym y.wire);
        delay = x.delay ∙ (ap (arc_delay late d W m f net) same ∙ sym y.delay);
      }

  two_steps : (n o : ℕ) (e g : Edge) (s t : PathStep) → s.net.0 ≡ t.net.0 → s.edge ≡ t.edge → IsStep late d W n e s → IsStep late d W o g t → AreOne n o e g s t
  two_steps n o e g s t net_is edge_is x y =
      let P : ℕ → Type 0 = λ m. IsStepTo m s.edge n e s x.net x.arc in
      let Q : Edge → Type 0 = λ f. IsStepTo t.net.0 f n e s x.net x.arc in
      let here : IsStepTo t.net.0 t.edge n e s x.net x.arc = subst Q edge_is (subst P net_is (step_to n e s x)) in
      let net : x.net ≡ y.net = same_Some x.net y.net (sym here.there ∙ y.there) in
      let R : Net → Type 0 = λ k. IsStepTo t.net.0 t.edge n e s k x.arc in
      steps_to t.net.0 t.edge n o e g s t y.net x.arc y.arc (subst R net here) (step_to o g t y)

  -- ---- from the end on
  -- edge e of net n is one of a source
  abbrev IsSource : ℕ → Type 0
  IsSource n = (net : Net) × (slice_get d.nets n ≡ Some net) × (length net.arcs ≡ 0)

  no_step_to : (n m : ℕ) (e : Edge) (s : PathStep) → IsSource m → s.net.0 ≡ m → IsStep late d W n e s → ⊥
  no_step_to n m e s source is x =
      let same : x.net ≡ source.0 = same_Some x.net source.0 (sym x.there ∙ (ap (slice_get d.nets) is ∙ source.1)) in
      let within : s.arc < length x.net.arcs = slice_get_within x.net.arcs s.arc x.arc x.arc_at in
      let none : length x.net.arcs ≡ 0 = ap (λ k. length k.arcs) same ∙ source.2 in
      absurd (omega (arith, within, none))

  -- these steps, the last one first, lead from edge e of net n to edge f of net m
  abbrev Back : ℕ → Edge → List PathStep → ℕ → Edge → Type 0
  Back n e [] m f = (n ≡ m) × (e ≡ f)
  Back n e (s ∷ more) m f = (k : ℕ) × (g : Edge) × IsStep late d W k g s × (s.net.0 ≡ m) × (s.edge ≡ f) × Back n e more k g

  back_at : (n k m : ℕ) (e g f : Edge) (ss : List PathStep) → k ≡ m → g ≡ f → Back n e ss k g → Back n e ss m f
  back_at n k m e g f ss a b h =
      let P : ℕ → Type 0 = λ i. Back n e ss i g in
      let Q : Edge → Type 0 = λ x. Back n e ss m x in
      subst Q b (subst P a h)

  -- steps in order after steps that were turned round
  turned : (n k m : ℕ) (e g f : Edge) (back ss : List PathStep) → Back n e back k g → Lead late d W k g ss m f → Back n e (reverse ss ++ back) m f
  turned n k m e g f back [] h lead = back_at n k m e g f back lead.0 lead.1 h
  turned n k m e g f back (s ∷ more) h lead =
      let P : List PathStep → Type 0 = λ xs. Back n e xs m f in
      let rest : Back n e (reverse more ++ s ∷ back) m f = turned n s.net.0 m e s.edge f (s ∷ back) more (k, g, lead.0, refl, refl, h) lead.1 in
      let is : reverse more ++ s ∷ back ≡ reverse (s ∷ more) ++ back = rw (reverse-append (s ∷ []) more) (simp append_assoc refl) in
      subst P is rest

  -- one way back at most
  record IsOneWay (n o : ℕ) (e g : Edge) (ss ts : List PathStep) : Type 0 where
    from : n ≡ o
    input : e ≡ g
    steps : ss ≡ ts

  one_way : (n o m : ℕ) (e g f : Edge) (ss ts : List PathStep) → IsSource n → IsSource o → Back n e ss m f → Back o g ts m f → IsOneWay n o e g ss ts
  one_way n o m e g f [] [] x y a b = record { from = a.0 ∙ sym b.0; input = a.1 ∙ sym b.1; steps = refl }
  one_way n o m e g f [] (t ∷ more) x y a b = absurd (no_step_to b.0 n b.1 t x (b.3 ∙ sym a.0) b.2)
  one_way n o m e g f (s ∷ more) [] x y a b = absurd (no_step_to a.0 o a.1 s y (a.3 ∙ sym b.0) a.2)
  one_way n o m e g f (s ∷ more) (t ∷ others) x y a b =
      let net : s.net.0 ≡ t.net.0 = a.3 ∙ sym b.3 in
      let edge : s.edge ≡ t.edge = a.4 ∙ sym b.4 in
      let one = two_steps a.0 b.0 a.1 b.1 s t net edge a.2 b.2 in
      let rest = one_way n o b.0 e g b.1 more others x y (back_at n a.0 b.0 e a.1 b.1 more one.from one.input a.5) b.5 in
      let first : s ≡ t = same_step s t net edge one.arc one.wire one.delay in
      record { from = rest.from; input = rest.input; steps = ap (λ r. r ∷ more) first ∙ ap (λ rs. t ∷ rs) rest.steps }

  source_of : (m : ℕ) (f : Edge) (p : Path) → IsPath late d W m f p → IsSource p.net.0
  source_of m f p h = (h.source, h.there, h.is_source)

  back_of : (m : ℕ) (f : Edge) (p : Path) → IsPath late d W m f p → Back p.net.0 p.edge (reverse p.steps ++ []) m f
  back_of m f p h = turned p.net.0 p.net.0 m p.edge p.edge f [] p.steps (refl, refl) h.steps

  pub one_path : (m : ℕ) (f : Edge) (p q : Path) → IsPath late d W m f p → IsPath late d W m f q → p ≡ q
  one_path m f p q a b =
      let way = one_way p.net.0 q.net.0 m p.edge q.edge f (reverse p.steps ++ []) (reverse q.steps ++ [])
      (source_of m f p a) (source_of m f q b) (back_of m f p a) (back_of m f q b) in
      let turned_same : reverse p.steps ≡ reverse q.steps = sym (append-nil (reverse p.steps)) ∙ (way.steps ∙ append-nil (reverse q.steps)) in
      let steps : p.steps ≡ q.steps = sym (reverse-reverse p.steps) ∙ (ap reverse turned_same ∙ reverse-reverse q.steps) in
      let time : bound_of late (W p.net.0 p.edge) ≡ bound_of late (W q.net.0 q.edge) = rw (way.from, way.input) refl in
      same_path p q way.from way.input (a.time ∙ (time ∙ sym b.time)) steps
