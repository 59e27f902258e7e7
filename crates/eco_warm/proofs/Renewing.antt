-- The envelope of a design is that of the design after an edit, but for both nets of the edit and those that read them.
use Rattle.std.proofs.Common.{◌≡◌, ◌≢◌, ℕ, ◌<◌, refl, sym, ap, subst, ◌∙◌, List, [], ◌∷◌, length, get_or, arith}
use Rattle.std.specs.Prelude.{if◌then◌else◌, Option, Some, None, IfSome}
use Rattle.std.specs.List.{All, AllPass, slice_get, fold}
use Rattle.std.proofs.lemmas.List.Elements.{All-head, All-tail}
use Rattle.xt_model.specs.declared.edge.Edge.{Edge}
use Rattle.xt_model.specs.declared.quad.Quad.{Quad}
use Rattle.xt_model.specs.declared.quad.Pair.{Pair}
use Rattle.xt_model.specs.declared.net.TimingArc.{TimingArc}
use Rattle.xt_model.specs.declared.net.Net.{Net}
use Rattle.xt_model.specs.Quads.{bottom, join_of}
use Rattle.xt_model.specs.Parts.{Parts}
use Rattle.xt_model.specs.Sound.{IsSound}
use Rattle.xt_model.specs.Assign.{Assignment, assigned}
use Rattle.xt_meaning.specs.Operator.{contributes, contribution, contribution_by, wire_range, load_range, with_arc, arcs_quad, net_quad, operator_by}
use Rattle.xt_meaning.specs.Overlap.{all_overlap}
use Rattle.xt_meaning.specs.Envelope.{IsEnvelope, IsAccepted, keeps, tests_of}
use Rattle.envelope.specs.Renewal.{IsEnvelopeBut}
use Rattle.eco_warm.specs.declared.edit.Edit.{Edit}
use Rattle.eco_warm.specs.Edits.{move_of, first_of, second_of, edited}
use Rattle.eco_warm.specs.Possible.{IsEditOf}
use Rattle.eco_warm.proofs.Nets.{length-nets_left}
use Rattle.eco_warm.proofs.Ordered.{with_nets}
use Rattle.eco_warm.proofs.Pairs.{other_after}
use Rattle.eco_warm.proofs.Shrinking.{nets_apart}

-- ---- the operator at a net whose inputs have the same nets in both lists
module _ (d : Parts) (ys : List Net) (W : Assignment) (n : ℕ) (e : Edge) where
  arc_kept : (net : Net) (a : TimingArc) → slice_get ys a.from.0 ≡ slice_get d.nets a.from.0
      → contribution (with_nets d ys) all_overlap W n net e a ≡ contribution d all_overlap W n net e a
  arc_kept net a same = ap (λ o. contribution_by d a (W a.from.0 a.input) (wire_range d.miller all_overlap a.from.0 a.input a.sink o) (load_range d.miller all_overlap n e net)) same

  fold_kept : (net : Net) (q : Quad) (arcs : List TimingArc) → All (λ a. slice_get ys a.from.0 ≡ slice_get d.nets a.from.0) arcs
      → fold (with_arc (with_nets d ys) all_overlap W n net e) q arcs ≡ fold (with_arc d all_overlap W n net e) q arcs
  fold_kept net q [] h = refl
  fold_kept net q (a ∷ arcs) h =
      let P : TimingArc → Type 0 = λ b. slice_get ys b.from.0 ≡ slice_get d.nets b.from.0 in
      let one : with_arc (with_nets d ys) all_overlap W n net e q a ≡ with_arc d all_overlap W n net e q a =
      ap (λ c. if contributes W e a then join_of q c else q) (arc_kept net a (All-head P a arcs h)) in
      fold_kept net (with_arc (with_nets d ys) all_overlap W n net e q a) arcs (All-tail P a arcs h) ∙ ap (λ p. fold (with_arc d all_overlap W n net e) p arcs) one

  arcs_kept : (net : Net) (arcs : List TimingArc) → All (λ a. slice_get ys a.from.0 ≡ slice_get d.nets a.from.0) arcs
      → arcs_quad (with_nets d ys) all_overlap W n net e arcs ≡ arcs_quad d all_overlap W n net e arcs
  arcs_kept net [] h = refl
  arcs_kept net (a ∷ arcs) h = fold_kept net bottom (a ∷ arcs) h

  quad_kept : (o : Option Net) → IfSome o (λ net. All (λ a. slice_get ys a.from.0 ≡ slice_get d.nets a.from.0) net.arcs)
      → net_quad (with_nets d ys) all_overlap W n e o ≡ net_quad d all_overlap W n e o
  quad_kept None h = refl
  quad_kept (Some net) h = arcs_kept net net.arcs h

  operator_kept : slice_get ys n ≡ slice_get d.nets n → IfSome (slice_get ys n) (λ net. All (λ a. slice_get ys a.from.0 ≡ slice_get d.nets a.from.0) net.arcs)
      → operator_by (with_nets d ys) all_overlap W n e ≡ operator_by d all_overlap W n e
  unfolding operator_by
  operator_kept same inputs = quad_kept (slice_get ys n) inputs ∙ ap (net_quad d all_overlap W n e) same

-- ---- the design after an edit
module _ (d : Parts) (e : Edit) (s : IsSound d) (between : IsEditOf d.nets e) where
  net_kept : (n : ℕ) → n ≢ first_of e → n ≢ second_of e → slice_get (edited e d).nets n ≡ slice_get d.nets n
  net_kept n h k = other_after (move_of e) (first_of e) (second_of e) (nets_apart d e s between) d.nets n h k

  inputs_kept : (o : Option Net) → IfSome o (λ net. All (λ a. (a.from.0 ≢ first_of e) × (a.from.0 ≢ second_of e)) net.arcs)
      → IfSome o (λ net. All (λ a. slice_get (edited e d).nets a.from.0 ≡ slice_get d.nets a.from.0) net.arcs)
  inputs_kept None h = tt
  inputs_kept (Some net) h = λ k x inside. let both = h k x inside in net_kept (get_or net.arcs k x).from.0 both.0 both.1

  pub edited_but : (top : List Pair) → IsEnvelope d top → IsAccepted d top → IsEnvelopeBut (edited e d) (first_of e) (second_of e) top
  edited_but top envelope accepted = record {
    windows = record {
      count = envelope.windows.count ∙ sym (length-nets_left (move_of e) (first_of e) (second_of e) d.nets);
      in_range = envelope.windows.in_range;
    };
    fixed = λ n f apart.
        operator_kept d (edited e d).nets (assigned top) n f (net_kept n apart.first apart.second) (inputs_kept (slice_get (edited e d).nets n) apart.inputs) ∙ envelope.widest.fixed n f;
    kept = λ n apart.
        let P : Option Net → Type 0 = λ o. AllPass keeps (tests_of d.miller top n o) in
        subst P (sym (net_kept n apart.first apart.second)) (accepted.each n);
  }

-- as the command has them: the design after the edit, and the numbers of both nets
pub renews : (d after : Parts) (e : Edit) (a b : ℕ) (top : List Pair) → IsSound d → IsEditOf d.nets e → after ≡ edited e d → a ≡ first_of e → b ≡ second_of e → IsEnvelope d top → IsAccepted d top
    → IsEnvelopeBut after a b top
renews d after e a b top s between made is_a is_b envelope accepted =
    let P : Parts → Type 0 = λ x. IsEnvelopeBut x a b top in
    let Q : ℕ → Type 0 = λ i. IsEnvelopeBut (edited e d) i b top in
    let R : ℕ → Type 0 = λ i. IsEnvelopeBut (edited e d) (first_of e) i top in
    subst P (sym made) (subst Q (sym is_a) (subst R (sym is_b) (edited_but d e s between top envelope accepted)))

pub still_there : (d after : Parts) (e : Edit) (i j : ℕ) → after ≡ edited e d → i ≡ j → j < length d.nets → i < length after.nets
still_there d after e i j made is h =
    let count : length after.nets ≡ length d.nets = ap (λ (x : Parts). length x.nets) made ∙ length-nets_left (move_of e) (first_of e) (second_of e) d.nets in
    omega (arith, count, is, h)
