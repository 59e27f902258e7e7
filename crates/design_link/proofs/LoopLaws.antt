-- Levels and loops of nets are those of their arcs alone.
use Rattle.std.specs.Prelude.{◌≡◌, refl, ℕ, zero, suc, ◌+◌, List, [], ◌∷◌, length, Option, Some, None, option_map}
use Rattle.std.specs.List.{slice_get, Contains}
use Rattle.std.proofs.Common.{sym, ap, ◌∙◌, subst}
use Rattle.xt_model.specs.declared.net.Net.{Net}
use Rattle.xt_model.specs.Levels.{level_from, AreLevels, AreLevelled, Reads}
use Rattle.xt_model.specs.Loops.{IsInput, IsEndless, IsLeastEndless, IsFirstEndless, GoesTo, IsWalkBack, IsFirstLoop}
use Rattle.elmore_tree.specs.declared.form.WireForm.{WireForm}
use Rattle.link_rules.specs.Bare.{filled_nets}
use Rattle.design_link.proofs.FillLaws.{Fit}

-- nets of the same arcs
abbrev pub HaveSameArcs : List Net → List Net → Type 0
HaveSameArcs xs ys = (i : ℕ) → option_map (λ n. n.arcs) (slice_get xs i) ≡ option_map (λ n. n.arcs) (slice_get ys i)

-- forms of wires change no arcs
pub same_arcs : (ms : List Net) (fs : List WireForm) → Fit ms fs → HaveSameArcs (filled_nets ms fs) ms
same_arcs [] fs fit i = refl
same_arcs (m ∷ ms) [] fit i = absurd fit
same_arcs (m ∷ ms) (f ∷ fs) fit zero = refl
same_arcs (m ∷ ms) (f ∷ fs) fit (suc i) = same_arcs ms fs fit.1 i

module _ (xs ys : List Net) (same : HaveSameArcs xs ys) where
  net_by : (i : ℕ) (n : Net) (o : Option Net) → slice_get ys i ≡ o → option_map (λ n. n.arcs) o ≡ Some n.arcs
      → (m : Net) × (slice_get ys i ≡ Some m) × (n.arcs ≡ m.arcs)
  net_by i n None at e = absurd (cc)
  net_by i n (Some m) at e = (m, at, cc)

  net_of : (i : ℕ) (n : Net) → slice_get xs i ≡ Some n → (m : Net) × (slice_get ys i ≡ Some m) × (n.arcs ≡ m.arcs)
  net_of i n at = net_by i n (slice_get ys i) refl (sym (same i) ∙ ap (option_map (λ n. n.arcs)) at)

  pub reads_in : (a b : ℕ) → Reads xs a b → Reads ys a b
  reads_in a b r =
      let m = net_of a r.0 r.2 in
      (m.0, r.1, m.1, subst (λ arcs. Contains arcs r.1) m.2 r.3, r.4)

  pub input_in : (a k b : ℕ) → IsInput xs a k b → IsInput ys a k b
  input_in a k b r =
      let m = net_of a r.0 r.2 in
      (m.0, r.1, m.1, subst (λ arcs. slice_get arcs k ≡ Some r.1) m.2 r.3, r.4)

  pub endless_in : (a : ℕ) → IsEndless xs a → IsEndless ys a
  endless_in a e = (e.0, e.1, λ i. reads_in (e.0 i) (e.0 (i + 1)) (e.2 i))

module _ (xs ys : List Net) (same : HaveSameArcs xs ys) where
  back : HaveSameArcs ys xs
  back i = sym (same i)

  pub levels_in : (levels : List ℕ) → length xs ≡ length ys → AreLevels xs levels → AreLevels ys levels
  levels_in levels count h = record {
    count = h.count ∙ count;
    each = λ i n at.
        let m = net_of ys xs back i n at in
        h.each i m.0 m.1 ∙ ap (level_from levels) (sym m.2);
  }

  pub levelled_in : length xs ≡ length ys → AreLevelled xs → AreLevelled ys
  levelled_in count h = (h.0, levels_in h.0 count h.1)

  least_in : (a : ℕ) → IsLeastEndless xs a → IsLeastEndless ys a
  least_in a h = record { endless = endless_in xs ys same a h.endless; least = λ m lt e. h.least m lt (endless_in ys xs back m e) }

  first_in : (a k b : ℕ) → IsFirstEndless xs a k b → IsFirstEndless ys a k b
  first_in a k b h = record {
    input = input_in xs ys same a k b h.input;
    endless = endless_in xs ys same b h.endless;
    first = λ j c lt input e. h.first j c lt (input_in ys xs back a j c input) (endless_in ys xs back c e);
  }

  goes_in : (a b : ℕ) → GoesTo xs a b → GoesTo ys a b
  goes_in a b h = (h.0, first_in a h.0 b h.1)

  walk_in : (walk : List ℕ) (at : ℕ) → IsWalkBack xs walk at → IsWalkBack ys walk at
  walk_in walk at h = record {
    within = h.within;
    starts = least_in _ h.starts;
    goes = λ i lt. goes_in _ _ (h.goes i lt);
    once = h.once;
    returns = goes_in _ _ h.returns;
  }

  pub first_loop_in : (loop : List ℕ) → IsFirstLoop xs loop → IsFirstLoop ys loop
  first_loop_in loop h = (h.0, h.1, walk_in h.0 h.1 h.2, h.3)
