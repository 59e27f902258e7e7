-- The nets of a design that is linked have levels, by whichever Miller numbers it counts.
use Rattle.std.proofs.Common.{◌≡◌, ◌∙◌, ℕ, zero, suc, List, [], ◌∷◌, length, Option, Some, None, refl, sym, ap, subst, arith}
use Rattle.std.specs.List.{slice_get}
use Rattle.std.proofs.lemmas.List.{length-map}
use Rattle.xt_model.specs.declared.net.Net.{Net}
use Rattle.xt_model.specs.Levels.{level_from, AreLevelled}
use Rattle.xt_model.specs.Miller.{MillerNumbers}
use Rattle.xt_model.specs.Parts.{Parts}
use Rattle.elmore_tree.specs.declared.form.WireForm.{WireForm}
use Rattle.link_rules.specs.Bare.{Inputs, bare_net, bare_nets, filled_nets, numbered, parts_with}
use Rattle.link_rules.specs.Link.{IsLinked}
use Rattle.call_meaning.specs.Outcome.{counted_by}

-- forms of wires change no arcs
filled_at : (nets : List Net) (forms : List WireForm) → length forms ≡ length nets → (i : ℕ) (n : Net) → slice_get (filled_nets nets forms) i ≡ Some n
    → (m : Net) × (slice_get nets i ≡ Some m) × (n.arcs ≡ m.arcs)
filled_at [] forms e i n at = absurd (cc)
filled_at (m ∷ nets) [] e i n at = absurd (omega (arith, e))
filled_at (m ∷ nets) (f ∷ forms) e zero n at = (m, refl, cc)
filled_at (m ∷ nets) (f ∷ forms) e (suc i) n at = filled_at nets forms (omega (arith, e)) i n at

filled_count : (nets : List Net) (forms : List WireForm) → length forms ≡ length nets → length (filled_nets nets forms) ≡ length nets
filled_count [] forms e = refl
filled_count (m ∷ nets) [] e = absurd (omega (arith, e))
filled_count (m ∷ nets) (f ∷ forms) e = let rest = filled_count nets forms (omega (arith, e)) in omega (arith, rest)

filled_levelled : (nets : List Net) (forms : List WireForm) → length forms ≡ length nets → AreLevelled nets → AreLevelled (filled_nets nets forms)
filled_levelled nets forms e h = (
  h.0,
  record {
    count = h.1.count ∙ sym (filled_count nets forms e);
    each = λ i n at.
        let m = filled_at nets forms e i n at in
        h.1.each i m.0 m.1 ∙ ap (level_from h.0) (sym m.2);
  },
)

bare_count : (x : Inputs) → length (bare_nets x) ≡ length (numbered x)
unfolding bare_nets
bare_count x = length-map (numbered x) (bare_net x.netlist x.parasitics)

with_levelled : (x : Inputs) (forms : List WireForm) → length forms ≡ length (numbered x) → AreLevelled (bare_nets x) → AreLevelled (parts_with x forms).nets
unfolding parts_with
with_levelled x forms e h = filled_levelled (bare_nets x) forms (e ∙ sym (bare_count x)) h

pub linked_levelled : (x : Inputs) (d : Parts) → IsLinked x d → AreLevelled d.nets
linked_levelled x d h =
    subst (λ (p : Parts). AreLevelled p.nets) (sym h.parts.2) (with_levelled x h.parts.0 h.parts.1.count h.levels)

pub counted_levelled : (miller : Option MillerNumbers) (d : Parts) → AreLevelled d.nets → AreLevelled (counted_by miller d).nets
counted_levelled None d h = h
counted_levelled (Some m) d h = h
