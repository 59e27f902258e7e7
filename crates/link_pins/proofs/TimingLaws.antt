-- The arcs and the check points of a pin, one timing group and one related pin after another.
use Rattle.std.proofs.Common.{◌≡◌, ℕ, ◌+◌, ◌<◌, ◌≤◌, List, [], ◌∷◌, ◌++◌, length, take, get_or, Some, ap, sym, ◌∙◌, subst, arith, inl, inr, append_assoc}
use Rattle.std.specs.Prelude.{flat_map}
use Rattle.std.specs.List.{All, slice_get}
use Rattle.std.proofs.lemmas.Bool.{cases_eq}
use Rattle.std.proofs.lemmas.List.Elements.{All-append}
use Rattle.std.proofs.lemmas.Option.{get_or_from_slice_get}
use Rattle.std.proofs.lemmas.Grind.{flat_map-append}
use Rattle.std.proofs.lemmas.List.{append-nil, take_more}
use Rattle.std.proofs.lemmas.List.Concat.{flat_map-cons}
use Rattle.name_numbers.specs.Names.{Text}
use Rattle.xt_model.specs.declared.net.TimingArc.{TimingArc}
use Rattle.liberty_cells.specs.declared.cell.Cell.{Cell}
use Rattle.liberty_cells.specs.declared.library.Library.{Library}
use Rattle.liberty_cells.specs.declared.timing.Timing.{Timing}
use Rattle.verilog_net.specs.declared.netlist.Netlist.{Netlist}
use Rattle.link_rules.specs.Arcs.{arcs_from, sink_at}
use Rattle.link_pins.specs.declared.timings.NetArcs.{NetArcs}
use Rattle.link_pins.proofs.PlacedLaws.{one}

-- what is made of one item more
pub flat_more : {X Y : Type 0} (f : X → List Y) (xs : List X) (i : ℕ) (d : X) (old cur new : List Y) → i < length xs → cur ≡ old ++ flat_map f (take i xs)
    → new ≡ cur ++ f (get_or xs i d) → new ≡ old ++ flat_map f (take (i + 1) xs)
flat_more f xs i d old cur new lt so_far step =
    let one : flat_map f (take (i + 1) xs) ≡ flat_map f (take i xs) ++ f (get_or xs i d) =
    ap (flat_map f) (take_more xs i d lt)
    ∙ (flat_map-append f (take i xs) (get_or xs i d ∷ []) ∙ ap (λ l. flat_map f (take i xs) ++ l) (flat_map-cons f (get_or xs i d) [] ∙ append-nil (f (get_or xs i d)))) in
    step ∙ (ap (λ l. l ++ f (get_or xs i d)) so_far ∙ (append_assoc old (flat_map f (take i xs)) (f (get_or xs i d)) ∙ ap (λ l. old ++ l) (sym one)))

module _ (library : Library) (netlist : Netlist) (instance : ℕ) where
  abbrev pub related_arcs : Timing → Text → List TimingArc
  related_arcs t related = arcs_from t (sink_at library netlist instance related)

  abbrev pub timing_arcs : Timing → List TimingArc
  timing_arcs t = flat_map (related_arcs t) t.related

-- no cell so far has more pins
pub most_more : (items : List Cell) (i : ℕ) (item : Cell) (most new : ℕ) → ((k : ℕ) (d : Cell) → k < i → slice_get items k ≡ Some d → length d.pins ≤ most) → item ≡ get_or items i item
    → length item.pins ≤ new → most ≤ new → (k : ℕ) (d : Cell) → k < i + 1 → slice_get items k ≡ Some d → length d.pins ≤ new
most_more items i item most new each is here before k d lt at = elim (cases_eq k i) [
  | inl same ↦
      let there : slice_get items i ≡ Some d = ap (slice_get items) (sym same) ∙ at in
      let one : item ≡ d = is ∙ get_or_from_slice_get items i d item there in
      omega (arith, here, ap (λ (x : Cell). length x.pins) one)
  | inr other ↦ omega (arith, each k d (omega arith) at, before)
]

-- nets without arcs, and one more
pub no_arcs_more : (old new : List NetArcs) (row : NetArcs) → new ≡ old ++ row ∷ [] → row.arcs.items ≡ [] → All (λ r. r.arcs.items ≡ []) old → All (λ r. r.arcs.items ≡ []) new
no_arcs_more old new row push none all =
    subst (All (λ (r : NetArcs). r.arcs.items ≡ [])) (sym push)
    (All-append (λ (r : NetArcs). r.arcs.items ≡ []) old (row ∷ []) all (one (λ (r : NetArcs). r.arcs.items ≡ []) row none))
