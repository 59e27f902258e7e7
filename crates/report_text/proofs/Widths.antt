-- What is counted of edges that can switch.
use Rattle.std.proofs.Common.{◌≡◌, ℕ, ◌+◌, ◌<◌, ◌≤◌, List, [], ◌∷◌, ◌++◌, length, map, take, drop, refl, sym, ap, ◌∙◌, append_assoc, append-nil, length-append, arith, codes, ℤ, ◌+ℤ◌}
use Rattle.std.specs.List.{filter}
use Rattle.std.proofs.lemmas.Int.{ints}
use Rattle.std.proofs.lemmas.List.{at_drop_all, length-take, length-take-le, map-append, take_all}
use Rattle.std.proofs.lemmas.List.Elements.{filter-append}
use Rattle.xt_model.specs.declared.edge.Edge.TheVariants.{Rise, Fall}
use Rattle.xt_model.specs.declared.quad.Quad.{Quad}
use Rattle.xt_model.specs.declared.quad.Pair.{Pair}
use Rattle.xt_model.specs.declared.net.Net.{Net}
use Rattle.xt_model.specs.Parts.{Parts}
use Rattle.report_text.specs.declared.edge_windows.EdgeWindows.{EdgeWindows}
use Rattle.report_text.specs.declared.tally.Tally.{Tally}
use Rattle.report_text.specs.Summary.{windows_of, edge_windows, can_switch, is_wider, live_edges, total_width}
use Rattle.report_text.specs.Pieces.{switching, live_among, IsTally, IsTallyAmong, IsSum, IsAtMost}
use Rattle.text_lines.specs.Lines.{Line, line_text, text_of}
use Rattle.xt_number.specs.Thousandths.{thousandths}
use Rattle.text_lines.specs.Fields.{field}
use Rattle.aggressor_report.specs.Guilt.{guilty, is_guilty, net_entries}
use Rattle.aggressor_report.specs.Entries.{guilty_among}
use Rattle.aggressor_report.proofs.Turns.{opened, items_split, some_within, slice_get_take, picked_next}
use Rattle.aggressor_report.proofs.Picked.{guilty_split}

-- ---- sums of tallies
total_width_append : (qs rs : List Quad) → total_width (qs ++ rs) ≡ total_width qs +ℤ total_width rs
total_width_append [] rs = omega (arith, ints)
total_width_append (q ∷ qs) rs = let e = total_width_append qs rs in omega (arith, ints, e)

widths_append : (f : EdgeWindows → Quad) (es fs : List EdgeWindows) → total_width (map f (es ++ fs)) ≡ total_width (map f es) +ℤ total_width (map f fs)
widths_append f es fs = ap total_width (map-append f es fs) ∙ total_width_append (map f es) (map f fs)

-- a sum counts the edges of both, and the couplings of both
pub sum_counts : (es fs gs : List EdgeWindows) (m n k : ℕ) (a b c : Tally) → IsTally es m a → IsTally fs n b → IsSum a b c → gs ≡ es ++ fs → k ≡ m + n → IsTally gs k c
sum_counts es fs gs m n k a b c x y sum edges guilty =
    let low : EdgeWindows → Quad = λ w. w.low in
    let high : EdgeWindows → Quad = λ w. w.high in
    record {
      live = sum.live ∙ (omega (arith, x.live, y.live, length-append es fs) ∙ ap length (sym edges));
      wider = let e = ap length (filter-append is_wider es fs) ∙ length-append (filter is_wider es) (filter is_wider fs) in
          sum.wider ∙ (omega (arith, x.wider, y.wider, e) ∙ ap (λ l. length (filter is_wider l)) (sym edges));
      guilty = omega (arith, x.guilty, y.guilty, sum.guilty, guilty);
      least = sum.least ∙ (ap (λ t. t +ℤ b.least) x.least ∙ (ap (λ t. total_width (map low es) +ℤ t) y.least ∙ (sym (widths_append low es fs) ∙ ap (λ l. total_width (map low l)) (sym edges))));
      greatest = sum.greatest ∙ (ap (λ t. t +ℤ b.greatest) x.greatest ∙ (ap (λ t. total_width (map high es) +ℤ t) y.greatest ∙ (sym (widths_append high es fs) ∙ ap (λ l. total_width (map high l)) (sym edges))));
    }

-- and is no more than that of as many edges as both have
pub sum_most : (m n k : ℕ) (a b c : Tally) → IsAtMost m a → IsAtMost n b → IsSum a b c → k ≡ m + n → IsAtMost k c
sum_most m n k a b c x y sum is = record {
  live = omega (arith, x.live, y.live, sum.live, is);
  wider = omega (arith, x.wider, y.wider, sum.wider, is);
  guilty = omega (arith, x.guilty, y.guilty, sum.guilty, is);
  least_low = omega (arith, ints, x.least_low, y.least_low, sum.least, is);
  least_high = omega (arith, ints, x.least_high, y.least_high, sum.least, is);
  greatest_low = omega (arith, ints, x.greatest_low, y.greatest_low, sum.greatest, is);
  greatest_high = omega (arith, ints, x.greatest_high, y.greatest_high, sum.greatest, is);
}

-- a tally is no more than that of more edges can be
pub most_more : (m n : ℕ) (t : Tally) → IsAtMost m t → m ≤ n → IsAtMost n t
most_more m n t x le = record {
  live = omega (arith, x.live, le);
  wider = omega (arith, x.wider, le);
  guilty = omega (arith, x.guilty, le);
  least_low = omega (arith, ints, x.least_low, le);
  least_high = omega (arith, ints, x.least_high, le);
  greatest_low = omega (arith, ints, x.greatest_low, le);
  greatest_high = omega (arith, ints, x.greatest_high, le);
}

-- ---- edges that can switch
module _ (low high : List Pair) where
  abbrev live_from : ℕ → List Net → List EdgeWindows
  live_from n nets = filter can_switch (edge_windows low high n nets)

  abbrev of_net : ℕ → Net → List EdgeWindows
  of_net n net = switching (windows_of low high n Rise) ++ switching (windows_of low high n Fall)

  live_next : (n : ℕ) (net : Net) (more : List Net) → live_from n (net ∷ more) ≡ of_net n net ++ live_from (n + 1) more
  live_next n net more =
      picked_next can_switch (windows_of low high n Rise) (windows_of low high n Fall ∷ edge_windows low high (n + 1) more)
      ∙ (ap (λ ws. switching (windows_of low high n Rise) ++ ws) (picked_next can_switch (windows_of low high n Fall) (edge_windows low high (n + 1) more))
      ∙ sym (append_assoc (switching (windows_of low high n Rise)) (switching (windows_of low high n Fall)) (live_from (n + 1) more)))

  -- those of some nets, and of the nets after them
  pub live_split : (nets : List Net) (from middle to : ℕ) → from ≤ middle → middle ≤ to → to ≤ length nets
      → live_among low high from to nets ≡ live_among low high from middle nets ++ live_among low high middle to nets
  live_split nets from middle to first second end = items_split live_from of_net live_next (λ _. refl) nets from middle to first second end

  -- those of one net
  pub live_net : (nets : List Net) (n : ℕ) → n < length nets
      → live_among low high n (n + 1) nets ≡ switching (windows_of low high n Rise) ++ switching (windows_of low high n Fall)
  live_net nets n within =
      let x = some_within nets n within in
      let first : List Net = take (n + 1) nets in
      let long : length first ≡ n + 1 = length-take-le (n + 1) nets (omega (arith, within)) in
      let none : live_from (n + 1) (drop (n + 1) first) ≡ [] = at_drop_all (live_from (n + 1)) first (n + 1) (omega (arith, long)) in
      opened live_from of_net live_next first n x.0 (slice_get_take nets (n + 1) n x.0 (omega arith) x.1) ∙ (ap (λ t. of_net n x.0 ++ t) none ∙ append-nil (of_net n x.0))

  -- none of no net
  pub live_none : (nets : List Net) (n : ℕ) → live_among low high n n nets ≡ []
  live_none nets n = at_drop_all (live_from n) (take n nets) n (omega (arith, length-take n nets))

  -- those of all nets
  pub live_all : (nets : List Net) (n : ℕ) → n ≡ length nets → live_among low high 0 n nets ≡ live_edges low high nets
  live_all nets n is = ap (live_from 0) (take_all n nets (omega (arith, is)))

-- ---- tallies of nets
module _ (d : Parts) (low high : List Pair) where
  guilty_none : (n : ℕ) → guilty_among d low high n n ≡ []
  guilty_none n = at_drop_all (λ nets. filter is_guilty (net_entries d low high n nets)) (take n d.nets) n (omega (arith, length-take n d.nets))

  guilty_all : (n : ℕ) → n ≡ length d.nets → guilty_among d low high 0 n ≡ guilty d low high
  guilty_all n is = ap (λ nets. filter is_guilty (net_entries d low high 0 nets)) (take_all n d.nets (omega (arith, is)))

  -- that of no net
  pub tally_none : (n : ℕ) (t : Tally) → IsTally [] 0 t → IsTallyAmong d low high n n t
  tally_none n t is = rw (live_none low high d.nets n, guilty_none n) is

  -- that of all nets
  pub tally_all : (n : ℕ) (t : Tally) → n ≡ length d.nets → IsTallyAmong d low high 0 n t → IsTally (live_edges low high d.nets) (length (guilty d low high)) t
  tally_all n t all is = rw (← live_all low high d.nets n all, ← guilty_all n all) is

  -- that of some nets and that of the nets after them
  pub tally_split : (from middle to : ℕ) (a b c : Tally) → from ≤ middle → middle ≤ to → to ≤ length d.nets
      → IsTallyAmong d low high from middle a → IsTallyAmong d low high middle to b → IsSum a b c → IsTallyAmong d low high from to c
  tally_split from middle to a b c first second end x y sum =
      sum_counts (live_among low high from middle d.nets) (live_among low high middle to d.nets) (live_among low high from to d.nets)
      (length (guilty_among d low high from middle)) (length (guilty_among d low high middle to)) (length (guilty_among d low high from to))
      a b c x y sum (live_split low high d.nets from middle to first second end) (guilty_split d low high from middle to first second end)

-- ---- all lines, piece by piece
pub summary_pieces : (o p q r s t u : List ℕ) (title size count : Line) (x y a b : ℤ)
    → p ≡ o ++ line_text title → q ≡ p ++ line_text size → r ≡ q ++ line_text count
    → s ≡ r ++ line_text (codes "least" ∷ thousandths x ∷ []) → x ≡ a
    → t ≡ s ++ line_text (codes "greatest" ∷ thousandths y ∷ []) → y ≡ b
    → u ≡ t ++ field (codes "end") 10
    → u ≡ o ++ text_of (title ∷ size ∷ count ∷ (codes "least" ∷ thousandths a ∷ []) ∷ (codes "greatest" ∷ thousandths b ∷ []) ∷ (codes "end" ∷ []) ∷ [])
unfolding field
summary_pieces o p q r s t u title size count x y a b e1 e2 e3 e4 e5 e6 e7 e8 =
    rw (e8, e6, e4, e3, e2, e1, e5, e7) (simp append_assoc)
