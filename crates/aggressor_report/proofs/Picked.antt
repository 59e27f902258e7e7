-- The entries that matter, coupling by coupling and net by net.
use Rattle.std.proofs.Common.{◌≡◌, ℕ, ◌+◌, ◌<◌, ◌≤◌, List, [], ◌∷◌, ◌++◌, length, take, drop, refl, ap, ◌∙◌, append_assoc, length-append, arith, Option, Some}
use Rattle.std.specs.Prelude.{if◌then◌else◌}
use Rattle.std.specs.List.{slice_get, filter}
use Rattle.std.proofs.lemmas.List.{at_drop_all, length-take-le}
use Rattle.std.proofs.lemmas.List.Elements.{filter-append}
use Rattle.xt_model.specs.declared.edge.Edge.{Edge}
use Rattle.xt_model.specs.declared.edge.Edge.TheVariants.{Rise, Fall}
use Rattle.xt_model.specs.declared.quad.Pair.{Pair}
use Rattle.xt_model.specs.declared.net.NetId.{NetId}
use Rattle.xt_model.specs.declared.net.Coupling.{Coupling}
use Rattle.xt_model.specs.declared.net.Net.{Net}
use Rattle.xt_model.specs.Parts.{Parts}
use Rattle.aggressor_report.specs.declared.guilt.Guilt.{Guilt}
use Rattle.aggressor_report.specs.Guilt.{is_guilty, entry_of, edge_entries, net_entries}
use Rattle.aggressor_report.specs.Entries.{edge_guilty, guilty_among}
use Rattle.aggressor_report.proofs.Turns.{turn, turns_end, opened_count, items_split, some_within, slice_get_take, picked_next}

module _ (d : Parts) (low high : List Pair) where
  abbrev pub picked : NetId → Edge → ℕ → List Coupling → List Guilt
  picked victim e number ks = filter is_guilty (edge_entries d low high victim e number ks)

  abbrev pub picked_nets : ℕ → List Net → List Guilt
  picked_nets n nets = filter is_guilty (net_entries d low high n nets)

  -- a turn of the loop over couplings
  pub entry_turn : (victim : NetId) (e : Edge) (ks : List Coupling) (i : ℕ) (k : Coupling) (g : Guilt) (o p whole : List Guilt)
      → slice_get ks i ≡ Some k → g ≡ entry_of d low high victim e i k → p ≡ o ++ (if is_guilty g then g ∷ [] else [])
      → o ++ picked victim e i (drop i ks) ≡ whole → p ++ picked victim e (i + 1) (drop (i + 1) ks) ≡ whole
  entry_turn victim e ks i k g o p whole there is appended h =
      turn (λ j more. picked victim e j more) (λ j x. if is_guilty (entry_of d low high victim e j x) then entry_of d low high victim e j x ∷ [] else [])
      (λ j x more. picked_next is_guilty (entry_of d low high victim e j x) (edge_entries d low high victim e (j + 1) more))
      ks i k o p whole there (appended ∙ ap (λ x. o ++ (if is_guilty x then x ∷ [] else [])) is) h

  -- the end of that loop
  pub entries_end : (victim : NetId) (e : Edge) (place : Option Net) (net : Net) (ks : List Coupling) (i : ℕ) (o q : List Guilt)
      → length ks ≤ i → place ≡ Some net → ks ≡ net.couplings
      → q ++ picked victim e i (drop i ks) ≡ o ++ picked victim e 0 ks → q ≡ o ++ edge_guilty d low high victim e place
  entries_end victim e place net ks i o q past there same h =
      rw (there, ← same) (turns_end (λ j more. picked victim e j more) (λ _. refl) ks i q (o ++ picked victim e 0 ks) past h)

  nets_next : (n : ℕ) (net : Net) (more : List Net)
      → picked_nets n (net ∷ more)
      ≡ (picked (record { 0 = n }) Rise 0 net.couplings ++ picked (record { 0 = n }) Fall 0 net.couplings) ++ picked_nets (n + 1) more
  nets_next n net more =
      let rise = edge_entries d low high (record { 0 = n }) Rise 0 net.couplings in
      let fall = edge_entries d low high (record { 0 = n }) Fall 0 net.couplings in
      let rest = net_entries d low high (n + 1) more in
      rw (filter-append is_guilty rise (fall ++ rest), filter-append is_guilty fall rest) (simp append_assoc)

  -- a turn of the loop over nets
  pub nets_turn : (i : ℕ) (o p q whole : List Guilt) → i < length d.nets
      → p ≡ o ++ edge_guilty d low high (record { 0 = i }) Rise (slice_get d.nets i)
      → q ≡ p ++ edge_guilty d low high (record { 0 = i }) Fall (slice_get d.nets i)
      → o ++ picked_nets i (drop i d.nets) ≡ whole → q ++ picked_nets (i + 1) (drop (i + 1) d.nets) ≡ whole
  nets_turn i o p q whole within rise fall h =
      let x = some_within d.nets i within in
      let victim : NetId = record { 0 = i } in
      let both : q ≡ o ++ (picked victim Rise 0 x.0.couplings ++ picked victim Fall 0 x.0.couplings) =
      (rw x.1 at fall) ∙ (ap (λ t. t ++ picked victim Fall 0 x.0.couplings) (rw x.1 at rise) ∙ append_assoc o _ _) in
      turn picked_nets (λ n net. picked (record { 0 = n }) Rise 0 net.couplings ++ picked (record { 0 = n }) Fall 0 net.couplings)
      nets_next d.nets i x.0 o q whole x.1 both h

  -- the end of that loop
  pub nets_end : (i : ℕ) (q whole : List Guilt) → length d.nets ≤ i → q ++ picked_nets i (drop i d.nets) ≡ whole → q ≡ whole
  nets_end i q whole past h = turns_end picked_nets (λ _. refl) d.nets i q whole past h

  -- the end of the loop that counts over couplings
  pub entries_count : (victim : NetId) (e : Edge) (place : Option Net) (net : Net) (ks : List Coupling) (i o : ℕ)
      → length ks ≤ i → place ≡ Some net → ks ≡ net.couplings
      → o + length (picked victim e i (drop i ks)) ≡ length (picked victim e 0 ks) → o ≡ length (edge_guilty d low high victim e place)
  entries_count victim e place net ks i o past there same h =
      let none : length (picked victim e i (drop i ks)) ≡ 0 = ap length (at_drop_all (λ more. picked victim e i more) ks i past) in
      let all : o ≡ length (picked victim e 0 ks) = omega (arith, none, h) in
      rw (there, ← same) all

  -- a turn of the loop that counts over nets up to this one
  pub net_counts : (to i a b o whole : ℕ) → i < to → to ≤ length d.nets
      → a ≡ length (edge_guilty d low high (record { 0 = i }) Rise (slice_get d.nets i))
      → b ≡ length (edge_guilty d low high (record { 0 = i }) Fall (slice_get d.nets i))
      → o + length (picked_nets i (drop i (take to d.nets))) ≡ whole → ((o + a) + b) + length (picked_nets (i + 1) (drop (i + 1) (take to d.nets))) ≡ whole
  net_counts to i a b o whole within end rise fall h =
      let x = some_within d.nets i (omega (arith, within, end)) in
      let victim : NetId = record { 0 = i } in
      let all = opened_count picked_nets (λ n net. picked (record { 0 = n }) Rise 0 net.couplings ++ picked (record { 0 = n }) Fall 0 net.couplings)
      nets_next (take to d.nets) i x.0 (slice_get_take d.nets to i x.0 within x.1) in
      let both = length-append (picked victim Rise 0 x.0.couplings) (picked victim Fall 0 x.0.couplings) in
      let up : a ≡ length (picked victim Rise 0 x.0.couplings) = rw x.1 at rise in
      let down : b ≡ length (picked victim Fall 0 x.0.couplings) = rw x.1 at fall in
      omega (arith, all, both, up, down, h)

  -- the end of that loop
  pub nets_count : (to i o whole : ℕ) → to ≤ i → to ≤ length d.nets → o + length (picked_nets i (drop i (take to d.nets))) ≡ whole → o ≡ whole
  nets_count to i o whole past end h =
      let long : length (take to d.nets) ≡ to = length-take-le to d.nets end in
      let none : length (picked_nets i (drop i (take to d.nets))) ≡ 0 = ap length (at_drop_all (picked_nets i) (take to d.nets) i (omega (arith, long, past))) in
      omega (arith, none, h)

  -- those of some nets, and of the nets after them
  pub guilty_split : (from middle to : ℕ) → from ≤ middle → middle ≤ to → to ≤ length d.nets
      → length (guilty_among d low high from to) ≡ length (guilty_among d low high from middle) + length (guilty_among d low high middle to)
  guilty_split from middle to first second end =
      ap length (items_split picked_nets (λ n net. picked (record { 0 = n }) Rise 0 net.couplings ++ picked (record { 0 = n }) Fall 0 net.couplings)
      nets_next (λ _. refl) d.nets from middle to first second end)
      ∙ length-append (guilty_among d low high from middle) (guilty_among d low high middle to)
