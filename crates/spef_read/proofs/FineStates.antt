-- What each form of a SPEF text leaves true of the state.
use Rattle.std.specs.Prelude.{◌≡◌, refl, ℕ, ◌-◌, ◌<◌, ◌≤◌, ◌&&◌, List, [], ◌∷◌, length, drop, ℤ, pos, int_le, ◌+ℤ◌}
use Rattle.std.specs.Prelude.{Option, Some, None, is_some, IfSome, Result, Ok, Err, IfOk}
use Rattle.std.specs.List.{All, AllByRecursion}
use Rattle.std.proofs.Common.{arith}
use Rattle.std.proofs.lemmas.Bool.{cond_both}
use Rattle.std.proofs.lemmas.List.Elements.{All-nil, All-push, All-weaker}
use Rattle.name_numbers.specs.Names.{found, with_value}
use Rattle.xt_model.specs.declared.code.Code.TheVariants.{S1, S3, S4}
use Rattle.xt_number.specs.Value.{fixed, power_of, without_zeros}
use Rattle.xt_number.specs.declared.fault.NumberFault.{NumberFault}
use Rattle.spef_read.specs.declared.item.Separator.{Separator}
use Rattle.spef_read.specs.declared.item.Separator.TheVariants as separators
use Rattle.spef_read.specs.declared.item.Quantity.{Quantity}
use Rattle.spef_read.specs.declared.item.Quantity.TheVariants as quantities
use Rattle.spef_read.specs.declared.parasitics.NameId.{NameId}
use Rattle.spef_read.specs.declared.parasitics.CapText.{CapText}
use Rattle.spef_read.specs.declared.parasitics.ResText.{ResText}
use Rattle.spef_read.specs.declared.parasitics.WireText.{WireText}
use Rattle.spef_read.specs.declared.parasitics.Parasitics.{Parasitics}
use Rattle.spef_read.specs.Words.{Text, counted}
use Rattle.spef_read.specs.Names.{NameMap}
use Rattle.spef_read.specs.Sound.{IsThere, IsSoundCap, IsSoundRes, IsSoundWire}
use Rattle.spef_read.specs.Meaning.{State, Names, nothing, with_separator, set_separator, are_brackets, brackets_by, set_pair, set_brackets}
use Rattle.spef_read.specs.Meaning.{number_as, unit_number, with_scale, unit_as, unit_power, set_unit, with_units, index_as, pair_number, pair_as, end_pair}
use Rattle.spef_read.specs.Meaning.{enter_as, enter, node, net_as, net_by, net_name, value_as, value_of, total_as, net_total, first_as, first_node}
use Rattle.spef_read.specs.Meaning.{cap_second_as, cap_node, res_second_as, res_node, cap_as, cap_value, res_as, res_value, net_of, end_net}
use Rattle.text_forms.proofs.Bytes.{IsGraphic, AreGraphic}
use Rattle.name_numbers.proofs.FoundLaws.{found_within, with_names, with_values, with_grows, with_further}
use Rattle.text_forms.proofs.Kept.{through, passed_if}
use Rattle.xt_number.specs.Quantities.{IsQuantity}
use Rattle.xt_number.proofs.Quantities.{zero_is, quantity_from}
use Rattle.spef_read.proofs.WholeNames.{IsWhole, IsGraphicMap, whole_name_is, pair_name_is}

-- ---- what is true of a state

-- parasitics of these names, which tell what numbers of names lead to one
abbrev pub of_names : Names → Parasitics
of_names names = record { delimiter = 0; names = names; nets = [] }

-- the name is one of n, or the first where there is none
abbrev IsNear : ℕ → NameId → Type 0
IsNear n name = name.number ≤ n - 1

-- by the parts of a state that count, so that it is the same where others change: the marks, the name map, the names and
-- nets, and of the net that is being read its name, its total, its elements, and the nodes of its next element
pub record AreFineParts (delimiter : ℕ) (map : NameMap) (names : Names) (nets : List WireText) (net : NameId) (total : ℤ)
    (caps : List CapText) (resistors : List ResText) (first : NameId) (second : Option NameId) (res : NameId) : Type 0 where
  pub printable : IsGraphic delimiter
  pub mapped : IsGraphicMap map
  pub named : AllByRecursion (λ e. IsWhole e.0) names
  pub wires : All (IsSoundWire (of_names names)) nets
  pub owner : IsNear (length names) net
  pub sum : IsQuantity total
  pub capacitors : All (IsSoundCap (of_names names)) caps
  pub resists : All (IsSoundRes (of_names names)) resistors
  pub from : IsNear (length names) first
  pub cap_to : IfSome second (IsThere (of_names names))
  pub res_to : IsNear (length names) res

-- what is true of each part is true of all
fine_of : {delimiter : ℕ} {map : NameMap} {names : Names} {nets : List WireText} {net : NameId} {total : ℤ} {caps : List CapText}
    {resistors : List ResText} {first : NameId} {second : Option NameId} {res : NameId}
    → IsGraphic delimiter → IsGraphicMap map → AllByRecursion (λ e. IsWhole e.0) names
    → All (IsSoundWire (of_names names)) nets → IsNear (length names) net → IsQuantity total
    → All (IsSoundCap (of_names names)) caps → All (IsSoundRes (of_names names)) resistors → IsNear (length names) first
    → IfSome second (IsThere (of_names names)) → IsNear (length names) res
    → AreFineParts delimiter map names nets net total caps resistors first second res
fine_of a b c d e f g h i j k = record {
  printable = a;
  mapped = b;
  named = c;
  wires = d;
  owner = e;
  sum = f;
  capacitors = g;
  resists = h;
  from = i;
  cap_to = j;
  res_to = k;
}

abbrev pub IsFine : State → Type 0
IsFine s = AreFineParts s.marks.delimiter s.map s.names s.nets s.net s.total s.caps s.resistors s.first s.cap_second s.res_second

-- where a net is being read there is a name
abbrev pub IsNamed : State → Type 0
IsNamed s = IsFine s × (0 < length s.names)

pub nothing_fine : IsFine nothing
nothing_fine =
    fine_of refl tt tt (All-nil (IsSoundWire (of_names []))) (omega arith) zero_is (All-nil (IsSoundCap (of_names [])))
    (All-nil (IsSoundRes (of_names []))) (omega arith) tt (omega arith)

-- ---- more names
module _ (p q : Parasitics) (le : length p.names ≤ length q.names) where
  there_more : (o : Option NameId) → IfSome o (IsThere p) → IfSome o (IsThere q)
  there_more None h = tt
  there_more (Some x) h = omega (arith, h)

  cap_more : (c : CapText) → IsSoundCap p c → IsSoundCap q c
  cap_more c h = let a = h.a in record { a = omega (arith, a); b = there_more c.b h.b; value = h.value }

  res_more : (r : ResText) → IsSoundRes p r → IsSoundRes q r
  res_more r h = let a = h.a in let b = h.b in record { a = omega (arith, a); b = omega (arith, b); value = h.value }

  pub wire_more : (w : WireText) → IsSoundWire p w → IsSoundWire q w
  wire_more w h = let a = h.name in record {
    name = omega (arith, a);
    total = h.total;
    caps = All-weaker (IsSoundCap p) (IsSoundCap q) cap_more w.caps h.caps;
    resistors = All-weaker (IsSoundRes p) (IsSoundRes q) res_more w.resistors h.resistors;
  }

module _ (s : State) (h : IsFine s) where
  -- the same state with more names
  named_more : (names : Names) → length s.names ≤ length names → AllByRecursion (λ e. IsWhole e.0) names → IsFine (record s { names = names })
  named_more names le whole =
      let p = of_names s.names in
      let q = of_names names in
      let a = h.owner in
      let b = h.from in
      let c = h.res_to in
      fine_of h.printable h.mapped whole (All-weaker (IsSoundWire p) (IsSoundWire q) (wire_more p q le) s.nets h.wires) (omega (arith, a, le)) h.sum
      (All-weaker (IsSoundCap p) (IsSoundCap q) (cap_more p q le) s.caps h.capacitors)
      (All-weaker (IsSoundRes p) (IsSoundRes q) (res_more p q le) s.resistors h.resists)
      (omega (arith, b, le)) (there_more p q le s.cap_second h.cap_to) (omega (arith, c, le))

  -- ---- the header
  with_mark : (which : Separator) (b : ℕ) → IsGraphic b → IsGraphic (with_separator which b s.marks).delimiter
  with_mark separators.Divider b g = h.printable
  with_mark separators.Delimiter b g = g

  pub separator_fine : (which : Separator) (word : Text) → AreGraphic word → IfOk (set_separator which word s) IsFine
  separator_fine which (b ∷ []) g =
      fine_of (with_mark which b g.0) h.mapped h.named h.wires h.owner h.sum h.capacitors h.resists h.from h.cap_to h.res_to
  separator_fine which _ g = tt

  brackets_by_fine : (left right : ℕ) → IfOk (brackets_by left right s) IsFine
  brackets_by_fine left right = passed_if IsFine (are_brackets left right) S1 h

  pub pair_fine : (word : Text) → IfOk (set_pair word s) IsFine
  pair_fine (a ∷ b ∷ []) = brackets_by_fine a b
  pair_fine _ = tt

  pub brackets_fine : (left right : Text) → IfOk (set_brackets left right s) IsFine
  brackets_fine (a ∷ []) (b ∷ []) = brackets_by_fine a b
  brackets_fine _ _ = tt

  pub unit_number_fine : (quantity : Quantity) (word : Text) → IfOk (unit_number quantity word s) IsFine
  unfolding unit_number
  unit_number_fine quantity word = elim (power_of word) as (λ o. IfOk (number_as quantity s o) IsFine) [ None ↦ tt | Some power ↦ h ]

  scaled : (quantity : Quantity) (scale : ℤ) → IsFine (with_scale quantity scale s)
  scaled quantities.Capacitance scale = h
  scaled quantities.Resistance scale = h
  scaled _ scale = h

  pub unit_fine : (word : Text) → IfOk (set_unit word s) IsFine
  unfolding set_unit
  unit_fine word =
      elim (unit_power s.quantity word) as (λ o. IfOk (unit_as s o) IsFine) [ None ↦ tt | Some power ↦ scaled s.quantity (power +ℤ s.power) ]

  pub units_fine : IfOk (with_units s) IsFine
  unfolding with_units
  units_fine = passed_if IsFine (is_some s.cap_scale && is_some s.res_scale) S4 h

  -- ---- the name map
  pub pair_number_fine : (word : Text) → IfOk (pair_number word s) IsFine
  unfolding pair_number
  pair_number_fine word =
      let index = without_zeros (drop 1 word) in
      elim (found index s.map) as (λ o. IfOk (index_as index s o) IsFine) [ None ↦ h | Some entry ↦ tt ]

  pub end_pair_fine : (word : Text) → AreGraphic word → IfOk (end_pair word s) IsFine
  unfolding end_pair
  end_pair_fine word g = through IsWhole IsFine (pair_as s) (λ c. tt) (λ name w.
      let map = with_values AreGraphic s.index name s.map w.graphic h.mapped in
      fine_of h.printable map h.named h.wires h.owner h.sum h.capacitors h.resists h.from h.cap_to h.res_to) _ (pair_name_is s.marks word g)

  -- ---- nodes

  -- a name that has been entered, and the state after it
  abbrev IsEntered : NameId × State → Type 0
  IsEntered x = IsFine x.1 × IsThere (of_names x.1.names) x.0

  entered : (name : Text) → IsWhole name → (o : Option (ℕ × Option ℕ)) → found name s.names ≡ o → IsEntered (enter_as name s o)
  entered name whole (Some entry) at = (h, found_within name s.names entry at)
  entered name whole None at =
      let further = with_further name None s.names at in
      (named_more (with_value name None s.names) (omega (arith, further)) (with_names IsWhole name None s.names whole h.named), further)

  node_is : (word : Text) → AreGraphic word → IfOk (node word s) IsEntered
  unfolding node
  node_is word g = through IsWhole IsEntered (enter s) (λ c. tt) (λ name whole. entered name whole (found name s.names) refl) _ (whole_name_is s.marks s.map word h.mapped g)

  pub first_fine : (word : Text) → AreGraphic word → IfOk (first_node word s) IsNamed
  first_fine word g = through IsEntered IsNamed first_as (λ c. tt) (λ x i.
      let f = i.0 in
      let lt = i.1 in
      (fine_of f.printable f.mapped f.named f.wires f.owner f.sum f.capacitors f.resists (omega (arith, lt)) tt f.res_to, omega (arith, lt))) _ (node_is word g)

  pub cap_node_fine : (word : Text) → AreGraphic word → IfOk (cap_node word s) IsNamed
  cap_node_fine word g = through IsEntered IsNamed cap_second_as (λ c. tt) (λ x i.
      let f = i.0 in
      let lt = i.1 in
      (fine_of f.printable f.mapped f.named f.wires f.owner f.sum f.capacitors f.resists f.from lt f.res_to, omega (arith, lt))) _ (node_is word g)

  pub res_node_fine : (word : Text) → AreGraphic word → IfOk (res_node word s) IsNamed
  res_node_fine word g = through IsEntered IsNamed res_second_as (λ c. tt) (λ x i.
      let f = i.0 in
      let lt = i.1 in
      (fine_of f.printable f.mapped f.named f.wires f.owner f.sum f.capacitors f.resists f.from f.cap_to (omega (arith, lt)), omega (arith, lt))) _ (node_is word g)

  -- ---- nets

  -- the net that is being read has a name of its own
  netted : (name : Text) (number : ℕ) → IsWhole name → number < length (with_value name (Some (length s.nets)) s.names)
      → IsNamed (record s { net = record { number = number }; names = with_value name (Some (length s.nets)) s.names })
  netted name number whole lt =
      let net = Some (length s.nets) in
      let f = named_more (with_value name net s.names) (with_grows name net s.names) (with_names IsWhole name net s.names whole h.named) in
      (fine_of f.printable f.mapped f.named f.wires (omega (arith, lt)) f.sum f.capacitors f.resists f.from f.cap_to f.res_to, omega (arith, lt))

  net_entered : (name : Text) → IsWhole name → (o : Option (ℕ × Option ℕ)) → found name s.names ≡ o → IfOk (net_as name s o) IsNamed
  net_entered name whole (Some (number, Some other)) at = tt
  net_entered name whole (Some (number, None)) at =
      let le = with_grows name (Some (length s.nets)) s.names in
      let lt = found_within name s.names (number, None) at in
      netted name number whole (omega (arith, le, lt))
  net_entered name whole None at = netted name (length s.names) whole (with_further name (Some (length s.nets)) s.names at)

  pub net_name_fine : (word : Text) → AreGraphic word → IfOk (net_name word s) IsNamed
  unfolding net_name
  net_name_fine word g = through IsWhole IsNamed (net_by s) (λ c. tt) (λ name whole. net_entered name whole (found name s.names) refl) _ (whole_name_is s.marks s.map word h.mapped g)

-- ---- values
value_by : (word : Text) (scale : ℤ) (r : Result ℤ NumberFault) → fixed (counted word) scale ≡ r → IfOk (value_as r) IsQuantity
value_by word scale (Err fault) at = tt
value_by word scale (Ok v) at =
    cond_both (int_le (pos 0) v) (Ok v) (Err S3) (λ r. IfOk r IsQuantity) (λ low. quantity_from scale v low (counted word) at) (λ e. tt)

value_is : (word : Text) (scale : Option ℤ) → IfOk (value_of word scale) IsQuantity
unfolding value_of
value_is word None = tt
value_is word (Some scale) = value_by word scale (fixed (counted word) scale) refl

-- what belongs to a net, which has a name
module _ (s : State) (n : IsNamed s) where
  pub total_fine : (word : Text) → IfOk (net_total word s) IsNamed
  total_fine word = through IsQuantity IsNamed (total_as s) (λ c. tt) (λ value q.
      let h = n.0 in
      (fine_of h.printable h.mapped h.named h.wires h.owner q h.capacitors h.resists h.from h.cap_to h.res_to, n.1)) _ (value_is word s.cap_scale)

  pub cap_value_fine : (word : Text) → IfOk (cap_value word s) IsNamed
  cap_value_fine word = through IsQuantity IsNamed (cap_as s) (λ c. tt) (λ value q.
      let h = n.0 in
      let first = h.from in
      let some = n.1 in
      let cap : CapText = record { a = s.first; b = s.cap_second; value = value } in
      let caps = All-push (IsSoundCap (of_names s.names)) s.caps cap h.capacitors (record { a = omega (arith, first, some); b = h.cap_to; value = q }) in
      (fine_of h.printable h.mapped h.named h.wires h.owner h.sum caps h.resists h.from h.cap_to h.res_to, some)) _ (value_is word s.cap_scale)

  pub res_value_fine : (word : Text) → IfOk (res_value word s) IsNamed
  res_value_fine word = through IsQuantity IsNamed (res_as s) (λ c. tt) (λ value q.
      let h = n.0 in
      let first = h.from in
      let second = h.res_to in
      let some = n.1 in
      let res : ResText = record { a = s.first; b = s.res_second; value = value } in
      let all = All-push (IsSoundRes (of_names s.names)) s.resistors res h.resists (record { a = omega (arith, first, some); b = omega (arith, second, some); value = q }) in
      (fine_of h.printable h.mapped h.named h.wires h.owner h.sum h.capacitors all h.from h.cap_to h.res_to, some)) _ (value_is word s.res_scale)

  pub end_net_fine : IsFine (end_net s)
  end_net_fine =
      let h = n.0 in
      let net = h.owner in
      let some = n.1 in
      let wire : IsSoundWire (of_names s.names) (net_of s) =
      record { name = omega (arith, net, some); total = h.sum; caps = h.capacitors; resistors = h.resists } in
      let wires = All-push (IsSoundWire (of_names s.names)) s.nets (net_of s) h.wires wire in
      fine_of h.printable h.mapped h.named wires h.owner h.sum (All-nil (IsSoundCap (of_names s.names))) (All-nil (IsSoundRes (of_names s.names))) h.from h.cap_to h.res_to
