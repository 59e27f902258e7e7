-- The wire of sound parasitics has names and quantities.
use Rattle.std.proofs.Common.{ℕ, zero, suc, Bool, true, false, cond, List, [], ◌∷◌, map, sym, arith, subst}
use Rattle.std.specs.Prelude.{ℤ, pos, Option, Some, None, IfSome, option_map, unwrap_or, flat_map}
use Rattle.std.specs.List.{All, slice_get, find, position_or_len}
use Rattle.std.proofs.lemmas.List.Folds.{find_at}
use Rattle.std.proofs.lemmas.Int.{ints}
use Rattle.std.proofs.lemmas.Option.{slice_get-get_or}
use Rattle.std.proofs.lemmas.List.Elements.{All-cons, All-append, All-nil, All-map}
use Rattle.name_numbers.specs.Names.{Text}
use Rattle.xt_model.specs.Names.{IsName}
use Rattle.verilog_net.specs.declared.netlist.Netlist.{Netlist}
use Rattle.spef_read.specs.declared.parasitics.NameId.{NameId}
use Rattle.spef_read.specs.declared.parasitics.ResText.{ResText}
use Rattle.spef_read.specs.declared.parasitics.WireText.{WireText}
use Rattle.spef_read.specs.declared.parasitics.Parasitics.{Parasitics}
use Rattle.xt_number.specs.Quantities.{IsQuantity}
use Rattle.spef_read.specs.Sound.{IsThere, IsSoundRes, IsSoundWire, AreSoundParasitics}
use Rattle.link_rules.specs.Nodes.{text_of}
use Rattle.link_rules.specs.Wires.{Capacitor, NamedResistor, own_first, capacitor_by, capacitor_of, named_resistor_of, wire_in}
use Rattle.link_wires.specs.Wires.{HasNames, HasQuantities}

-- what is found has what all have
found_by : {X : Type 0} (P : X → Type 0) (b : Bool) (x : X) (o : Option X) → P x → IfSome o P → IfSome (cond b (Some x) o) P
found_by P true x o one more = one
found_by P false x o one more = more

got_has : {X : Type 0} (P : X → Type 0) (xs : List X) (k : ℕ) → All P xs → IfSome (slice_get xs k) P
got_has P [] k all = tt
got_has P (x ∷ xs) zero all = all 0 x (omega arith)
got_has P (x ∷ xs) (suc k) all = got_has P xs k (λ i d lt. all (suc i) d (omega (arith, lt)))

pub found_has : {X : Type 0} (P : X → Type 0) (p : X → Bool) (xs : List X) → All P xs → IfSome (find p xs) P
found_has P p xs all = subst (λ o. IfSome o P) (sym (find_at p xs)) (got_has P xs (position_or_len p xs) all)

module _ (p : Parasitics) (sound : AreSoundParasitics p) where
  pub text_named : (name : NameId) → IsThere p name → IsName (text_of p name)
  text_named name there =
      subst (λ o. IsName (unwrap_or (option_map (λ (e : Text × Option ℕ). e.0) o) [])) (sym (slice_get-get_or p.names name.number ([], None) there))
      (sound.names name.number ([], None) there)

module _ (netlist : Netlist) (p : Parasitics) (sound : AreSoundParasitics p) (net : ℕ) where
  cond_has : (P : Capacitor → Type 0) (b : Bool) (c d : Capacitor) → P c → P d → P (cond b c d)
  cond_has P true c d h k = h
  cond_has P false c d h k = k

  cap_named : (x : Text) (o : Option Text) (v : ℤ) → IsName x → IfSome o IsName → IsName (capacitor_by netlist p net x o v).node
  cap_named x None v h k = h
  cap_named x (Some y) v h k = cond_has (λ c. IsName c.node) (own_first netlist p net x y) _ _ h k

  cap_valued : (x : Text) (o : Option Text) (v : ℤ) → IsQuantity v → IsQuantity (capacitor_by netlist p net x o v).value
  cap_valued x None v h = h
  cap_valued x (Some y) v h = cond_has (λ c. IsQuantity c.value) (own_first netlist p net x y) _ _ h h

  other_named : (o : Option NameId) → IfSome o (IsThere p) → IfSome (option_map (text_of p) o) IsName
  other_named None h = tt
  other_named (Some name) h = text_named p sound name h

  ends_named : (rs : List ResText) → All (IsSoundRes p) rs → All IsName (flat_map (λ (r : NamedResistor). r.a ∷ r.b ∷ []) (map (named_resistor_of netlist p) rs))
  ends_named [] all = All-nil IsName
  ends_named (r ∷ rs) all =
      let one = all 0 r (omega arith) in
      let more : List Text = flat_map (λ (r : NamedResistor). r.a ∷ r.b ∷ []) (map (named_resistor_of netlist p) rs) in
      All-cons IsName (text_of p r.a) (text_of p r.b ∷ more) (text_named p sound r.a one.a)
      (All-cons IsName (text_of p r.b) more (text_named p sound r.b one.b) (ends_named rs (λ i d lt. all (suc i) d (omega (arith, lt)))))

  -- the wire that is listed for a net, or none
  pub wire_named : (o : Option WireText) → IfSome o (IsSoundWire p) → HasNames (wire_in netlist p net o)
  wire_named None h = All-nil IsName
  wire_named (Some w) h =
      All-append IsName (map (λ (c : Capacitor). c.node) (map (capacitor_of netlist p net) w.caps)) (flat_map (λ (r : NamedResistor). r.a ∷ r.b ∷ []) (map (named_resistor_of netlist p) w.resistors))
      (All-map IsName (λ (c : Capacitor). c.node) (map (capacitor_of netlist p net) w.caps)
      (All-map (λ (c : Capacitor). IsName c.node) (capacitor_of netlist p net) w.caps
      (λ i d lt. let one = h.caps i d lt in cap_named _ _ _ (text_named p sound _ one.a) (other_named _ one.b))))
      (ends_named w.resistors h.resistors)

  zero_quantity : IsQuantity (pos 0)
  zero_quantity = record { least = omega (arith, ints); most = omega (arith, ints) }

  pub wire_valued : (o : Option WireText) → IfSome o (IsSoundWire p) → HasQuantities (wire_in netlist p net o)
  wire_valued None h = record {
    total = zero_quantity;
    caps = All-nil (λ (c : Capacitor). IsQuantity c.value);
    resistors = All-nil (λ (r : NamedResistor). IsQuantity r.value);
  }
  wire_valued (Some w) h = record {
    total = h.total;
    caps = All-map (λ (c : Capacitor). IsQuantity c.value) (capacitor_of netlist p net) w.caps (λ i d lt. let one = h.caps i d lt in cap_valued _ _ _ one.value);
    resistors = All-map (λ (r : NamedResistor). IsQuantity r.value) (named_resistor_of netlist p) w.resistors (λ i d lt. let one = h.resistors i d lt in one.value);
  }
