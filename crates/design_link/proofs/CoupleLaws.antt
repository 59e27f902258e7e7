-- The couplings of a net lead to other nets, and its load is that of its tree.
use Rattle.std.specs.Prelude.{◌≡◌, refl, ℕ, suc, ◌+◌, ◌<◌, ◌≤◌, ◌==◌, nat_le, Bool, true, false, List, [], ◌∷◌, length, map, filter_map, find}
use Rattle.std.specs.Prelude.{ℤ, pos, negsuc, ◌+ℤ◌, ◌≤ℤ◌, Option, Some, None, IfSome, option_map, bytes_eq, if◌then◌else◌}
use Rattle.std.specs.Int.RustNames.{unsigned_abs}
use Rattle.std.specs.List.{AllByRecursion, cons_option}
use Rattle.std.specs.Option.{option_or}
use Rattle.std.proofs.Common.{sym, ap, ◌∙◌}
use Rattle.std.proofs.lemmas.Bool.{cond_both, eqb-false, leb-true}
use Rattle.std.proofs.lemmas.List.Elements.{recursion_from_All}
use Rattle.std.proofs.lemmas.List.Sums.{sum_by-cons}
use Rattle.xt_model.specs.Options.{◌>>=◌}
use Rattle.name_numbers.specs.Names.{Text, value_of}
use Rattle.xt_model.specs.declared.net.Coupling.{Coupling}
use Rattle.xt_model.specs.declared.fault.LimitKind.{LimitKind}
use Rattle.xt_model.specs.declared.fault.LimitKind.TheVariants as limits
use Rattle.xt_model.specs.Sound.{coupling_sum}
use Rattle.verilog_net.specs.declared.netlist.Netlist.{Netlist}
use Rattle.verilog_net.specs.declared.netlist.Instance.{Instance}
use Rattle.spef_read.specs.declared.parasitics.CapText.{CapText}
use Rattle.spef_read.specs.declared.parasitics.WireText.{WireText}
use Rattle.spef_read.specs.declared.parasitics.Parasitics.{Parasitics}
use Rattle.elmore_tree.specs.declared.part.Tap.{Tap}
use Rattle.elmore_tree.specs.Trees.{tap_sum}
use Rattle.link_rules.specs.declared.circuit.NetPins.{NetPins}
use Rattle.link_rules.specs.declared.fault.LinkFault.{LinkFault}
use Rattle.link_rules.specs.declared.fault.LinkFault.TheVariants as faults
use Rattle.verilog_net.specs.Bits.{bits}
use Rattle.link_rules.specs.Bits.{net_of}
use Rattle.link_rules.specs.Ends.{NetEnd}
use Rattle.link_rules.specs.Nodes.{text_of, split_last, net_named, pin_net, cut_net, node_net}
use Rattle.link_rules.specs.Wires.{Capacitor, Wire, coupled, net_at, own_first, capacitor_by, capacitor_of, wire_in, listed_by, listed, wire_of, coupling_of, tap_of, node_at}
use Rattle.link_rules.specs.Limits.{or_fault, passed, most_load, greatest_load}
use Rattle.xt_number.specs.Quantities.{IsQuantity}
use Rattle.spef_read.specs.Sound.{IsSoundCap, IsSoundWire, AreSoundParasitics}
use Rattle.link_rules.specs.Refusals.{node_fault, net_limit}
use Rattle.link_rules.specs.Bare as bare
use Rattle.design_link.proofs.Lists.{got, each_find, position_within}
use Rattle.design_link.proofs.PinLaws.{bit_within}

-- ---- the net of a node is there
module _ (netlist : Netlist) where
  abbrev IsNet : ℕ → Type 0
  IsNet net = net < length (bits netlist.nets)

  named_there : (name : Text) (net : ℕ) → net_named netlist name ≡ Some net → IsNet net
  named_there name net e = position_within (λ b. bytes_eq name b.name) (bits netlist.nets) net e

  pin_there : (owner pin : Text) (net : ℕ) → pin_net netlist owner pin ≡ Some net → IsNet net
  pin_there owner pin net e =
      let behind : Instance → Option ℕ = λ instance. value_of pin instance.pins >>= net_of netlist.nets in
      let x = got (find (λ i. bytes_eq owner i.name) netlist.instances) behind net e in
      let y = got (value_of pin x.0.pins) (net_of netlist.nets) net x.2 in
      bit_within netlist.nets y.0 net y.2

  or_there : (a b : Option ℕ) (net : ℕ) → ((n : ℕ) → a ≡ Some n → IsNet n) → ((n : ℕ) → b ≡ Some n → IsNet n) → option_or a b ≡ Some net → IsNet net
  or_there (Some n) b net f g e = f net e
  or_there None b net f g e = g net e

  cut_there : (o : Option (Text × Text)) (net : ℕ) → cut_net netlist o ≡ Some net → IsNet net
  cut_there None net e = absurd (cc)
  cut_there (Some cut) net e = or_there (pin_net netlist cut.0 cut.1) (net_named netlist cut.0) net (pin_there cut.0 cut.1) (named_there cut.0) e

  node_there : (delimiter : ℕ) (name : Text) (net : ℕ) → node_net netlist delimiter name ≡ Some net → IsNet net
  unfolding node_net
  node_there delimiter name net e =
      or_there (cut_net netlist (split_last delimiter name)) (net_named netlist name) net (cut_there (split_last delimiter name)) (named_there name) e

  -- the net to which a capacitor of a net couples is there, and is another one
  pub record IsOther (own net : ℕ) : Type 0 where
    pub there : IsNet net
    pub other : net ≡ own → ⊥

  other_by : (own found : ℕ) (b : Bool) → (found == own) ≡ b → IsNet found → IfSome (if b then None else Some found) (IsOther own)
  other_by own found true e h = tt
  other_by own found false e h = record { there = h; other = eqb-false found own e }

  coupled_other : (own : ℕ) (o : Option ℕ) → ((n : ℕ) → o ≡ Some n → IsNet n) → IfSome (coupled own o) (IsOther own)
  coupled_other own None f = tt
  coupled_other own (Some found) f = other_by own found (found == own) refl (f found refl)

  module _ (p : Parasitics) where
    pub record IsCapacitor (own : ℕ) (c : Capacitor) : Type 0 where
      pub to : IfSome c.to (IsOther own)
      pub value : IsQuantity c.value

    abbrev at : Text → Option ℕ
    at name = net_at netlist p name

    capacitor_is : (own : ℕ) (a : Text) (o : Option Text) (value : ℤ) → IsQuantity value → IsCapacitor own (capacitor_by netlist p own a o value)
    capacitor_is own a None value h = record { to = tt; value = h }
    capacitor_is own a (Some b) value h =
        cond_both (own_first netlist p own a b) (record { node = a; to = coupled own (at b); value = value }) (record { node = b; to = coupled own (at a); value = value })
        (IsCapacitor own)
        (λ e. record { to = coupled_other own (at b) (λ n s. node_there p.delimiter b n s); value = h })
        (λ e. record { to = coupled_other own (at a) (λ n s. node_there p.delimiter a n s); value = h })

    module _ (sound : AreSoundParasitics p) where
      caps_by : (own : ℕ) (cs : List CapText) → AllByRecursion (IsSoundCap p) cs → AllByRecursion (IsCapacitor own) (map (capacitor_of netlist p own) cs)
      caps_by own [] h = tt
      caps_by own (c ∷ cs) h =
          (capacitor_is own (text_of p c.a) (option_map (text_of p) c.b) c.value h.0.value, caps_by own cs h.1)

      caps_in : (own : ℕ) (o : Option WireText) → ((w : WireText) → o ≡ Some w → IsSoundWire p w) → AllByRecursion (IsCapacitor own) (wire_in netlist p own o).caps
      caps_in own None f = tt
      caps_in own (Some w) f = caps_by own w.caps (recursion_from_All (IsSoundCap p) w.caps (f w refl).caps)

      listed_sound : (name : Text) (driver : Option NetEnd) (w : WireText) → listed_by netlist p name driver ≡ Some w → IsSoundWire p w
      listed_sound name None w e = absurd (cc)
      listed_sound name (Some driver) w e =
          each_find (IsSoundWire p) (λ w. bytes_eq name (text_of p w.name)) p.nets w (recursion_from_All (IsSoundWire p) p.nets sound.wires) e

      pub caps_are : (own : ℕ) (pins : NetPins) → AllByRecursion (IsCapacitor own) (wire_of netlist p own pins).caps
      unfolding wire_of
      caps_are own pins = caps_in own (listed netlist p pins) (λ w e. listed_sound pins.name pins.driver w e)

-- ---- couplings and taps
abbrev coupling_at : Capacitor → ℕ → Coupling
coupling_at c net = record { to = record { 0 = net }; cap = c.value }

abbrev tap_at : Capacitor → ℕ → ℕ → Tap
tap_at c node net = record { node = node; cap = c.value }

module _ (netlist : Netlist) (p : Parasitics) (own : ℕ) where
  -- a coupling leads to another net that is there
  pub record IsCoupling (k : Coupling) : Type 0 where
    pub to : IsOther netlist own k.to.0
    pub cap : IsQuantity k.cap

  coupling_by : (o : Option ℕ) (c : Capacitor) (ks : List Coupling) → IfSome o (IsOther netlist own) → IsQuantity c.value → AllByRecursion IsCoupling ks
      → AllByRecursion IsCoupling (cons_option (option_map (coupling_at c) o) ks)
  coupling_by None c ks h q a = a
  coupling_by (Some net) c ks h q a = (record { to = h; cap = q }, a)

  pub couplings_by : (cs : List Capacitor) → AllByRecursion (IsCapacitor netlist p own) cs → AllByRecursion IsCoupling (filter_map coupling_of cs)
  couplings_by [] h = tt
  couplings_by (c ∷ cs) h = coupling_by c.to c (filter_map coupling_of cs) h.0.to h.0.value (couplings_by cs h.1)

  plus_is : (v : ℤ) (m : ℕ) → pos 0 ≤ℤ v → v +ℤ pos m ≡ pos (unsigned_abs v + m)
  plus_is (pos k) m h = refl
  plus_is (negsuc k) m h = absurd (h.le)

  module _ (nodes : List Text) (w : Wire) where
    sum_step : (o : Option ℕ) (c : Capacitor) (ks : List Coupling) (ts : List Tap) (node : ℕ) → IsQuantity c.value → coupling_sum ks ≡ pos (tap_sum ts)
        → coupling_sum (cons_option (option_map (coupling_at c) o) ks) ≡ pos (tap_sum (cons_option (option_map (tap_at c node) o) ts))
    sum_step None c ks ts node q h = h
    sum_step (Some net) c ks ts node q h =
        ap (λ s. c.value +ℤ s) h ∙ (plus_is c.value (tap_sum ts) q.least ∙ ap pos (sym (sum_by-cons (λ (t : Tap). unsigned_abs t.cap) (tap_at c node net) ts)))

    -- the couplings of a wire have the capacitance of its taps
    pub sums_agree : (cs : List Capacitor) → AllByRecursion (IsCapacitor netlist p own) cs
        → coupling_sum (filter_map coupling_of cs) ≡ pos (tap_sum (filter_map (tap_of nodes w) cs))
    sums_agree [] h = refl
    sums_agree (c ∷ cs) h = sum_step c.to c (filter_map coupling_of cs) (filter_map (tap_of nodes w) cs) (node_at nodes w c.node) h.0.value (sums_agree cs h.1)

    count_step : (o : Option ℕ) (c : Capacitor) (ks : List Coupling) (ts : List Tap) (node : ℕ) → length ks ≡ length ts
        → length (cons_option (option_map (coupling_at c) o) ks) ≡ length (cons_option (option_map (tap_at c node) o) ts)
    count_step None c ks ts node h = h
    count_step (Some net) c ks ts node h = ap suc h

    pub counts_agree : (cs : List Capacitor) → length (filter_map coupling_of cs) ≡ length (filter_map (tap_of nodes w) cs)
    counts_agree [] = refl
    counts_agree (c ∷ cs) = count_step c.to c (filter_map coupling_of cs) (filter_map (tap_of nodes w) cs) (node_at nodes w c.node) (counts_agree cs)

-- ---- limits
no_fault : (a b : Option LinkFault) → or_fault a b ≡ None → (a ≡ None) × (b ≡ None)
no_fault None b e = (refl, e)
no_fault (Some f) b e = absurd (cc)

pub both_kept : (a b : Option LinkFault) → or_fault a b ≡ None → (a ≡ None) × (b ≡ None)
both_kept a b e = no_fault a b e

kept_by : (what : LimitKind) (name : Option Text) (value most : ℕ) (b : Bool) → nat_le value most ≡ b
    → (if b then None else Some (faults.Limit what name value)) ≡ None → value ≤ most
kept_by what name value most true le e = leb-true value most le
kept_by what name value most false le e = absurd (cc)

pub kept : (what : LimitKind) (name : Option Text) (value most : ℕ) → passed what name value most ≡ None → value ≤ most
kept what name value most e = kept_by what name value most (nat_le value most) refl e

pub load_kept : (netlist : Netlist) (p : Parasitics) (n : bare.Numbered) → net_limit netlist p n ≡ None
    → greatest_load (bare.tree netlist p n) ≤ most_load
unfolding net_limit
load_kept netlist p n e =
    kept limits.Load (Some n.1.name) (greatest_load (bare.tree netlist p n)) most_load (no_fault (node_fault netlist p n) _ e).1
