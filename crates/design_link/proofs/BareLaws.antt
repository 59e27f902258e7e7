-- The arcs into a net do not count for its wire.
use Rattle.std.specs.Prelude.{◌≡◌, refl, ℕ, zero, suc, ◌+◌, List, [], ◌∷◌, map, take, Some}
use Rattle.std.specs.List.{All, AllByRecursion, enumerate_from, slice_get, sum_by}
use Rattle.std.specs.Option.{IsSomeAnd}
use Rattle.std.proofs.Common.{sym, ap, ◌∙◌, subst}
use Rattle.std.proofs.lemmas.List.{length-map, take-map}
use Rattle.std.proofs.lemmas.List.Elements.{recursion_from_All, All-from_recursion}
use Rattle.std.proofs.lemmas.List.Sums.{sum_by-cons}
use Rattle.xt_model.specs.Sound.{coefficients_of}
use Rattle.verilog_net.specs.declared.netlist.Netlist.{Netlist}
use Rattle.spef_read.specs.declared.parasitics.Parasitics.{Parasitics}
use Rattle.link_rules.specs.declared.circuit.NetPins.{NetPins}
use Rattle.link_rules.specs.declared.fault.LinkFault.{LinkFault}
use Rattle.link_rules.specs.declared.fault.LinkFault.TheVariants as faults
use Rattle.link_rules.specs.declared.fault.LinkRefusal.TheVariants as refusals
use Rattle.link_rules.specs.Bare as bare
use Rattle.link_rules.specs.Refusals.{IsAcceptedWire, IsWireFault, IsFirstWireFault, net_limit}
use Rattle.link_rules.specs.Wires.{wire_of, nodes_of, tree_of}
use Rattle.link_pins.specs.Joined.{without_arcs}
use Rattle.link_wires.specs.declared.wire.NetWire.{NetWire}
use Rattle.link_wires.specs.Wires.{IsWireOf, AreWires, IsFirstFault}
use Rattle.design_link.specs.Sizes.{plain_net, plain_nets}

-- a net with its number, without the arcs into it
abbrev pub bare_number : bare.Numbered → bare.Numbered
bare_number n = (n.0, without_arcs n.1)

pub numbered_bare : (k : ℕ) (ps : List NetPins) → enumerate_from k (map without_arcs ps) ≡ map bare_number (enumerate_from k ps)
numbered_bare k [] = refl
numbered_bare k (p ∷ ps) = ap (λ ns. bare_number (k, p) ∷ ns) (numbered_bare (k + 1) ps)

mapped : {X Y : Type 0} (f : X → Y) (xs : List X) (i : ℕ) (x : X) → slice_get xs i ≡ Some x → slice_get (map f xs) i ≡ Some (f x)
mapped f [] i x h = absurd (cc)
mapped f (y ∷ ys) zero x h = let e : y ≡ x = cc in ap (λ z. Some (f z)) e
mapped f (y ∷ ys) (suc i) x h = mapped f ys i x h

some_mapped : {X Y : Type 0} (f : X → Y) (P : Y → Type 0) (Q : X → Type 0) → ((x : X) → P (f x) → Q x) → (xs : List X) (i : ℕ) → IsSomeAnd (slice_get (map f xs) i) P
    → IsSomeAnd (slice_get xs i) Q
some_mapped f P Q h [] i some = some
some_mapped f P Q h (y ∷ ys) zero some = h y some
some_mapped f P Q h (y ∷ ys) (suc i) some = some_mapped f P Q h ys i some

each_mapped : {X Y : Type 0} (f : X → Y) (P : Y → Type 0) (Q : X → Type 0) → ((x : X) → P (f x) → Q x) → (xs : List X) → AllByRecursion P (map f xs) → AllByRecursion Q xs
each_mapped f P Q h [] all = tt
each_mapped f P Q h (x ∷ xs) all = (h x all.0, each_mapped f P Q h xs all.1)

module _ (netlist : Netlist) (parasitics : Parasitics) where
  faultless_same : (n : bare.Numbered) → IsAcceptedWire netlist parasitics (bare_number n) → IsAcceptedWire netlist parasitics n
  unfolding wire_of nodes_of tree_of net_limit
  faultless_same n h = record { limit = h.limit; wire = h.wire }

  wire_same : (n : bare.Numbered) (w : NetWire) → IsWireOf netlist parasitics (bare_number n) w → IsWireOf netlist parasitics n w
  unfolding wire_of nodes_of tree_of
  wire_same n w h = record { couplings = h.couplings; tree = h.tree; accepted = faultless_same n h.accepted }

  pub wires_same : (ns : List bare.Numbered) (ws : List NetWire) → AreWires netlist parasitics (map bare_number ns) ws → AreWires netlist parasitics ns ws
  wires_same ns ws are = record {
    count = are.count ∙ length-map ns bare_number;
    each = λ i n w at there. wire_same n w (are.each i (bare_number n) w (mapped bare_number ns i n at) there);
  }

  fault_same : (fault : LinkFault) (n : bare.Numbered) → IsWireFault netlist parasitics (bare_number n) fault → IsWireFault netlist parasitics n fault
  unfolding wire_of nodes_of tree_of net_limit
  fault_same faults.NoMemory n h = h
  fault_same (faults.Limit what name value) n h = h
  fault_same (faults.Refused (refusals.K1 a b)) n h = h
  fault_same (faults.Refused (refusals.K2 a b)) n h = h
  fault_same (faults.Refused (refusals.K3 a)) n h = h
  fault_same (faults.Refused (refusals.K4 a)) n h = h
  fault_same (faults.Refused (refusals.K5 net)) n h = (h.0, h.1, h.2)
  fault_same (faults.Refused (refusals.K6 net node)) n h = (h.0, h.1, h.2, h.3)
  fault_same (faults.Refused (refusals.K7 a)) n h = h
  fault_same (faults.Refused (refusals.K9 a b)) n h = h

  fault_first : (fault : LinkFault) (ns : List bare.Numbered) → IsFirstWireFault netlist parasitics (map bare_number ns) fault → IsFirstWireFault netlist parasitics ns fault
  fault_first fault ns h = record {
    place = h.place;
    at = some_mapped bare_number (λ n. IsWireFault netlist parasitics n fault) (λ n. IsWireFault netlist parasitics n fault) (fault_same fault) ns h.place h.at;
    before =
        All-from_recursion (IsAcceptedWire netlist parasitics) (take h.place ns)
        (each_mapped bare_number (IsAcceptedWire netlist parasitics) (IsAcceptedWire netlist parasitics) faultless_same (take h.place ns)
        (recursion_from_All (IsAcceptedWire netlist parasitics) (map bare_number (take h.place ns))
        (subst (All (IsAcceptedWire netlist parasitics)) (take-map bare_number h.place ns) h.before)));
  }

  pub first_same : (fault : LinkFault) (ns : List bare.Numbered) → IsFirstFault netlist parasitics (map bare_number ns) fault → IsFirstFault netlist parasitics ns fault
  first_same faults.NoMemory ns h = tt
  first_same (faults.Refused r) ns h = fault_first (faults.Refused r) ns h
  first_same (faults.Limit what name value) ns h = fault_first (faults.Limit what name value) ns h

-- the coefficients are those of the sinks and the couplings
pub coefficients_same : (ps : List NetPins) (ws : List NetWire) → sum_by coefficients_of (plain_nets (map without_arcs ps) ws) ≡ sum_by coefficients_of (plain_nets ps ws)
coefficients_same [] ws = refl
coefficients_same (p ∷ ps) [] = refl
coefficients_same (p ∷ ps) (w ∷ ws) =
    sum_by-cons coefficients_of (plain_net (without_arcs p) w) (plain_nets (map without_arcs ps) ws)
    ∙ (ap (λ n. coefficients_of (plain_net p w) + n) (coefficients_same ps ws) ∙ sym (sum_by-cons coefficients_of (plain_net p w) (plain_nets ps ws)))
