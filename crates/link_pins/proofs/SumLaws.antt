-- The arcs into all nets are those of all output pins, counted.
use Rattle.std.proofs.Common.{◌≡◌, ℕ, suc, ◌+◌, ◌<◌, ◌≤◌, ◌==◌, ◌&&◌, Bool, true, false, cond, List, [], ◌∷◌, length, map, Some, refl, ap, sym, ◌∙◌, arith, inl, inr, length-append}
use Rattle.std.specs.Prelude.{flat_map}
use Rattle.std.specs.List.{enumerate_from, slice_get, sum_by}
use Rattle.std.proofs.lemmas.Bool.{cases_eq, eq-eqb, ne_eqb}
use Rattle.std.proofs.lemmas.List.Sums.{sum_by-cons}
use Rattle.std.proofs.lemmas.List.Concat.{flat_map-cons}
use Rattle.liberty_cells.specs.declared.library.Library.{Library}
use Rattle.verilog_net.specs.declared.netlist.Netlist.{Netlist}
use Rattle.sdc_read.specs.declared.constraints.Constraints.{Constraints}
use Rattle.link_rules.specs.declared.circuit.NetPins.{NetPins}
use Rattle.link_rules.specs.Arcs.{pin_arcs, arcs_of}
use Rattle.verilog_net.specs.Bits.{Bit, bits}
use Rattle.link_rules.specs.Checks.{pin_checks, flop_checks, port_checks_from, checks_of}
use Rattle.link_rules.specs.Circuit.{Numbered, numbered, net_pins, circuit_of}
use Rattle.link_rules.specs.Pins.{Connected, is_output, pins}
use Rattle.verilog_net.specs.Sound.{IsSoundNetlist}
use Rattle.link_pins.specs.declared.counts.Counts.{Counts}
use Rattle.link_pins.specs.declared.joined.Joined.{Joined}
use Rattle.link_pins.specs.Joined.{arc_count, AreCounts, AreCounted, IsJoined}
use Rattle.link_pins.specs.Rows.{outputs_in}
use Rattle.link_pins.proofs.DriverLaws.{fine_at}

module _ (library : Library) (netlist : Netlist) where
  -- how many arcs these pins have into the net of a number
  abbrev into : List Connected → Numbered → ℕ
  into cs n = length (flat_map (pin_arcs library netlist) (outputs_in n.0 cs))

  -- how many of them are one pin's
  abbrev part : Connected → Numbered → ℕ
  part c n = cond (is_output c.pin.role && c.net == n.0) (length (pin_arcs library netlist c)) 0

  into_more : (c : Connected) (cs : List Connected) (n : Numbered) → into (c ∷ cs) n ≡ part c n + into cs n
  into_more c cs n = by (is_output c.pin.role && c.net == n.0)
    where
      by : (b : Bool) → length (flat_map (pin_arcs library netlist) (cond b (c ∷ outputs_in n.0 cs) (outputs_in n.0 cs))) ≡ cond b (length (pin_arcs library netlist c)) 0 + into cs n
      by true = ap length (flat_map-cons (pin_arcs library netlist) c (outputs_in n.0 cs)) ∙ length-append (pin_arcs library netlist c) (flat_map (pin_arcs library netlist) (outputs_in n.0 cs))
      by false = omega arith

  sums_more : (c : Connected) (cs : List Connected) (ns : List Numbered) → sum_by (into (c ∷ cs)) ns ≡ sum_by (part c) ns + sum_by (into cs) ns
  sums_more c cs [] = refl
  sums_more c cs (n ∷ ns) =
      omega (arith, sum_by-cons (into (c ∷ cs)) n ns, sum_by-cons (part c) n ns, sum_by-cons (into cs) n ns, into_more c cs n, sums_more c cs ns)

  none_sum : (ns : List Numbered) → sum_by (into []) ns ≡ 0
  none_sum [] = refl
  none_sum (n ∷ ns) = omega (arith, sum_by-cons (into []) n ns, none_sum ns)

  at_none : (c : Connected) (k : ℕ) (b : Bit) → (c.net ≡ k → ⊥) → part c (k, b) ≡ 0
  at_none c k b other = ap (λ t. cond (is_output c.pin.role && t) (length (pin_arcs library netlist c)) 0) (ne_eqb c.net k other) ∙ by (is_output c.pin.role)
    where
      by : (b : Bool) → cond (b && false) (length (pin_arcs library netlist c)) 0 ≡ 0
      by true = refl
      by false = refl

  at_one : (c : Connected) (k : ℕ) (b : Bit) → c.net ≡ k → part c (k, b) ≡ arc_count library netlist c
  at_one c k b same = ap (λ t. cond (is_output c.pin.role && t) (length (pin_arcs library netlist c)) 0) (eq-eqb c.net k same) ∙ by (is_output c.pin.role)
    where
      by : (b : Bool) → cond (b && true) (length (pin_arcs library netlist c)) 0 ≡ cond b (length (pin_arcs library netlist c)) 0
      by true = refl
      by false = refl

  parts_past : (c : Connected) (bs : List Bit) (k : ℕ) → c.net < k → sum_by (part c) (enumerate_from k bs) ≡ 0
  parts_past c [] k past = refl
  parts_past c (b ∷ bs) k past =
      omega (arith, sum_by-cons (part c) (k, b) (enumerate_from (k + 1) bs), at_none c k b (λ e. absurd (omega (arith, e, past))), parts_past c bs (k + 1) (omega (arith, past)))

  parts_one : (c : Connected) (bs : List Bit) (k : ℕ) → k ≤ c.net → c.net < k + length bs → sum_by (part c) (enumerate_from k bs) ≡ arc_count library netlist c
  parts_one c [] k least most = absurd (omega (arith, least, most))
  parts_one c (b ∷ bs) k least most = elim (cases_eq c.net k) [
    | inl same ↦
        omega (arith, sum_by-cons (part c) (k, b) (enumerate_from (k + 1) bs), at_one c k b same, parts_past c bs (k + 1) (omega (arith, same)))
    | inr other ↦
        omega (arith, sum_by-cons (part c) (k, b) (enumerate_from (k + 1) bs), at_none c k b other, parts_one c bs (k + 1) (omega (arith, least, other)) (omega (arith, most)))
  ]

  pub all_sums : (bs : List Bit) (cs : List Connected) → ((i : ℕ) (c : Connected) → slice_get cs i ≡ Some c → c.net < length bs)
      → sum_by (into cs) (enumerate_from 0 bs) ≡ sum_by (arc_count library netlist) cs
  all_sums bs [] within = none_sum (enumerate_from 0 bs)
  all_sums bs (c ∷ cs) within =
      omega (
        arith,
        sums_more c cs (enumerate_from 0 bs),
        parts_one c bs 0 (omega arith) (omega (arith, within 0 c refl)),
        all_sums bs cs (λ i. within (suc i)),
        sum_by-cons (arc_count library netlist) c cs,
      )

  module _ (constraints : Constraints) where
    arcs_into : (ns : List Numbered) → sum_by (λ (p : NetPins). length p.arcs) (map (net_pins library netlist constraints) ns) ≡ sum_by (into (pins library netlist)) ns
    unfolding net_pins arcs_of
    arcs_into [] = refl
    arcs_into (n ∷ ns) =
        omega (
          arith,
          sum_by-cons (λ (p : NetPins). length p.arcs) (net_pins library netlist constraints n) (map (net_pins library netlist constraints) ns),
          sum_by-cons (into (pins library netlist)) n ns,
          arcs_into ns,
        )

    -- the numbers of arcs and check points of a circuit
    pub counts_are : (sound : IsSoundNetlist netlist) (j : Joined) (n m : Counts) → IsJoined library netlist constraints j → AreCounted library netlist (pins library netlist) n
        → m.arcs ≡ n.arcs → m.checks ≡ n.checks + length j.ports.items → AreCounts (circuit_of library netlist constraints) m
    unfolding circuit_of checks_of flop_checks
    counts_are sound j n m joined counted arcs points =
        let sum = all_sums (bits netlist.nets) (pins library netlist) (λ i c h. (fine_at library netlist sound i c h).net) in
        record {
          arcs = arcs ∙ (counted.arcs ∙ (sym sum ∙ sym (arcs_into (numbered netlist))));
          checks =
              omega (
                arith,
                points,
                counted.checks,
                ap length joined.ports,
                length-append (flat_map (pin_checks library netlist) (pins library netlist)) (port_checks_from library netlist constraints 0 (bits netlist.nets)),
              );
        }
