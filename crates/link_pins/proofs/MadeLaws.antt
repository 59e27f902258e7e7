-- Nets that are made of what was gathered for them, one after another.
use Rattle.std.proofs.Common.{◌≡◌, ℕ, suc, ◌+◌, ◌<◌, ◌≤◌, List, [], ◌∷◌, ◌++◌, length, map, take, drop, get_or, Some, refl, sym, ap, ◌∙◌, arith}
use Rattle.std.specs.Prelude.{flat_map}
use Rattle.std.specs.List.{enumerate_from, slice_get}
use Rattle.std.proofs.lemmas.List.{length-map, map-append, drop_more, take_all}
use Rattle.std.proofs.lemmas.List.FromFn.{length-enumerate_from, get_or-enumerate_from}
use Rattle.std.proofs.lemmas.Option.{slice_get_within, slice_get-get_or, get_or_from_slice_get}
use Rattle.liberty_cells.specs.declared.library.Library.{Library}
use Rattle.verilog_net.specs.declared.netlist.Netlist.{Netlist}
use Rattle.sdc_read.specs.declared.constraints.Constraints.{Constraints}
use Rattle.xt_model.specs.declared.net.TimingArc.{TimingArc}
use Rattle.link_rules.specs.declared.circuit.Circuit.{Circuit}
use Rattle.link_rules.specs.declared.circuit.NetPins.{NetPins}
use Rattle.link_rules.specs.Arcs.{pin_arcs, arcs_of}
use Rattle.verilog_net.specs.Bits.{Bit, bits}
use Rattle.link_rules.specs.Checks.{pin_checks, flop_checks, port_checks_from, checks_of}
use Rattle.link_rules.specs.Circuit.{Numbered, numbered, first_of, drivers_of, sinks_of, net_pins, circuit_of}
use Rattle.link_rules.specs.Given.{given_of, is_input_port}
use Rattle.link_rules.specs.Pins.{pins}
use Rattle.link_pins.specs.declared.timings.NetArcs.{NetArcs}
use Rattle.link_pins.specs.Joined.{without_arcs, with_rows}
use Rattle.link_pins.specs.Rows.{outputs_in, HaveArcs}
use Rattle.link_pins.proofs.PinLaws.{take_next}

-- an item that is taken from the front of what is left of a list
pub taken : {X : Type 0} (xs : List X) (n : ℕ) (x : X) (rest : List X) → n < length xs → x ∷ rest ≡ drop n xs
    → (slice_get xs n ≡ Some x) × (rest ≡ drop (n + 1) xs)
taken xs n x rest lt e =
    let both : x ∷ rest ≡ get_or xs n x ∷ drop (n + 1) xs = e ∙ drop_more xs n x lt in
    let first : x ≡ get_or xs n x = cc in
    let left : rest ≡ drop (n + 1) xs = cc in
    (slice_get-get_or xs n x lt ∙ ap Some (sym first), left)

module _ (library : Library) (netlist : Netlist) (constraints : Constraints) where
  -- a net without the arcs into it
  abbrev pub bare_pins : Numbered → NetPins
  bare_pins n = without_arcs (net_pins library netlist constraints n)

  -- a net by its parts
  pub made_so : (net : ℕ) (b : Bit) (p : NetPins) → p.name ≡ b.name → p.input ≡ is_input_port b.role → p.given ≡ given_of constraints b
      → p.driver ≡ first_of (drivers_of library netlist (net, b)) → p.sinks ≡ sinks_of library netlist constraints (net, b) → p.arcs ≡ [] → p ≡ bare_pins (net, b)
  unfolding net_pins
  made_so net b p name input given driver sinks arcs =
      let e : ◌≡◌ {A = NetPins}
      (record { name = p.name; input = p.input; given = p.given; driver = p.driver; sinks = p.sinks; arcs = p.arcs })
      (record {
        name = b.name;
        input = is_input_port b.role;
        given = given_of constraints b;
        driver = first_of (drivers_of library netlist (net, b));
        sinks = sinks_of library netlist constraints (net, b);
        arcs = [];
      }) = rw (name, input, given, driver, sinks, arcs) refl in
      e

  numbered_at : (net : ℕ) (b : Bit) → slice_get (bits netlist.nets) net ≡ Some b → slice_get (numbered netlist) net ≡ Some (net, b)
  numbered_at net b at =
      let within : net < length (bits netlist.nets) = slice_get_within (bits netlist.nets) net b at in
      let len : length (numbered netlist) ≡ length (bits netlist.nets) = length-enumerate_from 0 (bits netlist.nets) in
      slice_get-get_or (numbered netlist) net (net, b) (omega (arith, within, len))
      ∙ ap Some (get_or-enumerate_from 0 (bits netlist.nets) net (net, b) within ∙ ap (λ k. (k, get_or (bits netlist.nets) net b)) (omega arith)
      ∙ ap (λ (x : Bit). (net, x)) (get_or_from_slice_get (bits netlist.nets) net b b at))

  -- a net more
  pub made_more : (net : ℕ) (b : Bit) (p : NetPins) (old new : List NetPins) → slice_get (bits netlist.nets) net ≡ Some b → p ≡ bare_pins (net, b)
      → new ≡ old ++ p ∷ [] → old ≡ map bare_pins (take net (numbered netlist)) → new ≡ map bare_pins (take (net + 1) (numbered netlist))
  made_more net b p old new at is push so_far =
      push ∙ (ap (λ l. l ++ p ∷ []) so_far
      ∙ (ap (λ (x : NetPins). map bare_pins (take net (numbered netlist)) ++ x ∷ []) is
      ∙ (sym (map-append bare_pins (take net (numbered netlist)) ((net, b) ∷ []))
      ∙ ap (map bare_pins) (sym (take_next net (numbered netlist) (net, b) (numbered_at net b at))))))

  pub made_all : (net : ℕ) (made : List NetPins) → length (bits netlist.nets) ≤ net → made ≡ map bare_pins (take net (numbered netlist)) → made ≡ map bare_pins (numbered netlist)
  made_all net made past so_far =
      let len : length (numbered netlist) ≡ length (bits netlist.nets) = length-enumerate_from 0 (bits netlist.nets) in
      so_far ∙ ap (map bare_pins) (take_all net (numbered netlist) (omega (arith, past, len)))

  -- the nets of the circuit without their arcs
  pub bare_so : (made : List NetPins) → made ≡ map bare_pins (numbered netlist) → made ≡ map without_arcs (circuit_of library netlist constraints).nets
  unfolding circuit_of
  bare_so made is = is ∙ by (numbered netlist)
    where
      by : (ns : List Numbered) → map bare_pins ns ≡ map without_arcs (map (net_pins library netlist constraints) ns)
      by [] = refl
      by (n ∷ ns) = ap (λ l. bare_pins n ∷ l) (by ns)

  pub bare_count : (made : List NetPins) → made ≡ map bare_pins (numbered netlist) → length made ≡ length (bits netlist.nets)
  bare_count made is = ap length is ∙ (length-map (numbered netlist) bare_pins ∙ length-enumerate_from 0 (bits netlist.nets))

  -- with them again
  rows_so : (bs : List Bit) (k : ℕ) (rows : List NetArcs) → length rows ≡ length bs
      → ((i : ℕ) (row : NetArcs) → slice_get rows i ≡ Some row → row.arcs.items ≡ flat_map (pin_arcs library netlist) (outputs_in (k + i) (pins library netlist)))
      → with_rows (map without_arcs (map (net_pins library netlist constraints) (enumerate_from k bs))) rows ≡ map (net_pins library netlist constraints) (enumerate_from k bs)
  unfolding net_pins arcs_of
  rows_so [] k rows count each = refl
  rows_so (b ∷ bs) k [] count each = absurd (omega (arith, count))
  rows_so (b ∷ bs) k (r ∷ rows) count each =
      let with : List TimingArc → NetPins = λ arcs. record (net_pins library netlist constraints (k, b)) { arcs = arcs } in
      let here : r.arcs.items ≡ flat_map (pin_arcs library netlist) (outputs_in k (pins library netlist)) =
      each 0 r refl ∙ ap (λ n. flat_map (pin_arcs library netlist) (outputs_in n (pins library netlist))) (omega arith) in
      ap (λ arcs. with arcs ∷ with_rows (map without_arcs (map (net_pins library netlist constraints) (enumerate_from (k + 1) bs))) rows) here
      ∙ ap (λ l. net_pins library netlist constraints (k, b) ∷ l)
      (rows_so bs (k + 1) rows (omega (arith, count)) (λ i row h. each (suc i) row h ∙ ap (λ n. flat_map (pin_arcs library netlist) (outputs_in n (pins library netlist))) (omega arith)))

  pub filled_so : (bare : List NetPins) (rows : List NetArcs) → bare ≡ map without_arcs (circuit_of library netlist constraints).nets → HaveArcs library netlist (pins library netlist) rows
      → with_rows bare rows ≡ map (net_pins library netlist constraints) (numbered netlist)
  unfolding circuit_of
  filled_so bare rows is have =
      ap (λ l. with_rows l rows) is
      ∙ rows_so (bits netlist.nets) 0 rows have.count
      (λ i row h. have.each i row h ∙ ap (λ n. flat_map (pin_arcs library netlist) (outputs_in n (pins library netlist))) (omega arith))

  -- the nets and the check points together
  pub circuit_so : (c : Circuit) → c.nets ≡ map (net_pins library netlist constraints) (numbered netlist)
      → c.checks ≡ flat_map (pin_checks library netlist) (pins library netlist) ++ port_checks_from library netlist constraints 0 (bits netlist.nets)
      → c ≡ circuit_of library netlist constraints
  unfolding circuit_of checks_of flop_checks
  circuit_so c nets checks =
      let e : ◌≡◌ {A = Circuit} (record { nets = c.nets; checks = c.checks }) (record {
        nets = map (net_pins library netlist constraints) (numbered netlist);
        checks = flat_map (pin_checks library netlist) (pins library netlist) ++ port_checks_from library netlist constraints 0 (bits netlist.nets);
      }) = rw (nets, checks) refl in
      e
