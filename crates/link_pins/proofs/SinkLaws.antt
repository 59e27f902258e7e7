-- The sinks of nets, one pin after another.
use Rattle.std.proofs.Common.{◌≡◌, ◌≢◌, ℕ, ◌+◌, ◌<◌, ◌≤◌, ◌==◌, ◌&&◌, Bool, true, false, cond, List, [], ◌∷◌, ◌++◌, length, map, take, set, get_or, Some, refl, sym, ap, ◌∙◌, arith, inl, inr}
use Rattle.std.specs.Prelude.{filter}
use Rattle.std.specs.List.{slice_get}
use Rattle.std.proofs.lemmas.Bool.{cases_eq, eq-eqb, ne_eqb}
use Rattle.std.proofs.lemmas.List.{append-nil, map-append, length-set, length-map, length_push, get_or_push, get_or_append_left}
use Rattle.std.proofs.lemmas.List.Elements.{filter-append}
use Rattle.std.proofs.lemmas.Option.{slice_get_within, slice_get-get_or, get_or_from_slice_get, same_Some}
use Rattle.liberty_cells.specs.declared.library.Library.{Library}
use Rattle.verilog_net.specs.declared.netlist.Netlist.{Netlist}
use Rattle.verilog_net.specs.Nets.{Nets}
use Rattle.sdc_read.specs.declared.constraints.Constraints.{Constraints}
use Rattle.verilog_net.specs.Bits.{Bit, bits}
use Rattle.link_rules.specs.declared.circuit.Sink.{Sink}
use Rattle.link_rules.specs.Circuit.{pin_sink, port_sinks, sinks_of}
use Rattle.link_rules.specs.Pins.{Connected, is_input, pins}
use Rattle.link_pins.specs.declared.sinks.NetSinks.{NetSinks}
use Rattle.link_pins.specs.Rows.{inputs_in, sinks_by, ArePinSinks}
use Rattle.link_pins.proofs.DriverLaws.{set_there, set_elsewhere}
use Rattle.link_pins.proofs.PinLaws.{take_next}

module _ (cs : List Connected) (k : ℕ) (c : Connected) (at : slice_get cs k ≡ Some c) where
  inputs_more : (net : ℕ) → inputs_in net (take (k + 1) cs) ≡ inputs_in net (take k cs) ++ inputs_in net (c ∷ [])
  inputs_more net =
      ap (inputs_in net) (take_next k cs c at) ∙ filter-append (λ d. is_input d.pin.role && d.net == net) (take k cs) (c ∷ [])

  -- on its own net it is a sink where it is an input pin
  sinks_here : sinks_by (take (k + 1) cs) c.net ≡ sinks_by (take k cs) c.net ++ map pin_sink (filter (λ d. is_input d.pin.role) (c ∷ []))
  sinks_here =
      let test : (is_input c.pin.role && c.net == c.net) ≡ is_input c.pin.role = rw (eq-eqb c.net c.net refl) (by (is_input c.pin.role)) in
      ap (map pin_sink) (inputs_more c.net ∙ ap (λ t. inputs_in c.net (take k cs) ++ cond t (c ∷ []) []) test)
      ∙ map-append pin_sink (inputs_in c.net (take k cs)) (filter (λ d. is_input d.pin.role) (c ∷ []))
    where
      by : (t : Bool) → (t && true) ≡ t
      by true = refl
      by false = refl

  sinks_elsewhere : (net : ℕ) → c.net ≢ net → sinks_by (take (k + 1) cs) net ≡ sinks_by (take k cs) net
  sinks_elsewhere net other =
      let test : (is_input c.pin.role && c.net == net) ≡ false = rw (ne_eqb c.net net other) (by (is_input c.pin.role)) in
      ap (map pin_sink) (inputs_more net ∙ ap (λ t. inputs_in net (take k cs) ++ cond t (c ∷ []) []) test ∙ append-nil (inputs_in net (take k cs)))
    where
      by : (t : Bool) → (t && false) ≡ false
      by true = refl
      by false = refl

  -- a pin is added to the sinks of its net
  pub sink_added : (nets : Nets) (old : List NetSinks) (row new : NetSinks) → ArePinSinks nets (take k cs) old → slice_get old c.net ≡ Some row
      → new.sinks.items ≡ row.sinks.items ++ map pin_sink (filter (λ d. is_input d.pin.role) (c ∷ [])) → ArePinSinks nets (take (k + 1) cs) (set old c.net new)
  sink_added nets old row new are there adds = record {
    count = length-set old c.net new ∙ are.count;
    each = λ net e h. elim (cases_eq net c.net) [
      | inl same ↦
          let here : slice_get (set old c.net new) c.net ≡ Some e = rw same at h in
          let is : new ≡ e = set_there old c.net new e (slice_get_within old c.net row there) here in
          let now : new.sinks.items ≡ sinks_by (take (k + 1) cs) c.net =
          adds ∙ ap (λ l. l ++ map pin_sink (filter (λ d. is_input d.pin.role) (c ∷ []))) (are.each c.net row there) ∙ sym sinks_here in
          ap (λ (r : NetSinks). r.sinks.items) (sym is) ∙ now ∙ ap (sinks_by (take (k + 1) cs)) (sym same)
      | inr other ↦ are.each net e (set_elsewhere old c.net net new e other h) ∙ sym (sinks_elsewhere net (λ q. other (sym q)))
    ];
  }

-- how many sinks there are before a pin
pub place_is : (cs : List Connected) (net : ℕ) (items : List Sink) (place : ℕ) → items ≡ sinks_by cs net → place ≡ length items → place ≡ length (inputs_in net cs)
place_is cs net items place is len = len ∙ ap length is ∙ length-map (inputs_in net cs) pin_sink

-- nets without sinks, and one more
pub empty_more : (old new : List NetSinks) (row : NetSinks) → new ≡ old ++ row ∷ [] → row.sinks.items ≡ []
    → ((net : ℕ) (r : NetSinks) → slice_get old net ≡ Some r → r.sinks.items ≡ []) → (net : ℕ) (r : NetSinks) → slice_get new net ≡ Some r → r.sinks.items ≡ []
empty_more old new row push none each net r h =
    let at : slice_get (old ++ row ∷ []) net ≡ Some r = rw push at h in
    let within : net < length (old ++ row ∷ []) = slice_get_within (old ++ row ∷ []) net r at in
    let size : length (old ++ row ∷ []) ≡ length old + 1 = length_push old row in
    let got : get_or (old ++ row ∷ []) net r ≡ r = get_or_from_slice_get (old ++ row ∷ []) net r r at in
    elim (cases_eq net (length old)) [
      | inl same ↦
          let is : row ≡ r = sym (get_or_push old row r net (sym same)) ∙ got in
          ap (λ (x : NetSinks). x.sinks.items) (sym is) ∙ none
      | inr other ↦
          let lt : net < length old = omega arith in
          let before : get_or old net r ≡ r = sym (get_or_append_left old (row ∷ []) r net lt) ∙ got in
          each net r (slice_get-get_or old net r lt ∙ ap Some before)
    ]

-- a place more
pub places_more : (cs : List Connected) (idx : ℕ) (c : Connected) (old new : List ℕ) (place : ℕ) → slice_get cs idx ≡ Some c → length old ≡ idx → new ≡ old ++ place ∷ []
    → place ≡ length (inputs_in c.net (take idx cs))
    → ((k : ℕ) (d : Connected) → k < idx → slice_get cs k ≡ Some d → get_or old k 0 ≡ length (inputs_in d.net (take k cs)))
    → (k : ℕ) (d : Connected) → k < idx + 1 → slice_get cs k ≡ Some d → get_or new k 0 ≡ length (inputs_in d.net (take k cs))
places_more cs idx c old new place at len push is each k d lt h =
    elim (cases_eq k idx) [
      | inl same ↦
          let there : slice_get cs idx ≡ Some d = rw same at h in
          let one : c ≡ d = same_Some c d (sym at ∙ there) in
          let got : get_or new k 0 ≡ place = ap (λ (l : List ℕ). get_or l k 0) push ∙ get_or_push old place 0 k (len ∙ sym same) in
          got ∙ is ∙ ap (λ (x : Connected). length (inputs_in x.net (take idx cs))) one ∙ ap (λ n. length (inputs_in d.net (take n cs))) (sym same)
      | inr other ↦
          let before : k < length old = omega arith in
          ap (λ (l : List ℕ). get_or l k 0) push ∙ get_or_append_left old (place ∷ []) 0 k before ∙ each k d (omega arith) h
    ]

-- the port of one net more
module _ (library : Library) (netlist : Netlist) (constraints : Constraints) (net : ℕ) (b : Bit) (at : slice_get (bits netlist.nets) net ≡ Some b) (old : List NetSinks) (row new : NetSinks)
    (there : slice_get old net ≡ Some row) where
  pub ports_done : row.sinks.items ≡ sinks_by (pins library netlist) net → new.sinks.items ≡ row.sinks.items ++ port_sinks library netlist constraints b b.role
      → ((i : ℕ) (e : Bit) (r : NetSinks) → i < net → slice_get (bits netlist.nets) i ≡ Some e → slice_get old i ≡ Some r → r.sinks.items ≡ sinks_of library netlist constraints (i, e))
      → (i : ℕ) (e : Bit) (r : NetSinks) → i < net + 1 → slice_get (bits netlist.nets) i ≡ Some e → slice_get (set old net new) i ≡ Some r → r.sinks.items ≡ sinks_of library netlist constraints (i, e)
  ports_done is adds each i e r lt bit h =
      elim (cases_eq i net) [
        | inl same ↦
            let here : slice_get (set old net new) net ≡ Some r = rw same at h in
            let one : new ≡ r = set_there old net new r (slice_get_within old net row there) here in
            let bit_here : slice_get (bits netlist.nets) net ≡ Some e = rw same at bit in
            let same_bit : b ≡ e = same_Some b e (sym at ∙ bit_here) in
            let now : new.sinks.items ≡ sinks_of library netlist constraints (net, b) = adds ∙ ap (λ l. l ++ port_sinks library netlist constraints b b.role) is in
            ap (λ (x : NetSinks). x.sinks.items) (sym one) ∙ now ∙ ap (λ (x : Bit). sinks_of library netlist constraints (net, x)) same_bit ∙ ap (λ n. sinks_of library netlist constraints (n, e)) (sym same)
        | inr other ↦ each i e r (omega arith) bit (set_elsewhere old net i new r other h)
      ]

  pub ports_left : ((i : ℕ) (r : NetSinks) → net ≤ i → slice_get old i ≡ Some r → r.sinks.items ≡ sinks_by (pins library netlist) i)
      → (i : ℕ) (r : NetSinks) → net + 1 ≤ i → slice_get (set old net new) i ≡ Some r → r.sinks.items ≡ sinks_by (pins library netlist) i
  ports_left each i r le h =
      let other : i ≢ net = λ e. absurd (omega (arith, e)) in
      each i r (omega arith) (set_elsewhere old net i new r other h)
