use Rattle.std.proofs.Common.{◌≡◌, refl, length, sym, subst, Err, None}
use Rattle.std.specs.List.{sum_by}
use Rattle.std.proofs.lemmas.Result.{err_from_is_err_and}
use Rattle.xt_model.specs.Sound.{coefficients_of}
use Rattle.liberty_cells.specs.declared.library.Library.{Library}
use Rattle.verilog_net.specs.declared.netlist.Netlist.{Netlist}
use Rattle.link_rules.specs.Bare.{Inputs}
use Rattle.link_rules.specs.Link.{Links}
use Rattle.link_pins.specs.Answers.{IsFound}
use Rattle.link_pins.specs.Joined.{HasPins, AreCounts}
use Rattle.design_link.specs.Sizes.{plain_nets, couplings_sum, sizes_fault}
use Rattle.design_link.proofs.GatherLaws.{told_at, wires_count, sizes_stop, circuit_count, circuit_few, reads_stop, gathered}
use Rattle.design_link.proofs.gathering.gather_by.Goals as goal

pub count-requires : goal.count-requires
count-requires c = subst (λ (n : Netlist). HasPins c.args.cells.now n c.in_ok-joined.joined) (sym c.into_bits-bits.ensures) c.in_ok-joined.ensures.ok.joined.pins

pub check_sizes-requires : goal.check_sizes-requires
check_sizes-requires c =
    let x : Inputs = record { library = c.args.cells.now; netlist = c.args.index; parasitics = c.args.parasitics.now; constraints = c.args.constraints.now } in
    let w = c.in_ok-joined.ensures.ok in
    wires_count x c.in_ok-joined.joined c.nets-nets.result.now c.nets-nets.ensures w.joined w.accepted c.in_ok-joined.wires.items c.deref.result.now w.wires c.deref.ensures.value

pub finish-requires : goal.finish-requires
finish-requires c = subst (λ (n : Netlist). HasPins c.args.cells.now n c.in_ok-joined.joined) (sym c.into_bits-bits.ensures) c.in_ok-joined.ensures.ok.joined.pins

pub check_reads-requires-clause-count : goal.check_reads-requires-clause-count
check_reads-requires-clause-count c =
    let x : Inputs = record { library = c.args.cells.now; netlist = c.args.index; parasitics = c.args.parasitics.now; constraints = c.args.constraints.now } in
    let w = c.in_ok-joined.ensures.ok in
    let counted = told_at c.args.cells.now c.into_bits-bits.result c.args.index c.args.constraints.now c.in_ok-joined.joined (λ k. AreCounts k c.in_ok-counts.counts) c.into_bits-bits.ensures c.in_ok-counts.ensures w.joined in
    let none = subst (λ (l : Library). sizes_fault (couplings_sum c.deref.result.now) (sum_by coefficients_of (plain_nets c.nets-nets.result.now c.deref.result.now)) c.in_ok-counts.counts.arcs (length l.tables) c.in_ok-counts.counts.checks ≡ None) c.library.ensures c.in_ok-check_sizes.ensures in
    let circuit = told_at c.args.cells.now c.into_bits-bits.result c.args.index c.args.constraints.now c.in_ok-joined.joined (λ k. c.in_ok-circuit.circuit ≡ k) c.into_bits-bits.ensures c.in_ok-circuit.ensures w.joined in
    circuit_count x c.in_ok-joined.joined c.nets-nets.result.now c.nets-nets.ensures w.joined w.accepted c.in_ok-joined.wires.items c.deref.result.now w.wires c.deref.ensures.value c.in_ok-counts.counts counted none c.in_ok-circuit.circuit circuit c.as_slice.result.now c.as_slice.ensures c.deref-2.result.now c.deref-2.ensures.value

pub check_reads-requires-clause-few : goal.check_reads-requires-clause-few
check_reads-requires-clause-few c =
    let x : Inputs = record { library = c.args.cells.now; netlist = c.args.index; parasitics = c.args.parasitics.now; constraints = c.args.constraints.now } in
    let w = c.in_ok-joined.ensures.ok in
    let counted = told_at c.args.cells.now c.into_bits-bits.result c.args.index c.args.constraints.now c.in_ok-joined.joined (λ k. AreCounts k c.in_ok-counts.counts) c.into_bits-bits.ensures c.in_ok-counts.ensures w.joined in
    let none = subst (λ (l : Library). sizes_fault (couplings_sum c.deref.result.now) (sum_by coefficients_of (plain_nets c.nets-nets.result.now c.deref.result.now)) c.in_ok-counts.counts.arcs (length l.tables) c.in_ok-counts.counts.checks ≡ None) c.library.ensures c.in_ok-check_sizes.ensures in
    let circuit = told_at c.args.cells.now c.into_bits-bits.result c.args.index c.args.constraints.now c.in_ok-joined.joined (λ k. c.in_ok-circuit.circuit ≡ k) c.into_bits-bits.ensures c.in_ok-circuit.ensures w.joined in
    circuit_few x c.in_ok-joined.joined c.nets-nets.result.now c.nets-nets.ensures w.joined w.accepted c.in_ok-joined.wires.items c.deref.result.now w.wires c.deref.ensures.value c.in_ok-counts.counts counted none c.in_ok-circuit.circuit circuit c.as_slice.result.now c.as_slice.ensures

pub returns-in_err-check_sizes-clause-fault : goal.returns-in_err-check_sizes-clause-fault
returns-in_err-check_sizes-clause-fault c =
    let x : Inputs = record { library = c.args.cells.now; netlist = c.args.index; parasitics = c.args.parasitics.now; constraints = c.args.constraints.now } in
    let w = c.in_ok-joined.ensures.ok in
    let counted = told_at c.args.cells.now c.into_bits-bits.result c.args.index c.args.constraints.now c.in_ok-joined.joined (λ k. AreCounts k c.in_ok-counts.counts) c.into_bits-bits.ensures c.in_ok-counts.ensures w.joined in
    let found = subst (λ (l : Library). IsFound (sizes_fault (couplings_sum c.deref.result.now) (sum_by coefficients_of (plain_nets c.nets-nets.result.now c.deref.result.now)) c.in_ok-counts.counts.arcs (length l.tables) c.in_ok-counts.counts.checks) c.in_err-check_sizes.field-0.0)
    c.library.ensures c.in_err-check_sizes.ensures in
    let h : Links x (Err c.in_err-check_sizes.field-0.0) = sizes_stop x c.in_ok-joined.joined c.nets-nets.result.now c.nets-nets.ensures w.joined w.accepted c.in_ok-joined.wires.items c.deref.result.now w.wires c.deref.ensures.value c.in_ok-counts.counts counted c.in_err-check_sizes.field-0.0 found in
    let p = err_from_is_err_and c.from_residual-in_err-check_sizes.result c.from_residual-in_err-check_sizes.ensures.1 in
    rw (p.1, p.2) h

pub returns-in_err-check_reads-clause-fault : goal.returns-in_err-check_reads-clause-fault
returns-in_err-check_reads-clause-fault c =
    let x : Inputs = record { library = c.args.cells.now; netlist = c.args.index; parasitics = c.args.parasitics.now; constraints = c.args.constraints.now } in
    let w = c.in_ok-joined.ensures.ok in
    let counted = told_at c.args.cells.now c.into_bits-bits.result c.args.index c.args.constraints.now c.in_ok-joined.joined (λ k. AreCounts k c.in_ok-counts.counts) c.into_bits-bits.ensures c.in_ok-counts.ensures w.joined in
    let none = subst (λ (l : Library). sizes_fault (couplings_sum c.deref.result.now) (sum_by coefficients_of (plain_nets c.nets-nets.result.now c.deref.result.now)) c.in_ok-counts.counts.arcs (length l.tables) c.in_ok-counts.counts.checks ≡ None) c.library.ensures c.in_ok-check_sizes.ensures in
    let circuit = told_at c.args.cells.now c.into_bits-bits.result c.args.index c.args.constraints.now c.in_ok-joined.joined (λ k. c.in_ok-circuit.circuit ≡ k) c.into_bits-bits.ensures c.in_ok-circuit.ensures w.joined in
    let h : Links x (Err c.in_err-check_reads.field-0.0) = reads_stop x c.in_ok-joined.joined c.nets-nets.result.now c.nets-nets.ensures w.joined w.accepted c.in_ok-joined.wires.items c.deref.result.now w.wires c.deref.ensures.value c.in_ok-counts.counts counted none c.in_ok-circuit.circuit circuit c.as_slice.result.now c.as_slice.ensures c.deref-2.result.now c.deref-2.ensures.value c.in_err-check_reads.field-0.0 c.in_err-check_reads.ensures in
    let p = err_from_is_err_and c.from_residual-in_err-check_reads.result c.from_residual-in_err-check_reads.ensures.1 in
    rw (p.1, p.2) h

pub returns-clause-ok : goal.returns-clause-ok
returns-clause-ok c =
    let x : Inputs = record { library = c.args.cells.now; netlist = c.args.index; parasitics = c.args.parasitics.now; constraints = c.args.constraints.now } in
    let w = c.in_ok-joined.ensures.ok in
    let counted = told_at c.args.cells.now c.into_bits-bits.result c.args.index c.args.constraints.now c.in_ok-joined.joined (λ k. AreCounts k c.in_ok-counts.counts) c.into_bits-bits.ensures c.in_ok-counts.ensures w.joined in
    let none = subst (λ (l : Library). sizes_fault (couplings_sum c.deref.result.now) (sum_by coefficients_of (plain_nets c.nets-nets.result.now c.deref.result.now)) c.in_ok-counts.counts.arcs (length l.tables) c.in_ok-counts.counts.checks ≡ None) c.library.ensures c.in_ok-check_sizes.ensures in
    let circuit = told_at c.args.cells.now c.into_bits-bits.result c.args.index c.args.constraints.now c.in_ok-joined.joined (λ k. c.in_ok-circuit.circuit ≡ k) c.into_bits-bits.ensures c.in_ok-circuit.ensures w.joined in
    gathered x c.in_ok-joined.joined c.nets-nets.result.now c.nets-nets.ensures w.joined w.accepted c.in_ok-joined.wires.items c.deref.result.now w.wires c.deref.ensures.value c.in_ok-counts.counts counted none c.in_ok-circuit.circuit circuit c.as_slice.result.now c.as_slice.ensures c.deref-2.result.now c.deref-2.ensures.value c.in_ok-check_reads.ensures (record { circuit = c.in_ok-circuit.circuit; wires = c.in_ok-joined.wires }) refl refl
