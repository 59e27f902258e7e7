use Rattle.std.proofs.Common.{◌≡◌, ◌<◌, ◌^◌, ◌∙◌, List, length, ap}
use Rattle.std.specs.Prelude.{Result, Ok, Err, IfOk}
use Rattle.std.specs.List.{All}
use Rattle.std.proofs.lemmas.List.{length-map}
use Rattle.std.specs.declared.alloc.AllocError.{AllocError}
use Rattle.xt_model.specs.declared.net.Coupling.{Coupling}
use Rattle.xt_model.specs.declared.net.Net.{Net}
use Rattle.xt_model.specs.Names.{IsName}
use Rattle.elmore_tree.specs.declared.form.WireForm.{WireForm}
use Rattle.elmore_tree.specs.Forms.{IsFormOf}
use Rattle.elmore_tree.specs.Sums.{IsSinkSums, sink_sums}
use Rattle.link_rules.specs.declared.circuit.NetPins.{NetPins}
use Rattle.link_wires.specs.declared.wire.NetWire.{NetWire}
use Rattle.design_link.specs.Nets.{net_by, IsMade}
use Rattle.design_link.proofs.nets.net_of.Goals as goal

-- a net that is made of the form of its wire
made : (r : Result Net AllocError) (p : NetPins) (w : NetWire) (couplings : List Coupling) (form : WireForm) → couplings ≡ w.couplings → IsFormOf w.tree form
    → IfOk r (λ n. n ≡ net_by p couplings form) → IfOk r (λ _. All IsSinkSums form.sinks) → IfOk r (λ _. IsName p.name) → IfOk r (λ _. length p.sinks < 2 ^ 32)
    → IfOk r (IsMade p w)
made (Ok n) p w couplings form same formed is sums name few =
    record { form = form; formed = record { form = formed; sums = sums }; is = is ∙ ap (λ l. net_by p l form) same; name = name; few = few }
made (Err e) p w couplings form same formed is sums name few = tt

pub form-requires : goal.form-requires
form-requires c = c.requires.accepted

pub formed_net-requires : goal.formed_net-requires
formed_net-requires c =
    let f = c.in_ok-form.ensures in
    let by = f.sums f.paths.0 f.paths.1 in
    ap length by.sinks ∙ (length-map c.args.wire.tree.sinks (sink_sums c.args.wire.tree f.paths.0) ∙ c.requires.sinks)

pub returns : goal.returns
returns c =
    let n = c.formed_net.ensures in
    made c.formed_net.result c.args.pins c.args.wire c.into_couplings-couplings.result c.in_ok-form.form c.into_couplings-couplings.ensures c.in_ok-form.ensures n.is n.sums n.name n.few
