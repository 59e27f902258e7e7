-- The limit that a net passes, from what is counted.
use Rattle.std.proofs.Common.{◌≡◌, ℕ, ◌+◌, ◌*◌, Bool, List, length, sym, ap, ◌∙◌}
use Rattle.std.specs.Prelude.{Option, Some, filter_map}
use Rattle.std.specs.List.{All}
use Rattle.name_numbers.specs.Names.{Text}
use Rattle.elmore_tree.specs.Trees.{tap_sum}
use Rattle.link_rules.specs.declared.circuit.Sink.{Sink}
use Rattle.link_rules.specs.declared.fault.LinkFault.{LinkFault}
use Rattle.link_rules.specs.declared.fault.LinkFault.TheVariants as faults
use Rattle.link_rules.specs.Limits.{greatest_load}
use Rattle.xt_number.specs.Quantities.{IsQuantity}
use Rattle.link_rules.specs.Wires.{Wire, charges_of, tap_of, tree_by}
use Rattle.link_wires.specs.WireFaults.{limit_by, IsLimit}
use Rattle.link_wires.specs.Wires.{charge_sum, HasQuantities, IsNumbered}
use Rattle.link_wires.proofs.TreeLaws.{load_is}

pub limit_is : (nodes : List Text) (ends : List Sink) (w : Wire) → IsNumbered nodes ends w → HasQuantities w → All (λ s. IsQuantity s.cap) ends
    → (listed : Bool) (name : Text) (count load : ℕ) → count ≡ length nodes → load ≡ charge_sum (charges_of nodes ends w) + 2 * tap_sum (filter_map (tap_of nodes w) w.caps)
    → limit_by listed name count load ≡ limit_by listed name (length nodes) (greatest_load (tree_by nodes ends w))
limit_is nodes ends w numbered q caps listed name count load here counted =
    let taps : ℕ = 2 * tap_sum (filter_map (tap_of nodes w) w.caps) in
    let whole : load ≡ greatest_load (tree_by nodes ends w) = counted ∙ ap (λ m. m + taps) (sym (load_is nodes ends w numbered q caps)) in
    ap (λ m. limit_by listed name m load) here ∙ ap (λ m. limit_by listed name (length nodes) m) whole

pub fault_is : (limit : Option LinkFault) (fault : LinkFault) → limit ≡ Some fault → IsLimit limit fault
fault_is limit faults.NoMemory e = tt
fault_is limit (faults.Refused r) e = e
fault_is limit (faults.Limit what name value) e = e
