use Rattle.std.proofs.Common.{◌∙◌, refl, get_or}
use Rattle.link_rules.specs.Wires.{coupling_of}
use Rattle.link_wires.specs.Seen.{cap_by}
use Rattle.link_wires.proofs.NodeLaws.{mapped_turn, no_cap}
use Rattle.link_wires.proofs.charges.couplings_of.Goals as goal

pub caps-preserved : goal.caps-preserved
caps-preserved c = λ p.
    mapped_turn (cap_by p) coupling_of c.caps.caps.now no_cap (get_or c.caps.caps.now 0 no_cap) c.caps.couplings.items c.add_coupling.new.couplings.items
    c.in-len1-up.len_at_least refl (c.in_ok-add_coupling.ensures p)
    ∙ c.caps.invariant p
