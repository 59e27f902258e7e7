use Rattle.std.proofs.Common.{◌≡◌, refl, ◌∙◌, ℕ, ◌+◌, ◌-◌, ◌≤◌, ◌++◌, List, [], ◌∷◌, length, take, drop, get_or, append_assoc, arith}
use Rattle.std.proofs.lemmas.List.{take_rest}
use Rattle.verilog_net.specs.declared.netlist.Wire.{Wire}
use Rattle.verilog_net.specs.declared.netlist.Wire.TheVariants.{Open, Whole}
use Rattle.hier_flatten.specs.Flat.{meant_by, next_after, meant_from}
use Rattle.hier_flatten.proofs.below.meant_of.Goals as goal

as_it_is : (next : ℕ) (wire : Wire) → (wire ≡ Open → ⊥) → (meant_by next wire ≡ wire) × (next_after next wire ≡ next)
as_it_is next Open n = absurd (n refl)
as_it_is next _ n = (refl, refl)

kept_wire : (next : ℕ) (meant rest : List Wire) (d wire : Wire) → 1 ≤ length rest → wire ≡ get_or rest 0 d → (wire ≡ Open → ⊥)
    → (meant ++ wire ∷ []) ++ meant_from next (drop 1 rest) ≡ meant ++ meant_from next rest
kept_wire next meant [] d wire h is n = absurd (omega (arith, h))
kept_wire next meant (x ∷ rest) d wire h is n =
    let same = as_it_is next x (λ e. n (is ∙ e)) in
    rw (is, same.0, same.1) (append_assoc meant (x ∷ []) (meant_from next rest))

own_net : (next : ℕ) (meant rest : List Wire) (d : Wire) → 1 ≤ length rest → get_or rest 0 d ≡ Open
    → (meant ++ Whole next ∷ []) ++ meant_from (next + 1) (drop 1 rest) ≡ meant ++ meant_from next rest
own_net next meant [] d h is = absurd (omega (arith, h))
own_net next meant (x ∷ rest) d h is = rw is (append_assoc meant (Whole next ∷ []) (meant_from (next + 1) rest))

pub wires-preserved : goal.wires-preserved
wires-preserved c =
    let rest : List Wire = c.wires.rest.now in
    let on : c.push-in_default-wire.new.self.items ++ meant_from c.wires.next (take (length rest - 1) (drop 1 rest)) ≡ c.wires.meant.items ++ meant_from c.wires.next rest =
    rw (take_rest rest 1, c.in_ok-push-in_default-wire.ensures.items)
    (kept_wire c.wires.next c.wires.meant.items rest _ _ c.in-len1-up.len_at_least refl c.in_default-wire.not-Open) in
    on ∙ c.wires.invariant

pub wires-preserved-in-Some : goal.wires-preserved-in-Some
wires-preserved-in-Some c =
    let rest : List Wire = c.wires.rest.now in
    let on : c.push.new.self.items ++ meant_from c.in-Some.after (take (length rest - 1) (drop 1 rest)) ≡ c.wires.meant.items ++ meant_from c.wires.next rest =
    rw (take_rest rest 1, c.in-Some.ensures.1, c.in_ok-push-in-Open.ensures.items)
    (own_net c.wires.next c.wires.meant.items rest _ c.in-len1-up.len_at_least c.in-Open.is) in
    on ∙ c.wires.invariant
