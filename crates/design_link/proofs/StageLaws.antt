-- Sizes are tested one after another.
use Rattle.std.specs.Prelude.{◌≡◌, ℕ, length, Option, Some, None, Result}
use Rattle.std.specs.List.{sum_by}
use Rattle.std.proofs.Common.{refl, sym, ap, ◌∙◌, subst}
use Rattle.xt_model.specs.declared.net.Net.{Net}
use Rattle.xt_model.specs.declared.fault.LimitKind.TheVariants as limits
use Rattle.xt_model.specs.Limits.{most_tables, most_checks, most_couplings, most_coefficients, most_arcs}
use Rattle.xt_model.specs.Parts.{Parts}
use Rattle.xt_model.specs.Sound.{coefficients_of}
use Rattle.link_rules.specs.declared.fault.LinkFault.{LinkFault}
use Rattle.link_rules.specs.declared.fault.LinkFault.TheVariants as faults
use Rattle.link_rules.specs.Limits.{or_fault, passed, size_fault}
use Rattle.link_pins.specs.Answers.{IsFound, Tests}
use Rattle.design_link.specs.Sizes.{sizes_fault, reads_fault}
use Rattle.design_link.proofs.SizeLaws.{size_fault_is}

-- a fault that is found is the first
pub found_first : (a b : Option LinkFault) (f : LinkFault) → IsFound a f → IsFound (or_fault a b) f
found_first a b faults.NoMemory h = tt
found_first a b (faults.Refused r) h = ap (λ o. or_fault o b) h
found_first a b (faults.Limit what name value) h = ap (λ o. or_fault o b) h

-- a test behind one that found nothing
pub behind : {A : Type 0} (a b : Option LinkFault) (r : Result A LinkFault) → a ≡ None → Tests b r → Tests (or_fault a b) r
behind a b r none h = subst (λ o. Tests (or_fault o b) r) (sym none) h

pub found_behind : (a b : Option LinkFault) (f : LinkFault) → a ≡ None → IsFound b f → IsFound (or_fault a b) f
found_behind a b f none h = subst (λ o. IsFound (or_fault o b) f) (sym none) h

or_assoc : (a b c : Option LinkFault) → or_fault a (or_fault b c) ≡ or_fault (or_fault a b) c
or_assoc None b c = refl
or_assoc (Some f) b c = refl

-- the reads come last
pub reads_last : (d : Parts) → size_fault d
    ≡ or_fault (sizes_fault (sum_by (λ (n : Net). length n.couplings) d.nets) (sum_by coefficients_of d.nets) (sum_by (λ (n : Net). length n.arcs) d.nets) (length d.tables) (length d.checks))
    (reads_fault d)
reads_last d =
    let couplings : Option LinkFault = passed limits.Couplings None (sum_by (λ (n : Net). length n.couplings) d.nets) most_couplings in
    let coefficients : Option LinkFault = passed limits.Coefficients None (sum_by coefficients_of d.nets) most_coefficients in
    let arcs : Option LinkFault = passed limits.Arcs None (sum_by (λ (n : Net). length n.arcs) d.nets) most_arcs in
    let tables : Option LinkFault = passed limits.Tables None (length d.tables) most_tables in
    let checks : Option LinkFault = passed limits.Checks None (length d.checks) most_checks in
    size_fault_is d
    ∙ (ap (λ o. or_fault couplings (or_fault coefficients (or_fault arcs o))) (or_assoc tables checks (reads_fault d))
    ∙ (ap (λ o. or_fault couplings (or_fault coefficients o)) (or_assoc arcs (or_fault tables checks) (reads_fault d))
    ∙ (ap (or_fault couplings) (or_assoc coefficients (or_fault arcs (or_fault tables checks)) (reads_fault d))
    ∙ or_assoc couplings (or_fault coefficients (or_fault arcs (or_fault tables checks))) (reads_fault d))))

-- equal numbers pass the same limit
pub sizes_same : (a b c t h v w u k : ℕ) → a ≡ v → b ≡ w → c ≡ u → h ≡ k → sizes_fault a b c t h ≡ sizes_fault v w u t k
sizes_same a b c t h v w u k e1 e2 e3 e4 =
    ap (λ n. sizes_fault n b c t h) e1 ∙ (ap (λ n. sizes_fault v n c t h) e2 ∙ (ap (λ n. sizes_fault v w n t h) e3 ∙ ap (λ n. sizes_fault v w u t n) e4))
