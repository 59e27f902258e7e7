use Rattle.std.proofs.Common.{◌≡◌, ℕ, ◌+◌, ◌<◌, List, ◌∷◌, ◌++◌, length, drop, get_or, pos, sym, ap, ◌∙◌}
use Rattle.std.proofs.lemmas.List.{at_drop_more}
use Rattle.xt_model.specs.declared.net.Coupling.{Coupling}
use Rattle.eco_warm.specs.declared.edit.Move.{Move}
use Rattle.eco_warm.specs.Edits.{couplings_left}
use Rattle.eco_warm.proofs.couplings.couplings_left.Goals as goal

abbrev no_coupling : Coupling
no_coupling = record { to = record { 0 = 0 }; cap = pos 0 }

-- what is left of one more coupling was appended
one_more : (m : Move) (other : ℕ) (ks : List Coupling) (i : ℕ) (d : Coupling) (old new : List Coupling) → i < length ks
    → ((xs : List Coupling) → new ++ couplings_left m other xs ≡ old ++ couplings_left m other (get_or ks i d ∷ xs))
    → old ++ couplings_left m other (drop i ks) ≡ couplings_left m other ks → new ++ couplings_left m other (drop (i + 1) ks) ≡ couplings_left m other ks
one_more m other ks i d old new lt step so_far =
    step (drop (i + 1) ks) ∙ (ap (λ (xs : List Coupling). old ++ xs) (sym (at_drop_more (couplings_left m other) ks i d lt)) ∙ so_far)

pub loop-coupling-preserved : goal.loop-coupling-preserved
loop-coupling-preserved c =
    one_more c.args.moving c.args.other.0 c.args.couplings.now c.loop-coupling.coupling-index no_coupling c.loop-coupling.left.items c.push_coupling.new.left.items
    c.loop-coupling-test.true c.in_ok-push_coupling.ensures c.loop-coupling.invariant
