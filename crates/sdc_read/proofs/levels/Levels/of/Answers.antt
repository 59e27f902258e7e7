use Rattle.std.proofs.Common.{◌≡◌, ℕ, ◌+◌, ◌-◌, ◌∙◌, refl, ap, sym, Some, List, length, drop, arith}
use Rattle.std.specs.List.{slice_get}
use Rattle.std.proofs.lemmas.List.{drop_all}
use Rattle.verilog_net.specs.declared.netlist.Net.{Net}
use Rattle.sdc_read.specs.declared.mentions.Mention.{Mention}
use Rattle.sdc_read.specs.Levels.{SaidLevels, levels_of, with_place}
use Rattle.sdc_read.proofs.KeptLaws.{levels_more}
use Rattle.sdc_read.proofs.levels.Levels.of.Goals as goal

abbrev kept : List Net → List Mention → ℕ → SaidLevels
kept nets said n = record { said = said; levels = levels_of nets (drop n said) }

-- the levels with one mention more, from the end
one_more : (nets : List Net) (said : List Mention) (n : ℕ) (m : Mention) (old new : SaidLevels) → old ≡ kept nets said n → slice_get old.said (n - 1) ≡ Some m → n ≡ (n - 1) + 1
    → new ≡ record old { levels = with_place nets m.bits m.change old.levels } → new ≡ kept nets said (n - 1)
one_more nets said n m old new is_old there next is_new =
    rw (is_new, is_old, levels_more said n (n - 1) m (rw is_old at there) next nets) refl

pub said-init : goal.said-init
said-init c =
    let number = c.in-Ok.ensures.1 in
    let many = c.len.ensures in
    (c.new-levels.ensures ∙ ap (λ (ms : List Mention). record { said = c.args.said; levels = levels_of c.args.nets.now ms }) (sym (drop_all c.in-Ok.count c.args.said (omega (arith, number, many)))), omega (arith, number, many))

pub at-mention-requires : goal.at-mention-requires
at-mention-requires c =
    let some = c.said-test.true in
    let within = c.said.invariant.1 in
    let inside = ap (λ (l : SaidLevels). length l.said) c.levels.view_is in
    let same = ap (λ (l : SaidLevels). length l.said) c.said.invariant.0 in
    omega (arith, some, within, inside, same)

pub set-requires-clause-some : goal.set-requires-clause-some
set-requires-clause-some c = c.said-test.true

pub set-requires-clause-there : goal.set-requires-clause-there
set-requires-clause-there c = ap (λ (l : SaidLevels). slice_get l.said (c.said.number - 1)) (sym c.levels.view_is) ∙ c.at-mention.ensures

pub said-preserved : goal.said-preserved
said-preserved c =
    let some = c.said-test.true in
    let within = c.said.invariant.1 in
    let there = ap (λ (l : SaidLevels). slice_get l.said (c.said.number - 1)) (sym c.levels.view_is) ∙ c.at-mention.ensures in
    (one_more c.args.nets.now c.args.said c.said.number c.at-mention.result c.said.levels c.set.new.self c.said.invariant.0 there (omega (arith, some)) c.in_ok-set.ensures, omega (arith, some, within))

pub returns : goal.returns
returns c =
    let none : c.said.number ≡ 0 = let past = c.said-test.false in omega (arith, past) in
    c.said.invariant.0 ∙ ap (kept c.args.nets.now c.args.said) none
