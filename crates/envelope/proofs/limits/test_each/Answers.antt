use Rattle.std.proofs.Common.{◌≡◌, refl, sym, subst}
use Rattle.std.specs.Prelude.{Some, None}
use Rattle.std.specs.List.{slice_get}
use Rattle.std.proofs.lemmas.Result.{err_from_is_err_and}
use Rattle.xt_meaning.specs.Envelope.{quad_tests, first_over}
use Rattle.miller_bits.specs.Victims.{VictimEdge}
use Rattle.miller_bits.proofs.Sums.{found}
use Rattle.envelope.specs.Firsts.{passed_test, excess_test, AreHighest}
use Rattle.envelope.proofs.Firsts.{pair_tested, pair_stopped}
use Rattle.envelope.proofs.limits.test_each.Goals as goal

pub test_quad-requires-clause-highest : goal.test_quad-requires-clause-highest
test_quad-requires-clause-highest c = subst AreHighest (sym (found _ _ c.net.result.now c.net.ensures.there c.new-rise.ensures)) refl

pub test_quad-requires-2-clause-highest : goal.test_quad-requires-2-clause-highest
test_quad-requires-2-clause-highest c = subst AreHighest (sym (found _ _ c.net.result.now c.net.ensures.there c.new-fall.ensures)) refl

pub returns-in_err-test_quad : goal.returns-in_err-test_quad
returns-in_err-test_quad c =
    let p = err_from_is_err_and c.from_residual.result c.from_residual.ensures.1 in
    let n = c.net.result.now in
    let rise = found _ _ n c.net.ensures.there c.new-rise.ensures in
    let P : VictimEdge → Type 0 = λ v. Some (excess_test c.in_err-test_quad.field-0.0) ≡ first_over (quad_tests v.miller v.number v.net c.args.pair.now.rise) in
    rw (p.1, p.2) (pair_stopped c.args.design.now.miller c.args.net.0 n (slice_get c.args.design.now.nets c.args.net.0) c.args.pair.now _ c.net.ensures.there (subst P rise c.in_err-test_quad.ensures))

pub returns : goal.returns
returns c =
    let n = c.net.result.now in
    let rise = found _ _ n c.net.ensures.there c.new-rise.ensures in
    let fall = found _ _ n c.net.ensures.there c.new-fall.ensures in
    let P : VictimEdge → Type 0 = λ v. None ≡ first_over (quad_tests v.miller v.number v.net c.args.pair.now.rise) in
    let Q : VictimEdge → Type 0 = λ v. passed_test c.test_quad-2.result ≡ first_over (quad_tests v.miller v.number v.net c.args.pair.now.fall) in
    pair_tested c.args.design.now.miller c.args.net.0 n (slice_get c.args.design.now.nets c.args.net.0) c.args.pair.now c.test_quad-2.result c.net.ensures.there
    (subst P rise c.in_ok-test_quad.ensures) (subst Q fall c.test_quad-2.ensures)
