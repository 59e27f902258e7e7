use Rattle.std.proofs.Common.{◌≡◌, ◌<◌, length, ℤ, pos, List, ◌∷◌, ◌++◌, get_or, to_z, of_z, arith}
use Rattle.std.specs.Int.{w128}
use Rattle.std.specs.List.{All}
use Rattle.std.proofs.lemmas.Int.{ints}
use Rattle.std.proofs.lemmas.Result.{err_from_is_err_and}
use Rattle.xt_model.specs.declared.net.Coupling.{Coupling}
use Rattle.xt_model.specs.Sound.{IsProduct}
use Rattle.eco_warm.specs.Edits.{coefs_left}
use Rattle.eco_warm.specs.Possible.{IsImpossible}
use Rattle.eco_warm.proofs.Pushed.{any_default, coefs_turn, coefs_stop}
use Rattle.eco_warm.proofs.couplings.coefs_left.Goals as goal

abbrev no_coupling : Coupling
no_coupling = record { to = record { 0 = 0 }; cap = pos 0 }

pub returns-in_err-push_coef-clause-impossible : goal.returns-in_err-push_coef-clause-impossible
returns-in_err-push_coef-clause-impossible c =
    let m = c.args.moving in
    let o = c.args.other.0 in
    let ks = c.args.couplings.now in
    let cs = c.args.coefs.now in
    let i = c.loop-index.index in
    let lt = c.loop-index-test.true in
    let k = get_or ks i no_coupling in
    let x = get_or cs i (pos 0) in
    let within : i < length cs = omega (arith, lt, c.requires.count) in
    let product = c.requires.coefs i (pos 0) within in
    let q : to_z w128 (of_z w128 x) ≡ x = omega (arith, ints, product.least, product.most) in
    let f = c.in_err-push_coef.field-0.0 in
    let refused : IsImpossible ((xs : List Coupling) (ys : List ℤ) → All IsProduct (coefs_left m o (k ∷ xs) (to_z w128 (of_z w128 x) ∷ ys)) → ⊥) f = c.in_err-push_coef.ensures.impossible in
    let p = err_from_is_err_and c.from_residual.result c.from_residual.ensures.1 in
    rw (p.1, p.2) (coefs_stop m o ks cs i k x c.loop-index.left.items f lt c.requires.count (any_default ks i no_coupling lt) (any_default cs i (pos 0) within) c.loop-index.invariant.rest (rw q at refused))

pub loop-index-preserved : goal.loop-index-preserved
loop-index-preserved c =
    let m = c.args.moving in
    let o = c.args.other.0 in
    let ks = c.args.couplings.now in
    let cs = c.args.coefs.now in
    let i = c.loop-index.index in
    let lt = c.loop-index-test.true in
    let k = get_or ks i no_coupling in
    let x = get_or cs i (pos 0) in
    let within : i < length cs = omega (arith, lt, c.requires.count) in
    let product = c.requires.coefs i (pos 0) within in
    let q : to_z w128 (of_z w128 x) ≡ x = omega (arith, ints, product.least, product.most) in
    let old = c.loop-index.left.items in
    let new = c.push_coef.new.left.items in
    let step : (xs : List Coupling) (ys : List ℤ) → (new ++ coefs_left m o xs ys) ≡ (old ++ coefs_left m o (k ∷ xs) (to_z w128 (of_z w128 x) ∷ ys)) = c.in_ok-push_coef.ensures.ok in
    record {
      rest = coefs_turn m o ks cs i k x old new lt c.requires.count (any_default ks i no_coupling lt) (any_default cs i (pos 0) within) (rw q at step) c.loop-index.invariant.rest;
      range = c.in_ok-push_coef.ensures.range c.loop-index.invariant.range;
    }
