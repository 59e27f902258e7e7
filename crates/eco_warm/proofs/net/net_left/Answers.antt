use Rattle.std.proofs.Common.{◌≡◌, ap, refl, subst, ◌∙◌, List, map, arith}
use Rattle.std.specs.List.{All}
use Rattle.std.proofs.lemmas.Int.{ints}
use Rattle.std.proofs.lemmas.Result.{err_from_is_err_and}
use Rattle.xt_model.specs.declared.net.SinkPin.{SinkPin}
use Rattle.eco_warm.specs.Edits.{couplings_left, sink_left}
use Rattle.eco_warm.specs.Possible.{HasProducts, IsImpossible}
use Rattle.eco_warm.proofs.Made.{few_couplings_left, load_is, load_most, net_made, net_stop}
use Rattle.eco_warm.proofs.net.net_left.Goals as goal

pub load_left-load-requires-clause-few : goal.load_left-load-requires-clause-few
load_left-load-requires-clause-few c =
    let n = c.args.net.now in
    few_couplings_left c.args.moving c.args.other.0 n.couplings c.deref.result.now c.requires.bounds.couplings
    (c.deref.ensures.value ∙ (c.in_ok-couplings.ensures ∙ ap (couplings_left c.args.moving c.args.other.0) c.as_slice-before.ensures))

pub returns-then-load-lt0-clause-impossible : goal.returns-then-load-lt0-clause-impossible
returns-then-load-lt0-clause-impossible c = λ p.
    let n = c.args.net.now in
    let e = load_is c.args.moving c.args.other.0 n c.deref.result.now c.load_left-load.result
    (c.deref.ensures.value ∙ (c.in_ok-couplings.ensures ∙ ap (couplings_left c.args.moving c.args.other.0) c.as_slice-before.ensures)) c.load_left-load.ensures.value in
    let h = c.load_left-load.ensures in
    omega (arith, ints, e, p.load, h.low, h.high, c.if-load-lt0.true)

pub returns-in_err-sinks-clause-impossible : goal.returns-in_err-sinks-clause-impossible
returns-in_err-sinks-clause-impossible c =
    let n = c.args.net.now in
    let f = c.in_err-sinks.field-0.0 in
    let p = err_from_is_err_and c.from_residual-in_err-sinks.result c.from_residual-in_err-sinks.ensures.1 in
    let refused : IsImpossible (All HasProducts (map (sink_left c.args.moving c.args.other.0 n.couplings) n.sinks) → ⊥) f = rw (c.as_slice-before.ensures, c.as_slice.ensures) at c.in_err-sinks.ensures.impossible in
    rw (p.1, p.2) (net_stop c.args.moving c.args.other.0 n f refused)

pub returns-in_err-couplings-clause-ok : goal.returns-in_err-couplings-clause-ok
returns-in_err-couplings-clause-ok c = rw (err_from_is_err_and c.from_residual.result c.from_residual.ensures.1).1 tt

pub returns-in_err-couplings-clause-possible : goal.returns-in_err-couplings-clause-possible
returns-in_err-couplings-clause-possible c = rw (err_from_is_err_and c.from_residual.result c.from_residual.ensures.1).1 tt

pub returns-in_err-couplings-clause-few : goal.returns-in_err-couplings-clause-few
returns-in_err-couplings-clause-few c = rw (err_from_is_err_and c.from_residual.result c.from_residual.ensures.1).1 tt

pub returns-in_err-couplings-clause-impossible : goal.returns-in_err-couplings-clause-impossible
returns-in_err-couplings-clause-impossible c = let p = err_from_is_err_and c.from_residual.result c.from_residual.ensures.1 in rw (p.1, p.2) tt

pub returns-in_err-name-clause-ok : goal.returns-in_err-name-clause-ok
returns-in_err-name-clause-ok c = rw (err_from_is_err_and c.from_residual-in_err-name.result c.from_residual-in_err-name.ensures.1).1 tt

pub returns-in_err-name-clause-possible : goal.returns-in_err-name-clause-possible
returns-in_err-name-clause-possible c = rw (err_from_is_err_and c.from_residual-in_err-name.result c.from_residual-in_err-name.ensures.1).1 tt

pub returns-in_err-name-clause-few : goal.returns-in_err-name-clause-few
returns-in_err-name-clause-few c = rw (err_from_is_err_and c.from_residual-in_err-name.result c.from_residual-in_err-name.ensures.1).1 tt

pub returns-in_err-name-clause-impossible : goal.returns-in_err-name-clause-impossible
returns-in_err-name-clause-impossible c = let p = err_from_is_err_and c.from_residual-in_err-name.result c.from_residual-in_err-name.ensures.1 in rw (p.1, p.2) tt

pub returns-in_err-given-clause-ok : goal.returns-in_err-given-clause-ok
returns-in_err-given-clause-ok c = rw (err_from_is_err_and c.from_residual-in_err-given.result c.from_residual-in_err-given.ensures.1).1 tt

pub returns-in_err-given-clause-possible : goal.returns-in_err-given-clause-possible
returns-in_err-given-clause-possible c = rw (err_from_is_err_and c.from_residual-in_err-given.result c.from_residual-in_err-given.ensures.1).1 tt

pub returns-in_err-given-clause-few : goal.returns-in_err-given-clause-few
returns-in_err-given-clause-few c = rw (err_from_is_err_and c.from_residual-in_err-given.result c.from_residual-in_err-given.ensures.1).1 tt

pub returns-in_err-given-clause-impossible : goal.returns-in_err-given-clause-impossible
returns-in_err-given-clause-impossible c = let p = err_from_is_err_and c.from_residual-in_err-given.result c.from_residual-in_err-given.ensures.1 in rw (p.1, p.2) tt

pub returns-in_err-arcs-clause-ok : goal.returns-in_err-arcs-clause-ok
returns-in_err-arcs-clause-ok c = rw (err_from_is_err_and c.from_residual-in_err-arcs.result c.from_residual-in_err-arcs.ensures.1).1 tt

pub returns-in_err-arcs-clause-possible : goal.returns-in_err-arcs-clause-possible
returns-in_err-arcs-clause-possible c = rw (err_from_is_err_and c.from_residual-in_err-arcs.result c.from_residual-in_err-arcs.ensures.1).1 tt

pub returns-in_err-arcs-clause-few : goal.returns-in_err-arcs-clause-few
returns-in_err-arcs-clause-few c = rw (err_from_is_err_and c.from_residual-in_err-arcs.result c.from_residual-in_err-arcs.ensures.1).1 tt

pub returns-in_err-arcs-clause-impossible : goal.returns-in_err-arcs-clause-impossible
returns-in_err-arcs-clause-impossible c = let p = err_from_is_err_and c.from_residual-in_err-arcs.result c.from_residual-in_err-arcs.ensures.1 in rw (p.1, p.2) tt

pub returns-in_err-sinks-clause-ok : goal.returns-in_err-sinks-clause-ok
returns-in_err-sinks-clause-ok c = rw (err_from_is_err_and c.from_residual-in_err-sinks.result c.from_residual-in_err-sinks.ensures.1).1 tt

pub returns-in_err-sinks-clause-possible : goal.returns-in_err-sinks-clause-possible
returns-in_err-sinks-clause-possible c = rw (err_from_is_err_and c.from_residual-in_err-sinks.result c.from_residual-in_err-sinks.ensures.1).1 tt

pub returns-in_err-sinks-clause-few : goal.returns-in_err-sinks-clause-few
returns-in_err-sinks-clause-few c = rw (err_from_is_err_and c.from_residual-in_err-sinks.result c.from_residual-in_err-sinks.ensures.1).1 tt

pub overflow_cast-result : goal.overflow_cast-result
overflow_cast-result c =
    let n = c.args.net.now in
    let e = load_is c.args.moving c.args.other.0 n c.deref.result.now c.load_left-load.result
    (c.deref.ensures.value ∙ (c.in_ok-couplings.ensures ∙ ap (couplings_left c.args.moving c.args.other.0) c.as_slice-before.ensures)) c.load_left-load.ensures.value in
    let h = c.load_left-load.ensures in
    let most = load_most c.args.moving c.args.other.0 n c.requires.moving c.requires.bounds in
    omega (arith, ints, e, most, h.low, h.high, c.if-load-lt0.false)

pub returns-clause-ok : goal.returns-clause-ok
returns-clause-ok c =
    let m = c.args.moving in
    let o = c.args.other.0 in
    let n = c.args.net.now in
    let left = c.in_ok-couplings.ensures ∙ ap (couplings_left m o) c.as_slice-before.ensures in
    let e = load_is m o n c.deref.result.now c.load_left-load.result (c.deref.ensures.value ∙ left) c.load_left-load.ensures.value in
    let h = c.load_left-load.ensures in
    let most = load_most m o n c.requires.moving c.requires.bounds in
    let sinks : c.in_ok-sinks.sinks.items ≡ map (sink_left m o n.couplings) n.sinks = rw (c.as_slice-before.ensures, c.as_slice.ensures) at c.in_ok-sinks.ensures.ok in
    net_made m o n _ (c.in_ok-name.ensures ∙ c.bytes.ensures.value) refl (omega (arith, ints, e, most, h.low, h.high, c.if-load-lt0.false)) (c.in_ok-given.ensures ∙ c.pair.ensures) (c.from_vec.ensures ∙ left)
    (c.from_vec-2.ensures ∙ sinks) c.in_ok-arcs.ensures

pub returns-clause-possible : goal.returns-clause-possible
returns-clause-possible c =
    let m = c.args.moving in
    let o = c.args.other.0 in
    let n = c.args.net.now in
    let left = c.in_ok-couplings.ensures ∙ ap (couplings_left m o) c.as_slice-before.ensures in
    let e = load_is m o n c.deref.result.now c.load_left-load.result (c.deref.ensures.value ∙ left) c.load_left-load.ensures.value in
    let h = c.load_left-load.ensures in
    let sinks : c.in_ok-sinks.sinks.items ≡ map (sink_left m o n.couplings) n.sinks = rw (c.as_slice-before.ensures, c.as_slice.ensures) at c.in_ok-sinks.ensures.ok in
    record {
      couplings = rw c.as_slice-before.ensures at (c.can_move.ensures.0 c.if-not-can_move.false);
      load = omega (arith, ints, e, h.low, h.high, c.if-load-lt0.false);
      sinks = let P : List SinkPin → Type 0 = λ xs. All HasProducts xs in subst P sinks c.in_ok-sinks.ensures.possible;
    }

pub returns-clause-few : goal.returns-clause-few
returns-clause-few c =
    let n = c.args.net.now in
    few_couplings_left c.args.moving c.args.other.0 n.couplings c.from_vec.result c.requires.bounds.couplings
    (c.from_vec.ensures ∙ (c.in_ok-couplings.ensures ∙ ap (couplings_left c.args.moving c.args.other.0) c.as_slice-before.ensures))
