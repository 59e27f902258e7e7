use Rattle.std.proofs.Common.{◌≡◌, ◌∙◌, sym, ap, subst, List, length, replicate}
use Rattle.xt_model.specs.declared.direction.Direction.TheVariants.{Widen}
use Rattle.xt_model.specs.declared.quad.Pair.{Pair}
use Rattle.xt_meaning.specs.Barrier.{IsFittingStart}
use Rattle.xt_meaning.specs.Laws.{quiet_pair, quiet_windows}
use Rattle.xt_meaning.proofs.Starts.{quiet_fits}
use Rattle.envelope.proofs.start.quiet.Goals as goal

pub returns-clause-starts : goal.returns-clause-starts
returns-clause-starts c = λ v within.
    let e : c.in_ok-windows.windows ≡ quiet_windows c.args.design.now = c.in_ok-windows.ensures ∙ ap (λ nets. replicate (length nets) quiet_pair) c.nets-nets.ensures.value in
    let P : List Pair → Type 0 = λ w. IsFittingStart Widen c.args.design.now w in
    subst P (sym e) (quiet_fits c.args.design.now within.top c.nets-nets.ensures.sound within.envelope within.accepted)
