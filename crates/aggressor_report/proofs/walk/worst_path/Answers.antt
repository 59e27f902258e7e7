use Rattle.std.proofs.Common.{sym, subst, ◌∙◌, rules, w64, arith, reverse, List}
use Rattle.std.proofs.lemmas.Int.{to_z-of_z}
use mir.Val.{SFits}
use Rattle.xt_model.specs.Assign.{assigned}
use Rattle.aggressor_report.specs.declared.path.PathStep.{PathStep}
use Rattle.aggressor_report.specs.Paths.{Lead}
use Rattle.aggressor_report.proofs.Backs.{given_here, step_from, step_live, step_falls, path_from}
use Rattle.aggressor_report.proofs.Walks.{lead_more, path_total}
use Rattle.aggressor_report.proofs.walk.worst_path.Goals as goal

pub last_step-last-requires-clause-given : goal.last_step-last-requires-clause-given
last_step-last-requires-clause-given c =
    given_here c.args.late c.args.design.now c.args.windows.now c.back.at.0 c.back.at_edge c.back.level c.nets.ensures.sound c.requires.within c.requires.closed c.back.invariant.live c.back.invariant.net
    c.back.invariant.level c.back-test.true

pub level-level-requires-in-back : goal.level-level-requires-in-back
level-level-requires-in-back c =
    step_from c.args.late c.args.design.now (assigned c.args.windows.now) c.last_step-last.result.from.0 c.last_step-last.result.input c.last_step-last.result.step c.last_step-last.ensures.step
    c.nets.ensures.sound

pub back-smaller : goal.back-smaller
back-smaller c =
    step_falls c.args.late c.args.design.now (assigned c.args.windows.now) c.last_step-last.result.from.0 c.last_step-last.result.input c.last_step-last.result.step c.last_step-last.ensures.step
    c.back.at.0 c.back.level c.level-level-in-back.result c.last_step-last.ensures.net c.back.invariant.level c.level-level-in-back.ensures

pub back-preserved : goal.back-preserved
back-preserved c =
    let late = c.args.late in
    let d = c.args.design.now in
    let W = assigned c.args.windows.now in
    let last = c.last_step-last.result in
    let step = c.last_step-last.ensures.step in
    let P : List PathStep → Type 0 = λ xs. Lead late d W last.from.0 last.input (reverse xs) c.args.net.0 c.args.edge in
    record {
      net = step_from late d W last.from.0 last.input last.step step c.nets.ensures.sound;
      live = step_live late d W last.from.0 last.input last.step step;
      level = c.level-level-in-back.ensures;
      steps = subst P (sym c.in_ok-push.ensures.items)
          (lead_more late d W last.from.0 last.input c.back.at.0 c.args.net.0 c.back.at_edge c.args.edge last.step c.back.steps.items step c.last_step-last.ensures.net c.last_step-last.ensures.edge
          c.back.invariant.steps);
    }

pub returns-clause-path : goal.returns-clause-path
returns-clause-path c =
    let late = c.args.late in
    let d = c.args.design.now in
    let W = assigned c.args.windows.now in
    let fits : SFits w64 c.bound_at.result = search rules in
    let Q : List PathStep → Type 0 = λ xs. Lead late d W c.back.at.0 c.back.at_edge xs c.args.net.0 c.args.edge in
    path_from late d W c.args.net.0 c.args.edge c.back.level _ c.nets.ensures.sound c.back.invariant.net c.back.invariant.level (omega (arith, c.back-test.false))
    (to_z-of_z w64 c.bound_at.result fits ∙ c.bound_at.ensures)
    (subst Q (sym (c.from_vec.ensures ∙ c.reverse.ensures.items)) c.back.invariant.steps)

pub returns-clause-sum : goal.returns-clause-sum
returns-clause-sum c =
    path_total c.args.late c.args.design.now (assigned c.args.windows.now) c.args.net.0 c.args.edge _ (returns-clause-path c)
