use Rattle.std.proofs.Common.{◌≡◌, ap, sym, ◌∙◌, rules, w64, of_z, to_z}
use Rattle.std.proofs.lemmas.Int.{to_z-of_z}
use mir.Val.{SFits}
use Rattle.xt_model.specs.Assign.{assigned}
use Rattle.xt_meaning.specs.Operator.{Range}
use Rattle.aggressor_report.proofs.Spent.{leads_on, leads_off}
use Rattle.aggressor_report.proofs.step.passage_to.Goals as goal

pub returns-then-passage-bound : goal.returns-then-passage-bound
returns-then-passage-bound c =
    let load : Range = record { least = c.args.load.0; most = c.args.load.1 } in
    leads_off c.args.late c.args.design.now (assigned c.args.windows.now) load c.args.edge c.args.bound c.args.arc.now c.in_ok-passage.passage
    (sym c.if-not-drives.ensures) c.in_ok-passage.ensures (λ e. c.if-passage-bound.true (ap (of_z w64) e))

pub returns : goal.returns
returns c =
    let load : Range = record { least = c.args.load.0; most = c.args.load.1 } in
    let p = c.in_ok-passage.passage in
    let fits : SFits w64 p.time = search rules in
    let range : SFits w64 c.args.bound = search rules in
    let same : p.time ≡ c.args.bound = sym (to_z-of_z w64 p.time fits) ∙ (ap (to_z w64) c.if-passage-bound.false ∙ to_z-of_z w64 c.args.bound range) in
    leads_on c.args.late c.args.design.now (assigned c.args.windows.now) load c.args.edge c.args.bound c.args.arc.now p
    (sym c.if-not-drives.ensures) c.in_ok-passage.ensures same
