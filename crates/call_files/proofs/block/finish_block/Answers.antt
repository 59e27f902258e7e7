use Rattle.std.proofs.lemmas.Result.{IfErr-weaker, err_from_is_err_and}
use Rattle.link_rules.specs.Bare.{Inputs}
use Rattle.call_meaning.specs.Call.{HasFault}
use Rattle.call_meaning.specs.Linking.{FileAndText, FinishDesign, LastFilesMean, LinkingMeans, ConstraintsIn, ParasiticsIn}
use Rattle.call_meaning.proofs.Blocks.{holds_as, text_as, text_leads, text_stops}
use Rattle.call_meaning.proofs.Lifts.{answers_unread, kept_trans, stops_first, stops_later}
use Rattle.std.proofs.Common.{◌≡◌, [], ◌∷◌, ◌∙◌, refl}
use Rattle.call_meaning.proofs.Endings.{fails_at, fails_together, linking_ends, text_ends}
use Rattle.call_meaning.proofs.Openings.{opened_then, opens_all, opens_part}
use Rattle.call_files.proofs.block.finish_block.Goals as goal

pub returns-in_err-parasitics-clause-means : goal.returns-in_err-parasitics-clause-means
returns-in_err-parasitics-clause-means g c =
    let content = g.F.Files.content c.args.files.now in
    let faults = g.F.Files.faults in
    let failed = err_from_is_err_and c.from_residual.result c.from_residual.ensures.1 in
    rw failed.1 (rw failed.2 (stops_first (FileAndText c.args.spef content ParasiticsIn (λ _. ⊥))
    (λ o. LastFilesMean c.args.spef c.args.sdc content c.args.library.now c.args.netlist.now (λ x. LinkingMeans x (λ _. ⊥) o) o)
    (λ o h. text_stops c.args.spef content ParasiticsIn _ o h)
    (faults c.args.files.now) (faults c.parasitics.new.files) c.in_err-parasitics.field-0.0 c.in_err-parasitics.ensures.read.answer))

pub returns-in_err-constraints-clause-means : goal.returns-in_err-constraints-clause-means
returns-in_err-constraints-clause-means g c =
    let content = g.F.Files.content c.args.files.now in
    let faults = g.F.Files.faults in
    let first = g.F.Files.content c.parasitics.new.files in
    let meant = ConstraintsIn c.args.library.now c.args.netlist.now in
    let failed = err_from_is_err_and c.from_residual-in_err-constraints.result c.from_residual-in_err-constraints.ensures.1 in
    rw failed.1 (rw failed.2 (stops_later (FileAndText c.args.sdc first meant (λ _. ⊥))
    (λ o. LastFilesMean c.args.spef c.args.sdc content c.args.library.now c.args.netlist.now (λ x. LinkingMeans x (λ _. ⊥) o) o)
    (λ o h. text_leads c.args.spef content ParasiticsIn _ o c.in_ok-parasitics.parasitics c.in_ok-parasitics.ensures.read.answer.0
    (text_stops c.args.sdc content meant _ o (text_as c.args.sdc content first meant (λ _. ⊥) o (c.parasitics.ensures.read.kept c.args.sdc) h)))
    (faults c.args.files.now) (faults c.parasitics.new.files) (faults c.constraints.new.files) c.in_err-constraints.field-0.0
    c.in_ok-parasitics.ensures.read.answer.1 c.in_err-constraints.ensures.read.answer))

pub returns-clause-means : goal.returns-clause-means
returns-clause-means g c =
    let content = g.F.Files.content c.args.files.now in
    let faults = g.F.Files.faults in
    let first = g.F.Files.content c.parasitics.new.files in
    let meant = ConstraintsIn c.args.library.now c.args.netlist.now in
    let x : Inputs = record { library = c.args.library.now; netlist = c.args.netlist.now; parasitics = c.in_ok-parasitics.parasitics; constraints = c.in_ok-constraints.constraints } in
    let held = holds_as c.args.sdc content first meant c.in_ok-constraints.constraints (c.parasitics.ensures.read.kept c.args.sdc) c.in_ok-constraints.ensures.read.answer.0 in
    answers_unread (LinkingMeans x (λ _. ⊥)) (λ o. LastFilesMean c.args.spef c.args.sdc content c.args.library.now c.args.netlist.now (λ x. LinkingMeans x (λ _. ⊥) o) o)
    (λ o m. text_leads c.args.spef content ParasiticsIn _ o c.in_ok-parasitics.parasitics c.in_ok-parasitics.ensures.read.answer.0
    (text_leads c.args.sdc content meant _ o c.in_ok-constraints.constraints held m))
    _ (FinishDesign c.args.spef c.args.sdc content c.args.library.now c.args.netlist.now)
    (λ d h. record {
      parasitics = c.in_ok-parasitics.parasitics;
      constraints = c.in_ok-constraints.constraints;
      spef_held = c.in_ok-parasitics.ensures.read.answer.0;
      sdc_held = held;
      linked = h.0;
      sound = h.1;
    })
    (faults c.args.files.now) (faults c.constraints.new.files) c.linked-design.result
    (kept_trans (faults c.args.files.now) (faults c.parasitics.new.files) (faults c.constraints.new.files) c.in_ok-parasitics.ensures.read.answer.1 c.in_ok-constraints.ensures.read.answer.1)
    c.linked-design.ensures.ok c.linked-design.ensures.stop

pub returns-in_err-parasitics-clause-opened : goal.returns-in_err-parasitics-clause-opened
returns-in_err-parasitics-clause-opened g c =
    let opened = g.F.Files.opened in
    let failed = err_from_is_err_and c.from_residual.result c.from_residual.ensures.1 in
    rw failed.1 (opens_part (c.args.spef ∷ []) (c.args.sdc ∷ []) ⊥ (opened c.args.files.now) (opened c.parasitics.new.files) c.parasitics.ensures.read.once (λ w. w))

pub returns-in_err-constraints-clause-opened : goal.returns-in_err-constraints-clause-opened
returns-in_err-constraints-clause-opened g c =
    let opened = g.F.Files.opened in
    opens_all (c.args.spef ∷ c.args.sdc ∷ []) _ (opened c.args.files.now) (opened c.constraints.new.files)
    (opened_then (c.args.spef ∷ []) (c.args.sdc ∷ []) (opened c.args.files.now) (opened c.parasitics.new.files) (opened c.constraints.new.files) c.parasitics.ensures.read.once c.constraints.ensures.read.once)

pub returns-clause-opened : goal.returns-clause-opened
returns-clause-opened g c =
    let opened = g.F.Files.opened in
    opens_all (c.args.spef ∷ c.args.sdc ∷ []) _ (opened c.args.files.now) (opened c.constraints.new.files)
    (opened_then (c.args.spef ∷ []) (c.args.sdc ∷ []) (opened c.args.files.now) (opened c.parasitics.new.files) (opened c.constraints.new.files) c.parasitics.ensures.read.once c.constraints.ensures.read.once)

pub returns-in_err-parasitics-clause-content : goal.returns-in_err-parasitics-clause-content
returns-in_err-parasitics-clause-content g c = c.parasitics.ensures.read.kept

pub returns-in_err-constraints-clause-content : goal.returns-in_err-constraints-clause-content
returns-in_err-constraints-clause-content g c = λ m. c.constraints.ensures.read.kept m ∙ c.parasitics.ensures.read.kept m

pub returns-clause-content : goal.returns-clause-content
returns-clause-content g c = λ m. c.constraints.ensures.read.kept m ∙ c.parasitics.ensures.read.kept m

pub returns-in_err-parasitics-clause-stopped : goal.returns-in_err-parasitics-clause-stopped
returns-in_err-parasitics-clause-stopped g c =
    let opened = g.F.Files.opened in
    let faults = g.F.Files.faults in
    let content = g.F.Files.content c.args.files.now in
    let failed = err_from_is_err_and c.from_residual.result c.from_residual.ensures.1 in
    rw failed.1 (rw failed.2 (fails_at (c.args.spef ∷ c.args.sdc ∷ []) (opened c.args.files.now) (opened c.parasitics.new.files) (FileAndText c.args.spef content ParasiticsIn (λ _. ⊥))
    (HasFault (faults c.args.files.now) (faults c.parasitics.new.files)) [] c.args.spef c.in_err-parasitics.field-0.0 (λ o h. text_ends (λ f. f ≡ c.args.spef) ⊥ c.args.spef content ParasiticsIn o refl h)
    c.parasitics.ensures.read.once c.in_err-parasitics.ensures.read.answer.0))

pub returns-in_err-constraints-clause-stopped : goal.returns-in_err-constraints-clause-stopped
returns-in_err-constraints-clause-stopped g c =
    let opened = g.F.Files.opened in
    let faults = g.F.Files.faults in
    let first = g.F.Files.content c.parasitics.new.files in
    let meant = ConstraintsIn c.args.library.now c.args.netlist.now in
    let failed = err_from_is_err_and c.from_residual-in_err-constraints.result c.from_residual-in_err-constraints.ensures.1 in
    rw failed.1 (rw failed.2 (fails_at (c.args.spef ∷ c.args.sdc ∷ []) (opened c.args.files.now) (opened c.constraints.new.files) (FileAndText c.args.sdc first meant (λ _. ⊥))
    (HasFault (faults c.parasitics.new.files) (faults c.constraints.new.files)) (c.args.spef ∷ []) c.args.sdc c.in_err-constraints.field-0.0 (λ o h. text_ends (λ f. f ≡ c.args.sdc) ⊥ c.args.sdc first meant o refl h)
    (opened_then (c.args.spef ∷ []) (c.args.sdc ∷ []) (opened c.args.files.now) (opened c.parasitics.new.files) (opened c.constraints.new.files) c.parasitics.ensures.read.once c.constraints.ensures.read.once)
    c.in_err-constraints.ensures.read.answer.0))

pub returns-clause-stopped : goal.returns-clause-stopped
returns-clause-stopped g c =
    let opened = g.F.Files.opened in
    let files = c.args.spef ∷ c.args.sdc ∷ [] in
    let x : Inputs = record { library = c.args.library.now; netlist = c.args.netlist.now; parasitics = c.in_ok-parasitics.parasitics; constraints = c.in_ok-constraints.constraints } in
    IfErr-weaker c.linked-design.result _ _ (λ stop h. fails_together files (opened c.args.files.now) (opened c.constraints.new.files) (LinkingMeans x (λ _. ⊥)) (λ _. ⊥) stop
    (λ o m. linking_ends (λ _. ⊥) (Unit {0}) x o tt m)
    (opened_then (c.args.spef ∷ []) (c.args.sdc ∷ []) (opened c.args.files.now) (opened c.parasitics.new.files) (opened c.constraints.new.files) c.parasitics.ensures.read.once c.constraints.ensures.read.once)
    h) c.linked-design.ensures.stop
