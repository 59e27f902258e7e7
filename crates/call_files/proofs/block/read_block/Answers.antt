use Rattle.std.proofs.Common.{◌≡◌, ◌∙◌}
use Rattle.std.proofs.lemmas.Result.{IfErr-weaker, err_from_is_err_and}
use Rattle.liberty_cells.specs.declared.library.Library.{Library}
use Rattle.verilog_net.specs.declared.netlist.Netlist.{Netlist}
use Rattle.xt_model.specs.Parts.{Parts}
use Rattle.command_line.specs.Words.{Text}
use Rattle.call_meaning.specs.Call.{HasFault}
use Rattle.call_meaning.specs.Outcome.{Contents, Outcome}
use Rattle.command_line.specs.declared.words.BlockFiles.{BlockFiles}
use Rattle.call_meaning.specs.Linking.{BlockMeans, FileAndText, FinishDesign, HoldsText, LastFilesMean, LinkingMeans, MakeDesign}
use Rattle.call_meaning.specs.Linking.{ConstraintsIn, LibraryIn, NetlistIn, ParasiticsIn}
use Rattle.call_meaning.proofs.Blocks.{holds_as, last_as, text_as, text_leads, text_stops}
use Rattle.call_meaning.proofs.Lifts.{answers_later, kept_trans, stops_first, stops_later}
use Rattle.std.proofs.Common.{[], ◌∷◌, refl}
use Rattle.call_meaning.specs.Opened.{block_files}
use Rattle.call_meaning.proofs.Endings.{fails_at, fails_later, text_ends}
use Rattle.call_meaning.proofs.Openings.{opened_then, opens_more, opens_part}
use Rattle.call_files.proofs.block.read_block.Goals as goal

pub returns-in_err-library-clause-means : goal.returns-in_err-library-clause-means
returns-in_err-library-clause-means g c =
    let content = g.F.Files.content c.args.files.now in
    let faults = g.F.Files.faults in
    let failed = err_from_is_err_and c.from_residual.result c.from_residual.ensures.1 in
    rw failed.1 (rw failed.2 (stops_first (FileAndText c.args.block.lib content LibraryIn (λ _. ⊥)) (BlockMeans c.args.block content (λ _. ⊥))
    (λ o h. text_stops c.args.block.lib content LibraryIn _ o h)
    (faults c.args.files.now) (faults c.library.new.files) c.in_err-library.field-0.0 c.in_err-library.ensures.read.answer))

pub returns-in_err-netlist-clause-means : goal.returns-in_err-netlist-clause-means
returns-in_err-netlist-clause-means g c =
    let content = g.F.Files.content c.args.files.now in
    let faults = g.F.Files.faults in
    let first = g.F.Files.content c.library.new.files in
    let failed = err_from_is_err_and c.from_residual-in_err-netlist.result c.from_residual-in_err-netlist.ensures.1 in
    rw failed.1 (rw failed.2 (stops_later (FileAndText c.args.block.netlist first NetlistIn (λ _. ⊥)) (BlockMeans c.args.block content (λ _. ⊥))
    (λ o h. text_leads c.args.block.lib content LibraryIn _ o c.in_ok-library.library c.in_ok-library.ensures.read.answer.0
    (text_stops c.args.block.netlist content NetlistIn _ o (text_as c.args.block.netlist content first NetlistIn (λ _. ⊥) o (c.library.ensures.read.kept c.args.block.netlist) h)))
    (faults c.args.files.now) (faults c.library.new.files) (faults c.netlist.new.files) c.in_err-netlist.field-0.0
    c.in_ok-library.ensures.read.answer.1 c.in_err-netlist.ensures.read.answer))

-- the library and the netlist of the first two files, and what the files hold
module _ (files : BlockFiles) (content first second : Contents) (library : Library) (netlist : Netlist) (one : (f : Text) → first f ≡ content f) (two : (f : Text) → second f ≡ first f)
    (a : HoldsText files.lib content LibraryIn library) (b : HoldsText files.netlist first NetlistIn netlist) where
  finished : (d : Parts) → FinishDesign files.spef files.sdc second library netlist d → MakeDesign files content d
  finished d h = record {
    inputs = record { library = library; netlist = netlist; parasitics = h.parasitics; constraints = h.constraints };
    held = record {
      library = a;
      netlist = holds_as files.netlist content first NetlistIn netlist (one files.netlist) b;
      parasitics = holds_as files.spef content second ParasiticsIn h.parasitics (two files.spef ∙ one files.spef) h.spef_held;
      constraints = holds_as files.sdc content second (ConstraintsIn library netlist) h.constraints (two files.sdc ∙ one files.sdc) h.sdc_held;
    };
    linked = h.linked;
    sound = h.sound;
  }

  stopped : (o : Outcome) → LastFilesMean files.spef files.sdc second library netlist (λ x. LinkingMeans x (λ _. ⊥) o) o → BlockMeans files content (λ _. ⊥) o
  stopped o h =
      text_leads files.lib content LibraryIn _ o library a
      (text_leads files.netlist content NetlistIn _ o netlist (holds_as files.netlist content first NetlistIn netlist (one files.netlist) b)
      (last_as files.spef files.sdc content second library netlist (λ x. LinkingMeans x (λ _. ⊥) o) o (two files.spef ∙ one files.spef) (two files.sdc ∙ one files.sdc) h))

pub returns-clause-means : goal.returns-clause-means
returns-clause-means g c =
    let content = g.F.Files.content in
    let faults = g.F.Files.faults in
    let kept = kept_trans (faults c.args.files.now) (faults c.library.new.files) (faults c.netlist.new.files) c.in_ok-library.ensures.read.answer.1 c.in_ok-netlist.ensures.read.answer.1 in
    let stops = stopped c.args.block (content c.args.files.now) (content c.library.new.files) (content c.netlist.new.files) c.in_ok-library.library c.in_ok-netlist.netlist
    c.library.ensures.read.kept c.netlist.ensures.read.kept c.in_ok-library.ensures.read.answer.0 c.in_ok-netlist.ensures.read.answer.0 in
    let makes = finished c.args.block (content c.args.files.now) (content c.library.new.files) (content c.netlist.new.files) c.in_ok-library.library c.in_ok-netlist.netlist
    c.library.ensures.read.kept c.netlist.ensures.read.kept c.in_ok-library.ensures.read.answer.0 c.in_ok-netlist.ensures.read.answer.0 in
    answers_later _ (BlockMeans c.args.block (content c.args.files.now) (λ _. ⊥)) stops
    _ (MakeDesign c.args.block (content c.args.files.now)) makes
    (faults c.args.files.now) (faults c.netlist.new.files) (faults c.finish_block-design.new.files) c.finish_block-design.result kept c.finish_block-design.ensures.means

pub returns-in_err-library-clause-opened : goal.returns-in_err-library-clause-opened
returns-in_err-library-clause-opened g c =
    let opened = g.F.Files.opened in
    let block = c.args.block in
    let failed = err_from_is_err_and c.from_residual.result c.from_residual.ensures.1 in
    rw failed.1 (opens_part (block.lib ∷ []) (block.netlist ∷ block.spef ∷ block.sdc ∷ []) ⊥ (opened c.args.files.now) (opened c.library.new.files) c.library.ensures.read.once (λ w. w))

pub returns-in_err-netlist-clause-opened : goal.returns-in_err-netlist-clause-opened
returns-in_err-netlist-clause-opened g c =
    let opened = g.F.Files.opened in
    let block = c.args.block in
    let failed = err_from_is_err_and c.from_residual-in_err-netlist.result c.from_residual-in_err-netlist.ensures.1 in
    rw failed.1 (opens_part (block.lib ∷ block.netlist ∷ []) (block.spef ∷ block.sdc ∷ []) ⊥ (opened c.args.files.now) (opened c.netlist.new.files)
    (opened_then (block.lib ∷ []) (block.netlist ∷ []) (opened c.args.files.now) (opened c.library.new.files) (opened c.netlist.new.files) c.library.ensures.read.once c.netlist.ensures.read.once) (λ w. w))

pub returns-clause-opened : goal.returns-clause-opened
returns-clause-opened g c =
    let opened = g.F.Files.opened in
    let block = c.args.block in
    opens_more (block.lib ∷ block.netlist ∷ []) (block.spef ∷ block.sdc ∷ []) _ (opened c.args.files.now) (opened c.netlist.new.files) (opened c.finish_block-design.new.files)
    (opened_then (block.lib ∷ []) (block.netlist ∷ []) (opened c.args.files.now) (opened c.library.new.files) (opened c.netlist.new.files) c.library.ensures.read.once c.netlist.ensures.read.once) c.finish_block-design.ensures.opened

pub returns-in_err-library-clause-content : goal.returns-in_err-library-clause-content
returns-in_err-library-clause-content g c = c.library.ensures.read.kept

pub returns-in_err-netlist-clause-content : goal.returns-in_err-netlist-clause-content
returns-in_err-netlist-clause-content g c = λ m. c.netlist.ensures.read.kept m ∙ c.library.ensures.read.kept m

pub returns-clause-content : goal.returns-clause-content
returns-clause-content g c = λ m. c.finish_block-design.ensures.content m ∙ (c.netlist.ensures.read.kept m ∙ c.library.ensures.read.kept m)

pub returns-in_err-library-clause-stopped : goal.returns-in_err-library-clause-stopped
returns-in_err-library-clause-stopped g c =
    let opened = g.F.Files.opened in
    let faults = g.F.Files.faults in
    let block = c.args.block in
    let content = g.F.Files.content c.args.files.now in
    let failed = err_from_is_err_and c.from_residual.result c.from_residual.ensures.1 in
    rw failed.1 (rw failed.2 (fails_at (block_files block) (opened c.args.files.now) (opened c.library.new.files) (FileAndText block.lib content LibraryIn (λ _. ⊥))
    (HasFault (faults c.args.files.now) (faults c.library.new.files)) [] block.lib c.in_err-library.field-0.0 (λ o h. text_ends (λ f. f ≡ block.lib) ⊥ block.lib content LibraryIn o refl h)
    c.library.ensures.read.once c.in_err-library.ensures.read.answer.0))

pub returns-in_err-netlist-clause-stopped : goal.returns-in_err-netlist-clause-stopped
returns-in_err-netlist-clause-stopped g c =
    let opened = g.F.Files.opened in
    let faults = g.F.Files.faults in
    let block = c.args.block in
    let first = g.F.Files.content c.library.new.files in
    let failed = err_from_is_err_and c.from_residual-in_err-netlist.result c.from_residual-in_err-netlist.ensures.1 in
    rw failed.1 (rw failed.2 (fails_at (block_files block) (opened c.args.files.now) (opened c.netlist.new.files) (FileAndText block.netlist first NetlistIn (λ _. ⊥))
    (HasFault (faults c.library.new.files) (faults c.netlist.new.files)) (block.lib ∷ []) block.netlist c.in_err-netlist.field-0.0 (λ o h. text_ends (λ f. f ≡ block.netlist) ⊥ block.netlist first NetlistIn o refl h)
    (opened_then (block.lib ∷ []) (block.netlist ∷ []) (opened c.args.files.now) (opened c.library.new.files) (opened c.netlist.new.files) c.library.ensures.read.once c.netlist.ensures.read.once)
    c.in_err-netlist.ensures.read.answer.0))

pub returns-clause-stopped : goal.returns-clause-stopped
returns-clause-stopped g c =
    let opened = g.F.Files.opened in
    let block = c.args.block in
    IfErr-weaker c.finish_block-design.result _ _ (λ stop h. fails_later (block.lib ∷ block.netlist ∷ []) (block.spef ∷ block.sdc ∷ []) (opened c.args.files.now) (opened c.netlist.new.files) (opened c.finish_block-design.new.files) stop
    (opened_then (block.lib ∷ []) (block.netlist ∷ []) (opened c.args.files.now) (opened c.library.new.files) (opened c.netlist.new.files) c.library.ensures.read.once c.netlist.ensures.read.once)
    h) c.finish_block-design.ensures.stopped
