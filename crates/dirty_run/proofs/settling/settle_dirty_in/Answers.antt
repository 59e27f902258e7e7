use Rattle.std.proofs.Common.{◌≡◌, sym, ap, subst, ◌∙◌, List, ℕ, length, Contains, arith}
use Rattle.xt_model.specs.declared.direction.Direction.{Direction}
use Rattle.xt_model.specs.Parts.{Parts}
use Rattle.xt_meaning.specs.Laws.{IsExtremeFixpoint}
use Rattle.table_box.specs.Groups.{AreGroups}
use Rattle.net_eval.specs.ReadLists.{AreReadLists}
use Rattle.run_laws.proofs.Hulls.{within_greatest}
use Rattle.chaos_core.specs.Boards.{nets_of}
use Rattle.dirty_words.specs.Views.{Run}
use Rattle.dirty_words.specs.declared.view.DirtyView.{DirtyView}
use Rattle.dirty_run.specs.Rounds.{AreMarkedTurns}
use Rattle.dirty_run.proofs.OneList.{one_list}
use Rattle.dirty_run.proofs.Ended.{range_found, ends_extreme, ends_fit}
use Rattle.dirty_words.specs.Boards.{IsAlone, IsFree}
use Rattle.dirty_run.proofs.settling.settle_dirty_in.Goals as goal

pub run_rounds-rounds-requires-clause-run : goal.run_rounds-rounds-requires-clause-run
run_rounds-rounds-requires-clause-run g c = λ _ _.
    let board = c.args.board.now.run in
    record {
      design = c.requires.design;
      grouped = subst (AreGroups c.args.design.now.tables) (sym c.as_slice-groups.ensures.value) c.requires.room.groups;
      way = c.requires.direction;
      own = one_list c.args.design.now board.lists c.args.lists.now (subst (λ (d : Parts). AreReadLists d board.lists) c.requires.design c.has_read_lists.ensures) c.requires.lists;
      whole = c.requires.lists;
      reversed = c.requires.readers;
    }

pub load_words-requires-clause-room : goal.load_words-requires-clause-room
load_words-requires-clause-room g c =
    let w = c.run_rounds-rounds.new.first.view in
    let nets : nets_of w.base.setting ≡ length c.args.design.now.nets = ap (λ (r : Run). nets_of r.setting) c.run_rounds-rounds.ensures.own.run ∙ ap (λ (x : Parts). length x.nets) c.requires.design in
    let room = c.requires.room.words in
    omega (arith, room, nets)

pub set_pairs-requires-clause-count : goal.set_pairs-requires-clause-count
set_pairs-requires-clause-count g c =
    let words = c.as_slice.ensures.value ∙ c.load_words.ensures.words in
    let long = ap length words in
    let many = c.run_rounds-rounds.ensures.kept.seen.count in
    let nets : nets_of c.args.board.now.run.setting ≡ length c.args.design.now.nets = ap (λ (x : Parts). length x.nets) c.requires.design in
    let count = c.requires.room.count in
    omega (arith, long, many, nets, count)

pub set_pairs-requires-clause-range : goal.set_pairs-requires-clause-range
set_pairs-requires-clause-range g c =
    let w = c.run_rounds-rounds.new.first.view in
    range_found c.args.board.now.run.setting w.base.seen c.as_slice.result.now c.run_rounds-rounds.ensures.kept (c.as_slice.ensures.value ∙ c.load_words.ensures.words)

pub returns-clause-clear : goal.returns-clause-clear
returns-clause-clear g c = λ net lt. subst (λ (v : DirtyView). Contains v.clear net) (sym c.load_words.ensures.view) (c.run_rounds-rounds.ensures.clear net lt)

pub returns-clause-extreme : goal.returns-clause-extreme
returns-clause-extreme g c =
    let w = c.run_rounds-rounds.new.first.view in
    let is = c.set_pairs.ensures.numbers ∙ (c.as_slice.ensures.value ∙ c.load_words.ensures.words) in
    ends_extreme c.args.board.now.run.setting c.args.design.now c.args.direction w.base.seen c.set_pairs.new.windows c.requires.design c.requires.direction c.run_rounds-rounds.ensures.kept is c.set_pairs.ensures.range
    c.run_rounds-rounds.ensures.closed

pub returns-clause-seen : goal.returns-clause-seen
returns-clause-seen g c =
    let is = c.set_pairs.ensures.numbers ∙ (c.as_slice.ensures.value ∙ c.load_words.ensures.words) in
    ap (λ (v : DirtyView). v.base.seen) c.load_words.ensures.view ∙ sym is

pub returns-clause-turns : goal.returns-clause-turns
returns-clause-turns g c =
    let is = c.set_pairs.ensures.numbers ∙ (c.as_slice.ensures.value ∙ c.load_words.ensures.words) in
    subst (λ (words : List ℕ). AreMarkedTurns c.args.board.now.run.setting c.run_rounds-rounds.result c.args.first.now.view.base.seen words) (sym is) c.run_rounds-rounds.ensures.turns

pub returns-clause-consistent : goal.returns-clause-consistent
returns-clause-consistent g c = λ narrow xs are.
    let d = c.args.design.now in
    let a = c.args.board.now.run.setting in
    let w = c.run_rounds-rounds.new.first.view in
    let v = c.set_pairs.new.windows in
    let is = c.set_pairs.ensures.numbers ∙ (c.as_slice.ensures.value ∙ c.load_words.ensures.words) in
    let fits = ends_fit a d c.args.direction w.base.seen v c.requires.design c.requires.direction c.run_rounds-rounds.ensures.kept is c.set_pairs.ensures.range in
    let extreme = ends_extreme a d c.args.direction w.base.seen v c.requires.design c.requires.direction c.run_rounds-rounds.ensures.kept is c.set_pairs.ensures.range c.run_rounds-rounds.ensures.closed in
    let within = fits.within in
    let o = c.requires.lists.ordered.1 in
    within_greatest d o.0 within.top v xs c.requires.lists.sound o.1 within.envelope (subst (λ (way : Direction). IsExtremeFixpoint way d v) narrow extreme) are

pub run_rounds-rounds-requires-clause-own : goal.run_rounds-rounds-requires-clause-own
run_rounds-rounds-requires-clause-own g c = λ _ _. c.requires.own

pub run_rounds-rounds-requires-clause-alone : goal.run_rounds-rounds-requires-clause-alone
run_rounds-rounds-requires-clause-alone g c = λ _ _. c.requires.alone

pub run_rounds-rounds-requires-clause-free : goal.run_rounds-rounds-requires-clause-free
run_rounds-rounds-requires-clause-free g c = λ _ _. c.requires.free

pub run_rounds-rounds-requires-clause-idle : goal.run_rounds-rounds-requires-clause-idle
run_rounds-rounds-requires-clause-idle g c = λ _ _. c.requires.room.idle

pub run_rounds-rounds-requires-clause-some : goal.run_rounds-rounds-requires-clause-some
run_rounds-rounds-requires-clause-some g c = λ _ _. c.requires.some

pub run_rounds-rounds-requires-clause-few : goal.run_rounds-rounds-requires-clause-few
run_rounds-rounds-requires-clause-few g c = λ _ _. c.requires.few

pub load_words-requires-clause-own : goal.load_words-requires-clause-own
load_words-requires-clause-own g c = c.run_rounds-rounds.ensures.own

pub load_words-requires-clause-alone : goal.load_words-requires-clause-alone
load_words-requires-clause-alone g c = c.run_rounds-rounds.ensures.alone

pub returns-clause-own : goal.returns-clause-own
returns-clause-own g c = c.load_words.ensures.own

pub returns-clause-alone : goal.returns-clause-alone
returns-clause-alone g c = subst IsAlone (sym c.load_words.ensures.view) c.run_rounds-rounds.ensures.alone

pub returns-clause-free : goal.returns-clause-free
returns-clause-free g c = subst IsFree (sym c.load_words.ensures.view) c.run_rounds-rounds.ensures.free

pub returns-clause-few : goal.returns-clause-few
returns-clause-few g c = c.run_rounds-rounds.ensures.few

pub returns-clause-split : goal.returns-clause-split
returns-clause-split g c = λ some. ap (λ (v : DirtyView). v.base.split) c.load_words.ensures.view ∙ c.run_rounds-rounds.ensures.split some

pub returns-clause-made : goal.returns-clause-made
returns-clause-made g c = let made = ap (λ (v : DirtyView). v.base.made) c.load_words.ensures.view in let most = c.run_rounds-rounds.ensures.made in omega (arith, made, most)
