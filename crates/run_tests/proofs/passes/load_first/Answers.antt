use Rattle.std.proofs.Common.{◌+◌, ◌*◌, ◌<◌, sym, ap, ◌∙◌, List, length, arith}
use Rattle.std.specs.Prelude.{slice_index}
use Rattle.xt_model.specs.declared.net.NetId.{NetId}
use Rattle.net_eval.specs.ReadLists.{ids, reads_of}
use Rattle.chaos_core.specs.Boards.{nets_of}
use Rattle.chaos_core.specs.Tasks.{list_of}
use Rattle.chaos_core.proofs.Places.{id_at, ids_count, load_there}
use Rattle.dirty_words.specs.Views.{Run}
use Rattle.run_tests.proofs.passes.load_first.Goals as goal

pub load-requires-clause-word : goal.load-requires-clause-word
load-requires-clause-word c =
    let d = c.args.board.now.run.setting.design in
    let lists = c.args.lists.now in
    let net = c.args.net.0 in
    let whole = c.requires.whole in
    let some = c.requires.some in
    let there = c.requires.there in
    let count = whole.count in
    let numbers = ids_count (reads_of lists net) in
    let found = ap length c.of.ensures in
    let inside : 8 * slice_index (list_of lists net) 0 + 0 < 8 * length d.nets = load_there d net 0 (list_of lists net) whole.sound (whole.each net (omega (arith, there, count))) (omega (arith, numbers, some)) in
    let first = sym (id_at c.of.result.now 0 (record { 0 = 0 }) (omega (arith, found, some))) ∙ ap (λ (rs : List NetId). slice_index (ids rs) 0) c.of.ensures in
    let nets = ap (λ (r : Run). nets_of r.setting) c.requires.own.run in
    omega (arith, inside, first, nets)
