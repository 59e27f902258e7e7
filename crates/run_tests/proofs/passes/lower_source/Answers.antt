use Rattle.std.proofs.Common.{◌≡◌, ◌*◌, ◌<◌, sym, ap, subst, ◌∙◌, List, [], length, arith}
use Rattle.xt_model.specs.declared.net.NetId.{NetId}
use Rattle.xt_model.specs.Parts.{Parts}
use Rattle.xt_meaning.specs.Reads.{IsReadList}
use Rattle.net_eval.specs.ReadLists.{ids, reads_of}
use Rattle.chaos_core.specs.Tasks.{list_of}
use Rattle.chaos_core.specs.Views.{IsLoaded}
use Rattle.chaos_core.proofs.Places.{ids_count}
use Rattle.chaos_core.proofs.Loads.{none_loaded, all_loaded}
use Rattle.dirty_words.specs.Views.{Run}
use Rattle.run_tests.proofs.passes.lower_source.Goals as goal

pub evaluate-pair-requires-clause-loaded : goal.evaluate-pair-requires-clause-loaded
evaluate-pair-requires-clause-loaded c =
    let v = c.args.pass.now.view in
    let a = v.base.setting in
    let d = c.args.design.now in
    let lists = c.args.lists.now in
    let reads = list_of lists 0 in
    let design : a.design ≡ d = ap (λ (r : Run). r.setting.design) c.requires.own.run ∙ c.requires.run in
    let there : 0 < length a.design.nets = subst (λ (x : Parts). 0 < length x.nets) (sym design) c.requires.some in
    let list : IsReadList a.design 0 reads = subst (λ (x : Parts). IsReadList x 0 reads) (sym design) (c.requires.whole.each 0 c.requires.some) in
    let count = ids_count (reads_of lists 0) in
    let none = c.requires.none in
    let whole : 0 ≡ 8 * length reads = omega (arith, count, none) in
    let loaded = all_loaded a v.base.seen reads [] 0 c.respects.ensures there list whole (none_loaded a v.base.seen reads) in
    subst (λ (rs : List NetId). IsLoaded d (ids rs) 0 []) (sym c.of.ensures) (subst (λ (x : Parts). IsLoaded x reads 0 []) design loaded)
