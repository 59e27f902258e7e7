use Rattle.std.proofs.Common.{arith}
use Rattle.net_eval.specs.ReadLists.{ids}
use Rattle.chaos_core.proofs.Places.{ids_count, place_is, placed}
use Rattle.chaos_core.proofs.loaded.LoadedWords.place.Goals as goal

pub returns-clause-place : goal.returns-clause-place
returns-clause-place c = place_is _ _ _ c.args.self.now.placed c.requires

pub returns-clause-inside : goal.returns-clause-inside
returns-clause-inside c =
    let is = place_is _ _ _ c.args.self.now.placed c.requires in
    let n = ids_count c.args.self.now.reads.now in
    let p = (placed (ids c.args.self.now.reads.now) c.args.net c.requires).inside in
    omega (arith, is, n, p)
