use Rattle.std.proofs.Common.{refl, sym, ap, subst, length}
use Rattle.net_eval.specs.ReadLists.{ids, reads_of}
use Rattle.chaos_core.specs.Tasks.{list_of}
use Rattle.chaos_core.specs.Views.{IsLoaded}
use Rattle.chaos_core.specs.Looks.{IsLook}
use Rattle.chaos_core.proofs.LookLaws.{reads_inside}
use Rattle.chaos_core.proofs.Recalled.{recalled}
use Rattle.chaos_core.proofs.looked.evaluate_by.Goals as goal

pub evaluate_grouped-requires-clause-loaded : goal.evaluate_grouped-requires-clause-loaded
evaluate_grouped-requires-clause-loaded c = subst (λ reads. IsLoaded c.args.design.now reads c.args.net.0 c.args.numbers.now) (sym (ap ids c.of.ensures)) c.requires.loaded

pub knows-requires-clause-windows : goal.knows-requires-clause-windows
knows-requires-clause-windows c =
    let d = c.args.design.now in
    let lists = c.args.lists.now in
    let net = c.args.net.0 in
    let look : IsLook d c.in-Some.look.now.windows.now c.in-Some.look.now.marks.now = rw c.in-Some.is at c.requires.look in
    reads_inside d lists net (length c.in-Some.look.now.windows.now) (reads_of lists net) c.requires.lists.sound c.requires.lists c.requires.loaded.there look.windows.count refl

-- the windows of a look are what an evaluation of its numbers gives
pub returns-then-knows-clause-value : goal.returns-then-knows-clause-value
returns-then-knows-clause-value c =
    let d = c.args.design.now in
    let lists = c.args.lists.now in
    let net = c.args.net.0 in
    let v = c.in-Some.look.now.windows.now in
    let look : IsLook d v c.in-Some.look.now.marks.now = rw c.in-Some.is at c.requires.look in
    let loaded = c.requires.loaded in
    let steady = look.steady net loaded.there (c.knows.ensures.marked c.if-knows.true) in
    recalled d (list_of lists net) c.args.numbers.now net v c.requires.lists.sound loaded.list loaded.whole (c.knows.ensures.numbers c.if-knows.true) c.pair.result steady c.pair.ensures.value
