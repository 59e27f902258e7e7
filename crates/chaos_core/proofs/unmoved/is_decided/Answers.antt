use Rattle.std.proofs.Common.{List, Bool, get_or, false, length}
use Rattle.std.specs.Prelude.{Option, Some, None, IfSome, IsTrue}
use Rattle.std.specs.List.{All, slice_get}
use Rattle.xt_model.specs.declared.net.Net.{Net}
use Rattle.xt_model.specs.declared.quad.Pair.{Pair}
use Rattle.xt_model.specs.Parts.{Parts}
use Rattle.xt_model.specs.Assign.{assigned}
use Rattle.chaos_core.specs.Looks.{AreAlike}
use Rattle.chaos_core.specs.Spared.{IsInputAlike}
use Rattle.chaos_core.proofs.LookLaws.{all_read}
use Rattle.chaos_core.proofs.Sparing.{decided_alike}
use Rattle.chaos_core.proofs.unmoved.is_decided.Goals as goal

-- inputs that are marked are alike
inputs_alike : (d : Parts) (v w : List Pair) (marks : List Bool) (o : Option Net) → AreAlike d v w marks → IfSome o (λ own. All (λ a. IsTrue (get_or marks a.from.0 false)) own.arcs)
    → IfSome o (λ own. All (λ a. IsInputAlike d (assigned v) (assigned w) a.from.0) own.arcs)
inputs_alike d v w marks None alike h = tt
inputs_alike d v w marks (Some own) alike h = λ i a lt. alike _ (h i a lt)

pub are_inputs_marked-requires-clause-read : goal.are_inputs_marked-requires-clause-read
are_inputs_marked-requires-clause-read c = all_read c.args.design.now c.args.net (length c.args.alike.now) c.requires.sound c.requires.count c.requires.there

pub is_own_alike-requires-clause-read : goal.is_own_alike-requires-clause-read
is_own_alike-requires-clause-read c = all_read c.args.design.now c.args.net (length c.args.before.now) c.requires.sound c.requires.before c.requires.there

pub returns : goal.returns
returns c = λ t.
    let d = c.args.design.now in
    let v = c.args.before.now in
    let w = c.args.after.now in
    let net = c.args.net in
    let inputs = inputs_alike d v w c.args.alike.now (slice_get d.nets net) c.requires.alike (c.are_inputs_marked.ensures c.if-not-are_inputs_marked.false) in
    decided_alike d (assigned v) (assigned w) net inputs (c.is_own_alike.ensures t)
