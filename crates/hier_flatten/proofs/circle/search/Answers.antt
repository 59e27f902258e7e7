use Rattle.std.proofs.Common.{◌≡◌, [], subst}
use Rattle.hier_flatten.specs.Search.{IsSearch}
use Rattle.hier_flatten.proofs.SearchLaws.{first_entered, entered_met, finite}
use Rattle.hier_flatten.proofs.circle.search.Goals as goal

pub places-init : goal.places-init
places-init c = record {
  search = first_entered c.args.index.now c.args.marks.now (record { number = c.args.number; rest = c.instances.result }) _ c.push.new.self c.requires.new
      c.instances.ensures c.new-stack.ensures c.in_ok-push.ensures c.requires.search;
  met = entered_met c.args.marks.now c.args.number;
}

pub returns : goal.returns
returns c =
    let none : c.places.stack ≡ [] = c.in_default.ensures.0 in
    let search : IsSearch c.args.index.now c.places.marks [] = subst (IsSearch c.args.index.now c.places.marks) none c.places.invariant.search in
    (search, finite c.args.index.now c.places.marks c.args.number search c.places.invariant.met)

pub places-preserved : goal.places-preserved
places-preserved c = record {
  search = rw c.if-branch.false at c.in_ok-look.ensures.goes;
  met = c.look.ensures.met c.args.number c.places.invariant.met;
}
