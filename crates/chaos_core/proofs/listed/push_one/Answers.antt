use Rattle.std.proofs.Common.{refl, Vec, Global}
use Rattle.xt_model.specs.declared.net.NetId.{NetId}
use Rattle.chaos_core.proofs.Listing.{listed_more, listed_there}
use Rattle.chaos_core.proofs.listed.push_one.Goals as goal

pub returns-clause-more : goal.returns-clause-more
returns-clause-more c =
    listed_more (λ (row : Vec NetId Global). row.items) c.args.rows.now _ c.args.to.0 c.args.own c.index-rows-to.result c.push.new.self c.requires refl c.in_ok-push.ensures.items

pub returns-clause-there : goal.returns-clause-there
returns-clause-there c =
    listed_there (λ (row : Vec NetId Global). row.items) c.args.rows.now _ c.args.to.0 c.args.own c.index-rows-to.result c.push.new.self c.requires refl c.in_ok-push.ensures.items
