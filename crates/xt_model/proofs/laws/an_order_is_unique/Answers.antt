use Rattle.xt_model.proofs.OrderLaws.{orders_are_one}
use Rattle.xt_model.proofs.laws.an_order_is_unique.Goals as goal

pub returns : goal.returns
returns c = orders_are_one
