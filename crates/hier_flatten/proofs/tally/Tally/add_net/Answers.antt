use Rattle.std.proofs.Common.{◌<◌, length, arith}
use Rattle.hier_flatten.proofs.GrowingLaws.{counted_push}
use Rattle.hier_flatten.proofs.tally.Tally.add_net.Goals as goal

pub invariant_of-self-2 : goal.invariant_of-self-2
invariant_of-self-2 c =
    let few : length c.self.inside.ranges.items < 4294967295 = omega (arith, c.len.ensures, c.if-len-ge-MOST_NAMES.false, c.self.inside.ranges.ok.0) in
    counted_push c.self.inside.ranges.items c.push.new.self.items _ c.self.inside.bits c.width_of.result c.self.invariant few c.width_of.ensures.value
    c.width_of.ensures.most c.in_ok-push.ensures.items
