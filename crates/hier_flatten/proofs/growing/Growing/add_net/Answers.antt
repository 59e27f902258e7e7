use Rattle.std.proofs.Common.{◌<◌, length, arith}
use Rattle.hier_flatten.proofs.GrowingLaws.{grown_push}
use Rattle.hier_flatten.proofs.growing.Growing.add_net.Goals as goal

pub invariant_of-self-in-Ok : goal.invariant_of-self-in-Ok
invariant_of-self-in-Ok c =
    let few : length c.self.inside.ranges.items < 4294967295 = omega (arith, c.len.ensures, c.if-len-ge-MOST_NAMES.false, c.self.inside.ranges.ok.0) in
    grown_push c.self.inside.table c.self.inside.more.items c.put.new.table c.put.new.more.items c.self.inside.ranges.items c.push.new.self.items c.args.name.now
    c.args.net c.self.inside.bits c.width_of.result c.self.inside.entered c.self.invariant few c.width_of.ensures.value c.width_of.ensures.most
    c.in_ok-push.ensures.items c.put.ensures.apart c.in-Ok.ensures.nets
