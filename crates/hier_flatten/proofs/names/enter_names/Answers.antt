use Rattle.hier_flatten.proofs.NamesLaws.{instance_again, instance_more}
use Rattle.hier_flatten.proofs.names.enter_names.Goals as goal

pub returns-then-not-fresh : goal.returns-then-not-fresh
returns-then-not-fresh c =
    instance_again c.instances.names c.instances.rest.now c.args.instances.now _ c.instance-item.result c.bytes.result.now c.in-len1-up.len_at_least
    c.instance-item.is c.bytes.ensures c.instances.invariant c.in_ok-fresh.fresh c.in_ok-fresh.ensures.fresh c.if-not-fresh.true

pub instances-preserved : goal.instances-preserved
instances-preserved c =
    instance_more c.instances.names c.instances.rest.now c.args.instances.now _ c.instance-item.result c.bytes.result.now c.in-len1-up.len_at_least
    c.instance-item.is c.bytes.ensures c.instances.invariant c.in_ok-fresh.fresh c.enter.new.self c.in_ok-fresh.ensures.fresh c.if-not-fresh.false c.in_ok-fresh.ensures.entered
