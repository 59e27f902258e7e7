use Rattle.std.proofs.Common.{ap, ◌∙◌}
use Rattle.sdc_read.specs.Mentions.{nets_of, told}
use Rattle.sdc_read.proofs.MentionLaws.{told_push, all_told}
use Rattle.sdc_read.proofs.objects.change_all.Goals as goal

pub returns-clause-value : goal.returns-clause-value
returns-clause-value c =
    ap (told (nets_of c.args.netlist.now)) c.in_ok-push.ensures
    ∙ (told_push (nets_of c.args.netlist.now) c.args.said.now _
    ∙ all_told c.args.netlist.now c.args.clock c.args.change (told (nets_of c.args.netlist.now) c.args.said.now))
