use Rattle.std.proofs.Common.{◌≡◌, [], length}
use Rattle.sdc_words.specs.Items.{items_from}
use Rattle.sdc_read.specs.Mentions.{nets_of, told, AllFit}
use Rattle.sdc_read.specs.Objects.{change_names}
use Rattle.sdc_read.proofs.objects.change_many.Given as goal

abbrev pub invariant-names : goal.invariant-names
invariant-names l =
    (change_names l.netlist l.clock l.change (items_from [] l.rest) (told (nets_of l.netlist) l.said)
    ≡ change_names l.netlist l.clock l.change (items_from [] l.names) (told (nets_of l.netlist) l.fn.said))
    × (AllFit (nets_of l.netlist) l.clock l.fn.said → AllFit (nets_of l.netlist) l.clock l.said)

abbrev pub decreases-names : goal.decreases-names
decreases-names l = length (items_from [] l.rest)
