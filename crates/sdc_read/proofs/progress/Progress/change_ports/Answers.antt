use Rattle.std.proofs.Common.{sym, subst}
use Rattle.sdc_read.specs.Mentions.{nets_of, AllFit, IsKept}
use Rattle.sdc_read.proofs.MentionLaws.{kept_by}
use Rattle.sdc_read.proofs.progress.Progress.change_ports.Goals as goal

pub returns-clause-kept : goal.returns-clause-kept
returns-clause-kept c =
    kept_by c.change_objects.result
    (λ kept. rw c.bit_of-clock.ensures (subst (IsKept c.args.netlist.now) (sym c.self.view_is) kept))
    (λ fits. subst (λ o. AllFit (nets_of c.args.netlist.now) o c.change_objects.new.said) c.bit_of-clock.ensures fits)
    c.change_objects.ensures.fits
