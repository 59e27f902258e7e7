use Rattle.std.proofs.Common.{◌≡◌, length}
use Rattle.hier_flatten.specs.Fits.{misfit_from}
use Rattle.hier_flatten.proofs.fits.misfit_from.Given as goal

abbrev pub invariant-instances : goal.invariant-instances
invariant-instances l = misfit_from l.index l.nets l.rest ≡ misfit_from l.index l.nets l.instances

abbrev pub decreases-instances : goal.decreases-instances
decreases-instances l = length l.rest
