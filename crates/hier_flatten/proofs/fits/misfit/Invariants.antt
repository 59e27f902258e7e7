use Rattle.std.proofs.Common.{◌≡◌, length}
use Rattle.hier_flatten.specs.Fits.{misfit_in}
use Rattle.hier_flatten.proofs.fits.misfit.Given as goal

abbrev pub invariant-modules : goal.invariant-modules
invariant-modules l = misfit_in l.index l.rest ≡ misfit_in l.index l.index

abbrev pub decreases-modules : goal.decreases-modules
decreases-modules l = length l.rest
