use Rattle.std.proofs.Common.{◌≡◌, length}
use Rattle.text_forms.specs.Misfits.{misfits_by}
use Rattle.text_forms.specs.Reader.{rest_by}
use Rattle.text_forms.proofs.reader.read_all.Given as goal

abbrev pub invariant-forms : goal.invariant-forms
invariant-forms g l =
    let r = g.R.FormReader in
    let rest = rest_by r.fits (misfits_by g.R.Sort.TokenSort.misfit g.R.Sort.TokenSort.end) r.is_done r.forms_in r.means in
    rest l.context (r.tokens l.terms) (r.state_of l.state) ≡ rest l.fn.start (r.tokens l.fn.terms) (r.state_of l.fn.state)

abbrev pub decreases-forms : goal.decreases-forms
decreases-forms g l = length (g.R.FormReader.tokens l.terms)
