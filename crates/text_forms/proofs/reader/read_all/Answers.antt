use Rattle.std.proofs.Common.{◌≡◌, true, rules}
use Rattle.text_forms.specs.Stops.{refusal_of}
use Rattle.text_forms.proofs.Further.{text_ended, further_refuses}
use Rattle.text_forms.proofs.reader.read_all.Goals as goal

pub returns-in-None : goal.returns-in-None
returns-in-None g c =
    let r = g.R.FormReader in
    let sort = g.R.Sort.TokenSort in
    let done : r.is_done c.forms.context ≡ true = search rules in
    text_ended r.fits sort.misfit sort.end r.is_done r.forms_in r.means c.forms.context (r.tokens c.forms.terms) (r.state_of c.forms.state) _ done c.in-None.ensures c.forms.invariant

pub returns-in-Some : goal.returns-in-Some
returns-in-Some g c =
    let r = g.R.FormReader in
    let sort = g.R.Sort.TokenSort in
    let done : r.is_done c.forms.context ≡ true = search rules in
    rw c.from.ensures
    (further_refuses r.fits sort.misfit sort.end r.is_done r.forms_in r.means c.forms.context (r.tokens c.forms.terms) (r.state_of c.forms.state) (refusal_of c.in-Some.refused) _ done c.in-Some.ensures c.forms.invariant)
