use Rattle.std.proofs.Common.{[]}
use Rattle.std.proofs.lemmas.Result.{err_from_is_err_and}
use Rattle.text_forms.specs.Stops.{refusal_of}
use Rattle.text_forms.specs.Misfits.{misfits_by}
use Rattle.text_forms.specs.Reader.{whole_of}
use Rattle.text_forms.proofs.ByForms.{goes_on, form_refused, stops_text, fewer_tokens}
use Rattle.text_forms.proofs.reader.step.Goals as goal

pub returns-in_err-read : goal.returns-in_err-read
returns-in_err-read g c =
    let r = g.R.FormReader in
    let p = err_from_is_err_and c.from_residual.result c.from_residual.ensures.1 in
    rw (p.1, p.2) (form_refused r.fits (misfits_by g.R.Sort.TokenSort.misfit g.R.Sort.TokenSort.end) r.is_done r.forms_in r.means c.args.context (r.tokens c.args.terms.now) (r.state_of c.args.state.now) (refusal_of c.in_err-read.field-0.0) c.requires c.in_err-read.ensures)

pub returns-in-Ok : goal.returns-in-Ok
returns-in-Ok g c =
    let r = g.R.FormReader in
    let w = whole_of r.item_of c.in_ok-read.read in
    let rest = (r.tokens c.read_form.new.terms) in (
      goes_on r.fits (misfits_by g.R.Sort.TokenSort.misfit g.R.Sort.TokenSort.end) r.is_done r.forms_in r.means c.args.context (r.tokens c.args.terms.now) (r.state_of c.args.state.now) (r.state_of c.act.new.self) w rest c.requires c.in_ok-read.ensures c.in-Ok.ensures,
      fewer_tokens r.fits (misfits_by g.R.Sort.TokenSort.misfit g.R.Sort.TokenSort.end) (r.forms_in c.args.context) [] (r.tokens c.args.terms.now) w rest c.in_ok-read.ensures,
    )

pub returns-in-Err : goal.returns-in-Err
returns-in-Err g c =
    let r = g.R.FormReader in
    rw c.at_line.ensures
    (stops_text r.fits (misfits_by g.R.Sort.TokenSort.misfit g.R.Sort.TokenSort.end) r.is_done r.forms_in r.means c.args.context (r.tokens c.args.terms.now) (r.state_of c.args.state.now) (whole_of r.item_of c.in_ok-read.read) (r.tokens c.read_form.new.terms) c.in-Err.stop c.requires c.in_ok-read.ensures c.in-Err.ensures)
