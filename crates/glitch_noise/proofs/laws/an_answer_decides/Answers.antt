use Rattle.xt_model.specs.Quads.{is_live}
use Rattle.xt_meaning.specs.Overlap.{active_from, active_to, ranges_meet}
use Rattle.xt_meaning.proofs.Order.{both_true, true_both}
use Rattle.xt_meaning.proofs.Meeting.{meet_decides}
use Rattle.glitch_noise.proofs.laws.an_answer_decides.Goals as goal

pub returns : goal.returns
returns c = λ period q moment real.
    let meets = ranges_meet period (active_from q) (active_to q) moment moment in
    let d = meet_decides period (active_from q) (active_to q) moment moment real in
    (λ t. (let h = both_true (is_live q) meets t in record { live = h.0; meet = d.0 h.1 }), λ h. true_both (is_live q) meets h.live (d.1 h.meet))
