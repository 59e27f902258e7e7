use Rattle.std.proofs.Common.{◌≡◌, length, get_or, refl, sym, ap, ◌∙◌, arith, below_more}
use Rattle.std.proofs.lemmas.Bool.{false≢true}
use Rattle.std.proofs.lemmas.Option.{slice_get_read}
use Rattle.xt_model.specs.Sound.{IsSoundNet}
use Rattle.sound_parts.proofs.Indexed.{fact_at, holds_at, holds_everywhere}
use Rattle.sound_parts.proofs.sound.has_sound_nets.Goals as goal

pub returns-then-not-is_sound_net : goal.returns-then-not-is_sound_net
returns-then-not-is_sound_net c =
    let nets = c.args.parts.now.nets in
    let same : c.as_slice-net-items.result.now ≡ nets = c.as_slice-net-items.ensures in
    let there = slice_get_read nets (length c.as_slice-net-items.result.now) c.loop-number.number c.net-item.result (ap length same) c.loop-number-test.true (c.net-item.is ∙ ap (λ l. get_or l c.loop-number.number c.net-item.result) same) in (
      λ t. absurd (false≢true t),
      λ all. absurd (false≢true (sym c.if-not-is_sound_net.true ∙ c.is_sound_net.ensures.1 (fact_at (IsSoundNet c.args.parts.now) nets _ _ there (all c.loop-number.number)))),
    )

pub loop-number-preserved : goal.loop-number-preserved
loop-number-preserved c =
    let nets = c.args.parts.now.nets in
    let same : c.as_slice-net-items.result.now ≡ nets = c.as_slice-net-items.ensures in
    let there = slice_get_read nets (length c.as_slice-net-items.result.now) c.loop-number.number c.net-item.result (ap length same) c.loop-number-test.true (c.net-item.is ∙ ap (λ l. get_or l c.loop-number.number c.net-item.result) same) in
    below_more _ _ c.loop-number.invariant (holds_at (IsSoundNet c.args.parts.now) nets _ _ there (c.is_sound_net.ensures.0 c.if-not-is_sound_net.false))

pub returns : goal.returns
returns c =
    let same : c.as_slice-net-items.result.now ≡ c.args.parts.now.nets = c.as_slice-net-items.ensures in
    (λ t. holds_everywhere (IsSoundNet c.args.parts.now) c.args.parts.now.nets c.loop-number.number (omega (arith, ap length same)) c.loop-number.invariant, λ t. refl)
