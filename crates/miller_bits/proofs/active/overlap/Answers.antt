use Rattle.std.proofs.Common.{◌≡◌, ◌∙◌, ap, sym, subst, Bool}
use Rattle.std.specs.Prelude.{IsTrue, ◌↔◌}
use Rattle.xt_meaning.specs.Overlap.{Overlap, overlaps}
use Rattle.xt_meaning.proofs.Meeting.{overlaps_decides}
use Rattle.miller_bits.proofs.active.overlap.Goals as goal

value_is : (c : goal.After-overlaps) → c.overlaps.result ≡ overlaps c.args.period c.args.a.now c.args.b.now
value_is c = c.overlaps.ensures ∙ ap (λ q. overlaps c.args.period q c.args.b.now) c.of.ensures.window

pub returns-clause-meaning : goal.returns-clause-meaning
returns-clause-meaning c =
    let P : Bool → Type 0 = λ b. IsTrue b ↔ Overlap c.args.period c.args.a.now c.args.b.now in
    subst P (sym (value_is c)) (overlaps_decides c.args.period c.args.a.now c.args.b.now c.requires.period)

pub returns-clause-value : goal.returns-clause-value
returns-clause-value c = value_is c
