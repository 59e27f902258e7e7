use Rattle.std.proofs.Common.{◌≡◌, ◌++◌, ◌∷◌, [], false, codes, refl, sym, ap, ◌∙◌, append_assoc, rules}
use Rattle.std.specs.Fmt.{decimal}
use Rattle.xt_model.specs.Miller.{MillerNumbers, is_classical}
use Rattle.text_lines.specs.Lines.{text_of}
use Rattle.text_lines.specs.Miller.{miller_lines}
use Rattle.text_lines.proofs.Pieces.{field_then, field_last}
use Rattle.text_lines.proofs.miller.push_miller.Goals as goal

-- the line of Miller numbers that are not the classical ones
miller_line : (m : MillerNumbers) → is_classical m ≡ false → text_of (miller_lines m) ≡ codes "miller" ++ 32 ∷ (decimal m.low ++ 32 ∷ (decimal m.mid ++ 32 ∷ (decimal m.high ++ 10 ∷ [])))
miller_line m other = rw other (simp append_assoc)

pub returns : goal.returns
returns c =
    let other : is_classical c.args.miller.now ≡ false = search rules in
    field_then _ _ _ _ _ _ _ refl c.in_ok-push_word.ensures
    (field_then _ _ _ _ _ _ _ (ap decimal c.low.ensures.value) c.in_ok-push_number.ensures
    (field_then _ _ _ _ _ _ _ (ap decimal c.mid.ensures.value) c.in_ok-push_number-2.ensures
    (field_last _ _ _ _ _ (ap decimal c.high.ensures.value) c.in_ok-push_number-3.ensures)))
    ∙ ap (λ text. c.args.out.now.items ++ text) (sym (miller_line c.args.miller.now other))
