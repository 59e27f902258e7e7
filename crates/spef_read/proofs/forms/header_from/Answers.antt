use Rattle.std.proofs.Common.{◌≡◌, refl}
use Rattle.text_forms.specs.Forms.{agree}
use Rattle.spef_read.specs.Forms.{fits, header_forms, section_forms}
use Rattle.spef_read.specs.declared.sort.Sort.{Sort}
use Rattle.spef_read.specs.declared.sort.Sort.TheVariants.{Title, Flow, Separator, Brackets, Unit}
use Rattle.spef_read.proofs.forms.header_from.Goals as goal

sections_alone : (s : Sort) → (s ≡ Title → ⊥) → (s ≡ Flow → ⊥) → (s ≡ Separator → ⊥) → (s ≡ Brackets → ⊥) → (s ≡ Unit → ⊥)
    → agree fits s header_forms ≡ agree fits s section_forms
sections_alone Title n m k l p = absurd (n refl)
sections_alone Flow n m k l p = absurd (m refl)
sections_alone Separator n m k l p = absurd (k refl)
sections_alone Brackets n m k l p = absurd (l refl)
sections_alone Unit n m k l p = absurd (p refl)
sections_alone _ n m k l p = refl

pub returns-in_default : goal.returns-in_default
returns-in_default c =
    let alone = sections_alone c.args.first.sort c.in_default.not-Title c.in_default.not-Flow c.in_default.not-Separator c.in_default.not-Brackets c.in_default.not-Unit in
    rw alone c.section_from.ensures
