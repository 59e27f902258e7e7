use Rattle.std.proofs.Common.{◌≡◌, Err, [], refl, sym, ap, inl, inr}
use Rattle.text_forms.specs.Forms.{agree}
use Rattle.verilog_net.specs.Forms.{body_forms}
use Rattle.verilog_net.specs.Sorts.{same_sort}
use Rattle.verilog_net.specs.declared.sort.Sort.{Sort}
use Rattle.verilog_net.specs.declared.sort.Sort.TheVariants.{Endmodule, Direction, NetType, Name, LeftBracket}
use Rattle.verilog_net.proofs.forms.in_body.Goals as goal

no_form : (s : Sort) → (s ≡ Endmodule → ⊥) → (s ≡ Direction → ⊥) → (s ≡ NetType → ⊥) → (s ≡ Name → ⊥)
    → agree same_sort s body_forms ≡ []
no_form Endmodule n m k l = absurd (n refl)
no_form Direction n m k l = absurd (m refl)
no_form NetType n m k l = absurd (k refl)
no_form Name n m k l = absurd (l refl)
no_form _ n m k l = refl

no_name : (s : Sort) → (s ≡ Name → ⊥) → (s ≡ LeftBracket → ⊥) → agree same_sort s (agree same_sort Direction body_forms) ≡ []
no_name Name n m = absurd (n refl)
no_name LeftBracket n m = absurd (m refl)
no_name _ n m = refl

pub returns-in_default : goal.returns-in_default
returns-in_default c =
    let none = no_form c.in_ok-first.first.sort c.in_default.not-Endmodule c.in_default.not-Direction c.in_default.not-NetType c.in_default.not-Name in
    rw (c.in_ok-first.ensures.next, none) (ap Err (sym c.refused-in_default.ensures))

pub returns-in_default-sort : goal.returns-in_default-sort
returns-in_default-sort c =
    let word : agree same_sort c.in_ok-first.first.sort body_forms ≡ agree same_sort Direction body_forms =
    elim c.in-Direction.is [ inl e ↦ rw e refl | inr e ↦ rw e refl ] in
    let none = no_name c.in_ok-second-in-Direction.second.sort c.in_default-sort.not-Name c.in_default-sort.not-LeftBracket in
    rw (c.in_ok-first.ensures.next, word, c.in_ok-second-in-Direction.ensures.next, none) (ap Err (sym c.refused.ensures))
