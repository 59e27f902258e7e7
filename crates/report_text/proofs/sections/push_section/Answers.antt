use Rattle.std.proofs.Common.{◌++◌, sym, ap, subst, ◌∙◌, refl}
use Rattle.text_lines.specs.Lines.{text_of}
use Rattle.report_text.specs.Report.{Appends, IsSection, window_lines, unconstrained_lines}
use Rattle.report_text.proofs.sections.push_section.Goals as goal

pub returns-in_ok-push_windows-in-Windows : goal.returns-in_ok-push_windows-in-Windows
returns-in_ok-push_windows-in-Windows c =
    let low = c.args.low.now in
    let high = c.args.high.now in
    let appended = c.in_ok-push_windows-in-Windows.ensures ∙ ap (λ nets. c.args.out.now.items ++ text_of (window_lines low high 0 nets)) c.nets.ensures.value in
    subst (λ s. Appends (IsSection s c.args.design.now low high) c.args.out.now.items c.push_windows.new.out.items) (sym c.in-Windows.is) (_, refl, appended)

pub returns-in_ok-push_unconstrained-in-Unconstrained : goal.returns-in_ok-push_unconstrained-in-Unconstrained
returns-in_ok-push_unconstrained-in-Unconstrained c =
    let appended = c.in_ok-push_unconstrained-in-Unconstrained.ensures ∙ ap (λ nets. c.args.out.now.items ++ text_of (unconstrained_lines nets)) c.nets-in-Unconstrained.ensures.value in
    subst (λ s. Appends (IsSection s c.args.design.now c.args.low.now c.args.high.now) c.args.out.now.items c.push_unconstrained.new.out.items) (sym c.in-Unconstrained.is) (_, refl, appended)
