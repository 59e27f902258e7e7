-- A design that is solved has one outcome.
use Rattle.std.proofs.Common.{◌≡◌, ap, inl, inr}
use Rattle.xt_model.specs.Parts.{Parts}
use Rattle.xt_model.specs.Sound.{IsSound}
use Rattle.report_text.proofs.OneReport.{one_report}
use Rattle.report_kind.specs.declared.kind.ReportKind.{ReportKind}
use Rattle.command_line.specs.Words.{Text}
use Rattle.call_meaning.specs.Outcome.{Outcome, prints, DesignMeans, IsSolution, LimitsMean, SolvedMeans}
use Rattle.call_meaning.specs.declared.refusal.Refusal.TheVariants.{Design}
use Rattle.call_meaning.specs.declared.refusal.DesignRefusal.TheVariants.{Limit}
use Rattle.call_meaning.proofs.Agreeing.{LeavesOne, agree_as}
use Rattle.call_meaning.proofs.OnePassed.{one_passed}
use Rattle.call_meaning.proofs.Within.{within_or_passed}

-- a design passes one first limit, or it keeps the limits
pub one_of_limits : (d : Parts) (Leads : Outcome → Type 0) → IsSound d → LeavesOne Leads → LeavesOne (λ o. LimitsMean d (Leads o) o)
one_of_limits d Leads s one o p (inl a) (inl b) = agree_as o p _ _ a.2 b.2 (ap (λ l. Design (Limit l)) (one_passed d a.0 b.0 s a.1 b.1))
one_of_limits d Leads s one o p (inl a) (inr b) = absurd (within_or_passed d a.0 s b.0 a.1)
one_of_limits d Leads s one o p (inr a) (inl b) = absurd (within_or_passed d b.0 s a.0 b.1)
one_of_limits d Leads s one o p (inr a) (inr b) = one o p a.1 b.1

pub one_of_solved : (IsText : Text → Type 0) (d : Parts) → ((a b : Text) → IsText a → IsText b → a ≡ b) → IsSound d → LeavesOne (SolvedMeans IsText d)
one_of_solved IsText d one s =
    one_of_limits d (λ o. (text : Text) × IsText text × (o ≡ prints text)) s (λ o p a b. agree_as o p _ _ a.2 b.2 (one a.0 b.0 a.1 b.1))

pub one_of_design : (kind : ReportKind) (d : Parts) → IsSound d → LeavesOne (DesignMeans kind d)
one_of_design kind d s = one_of_solved (IsSolution kind d) d (λ a b x y. one_report kind d a b x.report y.report) s
