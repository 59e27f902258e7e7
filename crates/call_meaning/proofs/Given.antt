-- Designs by the Miller numbers that words give.
use Rattle.std.proofs.Common.{◌≡◌, ℕ, ◌≤◌, Option, Some, None, IfSome, length, inr, subst}
use Rattle.std.specs.List.{slice_get}
use Rattle.std.proofs.lemmas.List.Elements.{All-weaker}
use Rattle.xt_model.specs.declared.net.Coupling.{Coupling}
use Rattle.xt_model.specs.declared.net.TimingArc.{TimingArc}
use Rattle.xt_model.specs.declared.net.Net.{Net}
use Rattle.xt_model.specs.declared.check.CheckPoint.{CheckPoint}
use Rattle.xt_model.specs.declared.check.CheckPoint.TheVariants.{Flop, Port}
use Rattle.report_kind.specs.declared.kind.ReportKind.{ReportKind}
use Rattle.xt_model.specs.Miller.{MillerNumbers, IsMiller}
use Rattle.xt_model.specs.Parts.{Parts}
use Rattle.xt_model.specs.Sound.{IsSound, IsSoundArc, IsSoundCheck, IsSoundCoupling, IsSoundNet}
use Rattle.command_line.specs.Words.{Text}
use Rattle.call_meaning.specs.Outcome.{Contents, Outcome, DesignMeans, IsDesignText, LinkedMeans, TextReportMeans, counted_by}
use Rattle.call_meaning.specs.FailureWords.{most_bytes}
use Rattle.call_meaning.proofs.Lifts.{file_leads}

-- ---- a design by other Miller numbers stays sound

if_some : {X : Type 0} (P Q : X → Type 0) → ((x : X) → P x → Q x) → (o : Option X) → IfSome o P → IfSome o Q
if_some P Q f None h = tt
if_some P Q f (Some x) h = f x h

module _ (d : Parts) (m : MillerNumbers) where
  abbrev e : Parts
  e = record d { miller = m }

  same_coupling : (own : ℕ) (k : Coupling) → IsSoundCoupling d own k → IsSoundCoupling e own k
  same_coupling own k h = record { there = h.there; other = h.other; cap = h.cap }

  same_arc : (a : TimingArc) → IsSoundArc d a → IsSoundArc e a
  same_arc a h = record { sink = h.sink; delay = h.delay; slew = h.slew }

  same_net : (own : ℕ) (n : Net) → IsSoundNet d own n → IsSoundNet e own n
  same_net own n h = record {
    name = h.name;
    load = h.load;
    rise = h.rise;
    fall = h.fall;
    derived = h.derived;
    couplings = All-weaker (IsSoundCoupling d own) (IsSoundCoupling e own) (same_coupling own) n.couplings h.couplings;
    sinks = h.sinks;
    arcs = All-weaker (IsSoundArc d) (IsSoundArc e) same_arc n.arcs h.arcs;
    few_sinks = h.few_sinks;
    most_load = h.most_load;
  }

  same_check : (c : CheckPoint) → IsSoundCheck d c → IsSoundCheck e c
  same_check (Flop name hold datum datum_sink clock clock_sink rise fall) h = h
  same_check (Port name hold net sink rise fall) h = h

  sound_by : IsMiller m → IsSound d → IsSound e
  sound_by h s = record {
    tables = s.tables;
    nets = λ i. if_some (IsSoundNet d i) (IsSoundNet e i) (same_net i) (slice_get d.nets i) (s.nets i);
    names = s.names;
    checks = All-weaker (IsSoundCheck d) (IsSoundCheck e) same_check d.checks s.checks;
    limits = record {
      nets = s.limits.nets;
      tables = s.limits.tables;
      checks = s.limits.checks;
      couplings = s.limits.couplings;
      coefficients = s.limits.coefficients;
      arcs = s.limits.arcs;
      reads = s.limits.reads;
    };
    period = record { range = s.period.range; there = s.period.there };
    miller = h;
  }

pub counted_sound : (miller : Option MillerNumbers) (d : Parts) → IfSome miller IsMiller → IsSound d → IsSound (counted_by miller d)
counted_sound None d h s = s
counted_sound (Some m) d h s = sound_by d m h s

-- what the text's design comes to by the Miller numbers that are given, the report of the text comes to
pub design_leads : (file : Text) (miller : Option MillerNumbers) (kind : ReportKind) (content : Contents) (bytes : Text) (d e : Parts) (o : Outcome)
    → IfSome (content file) (λ whole. bytes ≡ whole) → length bytes ≤ most_bytes → IsDesignText bytes d → e ≡ counted_by miller d → DesignMeans kind e o
    → TextReportMeans file miller kind content o
design_leads file miller kind content bytes d e o held fits text is h =
    file_leads file content (λ b. LinkedMeans file b (λ x. DesignMeans kind (counted_by miller x) o) o) o bytes held fits
    (inr (d, text, subst (λ x. DesignMeans kind x o) is h))
