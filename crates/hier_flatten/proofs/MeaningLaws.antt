-- What modules mean, by how far they come.
use Rattle.std.proofs.Common.{◌≡◌, refl, ℕ, suc, Bool, true, false, not, if◌then◌else◌, List, [], ◌∷◌, Option, Some, None, Result, Ok, Err, sym, ap, ◌∙◌}
use Rattle.std.specs.List.{AllByRecursion, slice_get, filter}
use Rattle.xt_model.specs.declared.fault.LimitKind.{LimitKind}
use Rattle.xt_model.specs.declared.code.Code.TheVariants.{V7, V8, V9}
use Rattle.verilog_net.specs.declared.netlist.Netlist.{Netlist}
use Rattle.hier_flatten.specs.declared.fault.FlatFault.TheVariants as faults
use Rattle.hier_flatten.specs.Hierarchy.{HasHierarchy, IsFinite, SomeContainsItself, is_instanced, tops, only, top_of}
use Rattle.hier_flatten.specs.Fits.{misfit}
use Rattle.hier_flatten.specs.Flat.{Flat, built}
use Rattle.hier_flatten.specs.Walk.{Builds}
use Rattle.hier_flatten.specs.Meaning.{Outcome, TopMeans, HierarchyMeans, circular, finite, unless_misfit, named, within_limits, FlatMeans, AnswersFlat}
use Rattle.hier_flatten.proofs.FiniteLaws.{one_hierarchy, no_circle}

-- ---- what holds of a module of a text
each_by : (P : Netlist → Type 0) (ms : List Netlist) → ((n : ℕ) (m : Netlist) → slice_get ms n ≡ Some m → P m) → AllByRecursion P ms
each_by P [] f = tt
each_by P (m ∷ ms) f = (f 0 m refl, each_by P ms (λ n x e. f (suc n) x e))

kept : (P : Netlist → Type 0) (p : Netlist → Bool) (ms : List Netlist) → AllByRecursion P ms → AllByRecursion P (filter p ms)
kept P p [] h = tt
kept P p (m ∷ ms) h = by (p m) (kept P p ms h.1)
  where
    by : (b : Bool) → AllByRecursion P (filter p ms) → AllByRecursion P (if b then m ∷ filter p ms else filter p ms)
    by true rest = (h.0, rest)
    by false rest = rest

only_has : (P : Netlist → Type 0) (ms : List Netlist) (top : Netlist) → AllByRecursion P ms → only ms ≡ Some top → P top
only_has P [] top h e = absurd (cc)
only_has P (m ∷ []) top h e = let same : m ≡ top = cc in rw same at h.0
only_has P (m ∷ n ∷ ms) top h e = absurd (cc)

-- the top is one of the modules
pub top_has : (P : Netlist → Type 0) (ms : List Netlist) (top : Netlist) → AllByRecursion P ms → top_of ms ≡ Some top → P top
unfolding top_of
top_has P ms top h e = only_has P (tops ms) top (kept P (λ m. not (is_instanced ms m.«module»)) ms h) e

module _ (modules : List Netlist) (last : ℕ) where
  pub misfit_means : (line : ℕ) → misfit modules ≡ Some line → FlatMeans modules last (Err (faults.Refused line V7))
  unfolding FlatMeans
  misfit_means line e = rw e refl

  pub circle_means : misfit modules ≡ None → SomeContainsItself modules → FlatMeans modules last (Err (faults.Refused 1 V8))
  unfolding FlatMeans
  circle_means e some = rw e (circular some refl)

  pub no_top_means : misfit modules ≡ None → ((number : ℕ) → IsFinite modules number) → top_of modules ≡ None
      → FlatMeans modules last (Err (faults.Refused last V9))
  unfolding FlatMeans
  no_top_means e ends none = rw e (finite (no_circle modules ends) (rw none refl))

  pub built_means : (top : Netlist) (r : Result Flat LimitKind) (o : Outcome) → misfit modules ≡ None → ((number : ℕ) → IsFinite modules number)
      → top_of modules ≡ Some top → Builds modules top (built top) r → o ≡ within_limits last top r → FlatMeans modules last o
  unfolding FlatMeans
  built_means top r o e ends one builds is =
      rw e (finite (no_circle modules ends) (rw one (builds.0, builds.1, is ∙ ap (within_limits last top) (sym builds.2))))

  -- the top has an end below it
  pub top_finite : (top : Netlist) → ((number : ℕ) → IsFinite modules number) → top_of modules ≡ Some top → HasHierarchy modules top.instances
  top_finite top ends one =
      top_has (λ m. HasHierarchy modules m.instances) modules top (each_by (λ m. HasHierarchy modules m.instances) modules (λ n m there. ends n m there)) one

  module _ (top : Netlist) (e : misfit modules ≡ None) (ends : (number : ℕ) → IsFinite modules number) (one : top_of modules ≡ Some top) where
    pub limit_means : (what : LimitKind) → Builds modules top (built top) (Err what) → FlatMeans modules last (Err (faults.Limit what))
    limit_means what h = built_means top (Err what) (Err (faults.Limit what)) e ends one h refl

    pub names_mean : (flat : Flat) (r : Outcome) → Builds modules top (built top) (Ok flat) → AnswersFlat r (λ o. o ≡ named last top flat)
        → AnswersFlat r (FlatMeans modules last)
    names_mean flat (Ok n) h is = built_means top (Ok flat) (Ok n) e ends one h is
    names_mean flat (Err faults.NoMemory) h is = tt
    names_mean flat (Err (faults.Limit what)) h is = built_means top (Ok flat) (Err (faults.Limit what)) e ends one h is
    names_mean flat (Err (faults.Refused line code)) h is = built_means top (Ok flat) (Err (faults.Refused line code)) e ends one h is

  -- ---- modules mean one outcome
  top_one : (t : Option Netlist) (o p : Outcome) → TopMeans modules last t o → TopMeans modules last t p → o ≡ p
  top_one None o p a b = a ∙ sym b
  top_one (Some top) o p (h, is, a) (k, also, b) =
      a ∙ (ap (λ x. within_limits last top (built top x)) (one_hierarchy modules top.instances h k is also) ∙ sym b)

  hierarchy_one : (o p : Outcome) → HierarchyMeans modules last o → HierarchyMeans modules last p → o ≡ p
  hierarchy_one o p (circular some a) (circular other b) = a ∙ sym b
  hierarchy_one o p (circular some a) (finite none b) = absurd (none some)
  hierarchy_one o p (finite none a) (circular some b) = absurd (none some)
  hierarchy_one o p (finite none a) (finite other b) = top_one (top_of modules) o p a b

  misfit_one : (m : Option ℕ) (o p : Outcome) → unless_misfit m modules last o → unless_misfit m modules last p → o ≡ p
  misfit_one (Some line) o p a b = a ∙ sym b
  misfit_one None o p a b = hierarchy_one o p a b

  pub one_outcome : (o p : Outcome) → FlatMeans modules last o → FlatMeans modules last p → o ≡ p
  unfolding FlatMeans
  one_outcome o p a b = misfit_one (misfit modules) o p a b
