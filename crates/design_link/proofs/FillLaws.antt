-- A design before and after the forms of its wires are filled in.
use Rattle.std.specs.Prelude.{◌≡◌, refl, ℕ, zero, suc, ◌+◌, ◌*◌, ◌≤◌, ◌^◌, List, [], ◌∷◌, length, ℤ, pos, negsuc, ◌≤ℤ◌}
use Rattle.std.specs.Prelude.{Some, option_map, unwrap_or}
use Rattle.std.specs.Int.RustNames.{unsigned_abs}
use Rattle.std.specs.List.{AllByRecursion, slice_get, sum_by}
use Rattle.std.proofs.Common.{arith, sym, ap}
use Rattle.std.proofs.lemmas.Int.{ints}
use Rattle.std.proofs.lemmas.List.Elements.{recursion_from_All, All-from_recursion}
use Rattle.std.proofs.lemmas.List.Sums.{sum_by-cons}
use Rattle.xt_model.specs.declared.net.SinkPin.{SinkPin}
use Rattle.xt_model.specs.declared.net.TimingArc.{TimingArc}
use Rattle.xt_model.specs.declared.net.Net.{Net}
use Rattle.xt_model.specs.Names.{IsName}
use Rattle.xt_model.specs.Parts.{Parts}
use Rattle.xt_model.specs.Sound.{IsProduct, IsSoundSink, coefficients_of, couplings_at, reads_by, reads_of}
use Rattle.elmore_tree.specs.declared.form.WireForm.{WireForm}
use Rattle.elmore_tree.specs.Sums.{SinkSums, IsSinkSums}
use Rattle.link_rules.specs.Bare.{filled_sinks, filled_nets}

abbrev filled : Net → WireForm → Net
filled n f = record n { sinks = filled_sinks n.sinks f.sinks }

-- ---- sinks
pub length-filled_sinks : (ss : List SinkPin) (fs : List SinkSums) → length fs ≡ length ss → length (filled_sinks ss fs) ≡ length ss
length-filled_sinks [] fs e = refl
length-filled_sinks (s ∷ ss) [] e = absurd (omega (arith, e))
length-filled_sinks (s ∷ ss) (f ∷ fs) e = ap suc (length-filled_sinks ss fs (omega (arith, e)))

-- a sum of a sink
product_is : (c : ℤ) → pos 0 ≤ℤ c → unsigned_abs c ≤ 2 ^ 102 → IsProduct c
product_is (pos k) low high = record { least = low; most = omega (arith, ints, high) }
product_is (negsuc k) low high = absurd (low.le)

products_are : (most : ℕ) (cs : List ℤ) → AllByRecursion (λ c. pos 0 ≤ℤ c) cs → sum_by unsigned_abs cs ≤ 2 ^ 102 → AllByRecursion IsProduct cs
products_are most [] h le = tt
products_are most (c ∷ cs) h le =
    let sum = sum_by-cons unsigned_abs c cs in
    (product_is c h.0 (omega (arith, sum, le)), products_are most cs h.1 (omega (arith, sum, le)))

-- the sums of a sink, as many as there are couplings
pub record AreSums (couplings : ℕ) (f : SinkSums) : Type 0 where
  pub sums : IsSinkSums f
  pub count : length f.coefs ≡ couplings

pub sinks_sound : (couplings : ℕ) (ss : List SinkPin) (fs : List SinkSums) → AllByRecursion (λ s. IsName s.name) ss → AllByRecursion (AreSums couplings) fs
    → AllByRecursion (IsSoundSink couplings) (filled_sinks ss fs)
sinks_sound couplings [] fs n h = tt
sinks_sound couplings (s ∷ ss) [] n h = tt
sinks_sound couplings (s ∷ ss) (f ∷ fs) n h =
    let most = h.0.sums.most in (
      record {
        name = n.0;
        base = product_is f.base h.0.sums.base (omega (arith, most));
        count = h.0.count;
        coefs = All-from_recursion IsProduct f.coefs
            (products_are 0 f.coefs (recursion_from_All (λ c. pos 0 ≤ℤ c) f.coefs h.0.sums.coefs) (omega (arith, most)));
      },
      sinks_sound couplings ss fs n.1 h.1,
    )

-- ---- nets
-- a net is a bare one with the form of its wire
pub record IsFilled (ms : List Net) (fs : List WireForm) (i : ℕ) (n : Net) : Type 0 where
  pub net : Net
  pub form : WireForm
  pub net_at : slice_get ms i ≡ Some net
  pub form_at : slice_get fs i ≡ Some form
  pub is : n ≡ filled net form

pub filled_at : (ms : List Net) (fs : List WireForm) (i : ℕ) (n : Net) → slice_get (filled_nets ms fs) i ≡ Some n → IsFilled ms fs i n
filled_at [] fs i n e = absurd (cc)
filled_at (m ∷ ms) [] i n e = absurd (cc)
filled_at (m ∷ ms) (f ∷ fs) zero n e = record { net = m; form = f; net_at = refl; form_at = refl; is = sym (cc) }
filled_at (m ∷ ms) (f ∷ fs) (suc i) n e =
    let h = filled_at ms fs i n e in record { net = h.net; form = h.form; net_at = h.net_at; form_at = h.form_at; is = h.is }

pub length-filled_nets : (ms : List Net) (fs : List WireForm) → length fs ≡ length ms → length (filled_nets ms fs) ≡ length ms
length-filled_nets [] fs e = refl
length-filled_nets (m ∷ ms) [] e = absurd (omega (arith, e))
length-filled_nets (m ∷ ms) (f ∷ fs) e = ap suc (length-filled_nets ms fs (omega (arith, e)))

-- each form has a sum for each sink
abbrev pub Fit : List Net → List WireForm → Type 0
Fit [] fs = Unit {0}
Fit (m ∷ ms) [] = ⊥
Fit (m ∷ ms) (f ∷ fs) = (length f.sinks ≡ length m.sinks) × Fit ms fs

pub fit_by : (ms : List Net) (fs : List WireForm) → length fs ≡ length ms
    → ((i : ℕ) (m : Net) (f : WireForm) → slice_get ms i ≡ Some m → slice_get fs i ≡ Some f → length f.sinks ≡ length m.sinks) → Fit ms fs
fit_by [] fs e g = tt
fit_by (m ∷ ms) [] e g = absurd (omega (arith, e))
fit_by (m ∷ ms) (f ∷ fs) e g = (g 0 m f refl refl, fit_by ms fs (omega (arith, e)) (λ i n h a b. g (suc i) n h a b))

-- a sum over nets that forms do not change
pub sum_filled : (g : Net → ℕ) → ((m : Net) (f : WireForm) → length f.sinks ≡ length m.sinks → g (filled m f) ≡ g m) → (ms : List Net) (fs : List WireForm)
    → Fit ms fs → sum_by g (filled_nets ms fs) ≡ sum_by g ms
sum_filled g same [] fs fit = refl
sum_filled g same (m ∷ ms) [] fit = absurd fit
sum_filled g same (m ∷ ms) (f ∷ fs) fit =
    let one = same m f fit.0 in
    let rest = sum_filled g same ms fs fit.1 in
    let a = sum_by-cons g (filled m f) (filled_nets ms fs) in
    let b = sum_by-cons g m ms in
    omega (arith, one, rest, a, b)

pub coefficients_kept : (m : Net) (f : WireForm) → length f.sinks ≡ length m.sinks → coefficients_of (filled m f) ≡ coefficients_of m
coefficients_kept m f e = ap (λ k. k * length m.couplings) (length-filled_sinks m.sinks f.sinks e)

-- ---- reads
module _ (d e : Parts) (same : (k : ℕ) → couplings_at d k ≡ couplings_at e k) where
  arcs_kept : (arcs : List TimingArc) → sum_by (λ b. 1 + couplings_at d b.from.0) arcs ≡ sum_by (λ b. 1 + couplings_at e b.from.0) arcs
  arcs_kept [] = refl
  arcs_kept (a ∷ arcs) =
      let one = same a.from.0 in
      let rest = arcs_kept arcs in
      let x = sum_by-cons (λ (b : TimingArc). 1 + couplings_at d b.from.0) a arcs in
      let y = sum_by-cons (λ (b : TimingArc). 1 + couplings_at e b.from.0) a arcs in
      omega (arith, one, rest, x, y)

  pub reads_kept : (own : ℕ) (arcs : List TimingArc) → reads_by d own arcs ≡ reads_by e own arcs
  reads_kept own [] = refl
  reads_kept own (a ∷ arcs) = ap (λ s. 1 + own + s) (arcs_kept (a ∷ arcs))

  reads_sum : (ms : List Net) → sum_by (reads_of d) ms ≡ sum_by (reads_of e) ms
  reads_sum [] = refl
  reads_sum (m ∷ ms) =
      let one = reads_kept (length m.couplings) m.arcs in
      let rest = reads_sum ms in
      let x = sum_by-cons (reads_of d) m ms in
      let y = sum_by-cons (reads_of e) m ms in
      omega (arith, one, rest, x, y)

  pub all_reads : (ms : List Net) → sum_by (reads_of d) ms ≡ sum_by (reads_of e) ms
  all_reads = reads_sum

-- the couplings of a net by its number
pub couplings_kept : (ms : List Net) (fs : List WireForm) (k : ℕ) → Fit ms fs
    → unwrap_or (option_map (λ n. length n.couplings) (slice_get (filled_nets ms fs) k)) 0 ≡ unwrap_or (option_map (λ n. length n.couplings) (slice_get ms k)) 0
couplings_kept [] fs k fit = refl
couplings_kept (m ∷ ms) [] k fit = absurd fit
couplings_kept (m ∷ ms) (f ∷ fs) zero fit = refl
couplings_kept (m ∷ ms) (f ∷ fs) (suc k) fit = couplings_kept ms fs k fit.1
