-- A step back along a path, and the end of the walk.
use Rattle.std.proofs.Common.{◌≡◌, ℕ, ◌+◌, ◌<◌, ◌≤◌, refl, sym, ap, subst, ◌∙◌, Bool, List, length, take, get_or, Fits, w32, below_more, arith}
use Rattle.std.specs.Prelude.{Option, Some, None, IfSome, ℤ, ◌≤ℤ◌}
use Rattle.std.specs.List.{All, slice_get, sum_by}
use Rattle.std.proofs.lemmas.List.Elements.{All-weaker}
use Rattle.std.proofs.lemmas.List.Sums.{sum_by_more_le}
use Rattle.std.proofs.lemmas.Option.{slice_get_within, slice_get-get_or, get_or_from_slice_get, same_Some}
use Rattle.xt_model.specs.declared.edge.Edge.{Edge}
use Rattle.xt_model.specs.declared.quad.Pair.{Pair}
use Rattle.xt_model.specs.declared.net.NetId.{NetId}
use Rattle.xt_model.specs.declared.net.Net.{Net}
use Rattle.xt_model.specs.declared.net.TimingArc.{TimingArc}
use Rattle.xt_model.specs.Levels.{IsLevel}
use Rattle.xt_model.specs.Quads.{is_live, same_edge, IsLive}
use Rattle.xt_model.specs.Parts.{Parts}
use Rattle.xt_model.specs.Sound.{IsSound, IsSoundArc}
use Rattle.xt_model.specs.Assign.{Assignment, assigned, words_of}
use Rattle.xt_meaning.specs.Barrier.{IsWithinEnvelope}
use Rattle.xt_meaning.specs.Operator.{Range, load_range, step}
use Rattle.xt_meaning.specs.Overlap.{overlap_answers}
use Rattle.xt_meaning.proofs.Growth.{wired, IsWired, load_range_ordered}
use Rattle.xt_meaning.proofs.Limits.{room_at, sound_at}
use Rattle.miller_bits.specs.Views.{answers_of}
use Rattle.miller_bits.proofs.Sums.{found}
use Rattle.sink_windows.proofs.Victims.{quads_here, sink_net}
use Rattle.aggressor_report.specs.declared.passage.Passage.{Passage}
use Rattle.aggressor_report.specs.declared.path.PathStep.{PathStep}
use Rattle.aggressor_report.specs.declared.path.Path.{Path}
use Rattle.aggressor_report.specs.Passages.{bound_of, passage_to}
use Rattle.aggressor_report.specs.Paths.{loads_in, Gives, IsGiven, IsStep, Lead, IsPath}
use Rattle.aggressor_report.proofs.Turns.{some_within}
use Rattle.aggressor_report.proofs.Attained.{given_at}
use Rattle.aggressor_report.proofs.Spending.{second_true, passage_found, passage_missed}
use Rattle.aggressor_report.proofs.Walks.{has_arcs, is_source, level_falls}

-- ---- loads
loads_found : (d : Parts) (v : List Pair) (n : ℕ) (e : Edge) (x y : ℤ) (o : Option Net)
    → IfSome o (λ net. x ≡ (load_range d.miller (answers_of d (words_of (assigned v))) n e net).least)
    → IfSome o (λ net. y ≡ (load_range d.miller (answers_of d (words_of (assigned v))) n e net).most)
    → IfSome o (λ net. ◌≡◌ {A = Range} (record { least = x; most = y }) (loads_in d (assigned v) n e net))
loads_found d v n e x y None p q = tt
loads_found d v n e x y (Some net) p q =
    let P : Assignment → Type 0 = λ W. ◌≡◌ {A = Range} (record { least = x; most = y }) (load_range d.miller (overlap_answers d.period W) n e net) in
    subst P (quads_here v) (rw (p, q) refl)

pub loads_are : (d : Parts) (v : List Pair) (n : ℕ) (e : Edge) (x y : ℤ)
    → IfSome (slice_get d.nets n) (λ net. x ≡ (load_range d.miller (answers_of d (words_of (assigned v))) n e net).least)
    → IfSome (slice_get d.nets n) (λ net. y ≡ (load_range d.miller (answers_of d (words_of (assigned v))) n e net).most)
    → IfSome (slice_get d.nets n) (λ net. ◌≡◌ {A = Range} (record { least = x; most = y }) (loads_in d (assigned v) n e net))
loads_are d v n e x y p q = loads_found d v n e x y (slice_get d.nets n) p q

-- the least load is at most the greatest
pub loads_ordered : (d : Parts) (v : List Pair) (n : ℕ) (e : Edge) (x y : ℤ) → IsSound d → n < length d.nets
    → IfSome (slice_get d.nets n) (λ net. x ≡ (load_range d.miller (answers_of d (words_of (assigned v))) n e net).least)
    → IfSome (slice_get d.nets n) (λ net. y ≡ (load_range d.miller (answers_of d (words_of (assigned v))) n e net).most)
    → x ≤ℤ y
loads_ordered d v n e x y s within p q =
    let b = answers_of d (words_of (assigned v)) in
    let net = some_within d.nets n within in
    let P : Option Net → Type 0 = λ o. IfSome o (λ net. x ≡ (load_range d.miller b n e net).least) in
    let Q : Option Net → Type 0 = λ o. IfSome o (λ net. y ≡ (load_range d.miller b n e net).most) in
    let x_is : x ≡ (load_range d.miller b n e net.0).least = subst P net.1 p in
    let y_is : y ≡ (load_range d.miller b n e net.0).most = subst Q net.1 q in
    let is_wired : IsWired net.0 = found IsWired (slice_get d.nets n) net.0 net.1 ((wired d s).each n) in
    rw (x_is, y_is) ((load_range_ordered d.miller b n e net.0 s.miller is_wired).ordered)

-- ---- a step
-- where windows are closed, some arc of a net above level 1 gives the bound of a live window
pub given_here : (late : Bool) (d : Parts) (v : List Pair) (n : ℕ) (e : Edge) (l : ℕ) → IsSound d → IsWithinEnvelope d v
    → ((m : ℕ) (f : Edge) → step d v m f ≡ assigned v m f) → IsLive (assigned v n e) → n < length d.nets → IsLevel d.nets n l → 1 < l
    → IsGiven late d (assigned v) n e
given_here late d v n e l s w closed live within level above =
    let net = some_within d.nets n within in
    let room = room_at d w.top n e net.0 (assigned v n e) s w.envelope.widest w.accepted net.1 (w.contained.each n e) live in
    given_at late d (assigned v) n e net.0 net.1 (has_arcs d.nets n l net.0 level net.1 above) (closed n e) room.driver

module _ (late : Bool) (d : Parts) (W : Assignment) (from : ℕ) (input : Edge) (s : PathStep) (h : IsStep late d W from input s) where
  -- a step comes from a net that is there
  pub step_from : IsSound d → from < length d.nets
  step_from sound =
      let net_sound = sound_at d s.net.0 h.net sound h.there in
      let at : IsSoundArc d (get_or h.net.arcs s.arc h.arc) = net_sound.arcs s.arc h.arc (slice_get_within h.net.arcs s.arc h.arc h.arc_at) in
      let arc_sound : IsSoundArc d h.arc = subst (IsSoundArc d) (get_or_from_slice_get h.net.arcs s.arc h.arc h.arc h.arc_at) at in
      let P : ℕ → Type 0 = λ k. k < length d.nets in
      subst P h.comes_from (sink_net d h.arc.from.0 h.arc.sink arc_sound.sink)

  -- the edge that it comes from can switch
  pub step_live : IsLive (W from input)
  step_live =
      let P : ℕ → Type 0 = λ k. IsLive (W k h.arc.input) in
      let Q : Edge → Type 0 = λ x. IsLive (W from x) in
      subst Q h.comes_at (subst P h.comes_from (second_true (same_edge h.arc.output s.edge) (is_live (W h.arc.from.0 h.arc.input)) h.gives.drives))

  -- it comes from a lower level
  pub step_falls : (n l m : ℕ) → s.net.0 ≡ n → IsLevel d.nets n l → IsLevel d.nets from m → m < l
  step_falls n l m is high low =
      let P : ℕ → Type 0 = λ k. IsLevel d.nets k l in
      level_falls d.nets s.net.0 from l m h.net h.arc s.arc (subst P (sym is) high) low h.there h.arc_at h.comes_from

-- ---- the search for the step
-- the number of an arc fits 32 bits
pub arc_number_fits : (d : Parts) (n : ℕ) (net : Net) (arcs : List TimingArc) (i : ℕ) → IsSound d → slice_get d.nets n ≡ Some net → arcs ≡ net.arcs → i < length arcs → Fits w32 i
arc_number_fits d n net arcs i sound there same within =
    let f : Net → ℕ = λ m. length m.arcs in
    let most : sum_by f (take n d.nets) + f (get_or d.nets n net) ≤ sum_by f d.nets = sum_by_more_le f d.nets n net (slice_get_within d.nets n net there) in
    let this : f (get_or d.nets n net) ≡ f net = ap f (get_or_from_slice_get d.nets n net net there) in
    omega (arith, most, this, sound.limits.arcs, ap length same, within)

module _ (late : Bool) (d : Parts) (W : Assignment) (n : ℕ) (e : Edge) (number : ℕ) (arcs : List TimingArc) where
  -- no arc of the net before this one gives the bound
  abbrev pub NoneBefore : ℕ → Type 0
  NoneBefore k = (net : Net) (i : ℕ) (b : TimingArc) → slice_get d.nets n ≡ Some net → i < k → slice_get arcs i ≡ Some b → Gives late d W n e net b → ⊥

  pub none_more : NoneBefore number → ((net : Net) (b : TimingArc) → slice_get d.nets n ≡ Some net → slice_get arcs number ≡ Some b → Gives late d W n e net b → ⊥)
      → NoneBefore (number + 1)
  none_more before here = λ net i b there less arc_at gives.
      below_more (λ k. slice_get arcs k ≡ Some b → ⊥) number (λ k low at. before net k b there low at gives) (λ at. here net b there at gives) i less arc_at

  -- some arc does
  pub none_given : (net : Net) → slice_get d.nets n ≡ Some net → arcs ≡ net.arcs → length arcs ≤ number → IsGiven late d W n e → NoneBefore number → ⊥
  none_given net there same past given before =
      let own : given.net ≡ net = same_Some given.net net (sym given.there ∙ there) in
      let P : Net → Type 0 = λ m. slice_get m.arcs given.number ≡ Some given.arc in
      let arc_at : slice_get arcs given.number ≡ Some given.arc = ap (λ xs. slice_get xs given.number) same ∙ subst P own given.arc_at in
      let low : given.number < length arcs = slice_get_within arcs given.number given.arc arc_at in
      before given.net given.number given.arc given.there (omega (arith, low, past)) arc_at given.gives

  module _ (net : Net) (x : TimingArc) (loads : Range) (bound : ℤ) (there : slice_get d.nets n ≡ Some net) (same : arcs ≡ net.arcs) (within : number < length arcs)
      (loads_are : IfSome (slice_get d.nets n) (λ m. loads ≡ loads_in d W n e m)) (bound_is : bound ≡ bound_of late (W n e)) where
    arc_there : slice_get net.arcs number ≡ Some (get_or arcs number x)
    arc_there = ap (λ xs. slice_get xs number) (sym same) ∙ slice_get-get_or arcs number x within

    by_definition : (o : Option Passage) → o ≡ passage_to late d W loads e bound (get_or arcs number x)
        → passage_to late d W (loads_in d W n e net) e (bound_of late (W n e)) (get_or arcs number x) ≡ o
    by_definition o is =
        let own : loads ≡ loads_in d W n e net = found (λ m. loads ≡ loads_in d W n e m) (slice_get d.nets n) net there loads_are in
        let P : Range → Type 0 = λ r. o ≡ passage_to late d W r e bound (get_or arcs number x) in
        let Q : ℤ → Type 0 = λ b. o ≡ passage_to late d W (loads_in d W n e net) e b (get_or arcs number x) in
        sym (subst Q bound_is (subst P own is))

    -- an arc for which nothing was found does not
    pub missed_here : None ≡ passage_to late d W loads e bound (get_or arcs number x)
        → (m : Net) (b : TimingArc) → slice_get d.nets n ≡ Some m → slice_get arcs number ≡ Some b → Gives late d W n e m b → ⊥
    missed_here is m b at arc_at gives =
        let own : m ≡ net = same_Some m net (sym at ∙ there) in
        let this : b ≡ get_or arcs number x = same_Some b (get_or arcs number x) (sym arc_at ∙ slice_get-get_or arcs number x within) in
        let P : Net → Type 0 = λ k. Gives late d W n e k b in
        let Q : TimingArc → Type 0 = λ a. Gives late d W n e net a in
        passage_missed late d W n e net (get_or arcs number x) (by_definition None is) (subst Q this (subst P own gives))

-- what was found makes the step
pub step_found : (late : Bool) (d : Parts) (W : Assignment) (id : NetId) (e : Edge) (number : ℕ) (arcs : List TimingArc) (net : Net) (x : TimingArc) (loads : Range) (bound : ℤ) (p : Passage) (w y : ℤ)
    → slice_get d.nets id.0 ≡ Some net → arcs ≡ net.arcs → number < length arcs → IfSome (slice_get d.nets id.0) (λ m. loads ≡ loads_in d W id.0 e m) → bound ≡ bound_of late (W id.0 e)
    → Some p ≡ passage_to late d W loads e bound (get_or arcs number x) → NoneBefore late d W id.0 e number arcs number → w ≡ p.wire → y ≡ p.delay
    → IsStep late d W (get_or arcs number x).from.0 (get_or arcs number x).input (record { net = id; edge = e; arc = number; wire = w; delay = y })
step_found late d W id e number arcs net x loads bound p w y there same within loads_are bound_is is before wire_is delay_is =
    let f = passage_found late d W id.0 e net (get_or arcs number x) p (by_definition late d W id.0 e number arcs net x loads bound there same within loads_are bound_is (Some p) is) in
    record {
      net = net;
      arc = get_or arcs number x;
      there = there;
      arc_at = arc_there late d W id.0 e number arcs net x loads bound there same within loads_are bound_is;
      comes_from = refl;
      comes_at = refl;
      gives = f.0;
      first = λ i b less arc_at gives. before net i b there less (ap (λ xs. slice_get xs i) same ∙ arc_at) gives;
      wire = wire_is ∙ f.1;
      delay = delay_is ∙ f.2;
    }

-- ---- the end of the walk
arcs_in_nets : (d : Parts) (arcs : List TimingArc) → All (IsSoundArc d) arcs → All (λ a. a.from.0 < length d.nets) arcs
arcs_in_nets d arcs sound = All-weaker (IsSoundArc d) (λ a. a.from.0 < length d.nets) (λ a h. sink_net d a.from.0 a.sink h.sink) arcs sound

pub path_from : (late : Bool) (d : Parts) (W : Assignment) (m : ℕ) (f : Edge) (l : ℕ) (p : Path) → IsSound d → p.net.0 < length d.nets → IsLevel d.nets p.net.0 l → l ≤ 1
    → p.time ≡ bound_of late (W p.net.0 p.edge) → Lead late d W p.net.0 p.edge p.steps m f → IsPath late d W m f p
path_from late d W m f l p sound within level low time steps =
    let net = some_within d.nets p.net.0 within in
    let net_sound = sound_at d p.net.0 net.0 sound net.1 in
    record {
      source = net.0;
      there = net.1;
      is_source = is_source d.nets p.net.0 l net.0 level net.1 (arcs_in_nets d net.0.arcs net_sound.arcs) low;
      time = time;
      steps = steps;
    }
