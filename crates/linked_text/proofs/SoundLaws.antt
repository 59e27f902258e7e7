-- What was read line by line is sound, and what is sound can be read line by line.
use Rattle.std.proofs.Common.{◌≡◌, ◌≢◌, ℕ, zero, suc, ◌+◌, ◌*◌, ◌^◌, ◌<◌, ◌≤◌, List, [], ◌∷◌, ◌++◌, length, map, ℤ, pos, negsuc, ◌≤ℤ◌, Bool, true, false, ◌||◌, Option, Some, None, refl, sym, subst, ◌∙◌, arith}
use Rattle.std.specs.Prelude.{unsigned_abs, IfSome, IsSome, is_some, slice_get}
use Rattle.std.specs.List.{AllByRecursion, sum_by}
use Rattle.std.specs.Option.{IsSomeAnd, unwrap_or, option_map}
use Rattle.std.specs.Str.{bytes_eq}
use Rattle.std.proofs.lemmas.Bool.{ltb-true, lt-ltb}
use Rattle.std.proofs.lemmas.Int.{ints}
use Rattle.std.proofs.lemmas.List.{length-map}
use Rattle.std.proofs.lemmas.List.Elements.{recursion_from_All, All-from_recursion, All-weaker}
use Rattle.std.proofs.lemmas.List.Folds.{list_any-append}
use Rattle.std.proofs.lemmas.List.Sums.{sum_by-cons}
use Rattle.std.proofs.lemmas.Option.{slice_get_within}
use Rattle.std.proofs.lemmas.Slice.Eq.{bytes_eq-Decides}
use Rattle.xt_model.specs.declared.quad.Pair.{Pair}
use Rattle.xt_model.specs.declared.net.Coupling.{Coupling}
use Rattle.xt_model.specs.declared.net.SinkPin.{SinkPin}
use Rattle.xt_model.specs.declared.net.TimingArc.{TimingArc}
use Rattle.xt_model.specs.declared.net.Net.{Net}
use Rattle.xt_model.specs.declared.check.CheckPoint.{CheckPoint}
use Rattle.xt_model.specs.declared.check.CheckPoint.TheVariants.{Flop, Port}
use Rattle.xt_model.specs.Limits.{most_nets, most_tables, most_checks, most_couplings, most_coefficients, most_arcs, most_reads, most_cap}
use Rattle.xt_model.specs.Miller.{IsMiller}
use Rattle.xt_model.specs.Parts.{Parts}
use Rattle.xt_model.specs.Sound.{IsProduct, IsGiven, LeavesGiven, IsSoundCoupling, IsSoundSink, HasSink, IsSoundArc, coupling_sum, greatest_load, IsSoundNet, IsSoundCheck, coefficients_of, couplings_at, reads_by, reads_of, HasOwnNames, IsWithinLimits, IsPeriod, IsSound}
use Rattle.xt_model.specs.Tables.{IsTable}
use Rattle.name_numbers.specs.Names.{has_name}
use Rattle.linked_text.specs.declared.head.Sums.{Sums}
use Rattle.linked_text.specs.EachLine.{Around, has_sink, has_table}
use Rattle.linked_text.specs.Fits.{AreFew}
use Rattle.linked_text.specs.Meaning.{no_sums, sums_with}
use Rattle.linked_text.proofs.FrontLaws.{FitsPeriod}
use Rattle.linked_text.proofs.NetLaws.{FitsHead, FitsCoupling, FitsSink, FitsArc}
use Rattle.linked_text.proofs.CheckLaws.{FitsCheck}
use Rattle.linked_text.proofs.BodyLaws.{FitsHeads, FitsPair, FitsBody, FitsBodies, head_of}

-- how many sinks each net has
abbrev pub sinks_of : List Net → List ℕ
sinks_of ns = map (λ h. h.sinks) (map head_of ns)

abbrev pub around_of : Parts → Around
around_of d = record { period = is_some d.period; sinks = sinks_of d.nets; tables = length d.tables }

-- parts as they are read up to the last line
pub record FitsParts (d : Parts) : Type 0 where
  pub tables : AllByRecursion IsTable d.tables
  pub heads : FitsHeads [] no_sums (map head_of d.nets)
  pub bodies : FitsBodies (sinks_of d.nets) (length d.tables) 0 d.nets
  pub checks : AllByRecursion (FitsCheck (around_of d)) d.checks
  pub period : FitsPeriod d.period
  pub miller : IsMiller d.miller
  pub few_tables : length d.tables ≤ most_tables
  pub few_nets : length d.nets ≤ most_nets
  pub few_checks : length d.checks ≤ most_checks

-- ---- sinks and references

sinks_length : (ns : List Net) → length (sinks_of ns) ≡ length ns
sinks_length ns = length-map (map head_of ns) (λ h. h.sinks) ∙ length-map ns head_of

sink_there : (ns : List Net) (net sink : ℕ) → has_sink (sinks_of ns) net sink ≡ true → IsSomeAnd (slice_get ns net) (λ n. sink < length n.sinks)
sink_there [] net sink e = absurd cc
sink_there (n ∷ ns) zero sink e = ltb-true sink (length n.sinks) e
sink_there (n ∷ ns) (suc net) sink e = sink_there ns net sink e

sink_tested : (ns : List Net) (net sink : ℕ) → IsSomeAnd (slice_get ns net) (λ n. sink < length n.sinks) → has_sink (sinks_of ns) net sink ≡ true
sink_tested [] net sink h = absurd h
sink_tested (n ∷ ns) zero sink h = lt-ltb sink (length n.sinks) h
sink_tested (n ∷ ns) (suc net) sink h = sink_tested ns net sink h

-- a fact of each net of a list
abbrev EachNet : (ℕ → Net → Type 0) → ℕ → List Net → Type 0
EachNet P own ns = (i : ℕ) → IfSome (slice_get ns i) (P (own + i))

each_more : (P : ℕ → Net → Type 0) (own : ℕ) (n : Net) (ns : List Net) → EachNet P own (n ∷ ns) → P own n × EachNet P (own + 1) ns
each_more P own n ns h = (subst (λ (k : ℕ). P k n) (omega arith) (h 0), λ i. subst (λ (k : ℕ). IfSome (slice_get ns i) (P k)) (omega arith) (h (suc i)))

each_from : (P : ℕ → Net → Type 0) (own : ℕ) (n : Net) (ns : List Net) → P own n → EachNet P (own + 1) ns → EachNet P own (n ∷ ns)
each_from P own n ns one more zero = subst (λ (k : ℕ). P k n) (omega arith) one
each_from P own n ns one more (suc i) = subst (λ (k : ℕ). IfSome (slice_get ns i) (P k)) (omega arith) (more i)

each_here : (P : ℕ → Net → Type 0) (ns : List Net) → EachNet P 0 ns → (i : ℕ) → IfSome (slice_get ns i) (P i)
each_here P ns h i = subst (λ (k : ℕ). IfSome (slice_get ns i) (P k)) (omega arith) (h i)

each_there : (P : ℕ → Net → Type 0) (ns : List Net) → ((i : ℕ) → IfSome (slice_get ns i) (P i)) → EachNet P 0 ns
each_there P ns h i = subst (λ (k : ℕ). IfSome (slice_get ns i) (P k)) (omega arith) (h i)

-- the net that is there is one of the list
there_is : {P : Net → Type 0} (o : Option Net) → IsSomeAnd o P → (n : Net) × (o ≡ Some n) × P n
there_is None h = absurd h
there_is (Some n) h = (n, refl, h)

-- ---- loads

abs_low : (x : ℤ) (m : ℕ) → unsigned_abs x ≤ m → x ≤ℤ pos m
abs_low (pos n) m h = omega (arith, ints, h)
abs_low (negsuc n) m h = omega (arith, ints)

abs_same : (x : ℤ) (m : ℕ) → pos 0 ≤ℤ x → x ≤ℤ pos m → unsigned_abs x ≤ m
abs_same (pos n) m low high = omega (arith, ints, high)
abs_same (negsuc n) m low high = absurd (omega (arith, ints, low))

sum_no_less : (d : Parts) (own : ℕ) (ks : List Coupling) → AllByRecursion (IsSoundCoupling d own) ks → pos 0 ≤ℤ coupling_sum ks
sum_no_less d own [] h = omega (arith, ints)
sum_no_less d own (k ∷ ks) h = omega (arith, ints, h.0.cap.least, sum_no_less d own ks h.1)

-- ---- from what was read to what is sound

derived_from : (p : Pair) (zs : List TimingArc) → FitsPair (length zs) p → LeavesGiven p zs
derived_from p [] h = tt
derived_from p (a ∷ more) h = h.none

net_sound : (d : Parts) (own : ℕ) (names : List (List ℕ)) (n : Net) → FitsHead names (head_of n) → FitsBody (sinks_of d.nets) (length d.tables) own n → IsSoundNet d own n
net_sound d own names n h b = record {
  name = h.name;
  load = h.load;
  rise = b.given.rise;
  fall = b.given.fall;
  derived = derived_from n.given n.arcs b.given;
  couplings = All-weaker (FitsCoupling (length (sinks_of d.nets)) own) (IsSoundCoupling d own) (λ k f. record { there = omega (arith, f.there, sinks_length d.nets); other = f.other; cap = f.cap }) n.couplings (All-from_recursion (FitsCoupling (length (sinks_of d.nets)) own) n.couplings b.couplings);
  sinks = All-weaker (FitsSink (length n.couplings)) (IsSoundSink (length n.couplings)) (λ s f. record { name = f.name; base = f.base; count = f.count; coefs = All-from_recursion IsProduct s.coefs f.coefs }) n.sinks (All-from_recursion (FitsSink (length n.couplings)) n.sinks b.sinks);
  arcs = All-weaker (FitsArc (sinks_of d.nets) (length d.tables)) (IsSoundArc d) (λ a f. record { sink = sink_there d.nets a.from.0 a.sink f.there; delay = f.delay; slew = f.slew }) n.arcs (All-from_recursion (FitsArc (sinks_of d.nets) (length d.tables)) n.arcs b.arcs);
  few_sinks = h.sinks;
  most_load = abs_low (greatest_load n) (unsigned_abs most_cap) b.load;
}

nets_sound : (d : Parts) (own : ℕ) (names : List (List ℕ)) (sums : Sums) (ns : List Net) → FitsHeads names sums (map head_of ns) → FitsBodies (sinks_of d.nets) (length d.tables) own ns → EachNet (IsSoundNet d) own ns
nets_sound d own names sums [] h b = λ i. tt
nets_sound d own names sums (n ∷ ns) h b = each_from (IsSoundNet d) own n ns (net_sound d own names n h.0 b.0) (nets_sound d (own + 1) (names ++ n.name ∷ []) (sums_with sums (head_of n)) ns h.2 b.1)

or_false : (a b : Bool) → (a || b) ≡ false → (a ≡ false) × (b ≡ false)
or_false true b e = absurd cc
or_false false b e = (refl, e)

-- a later name is none of the earlier ones
name_fresh : (names : List (List ℕ)) (sums : Sums) (ns : List Net) → FitsHeads names sums (map head_of ns) → (j : ℕ) (m : Net) → slice_get ns j ≡ Some m → has_name m.name names ≡ false
name_fresh names sums [] h j m e = absurd cc
name_fresh names sums (n ∷ ns) h zero m e =
    let same : n ≡ m = cc in
    subst (λ (x : Net). has_name x.name names ≡ false) same h.0.fresh
name_fresh names sums (n ∷ ns) h (suc j) m e =
    (or_false (has_name m.name names) (has_name m.name (n.name ∷ [])) (sym (list_any-append (bytes_eq m.name) names (n.name ∷ [])) ∙ name_fresh (names ++ n.name ∷ []) (sums_with sums (head_of n)) ns h.2 j m e)).0

-- a later name is another one than an earlier one
name_other : (names : List (List ℕ)) (sums : Sums) (n : Net) (ns : List Net) → FitsHeads names sums (map head_of (n ∷ ns)) → (j : ℕ) (m : Net) → slice_get ns j ≡ Some m → n.name ≢ m.name
name_other names sums n ns h j m e same =
    let fresh = or_false (has_name m.name names) (has_name m.name (n.name ∷ [])) (sym (list_any-append (bytes_eq m.name) names (n.name ∷ [])) ∙ name_fresh (names ++ n.name ∷ []) (sums_with sums (head_of n)) ns h.2 j m e) in
    let test = or_false (bytes_eq m.name n.name) false fresh.1 in
    let hit : bytes_eq m.name n.name ≡ true = (bytes_eq-Decides m.name n.name).1 (sym same) in
    let never : true ≡ false = sym hit ∙ test.0 in
    absurd cc

names_differ : (names : List (List ℕ)) (sums : Sums) (ns : List Net) → FitsHeads names sums (map head_of ns) → (i j : ℕ) (n m : Net) → i < j → slice_get ns i ≡ Some n → slice_get ns j ≡ Some m → n.name ≢ m.name
names_differ names sums [] h i j n m lt at_i at_j = absurd cc
names_differ names sums (x ∷ ns) h zero zero n m lt at_i at_j = absurd (omega (arith, lt))
names_differ names sums (x ∷ ns) h zero (suc j) n m lt at_i at_j =
    let same : x ≡ n = cc in
    subst (λ (y : Net). y.name ≢ m.name) same (name_other names sums x ns h j m at_j)
names_differ names sums (x ∷ ns) h (suc i) zero n m lt at_i at_j = absurd (omega (arith, lt))
names_differ names sums (x ∷ ns) h (suc i) (suc j) n m lt at_i at_j = names_differ (names ++ x.name ∷ []) (sums_with sums (head_of x)) ns h.2 i j n m (omega (arith, lt)) at_i at_j

-- the sums over all nets
abbrev all_couplings : List Net → ℕ
all_couplings ns = sum_by (λ n. length n.couplings) ns

abbrev all_coefficients : List Net → ℕ
all_coefficients ns = sum_by coefficients_of ns

abbrev all_arcs : List Net → ℕ
all_arcs ns = sum_by (λ n. length n.arcs) ns

pub record HasFew (s : Sums) (ns : List Net) : Type 0 where
  pub couplings : s.couplings + all_couplings ns ≤ most_couplings
  pub coefficients : s.coefficients + all_coefficients ns ≤ most_coefficients
  pub arcs : s.arcs + all_arcs ns ≤ most_arcs

few_from : (names : List (List ℕ)) (s : Sums) (ns : List Net) → AreFew s → FitsHeads names s (map head_of ns) → HasFew s ns
few_from names s [] few h = record { couplings = omega (arith, few.couplings); coefficients = omega (arith, few.coefficients); arcs = omega (arith, few.arcs) }
few_from names s (n ∷ ns) few h =
    let more = few_from (names ++ n.name ∷ []) (sums_with s (head_of n)) ns h.1 h.2 in
    record {
      couplings = omega (arith, more.couplings, sum_by-cons (λ (x : Net). length x.couplings) n ns);
      coefficients = omega (arith, more.coefficients, sum_by-cons coefficients_of n ns);
      arcs = omega (arith, more.arcs, sum_by-cons (λ (x : Net). length x.arcs) n ns);
    }

no_few : AreFew no_sums
no_few = record { couplings = omega arith; coefficients = omega arith; arcs = omega arith }

table_there : (tables : ℕ) (o : Option ℕ) → has_table tables o ≡ true → IfSome o (λ t. t < tables)
table_there tables None e = tt
table_there tables (Some t) e = ltb-true t tables e

check_sound : (d : Parts) (c : CheckPoint) → FitsCheck (around_of d) c → IsSoundCheck d c
check_sound d (Flop name hold datum datum_sink clock clock_sink rise fall) h =
    (h.name, sink_there d.nets datum.0 datum_sink h.datum, sink_there d.nets clock.0 clock_sink h.clock, table_there (length d.tables) rise h.rise, table_there (length d.tables) fall h.fall)
check_sound d (Port name hold net sink rise fall) h = (h.name, sink_there d.nets net.0 sink h.there, h.rise, h.fall)

check_period : (d : Parts) (c : CheckPoint) → FitsCheck (around_of d) c → is_some d.period ≡ true
check_period d (Flop name hold datum datum_sink clock clock_sink rise fall) h = h.period
check_period d (Port name hold net sink rise fall) h = h.period

period_there : (d : Parts) (cs : List CheckPoint) → AllByRecursion (FitsCheck (around_of d)) cs → 0 < length cs → IsSome d.period
period_there d [] h some = absurd (omega (arith, some))
period_there d (c ∷ cs) h some = check_period d c h.0

pub parts_sound : (d : Parts) → FitsParts d → sum_by (reads_of d) d.nets ≤ most_reads → IsSound d
parts_sound d h reads =
    let few = few_from [] no_sums d.nets no_few h.heads in
    let limits : IsWithinLimits d = record { nets = h.few_nets; tables = h.few_tables; checks = h.few_checks; couplings = omega (arith, few.couplings); coefficients = omega (arith, few.coefficients); arcs = omega (arith, few.arcs); reads = reads } in
    let period : IsPeriod d = record { range = h.period; there = period_there d d.checks h.checks } in
    record {
      tables = All-from_recursion IsTable d.tables h.tables;
      nets = each_here (IsSoundNet d) d.nets (nets_sound d 0 [] no_sums d.nets h.heads h.bodies);
      names = record { differ = names_differ [] no_sums d.nets h.heads };
      checks = All-weaker (FitsCheck (around_of d)) (IsSoundCheck d) (check_sound d) d.checks (All-from_recursion (FitsCheck (around_of d)) d.checks h.checks);
      limits = limits;
      period = period;
      miller = h.miller;
    }

-- ---- the reads are less than 2^64

couplings_few : (ns : List Net) (k : ℕ) → unwrap_or (option_map (λ n. length n.couplings) (slice_get ns k)) 0 ≤ all_couplings ns
couplings_few [] k = omega arith
couplings_few (n ∷ ns) zero = omega (arith, sum_by-cons (λ (x : Net). length x.couplings) n ns)
couplings_few (n ∷ ns) (suc k) = omega (arith, couplings_few ns k, sum_by-cons (λ (x : Net). length x.couplings) n ns)

abbrev read_by : Parts → TimingArc → ℕ
read_by d b = 1 + couplings_at d b.from.0

arcs_read : (d : Parts) → all_couplings d.nets ≤ 1048576 → (zs : List TimingArc) → sum_by (read_by d) zs ≤ length zs * 1048577
arcs_read d few [] = omega arith
arcs_read d few (a ∷ zs) = omega (arith, arcs_read d few zs, couplings_few d.nets a.from.0, few, sum_by-cons (read_by d) a zs)

net_reads : (d : Parts) → all_couplings d.nets ≤ 1048576 → (own : ℕ) (zs : List TimingArc) → reads_by d own zs ≤ 1 + own + length zs * 1048577
net_reads d few own [] = omega arith
net_reads d few own (a ∷ zs) = omega (arith, arcs_read d few (a ∷ zs))

all_reads : (d : Parts) → all_couplings d.nets ≤ 1048576 → (ns : List Net) → sum_by (reads_of d) ns ≤ length ns + all_couplings ns + all_arcs ns * 1048577
all_reads d few [] = omega arith
all_reads d few (n ∷ ns) =
    omega (arith, all_reads d few ns, net_reads d few (length n.couplings) n.arcs, sum_by-cons (reads_of d) n ns, sum_by-cons (λ (x : Net). length x.couplings) n ns, sum_by-cons (λ (x : Net). length x.arcs) n ns)

pub reads_few : (d : Parts) → FitsParts d → sum_by (reads_of d) d.nets < 2 ^ 64
reads_few d h =
    let few = few_from [] no_sums d.nets no_few h.heads in
    let couplings : all_couplings d.nets ≤ 1048576 = omega (arith, few.couplings) in
    omega (arith, all_reads d couplings d.nets, couplings, few.arcs, h.few_nets)

-- ---- from what is sound to what can be read

pair_fits : (p : Pair) (zs : List TimingArc) → IsGiven p.rise → IsGiven p.fall → LeavesGiven p zs → FitsPair (length zs) p
pair_fits p [] rise fall h = record { rise = rise; fall = fall; none = tt }
pair_fits p (a ∷ more) rise fall h = record { rise = rise; fall = fall; none = h }

coupling_fits : (d : Parts) (own : ℕ) → length d.nets ≤ most_nets → (k : Coupling) → IsSoundCoupling d own k → FitsCoupling (length (sinks_of d.nets)) own k
coupling_fits d own few k h = record { there = omega (arith, h.there, sinks_length d.nets); other = h.other; to = omega (arith, few, h.there); cap = h.cap }

sink_fits : (n : ℕ) (s : SinkPin) → IsSoundSink n s → FitsSink n s
sink_fits n s h = record { name = h.name; base = h.base; count = h.count; coefs = recursion_from_All IsProduct s.coefs h.coefs }

-- the numbers of a sink that is there, and of its net, fit 32 bits
small_sink : (d : Parts) (net sink : ℕ) → IsSound d → HasSink d net sink → (net < 2 ^ 32) × (sink < 2 ^ 32)
small_sink d net sink sound h =
    let t = there_is (slice_get d.nets net) h in
    let within : net < length d.nets = slice_get_within d.nets net t.0 t.1 in
    let s : IsSoundNet d net t.0 = subst (λ (o : Option Net). IfSome o (IsSoundNet d net)) t.1 (sound.nets net) in
    (omega (arith, within, sound.limits.nets), omega (arith, t.2, s.few_sinks))

arc_fits : (d : Parts) → IsSound d → (a : TimingArc) → IsSoundArc d a → FitsArc (sinks_of d.nets) (length d.tables) a
arc_fits d sound a h =
    let s = small_sink d a.from.0 a.sink sound h.sink in
    record {
      there = sink_tested d.nets a.from.0 a.sink h.sink;
      delay = h.delay;
      slew = h.slew;
      from32 = s.0;
      sink32 = s.1;
      delay32 = omega (arith, h.delay, sound.limits.tables);
      slew32 = omega (arith, h.slew, sound.limits.tables);
    }

body_fits : (d : Parts) → IsSound d → (own : ℕ) (n : Net) → IsSoundNet d own n → FitsBody (sinks_of d.nets) (length d.tables) own n
body_fits d sound own n h =
    let ks = recursion_from_All (IsSoundCoupling d own) n.couplings h.couplings in
    let low : pos 0 ≤ℤ greatest_load n = omega (arith, ints, h.load.least, sum_no_less d own n.couplings ks) in
    record {
      given = pair_fits n.given n.arcs h.rise h.fall h.derived;
      couplings = recursion_from_All (FitsCoupling (length (sinks_of d.nets)) own) n.couplings (All-weaker (IsSoundCoupling d own) (FitsCoupling (length (sinks_of d.nets)) own) (coupling_fits d own sound.limits.nets) n.couplings h.couplings);
      load = abs_same (greatest_load n) (unsigned_abs most_cap) low h.most_load;
      sinks = recursion_from_All (FitsSink (length n.couplings)) n.sinks (All-weaker (IsSoundSink (length n.couplings)) (FitsSink (length n.couplings)) (sink_fits (length n.couplings)) n.sinks h.sinks);
      arcs = recursion_from_All (FitsArc (sinks_of d.nets) (length d.tables)) n.arcs (All-weaker (IsSoundArc d) (FitsArc (sinks_of d.nets) (length d.tables)) (arc_fits d sound) n.arcs h.arcs);
    }

bodies_fit : (d : Parts) → IsSound d → (own : ℕ) (ns : List Net) → EachNet (IsSoundNet d) own ns → FitsBodies (sinks_of d.nets) (length d.tables) own ns
bodies_fit d sound own [] h = tt
bodies_fit d sound own (n ∷ ns) h = let s = each_more (IsSoundNet d) own n ns h in (body_fits d sound own n s.0, bodies_fit d sound (own + 1) ns s.1)

no_hit : (f g : List ℕ) → f ≢ g → bytes_eq f g ≡ false
no_hit f g other = of (bytes_eq f g) refl
  where
    of : (b : Bool) → bytes_eq f g ≡ b → b ≡ false
    of true e = absurd (other ((bytes_eq-Decides f g).0 e))
    of false e = refl

-- no net of the list has one of these names
abbrev IsNew : List (List ℕ) → List Net → Type 0
IsNew names ns = (j : ℕ) (m : Net) → slice_get ns j ≡ Some m → has_name m.name names ≡ false

new_more : (names : List (List ℕ)) (n : Net) (ns : List Net) → HasOwnNames (n ∷ ns) → IsNew names (n ∷ ns) → IsNew (names ++ n.name ∷ []) ns
new_more names n ns own new j m e =
    let other : m.name ≢ n.name = λ same. own.differ 0 (suc j) n m (omega arith) refl e (sym same) in
    let test : has_name m.name (n.name ∷ []) ≡ false = rw (no_hit m.name n.name other) refl in
    list_any-append (bytes_eq m.name) names (n.name ∷ []) ∙ rw (new (suc j) m e, test) refl

own_more : (n : Net) (ns : List Net) → HasOwnNames (n ∷ ns) → HasOwnNames ns
own_more n ns own = record { differ = λ i j a b lt at_i at_j. own.differ (suc i) (suc j) a b (omega (arith, lt)) at_i at_j }

heads_fit : (d : Parts) (own : ℕ) (names : List (List ℕ)) (s : Sums) (ns : List Net) → EachNet (IsSoundNet d) own ns → HasOwnNames ns → IsNew names ns → HasFew s ns → FitsHeads names s (map head_of ns)
heads_fit d own names s [] sound other new few = tt
heads_fit d own names s (n ∷ ns) sound other new few =
    let one = each_more (IsSoundNet d) own n ns sound in
    let couplings = sum_by-cons (λ (x : Net). length x.couplings) n ns in
    let coefficients = sum_by-cons coefficients_of n ns in
    let arcs = sum_by-cons (λ (x : Net). length x.arcs) n ns in
    let head : FitsHead names (head_of n) = record {
      name = one.0.name;
      fresh = new 0 n refl;
      load = one.0.load;
      couplings = omega (arith, few.couplings, couplings);
      sinks = one.0.few_sinks;
      arcs = omega (arith, few.arcs, arcs);
    } in
    let sums : AreFew (sums_with s (head_of n)) = record { couplings = omega (arith, few.couplings, couplings); coefficients = omega (arith, few.coefficients, coefficients); arcs = omega (arith, few.arcs, arcs) } in
    let more : HasFew (sums_with s (head_of n)) ns = record { couplings = omega (arith, few.couplings, couplings); coefficients = omega (arith, few.coefficients, coefficients); arcs = omega (arith, few.arcs, arcs) } in
    (head, sums, heads_fit d (own + 1) (names ++ n.name ∷ []) (sums_with s (head_of n)) ns one.1 (own_more n ns other) (new_more names n ns other new) more)

table_tested : (tables : ℕ) (o : Option ℕ) → IfSome o (λ t. t < tables) → has_table tables o ≡ true
table_tested tables None h = refl
table_tested tables (Some t) h = lt-ltb t tables h

table_small : (tables : ℕ) (o : Option ℕ) → tables ≤ most_tables → IfSome o (λ t. t < tables) → IfSome o (λ t. t < 2 ^ 32)
table_small tables None few h = tt
table_small tables (Some t) few h = omega (arith, few, h)

check_fits : (d : Parts) → IsSound d → is_some d.period ≡ true → (c : CheckPoint) → IsSoundCheck d c → FitsCheck (around_of d) c
check_fits d sound period (Flop name hold datum datum_sink clock clock_sink rise fall) h =
    let a = small_sink d datum.0 datum_sink sound h.1 in
    let b = small_sink d clock.0 clock_sink sound h.2 in
    record {
      period = period;
      name = h.0;
      datum = sink_tested d.nets datum.0 datum_sink h.1;
      clock = sink_tested d.nets clock.0 clock_sink h.2;
      rise = table_tested (length d.tables) rise h.3;
      fall = table_tested (length d.tables) fall h.4;
      datum32 = a.0;
      datum_sink32 = a.1;
      clock32 = b.0;
      clock_sink32 = b.1;
      rise32 = table_small (length d.tables) rise sound.limits.tables h.3;
      fall32 = table_small (length d.tables) fall sound.limits.tables h.4;
    }
check_fits d sound period (Port name hold net sink rise fall) h =
    let a = small_sink d net.0 sink sound h.1 in
    record { period = period; name = h.0; there = sink_tested d.nets net.0 sink h.1; net32 = a.0; sink32 = a.1; rise = h.2; fall = h.3 }

checks_fit : (d : Parts) → IsSound d → (cs : List CheckPoint) → (0 < length cs → IsSome d.period) → AllByRecursion (IsSoundCheck d) cs → AllByRecursion (FitsCheck (around_of d)) cs
checks_fit d sound [] there h = tt
checks_fit d sound (c ∷ cs) there h = (check_fits d sound (there (omega arith)) c h.0, checks_fit d sound cs (λ some. there (omega arith)) h.1)

pub parts_fit : (d : Parts) → IsSound d → FitsParts d
parts_fit d h =
    let few : HasFew no_sums d.nets = record { couplings = omega (arith, h.limits.couplings); coefficients = omega (arith, h.limits.coefficients); arcs = omega (arith, h.limits.arcs) } in
    record {
      tables = recursion_from_All IsTable d.tables h.tables;
      heads = heads_fit d 0 [] no_sums d.nets (each_there (IsSoundNet d) d.nets h.nets) h.names (λ j m e. refl) few;
      bodies = bodies_fit d h 0 d.nets (each_there (IsSoundNet d) d.nets h.nets);
      checks = checks_fit d h d.checks h.period.there (recursion_from_All (IsSoundCheck d) d.checks h.checks);
      period = h.period.range;
      miller = h.miller;
      few_tables = h.limits.tables;
      few_nets = h.limits.nets;
      few_checks = h.limits.checks;
    }
