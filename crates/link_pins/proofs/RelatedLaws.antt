-- The arcs and the check points of a pin by the places of its related pins.
use Rattle.std.proofs.Common.{◌≡◌, ℕ, ◌+◌, ◌==◌, Bool, true, false, cond, List, [], ◌∷◌, ◌++◌, length, map, Some, refl, ap, sym, ◌∙◌, arith}
use Rattle.std.specs.Prelude.{Option, None, is_some, filter, flat_map, filter_map, option_map, option_and_then}
use Rattle.std.specs.List.{cons_option, slice_get, slice_index_or, sum_by}
use Rattle.std.proofs.lemmas.List.Concat.{length-flat_map}
use Rattle.std.proofs.lemmas.List.Sums.{sum_by-cons}
use Rattle.std.proofs.lemmas.List.Elements.{filter_map-append}
use Rattle.std.proofs.lemmas.List.Folds.{flat_map-map}
use Rattle.std.proofs.lemmas.Grind.{flat_map-append}
use Rattle.name_numbers.specs.Names.{Text}
use Rattle.xt_model.specs.declared.check.CheckPoint.{CheckPoint}
use Rattle.xt_model.specs.declared.net.TimingArc.{TimingArc}
use Rattle.liberty_cells.specs.declared.cell.Cell.{Cell}
use Rattle.liberty_cells.specs.declared.library.Library.{Library}
use Rattle.liberty_cells.specs.declared.pin.Role.{Role}
use Rattle.liberty_cells.specs.declared.pin.Role.TheVariants as roles
use Rattle.liberty_cells.specs.declared.timing.Timing.{Timing}
use Rattle.verilog_net.specs.declared.netlist.Netlist.{Netlist}
use Rattle.link_rules.specs.Arcs.{Place, arc_by, arcs_from, edge_pairs, pin_arcs, sink_at}
use Rattle.link_rules.specs.Checks.{side_of, flop_check, group_checks, pin_checks}
use Rattle.link_rules.specs.Pins.{Connected, is_input, is_output}
use Rattle.link_index.specs.Cells.{pin_place}
use Rattle.link_pins.specs.declared.arcs.SinkAt.{SinkAt}
use Rattle.link_pins.specs.declared.related.PinGroup.{PinGroup}
use Rattle.link_pins.specs.declared.related.RelatedPin.{RelatedPin}
use Rattle.link_pins.specs.Places.{place_of, is_sink, AreEntered}
use Rattle.link_pins.specs.Related.{related_of, effect, group_related, pin_related, counted, effects, IsGroup, sink_of, is_sink_at, arcs_of, clock_at}
use Rattle.link_pins.specs.Timed.{TimedPlace, with_timing}
use Rattle.link_pins.proofs.CheckLaws.{point, by_group, check_of, flop_is}
use Rattle.link_pins.proofs.CountLaws.{arc_some, same_count}
use Rattle.link_pins.proofs.PlaceLaws.{same_number}
use Rattle.link_pins.proofs.TimingLaws.{related_arcs, timing_arcs}

-- ---- lists made of lists

flat_twice : {X Y Z : Type 0} (g : Y → List Z) (f : X → List Y) (xs : List X) → flat_map g (flat_map f xs) ≡ flat_map (λ x. flat_map g (f x)) xs
flat_twice g f [] = refl
flat_twice g f (x ∷ xs) = flat_map-append g (f x) (flat_map f xs) ∙ ap (λ l. flat_map g (f x) ++ l) (flat_twice g f xs)

filter_flat : {X Y Z : Type 0} (g : Y → Option Z) (f : X → List Y) (xs : List X) → filter_map g (flat_map f xs) ≡ flat_map (λ x. filter_map g (f x)) xs
filter_flat g f [] = refl
filter_flat g f (x ∷ xs) = filter_map-append g (f x) (flat_map f xs) ∙ ap (λ l. filter_map g (f x) ++ l) (filter_flat g f xs)

same_flat : {X Y : Type 0} (f g : X → List Y) → ((x : X) → f x ≡ g x) → (xs : List X) → flat_map f xs ≡ flat_map g xs
same_flat f g same [] = refl
same_flat f g same (x ∷ xs) = ap (λ l. l ++ flat_map f xs) (same x) ∙ ap (λ l. g x ++ l) (same_flat f g same xs)

all_empty : {X Y : Type 0} (f : X → List Y) → ((x : X) → f x ≡ []) → (xs : List X) → flat_map f xs ≡ []
all_empty f none [] = refl
all_empty f none (x ∷ xs) = ap (λ l. l ++ flat_map f xs) (none x) ∙ all_empty f none xs

filter_mapped : {X Y Z : Type 0} (h : Y → Option Z) (v : X → Y) (xs : List X) → filter_map h (map v xs) ≡ filter_map (λ x. h (v x)) xs
filter_mapped h v [] = refl
filter_mapped h v (x ∷ xs) = ap (cons_option (h (v x))) (filter_mapped h v xs)

same_filter : {X Y : Type 0} (f g : X → Option Y) → ((x : X) → f x ≡ g x) → (xs : List X) → filter_map f xs ≡ filter_map g xs
same_filter f g same [] = refl
same_filter f g same (x ∷ xs) = ap (λ o. cons_option o (filter_map f xs)) (same x) ∙ ap (cons_option (g x)) (same_filter f g same xs)

no_length : {X : Type 0} (xs : List X) → length xs ≡ 0 → xs ≡ []
no_length [] e = refl
no_length (x ∷ xs) e = absurd (omega (arith, e))

-- ---- sums

same_sum : {X : Type 0} (f g : X → ℕ) → ((x : X) → f x ≡ g x) → (xs : List X) → sum_by f xs ≡ sum_by g xs
same_sum f g same [] = refl
same_sum f g same (x ∷ xs) = omega (arith, sum_by-cons f x xs, sum_by-cons g x xs, same x, same_sum f g same xs)

filter_counts : {X Y : Type 0} (h : X → Option Y) (w : X → ℕ) → ((x : X) → w x ≡ cond (is_some (h x)) 1 0) → (xs : List X) → sum_by w xs ≡ length (filter_map h xs)
filter_counts h w same [] = refl
filter_counts {X} {Y} h w same (x ∷ xs) = omega (arith, sum_by-cons w x xs, same x, by (h x), filter_counts h w same xs)
  where
    by : (o : Option Y) → length (cons_option o (filter_map h xs)) ≡ cond (is_some o) 1 0 + length (filter_map h xs)
    by None = omega arith
    by (Some y) = omega arith

-- ---- roles

output_is : (r : Role) → is_output r ≡ true → r ≡ roles.Output
output_is roles.Input e = absurd (cc)
output_is roles.Output e = refl
output_is roles.Inout e = absurd (cc)
output_is roles.Other e = absurd (cc)

input_is : (r : Role) → is_input r ≡ true → r ≡ roles.Input
input_is roles.Input e = refl
input_is roles.Output e = absurd (cc)
input_is roles.Inout e = absurd (cc)
input_is roles.Other e = absurd (cc)

-- a timing group has as many arcs from any sink
as_many : (t : Timing) (p q : Place) → length (arcs_from t (Some p)) ≡ length (arcs_from t (Some q))
as_many t p q = same_count (arc_by t p) (arc_by t q) (λ pair. arc_some t p pair ∙ sym (arc_some t q pair)) (edge_pairs t.kind t.sense)

-- and one without an effect has none
no_arcs : (t : Timing) → effect roles.Output t ≡ 0 → (o : Option Place) → arcs_from t o ≡ []
no_arcs t none None = refl
no_arcs t none (Some at) = no_length (arcs_from t (Some at)) (as_many t at (0, 0) ∙ none)

module _ (library : Library) (netlist : Netlist) (instance cell : ℕ) (at : List (Option SinkAt)) (are : AreEntered library netlist instance cell at)
    (c : Cell) (there : slice_get library.cells cell ≡ Some c) where
  -- the sink at the place of a name
  abbrev placed : Option ℕ → Option SinkAt
  placed o = option_and_then (λ (k : ℕ). slice_index_or at k None) o

  sink_is : (name : Text) → sink_at library netlist instance name ≡ option_map place_of (placed (pin_place c name))
  sink_is name =
      sym (are.each name)
      ∙ (ap (option_and_then (λ (x : Cell). option_and_then (λ (k : ℕ). option_and_then (λ (s : SinkAt). Some (place_of s)) (slice_index_or at k None)) (pin_place x name))) there
      ∙ by (pin_place c name))
    where
      one : (o : Option SinkAt) → option_and_then (λ (s : SinkAt). Some (place_of s)) o ≡ option_map place_of o
      one None = refl
      one (Some s) = refl

      by : (o : Option ℕ) → option_and_then (λ (k : ℕ). option_and_then (λ (s : SinkAt). Some (place_of s)) (slice_index_or at k None)) o ≡ option_map place_of (placed o)
      by None = refl
      by (Some k) = one (slice_index_or at k None)

  -- ---- arcs

  abbrev place_arcs : TimedPlace → List TimingArc
  place_arcs s = arcs_from s.0 (sink_of at s.1)

  names_arcs : (t : Timing) (names : List Text) → flat_map (related_arcs library netlist instance t) names ≡ flat_map (λ k. arcs_from t (sink_of at k)) (filter_map (pin_place c) names)
  names_arcs t [] = refl
  names_arcs t (x ∷ xs) =
      ap (λ o. arcs_from t o ++ flat_map (related_arcs library netlist instance t) xs) (sink_is x)
      ∙ (ap (λ l. arcs_from t (option_map place_of (placed (pin_place c x))) ++ l) (names_arcs t xs) ∙ by (pin_place c x))
    where
      by : (o : Option ℕ) → arcs_from t (option_map place_of (placed o)) ++ flat_map (λ k. arcs_from t (sink_of at k)) (filter_map (pin_place c) xs)
          ≡ flat_map (λ k. arcs_from t (sink_of at k)) (cons_option o (filter_map (pin_place c) xs))
      by None = refl
      by (Some k) = refl

  group_arcs : (t : Timing) → timing_arcs library netlist instance t ≡ flat_map place_arcs (group_related c roles.Output t)
  group_arcs t = names_arcs t t.related ∙ by (effect roles.Output t == 0) refl
    where
      by : (b : Bool) → (effect roles.Output t == 0) ≡ b
          → flat_map (λ k. arcs_from t (sink_of at k)) (filter_map (pin_place c) t.related) ≡ flat_map place_arcs (cond b [] (map (with_timing t) (filter_map (pin_place c) t.related)))
      by true e = all_empty (λ k. arcs_from t (sink_of at k)) (λ k. no_arcs t (same_number (effect roles.Output t) 0 e) (sink_of at k)) (filter_map (pin_place c) t.related)
      by false e = sym (flat_map-map place_arcs (with_timing t) (filter_map (pin_place c) t.related))

  all_arcs : (ts : List Timing) → flat_map (timing_arcs library netlist instance) ts ≡ flat_map place_arcs (pin_related c roles.Output ts)
  all_arcs ts =
      same_flat (timing_arcs library netlist instance) (λ t. flat_map place_arcs (group_related c roles.Output t)) group_arcs ts
      ∙ sym (flat_twice place_arcs (group_related c roles.Output) ts)

  -- from a related pin that is no sink there are none
  sink_arcs : (ss : List TimedPlace) → flat_map place_arcs (filter (is_sink_at at) ss) ≡ flat_map place_arcs ss
  sink_arcs [] = refl
  sink_arcs (s ∷ ss) = by (slice_index_or at s.1 None) refl (sink_arcs ss)
    where
      by : (o : Option SinkAt) → slice_index_or at s.1 None ≡ o → flat_map place_arcs (filter (is_sink_at at) ss) ≡ flat_map place_arcs ss
          → flat_map place_arcs (cond (is_some o) (s ∷ filter (is_sink_at at) ss) (filter (is_sink_at at) ss)) ≡ place_arcs s ++ flat_map place_arcs ss
      by None e r = r ∙ ap (λ p. arcs_from s.0 (option_map place_of p) ++ flat_map place_arcs ss) (sym e)
      by (Some x) e r = ap (λ l. place_arcs s ++ l) r

  -- the arcs of an output pin are those from the sinks among its related pins
  pub arcs_related : (d : Connected) → d.instance ≡ instance → is_output d.pin.role ≡ true → (rs : List RelatedPin) → map related_of rs ≡ filter (is_sink_at at) (pin_related c d.pin.role d.pin.timings)
      → flat_map (arcs_of at) rs ≡ pin_arcs library netlist d
  arcs_related d number output rs found =
      sym (flat_map-map place_arcs related_of rs)
      ∙ (ap (flat_map place_arcs) (found ∙ ap (λ r. filter (is_sink_at at) (pin_related c r d.pin.timings)) (output_is d.pin.role output))
      ∙ (sink_arcs (pin_related c roles.Output d.pin.timings)
      ∙ (sym (all_arcs d.pin.timings) ∙ ap (λ n. flat_map (timing_arcs library netlist n) d.pin.timings) (sym number))))

  -- and there are as many as are counted for them
  arcs_at_place : (s : TimedPlace) → cond (is_sink at s.1) (effect roles.Output s.0) 0 ≡ length (place_arcs s)
  arcs_at_place s = by (slice_index_or at s.1 None)
    where
      by : (o : Option SinkAt) → cond (is_some o) (effect roles.Output s.0) 0 ≡ length (arcs_from s.0 (option_map place_of o))
      by None = refl
      by (Some x) = as_many s.0 (0, 0) (place_of x)

  pub arcs_counted : (d : Connected) → d.instance ≡ instance → is_output d.pin.role ≡ true → (v : PinGroup) → IsGroup c d.pin v
      → counted (is_sink at) v.counts.items ≡ length (pin_arcs library netlist d)
  arcs_counted d number output v kept =
      let rs = pin_related c roles.Output d.pin.timings in
      let role = output_is d.pin.role output in
      let same : v.related.items ≡ rs = kept.related ∙ ap (λ r. pin_related c r d.pin.timings) role in
      kept.counts (is_sink at)
      ∙ (ap (λ r. effects (is_sink at) r (v.related.items)) role
      ∙ (ap (effects (is_sink at) roles.Output) same
      ∙ (same_sum (λ s. cond (is_sink at s.1) (effect roles.Output s.0) 0) (λ s. length (place_arcs s)) arcs_at_place rs
      ∙ (sym (length-flat_map place_arcs rs)
      ∙ ap length (sym (all_arcs d.pin.timings) ∙ ap (λ n. flat_map (timing_arcs library netlist n) d.pin.timings) (sym number))))))

  -- ---- check points

  module _ (d : Connected) (number : d.instance ≡ instance) (datum : SinkAt) (own : sink_at library netlist d.instance d.pin.name ≡ Some (place_of datum)) where
    abbrev place_check : TimedPlace → Option CheckPoint
    place_check s = option_map (λ k. point library netlist d s.0 k.0 datum k.1) (clock_at at s)

    names_checks : (t : Timing) (hold : Bool) (names : List Text)
        → filter_map (flop_check library netlist d t hold) names ≡ filter_map (λ k. option_map (point library netlist d t hold datum) (slice_index_or at k None)) (filter_map (pin_place c) names)
    names_checks t hold [] = refl
    names_checks t hold (x ∷ xs) =
        let clock : sink_at library netlist d.instance x ≡ option_map place_of (placed (pin_place c x)) =
        ap (λ n. sink_at library netlist n x) number ∙ sink_is x in
        ap (λ o. cons_option o (filter_map (flop_check library netlist d t hold) xs)) (flop_is library netlist d t hold datum (placed (pin_place c x)) x own clock)
        ∙ (ap (cons_option (option_map (point library netlist d t hold datum) (placed (pin_place c x)))) (names_checks t hold xs) ∙ by (pin_place c x))
      where
        by : (o : Option ℕ) → cons_option (option_map (point library netlist d t hold datum) (placed o)) (filter_map (λ k. option_map (point library netlist d t hold datum) (slice_index_or at k None)) (filter_map (pin_place c) xs))
            ≡ filter_map (λ k. option_map (point library netlist d t hold datum) (slice_index_or at k None)) (cons_option o (filter_map (pin_place c) xs))
        by None = refl
        by (Some k) = refl

    -- the check at a place, where the timing group is a check
    checked : (t : Timing) (hold : Bool) → side_of t.kind ≡ Some hold → (k : ℕ) → place_check (t, k) ≡ option_map (point library netlist d t hold datum) (slice_index_or at k None)
    checked t hold e k =
        ap (λ o. option_map (λ (x : Bool × SinkAt). point library netlist d t x.0 datum x.1) (option_and_then (λ (h : Bool). option_and_then (λ (s : SinkAt). Some (h, s)) (slice_index_or at k None)) o)) e
        ∙ by (slice_index_or at k None)
      where
        by : (o : Option SinkAt) → option_map (λ (x : Bool × SinkAt). point library netlist d t x.0 datum x.1) (option_and_then (λ (s : SinkAt). Some (hold, s)) o) ≡ option_map (point library netlist d t hold datum) o
        by None = refl
        by (Some s) = refl

    group_points : (t : Timing) → by_group library netlist d t ≡ filter_map place_check (group_related c roles.Input t)
    group_points t = by (side_of t.kind) refl
      where
        by : (o : Option Bool) → side_of t.kind ≡ o
            → group_checks library netlist d t o ≡ filter_map place_check (cond (cond (is_some o) 1 0 == 0) [] (map (with_timing t) (filter_map (pin_place c) t.related)))
        by None e = refl
        by (Some hold) e =
            names_checks t hold t.related
            ∙ (same_filter (λ k. option_map (point library netlist d t hold datum) (slice_index_or at k None)) (λ k. place_check (t, k)) (λ k. sym (checked t hold e k)) (filter_map (pin_place c) t.related)
            ∙ sym (filter_mapped place_check (with_timing t) (filter_map (pin_place c) t.related)))

    all_points : (ts : List Timing) → flat_map (by_group library netlist d) ts ≡ filter_map place_check (pin_related c roles.Input ts)
    all_points ts =
        same_flat (by_group library netlist d) (λ t. filter_map place_check (group_related c roles.Input t)) group_points ts
        ∙ sym (filter_flat place_check (group_related c roles.Input) ts)

    -- against a related pin that is no sink there is none
    sink_checks : (ss : List TimedPlace) → filter_map place_check (filter (is_sink_at at) ss) ≡ filter_map place_check ss
    sink_checks [] = refl
    sink_checks (s ∷ ss) = by (slice_index_or at s.1 None) refl (sink_checks ss)
      where
        none : (side : Option Bool) → option_map (λ (x : Bool × SinkAt). point library netlist d s.0 x.0 datum x.1) (option_and_then (λ (hold : Bool). option_and_then (λ (k : SinkAt). Some (hold, k)) None) side) ≡ None
        none None = refl
        none (Some hold) = refl

        by : (o : Option SinkAt) → slice_index_or at s.1 None ≡ o → filter_map place_check (filter (is_sink_at at) ss) ≡ filter_map place_check ss
            → filter_map place_check (cond (is_some o) (s ∷ filter (is_sink_at at) ss) (filter (is_sink_at at) ss)) ≡ cons_option (place_check s) (filter_map place_check ss)
        by None e r =
            r
            ∙ ap (λ q. cons_option q (filter_map place_check ss))
            (sym (ap (λ p. option_map (λ (x : Bool × SinkAt). point library netlist d s.0 x.0 datum x.1) (option_and_then (λ (hold : Bool). option_and_then (λ (k : SinkAt). Some (hold, k)) p) (side_of s.0.kind))) e ∙ none (side_of s.0.kind)))
        by (Some x) e r = ap (cons_option (place_check s)) r

    -- the check points of an input pin are those against the sinks among its related pins
    pub checks_related : is_input d.pin.role ≡ true → (rs : List RelatedPin) → map related_of rs ≡ filter (is_sink_at at) (pin_related c d.pin.role d.pin.timings)
        → filter_map (check_of library netlist d datum at) rs ≡ pin_checks library netlist d
    checks_related input rs found =
        sym (filter_mapped place_check related_of rs)
        ∙ (ap (filter_map place_check) (found ∙ ap (λ r. filter (is_sink_at at) (pin_related c r d.pin.timings)) (input_is d.pin.role input))
        ∙ (sink_checks (pin_related c roles.Input d.pin.timings)
        ∙ (sym (all_points d.pin.timings) ∙ ap (λ b. cond b (flat_map (by_group library netlist d) d.pin.timings) []) (sym input))))

    -- and there are as many as are counted for them
    check_at_place : (s : TimedPlace) → cond (is_sink at s.1) (effect roles.Input s.0) 0 ≡ cond (is_some (place_check s)) 1 0
    check_at_place s = by (side_of s.0.kind) (slice_index_or at s.1 None)
      where
        by : (side : Option Bool) (o : Option SinkAt)
            → ◌≡◌ {A = ℕ} (cond (is_some o) (cond (is_some side) 1 0) 0)
            (cond (is_some (option_map (λ (x : Bool × SinkAt). point library netlist d s.0 x.0 datum x.1) (option_and_then (λ (hold : Bool). option_and_then (λ (k : SinkAt). Some (hold, k)) o) side))) 1 0)
        by None None = refl
        by None (Some x) = refl
        by (Some hold) None = refl
        by (Some hold) (Some x) = refl

    pub checks_counted : is_input d.pin.role ≡ true → (v : PinGroup) → IsGroup c d.pin v → counted (is_sink at) v.counts.items ≡ length (pin_checks library netlist d)
    checks_counted input v kept =
        let rs = pin_related c roles.Input d.pin.timings in
        let role = input_is d.pin.role input in
        let same : v.related.items ≡ rs = kept.related ∙ ap (λ r. pin_related c r d.pin.timings) role in
        kept.counts (is_sink at)
        ∙ (ap (λ r. effects (is_sink at) r (v.related.items)) role
        ∙ (ap (effects (is_sink at) roles.Input) same
        ∙ (filter_counts place_check (λ s. cond (is_sink at s.1) (effect roles.Input s.0) 0) check_at_place rs
        ∙ ap length (sym (all_points d.pin.timings) ∙ ap (λ b. cond b (flat_map (by_group library netlist d) d.pin.timings) []) (sym input)))))
