-- The numbers of arcs and check points of a pin, one timing group and one related pin after another.
use Rattle.std.proofs.Common.{◌≡◌, ℕ, suc, ◌+◌, ◌<◌, ◌≤◌, Bool, true, false, cond, List, [], ◌∷◌, ◌++◌, length, take, get_or, Some, refl, ap, ◌∙◌, arith, length-append}
use Rattle.std.specs.Prelude.{Option, None, is_some, filter_map, flat_map, option_map}
use Rattle.std.specs.List.{cons_option}
use Rattle.std.specs.Option.{option_to_list}
use Rattle.std.proofs.lemmas.List.{append-nil}
use Rattle.std.proofs.lemmas.List.Sums.{sum_by_push}
use Rattle.std.proofs.lemmas.List.Concat.{flat_map-cons}
use Rattle.std.proofs.lemmas.Grind.{flat_map-append}
use Rattle.xt_model.specs.Options.{◌>>=◌}
use Rattle.xt_model.specs.declared.edge.Edge.{Edge}
use Rattle.xt_model.specs.declared.net.TimingArc.{TimingArc}
use Rattle.liberty_cells.specs.declared.library.Library.{Library}
use Rattle.liberty_cells.specs.declared.timing.Timing.{Timing}
use Rattle.verilog_net.specs.declared.netlist.Netlist.{Netlist}
use Rattle.link_rules.specs.Arcs.{Place, tables_at, arc_by, arcs_from}
use Rattle.link_rules.specs.Checks.{pin_checks}
use Rattle.link_rules.specs.Pins.{Connected}
use Rattle.link_pins.specs.declared.arcs.SinkAt.{SinkAt}
use Rattle.link_pins.specs.declared.counts.Counts.{Counts}
use Rattle.link_pins.specs.Joined.{arc_count, AreCounted}
use Rattle.link_pins.specs.Places.{place_of}
use Rattle.link_pins.proofs.ArcLaws.{made_more}
use Rattle.link_pins.proofs.TimingLaws.{flat_more}

-- ---- items one after another
one_or_none : {Y : Type 0} (o : Option Y) → length (option_to_list o) ≡ cond (is_some o) 1 0
one_or_none None = refl
one_or_none (Some y) = refl

-- an item more of those of which something may be made
pub made_counted : {X Y : Type 0} (h : X → Option Y) (xs : List X) (i : ℕ) (d : X) (m new : ℕ) → i < length xs → m ≡ length (filter_map h (take i xs))
    → new ≡ m + cond (is_some (h (get_or xs i d))) 1 0 → new ≡ length (filter_map h (take (i + 1) xs))
made_counted {X} {Y} h xs i d m new lt so_far step =
    let cur : List Y = filter_map h (take i xs) in
    let o : Option Y = h (get_or xs i d) in
    let whole : cur ++ option_to_list o ≡ filter_map h (take (i + 1) xs) = made_more h xs i d [] cur (cur ++ option_to_list o) lt refl refl in
    omega (arith, step, so_far, ap length whole, length-append cur (option_to_list o), one_or_none o)

-- an item more of those of which some are made
pub flat_counted : {X Y : Type 0} (f : X → List Y) (xs : List X) (i : ℕ) (d : X) (m new : ℕ) → i < length xs → m ≡ length (flat_map f (take i xs))
    → new ≡ m + length (f (get_or xs i d)) → new ≡ length (flat_map f (take (i + 1) xs))
flat_counted {X} {Y} f xs i d m new lt so_far step =
    let cur : List Y = flat_map f (take i xs) in
    let whole : cur ++ f (get_or xs i d) ≡ flat_map f (take (i + 1) xs) = flat_more f xs i d [] cur (cur ++ f (get_or xs i d)) lt refl refl in
    omega (arith, step, so_far, ap length whole, length-append cur (f (get_or xs i d)))

-- where two make something of the same items, they make as many
pub same_count : {X Y Z : Type 0} (f : X → Option Y) (g : X → Option Z) → ((x : X) → is_some (f x) ≡ is_some (g x)) → (xs : List X)
    → length (filter_map f xs) ≡ length (filter_map g xs)
same_count f g same [] = refl
same_count {X} {Y} {Z} f g same (x ∷ xs) = by (f x) (g x) (same x) (same_count f g same xs)
  where
    by : (a : Option Y) (b : Option Z) → is_some a ≡ is_some b → length (filter_map f xs) ≡ length (filter_map g xs)
        → length (cons_option a (filter_map f xs)) ≡ length (cons_option b (filter_map g xs))
    by None None e rest = rest
    by None (Some z) e rest = absurd (cc)
    by (Some y) None e rest = absurd (cc)
    by (Some y) (Some z) e rest = ap suc rest

-- the number of items, where one more may count
pub counted_yes : (b : Bool) (m n : ℕ) → b ≡ true → n ≡ m + 1 → n ≡ m + cond b 1 0
counted_yes true m n e step = step
counted_yes false m n e step = absurd (cc)

pub counted_no : (b : Bool) (m n : ℕ) → b ≡ false → n ≡ m → n ≡ m + cond b 1 0
counted_no true m n e step = absurd (cc)
counted_no false m n e step = omega (arith, step)

pub one_most : (b : Bool) → cond b 1 0 ≤ 1
one_most true = omega arith
one_most false = omega arith

-- ---- the arcs of a timing group
pub arc_some : (t : Timing) (at : Place) (pair : Edge × Edge) → is_some (arc_by t at pair) ≡ is_some (tables_at t pair.1)
arc_some t at pair = by (tables_at t pair.1)
  where
    by : (o : Option (ℕ × ℕ)) → is_some {T = TimingArc} (o >>= (λ tables. Some (record {
      from = record { 0 = at.0 };
      sink = at.1;
      input = pair.0;
      output = pair.1;
      delay = tables.0;
      slew = tables.1;
    }))) ≡ is_some o
    by None = refl
    by (Some x) = refl

-- how many arcs there are from a sink, and from none
pub arcs_yes : (t : Timing) (o : Option SinkAt) (each : ℕ) → is_some o ≡ true → ((p : Place) → each ≡ length (arcs_from t (Some p)))
    → each ≡ length (arcs_from t (option_map place_of o))
arcs_yes t None each some is = absurd (cc)
arcs_yes t (Some s) each some is = is (place_of s)

pub arcs_no : (t : Timing) (o : Option SinkAt) → is_some o ≡ false → length (arcs_from t (option_map place_of o)) ≡ 0
arcs_no t None none = refl
arcs_no t (Some s) none = absurd (cc)

-- ---- pins one after another
module _ (library : Library) (netlist : Netlist) where
  pub counted_none : (n : Counts) → n.arcs ≡ 0 → n.checks ≡ 0 → AreCounted library netlist [] n
  counted_none n arcs points = record { arcs = arcs; checks = points }

  pub counted_pin : (done : List Connected) (c : Connected) (old new : Counts) → AreCounted library netlist done old → new.arcs ≡ old.arcs + arc_count library netlist c
      → new.checks ≡ old.checks + length (pin_checks library netlist c) → AreCounted library netlist (done ++ c ∷ []) new
  counted_pin done c old new so arcs points =
      let whole : flat_map (pin_checks library netlist) (done ++ c ∷ []) ≡ flat_map (pin_checks library netlist) done ++ pin_checks library netlist c =
      flat_map-append (pin_checks library netlist) done (c ∷ [])
      ∙ ap (λ l. flat_map (pin_checks library netlist) done ++ l) (flat_map-cons (pin_checks library netlist) c [] ∙ append-nil (pin_checks library netlist c)) in
      record {
        arcs = omega (arith, arcs, so.arcs, sum_by_push (arc_count library netlist) done c);
        checks = omega (arith, points, so.checks, ap length whole, length-append (flat_map (pin_checks library netlist) done) (pin_checks library netlist c));
      }
