-- The slack of a check in windows that hold transitions is at most what these leave.
use Rattle.std.proofs.Common.{◌≡◌, ℕ, sym, ap, subst, Bool, true, false, List, ℤ, pos, ◌≤ℤ◌, arith}
use Rattle.std.specs.Prelude.{IsTrue, if◌then◌else◌, Option, Some, None}
use Rattle.std.specs.List.{Contains, slice_get}
use Rattle.std.specs.Option.{IsSomeAnd, option_and_then, unwrap_or}
use Rattle.std.proofs.lemmas.Int.{ints}
use Rattle.std.proofs.lemmas.List.Elements.{All-contains}
use Rattle.xt_model.specs.declared.edge.Edge.{Edge}
use Rattle.xt_model.specs.declared.edge.Edge.TheVariants.{Rise}
use Rattle.xt_model.specs.declared.table.Table.{Table}
use Rattle.xt_model.specs.Quads.{is_live, IsLive}
use Rattle.xt_model.specs.Parts.{Parts}
use Rattle.xt_model.specs.Assign.{Assignment}
use Rattle.xt_meaning.specs.Lookup.{table_value}
use Rattle.xt_meaning.specs.Operator.{delay_range}
use Rattle.xt_meaning.proofs.Ranges.{greatest_over_above}
use Rattle.xt_meaning.proofs.Growth.{AreWired, slew_growth_mono}
use Rattle.run_laws.specs.Transitions.{Transition}
use Rattle.run_laws.specs.Laws.{LiesInLive, LieWithin}
use Rattle.sink_windows.specs.declared.sink.SinkWindow.{SinkWindow}
use Rattle.sink_windows.specs.Sinks.{wire_in, with_wire, sink_window}
use Rattle.slack_report.specs.Slacks.{period_of, slews_box, constraint, flop_slack, port_slack}
use Rattle.slack_laws.specs.Arrivals.{Arrival, ArrivesAt, constraint_at, flop_leaves, port_leaves, LeaveAtFlop, LeaveAtPort}
use Rattle.slack_laws.proofs.Wires.{wire_within}

-- ---- options
chosen : (t : Bool) (s : SinkWindow) (P : SinkWindow → Type 0) → IsTrue t → P s → IsSomeAnd (if t then Some s else None) P
chosen true s P h p = p
chosen false s P h p = absurd (cc)

then_some : {A B : Type 0} (f : A → Option B) (o : Option A) (P : A → Type 0) (Q : B → Type 0) → IsSomeAnd o P → ((x : A) → P x → IsSomeAnd (f x) Q) → IsSomeAnd (option_and_then f o) Q
then_some f None P Q h k = absurd h
then_some f (Some x) P Q h k = k x h

-- ---- arrivals
-- an arrival is within a window at a sink
record IsIn (a : Arrival) (s : SinkWindow) : Type 0 where
  tlo : s.window.tlo ≤ℤ a.time
  thi : a.time ≤ℤ s.window.thi
  slo : s.window.slo ≤ℤ a.slew
  shi : a.slew ≤ℤ s.window.shi

arrival_in : (d : Parts) (W : Assignment) (xs : List Transition) (n : ℕ) (e : Edge) (sink : ℕ) (a : Arrival) → AreWired d → LieWithin W xs → ArrivesAt d xs n e sink a
    → IsSomeAnd (sink_window d W n e sink) (IsIn a)
arrival_in d W xs n e sink a ws lie h =
    let x = h.x in
    let P : ℕ → Type 0 = λ i. IsSomeAnd (sink_window d W i x.edge sink) (IsIn a) in
    let Q : Edge → Type 0 = λ f. IsSomeAnd (sink_window d W n f sink) (IsIn a) in
    let of_x : LiesInLive (W x.net x.edge) x = All-contains (λ z. LiesInLive (W z.net z.edge) z) xs x lie h.listed in
    let r = wire_in d W x.net x.edge sink in
    let of_w = wire_within d W xs x ws lie h.listed sink h.w (slice_get d.nets x.net) (ws.each x.net) h.wire in
    let low = slew_growth_mono r.least h.w of_w.0 in
    let high = slew_growth_mono h.w r.most of_w.1 in
    subst Q h.at_edge (subst P h.at_net
    (chosen (is_live (W x.net x.edge)) (with_wire (W x.net x.edge) r) (IsIn a) of_x.live (record {
      tlo = omega (arith, ints, h.time, of_x.bounds.tlo, of_w.0);
      thi = omega (arith, ints, h.time, of_x.bounds.thi, of_w.1);
      slo = omega (arith, ints, h.slew, of_x.bounds.slo, low);
      shi = omega (arith, ints, h.slew, of_x.bounds.shi, high);
    })))

-- ---- the slack of a check, piece by piece
abbrev pub flop_slack_in : Parts → Assignment → Bool → ℕ → Edge → ℕ → ℕ → ℕ → ℕ → Option ℤ
flop_slack_in d W hold net e sink clock_net clock_sink table =
    option_and_then
    (λ datum. option_and_then
    (λ clock. Some (flop_slack hold (period_of d) (constraint d table clock.window datum.window) clock.window datum.window))
    (sink_window d W clock_net Rise clock_sink))
    (sink_window d W net e sink)

abbrev pub port_slack_in : Parts → Assignment → Bool → ℕ → Edge → ℕ → ℤ → Option ℤ
port_slack_in d W hold net e sink delay = option_and_then (λ datum. Some (port_slack hold (period_of d) delay datum.window)) (sink_window d W net e sink)

-- ---- slacks
constraint_below : (o : Option Table) (q r : SinkWindow) (clock datum : Arrival) → IsIn clock q → IsIn datum r → constraint_at o clock datum ≤ℤ (delay_range o (slews_box q.window r.window)).most
constraint_below None q r clock datum h k = omega (arith, ints)
constraint_below (Some t) q r clock datum h k =
    greatest_over_above (table_value t) (slews_box q.window r.window) clock.slew datum.slew (record { s_low = h.slo; s_high = h.shi; c_low = k.slo; c_high = k.shi })

flop_below : (hold : Bool) (period need most : ℤ) (q r : SinkWindow) (clock datum : Arrival) → IsIn clock q → IsIn datum r → need ≤ℤ most
    → flop_slack hold period most q.window r.window ≤ℤ flop_leaves hold period need clock datum
flop_below true period need most q r clock datum h k below = omega (arith, ints, h.thi, k.tlo, below)
flop_below false period need most q r clock datum h k below = omega (arith, ints, h.tlo, k.thi, below)

port_below : (hold : Bool) (period delay : ℤ) (r : SinkWindow) (datum : Arrival) → IsIn datum r → port_slack hold period delay r.window ≤ℤ port_leaves hold period delay datum
port_below true period delay r datum k = omega (arith, ints, k.tlo)
port_below false period delay r datum k = omega (arith, ints, k.thi)

period_is : (d : Parts) (period : ℤ) → d.period ≡ Some period → period ≡ period_of d
period_is d period h = ap (λ o. unwrap_or o (pos 0)) (sym h)

-- where the transitions leave this much at a check, it has a slack in these windows, of which P holds
pub record HaveSlacks (d : Parts) (xs : List Transition) (W : Assignment) (left : ℤ) (P : ℤ → Type 0) : Type 0 where
  pub flop : (hold : Bool) (net : ℕ) (e : Edge) (sink clock_net clock_sink table : ℕ) → LeaveAtFlop d xs hold net e sink clock_net clock_sink left table
      → IsSomeAnd (flop_slack_in d W hold net e sink clock_net clock_sink table) P
  pub port : (hold : Bool) (net : ℕ) (e : Edge) (sink : ℕ) (delay : ℤ) → LeaveAtPort d xs hold net e sink left delay → IsSomeAnd (port_slack_in d W hold net e sink delay) P

-- in windows that hold the list it is at most that
pub slacks_below : (d : Parts) (W : Assignment) (xs : List Transition) (left : ℤ) → AreWired d → LieWithin W xs → HaveSlacks d xs W left (λ s. s ≤ℤ left)
slacks_below d W xs left ws lie = record { flop = at_flop; port = at_port } where
  at_flop : (hold : Bool) (net : ℕ) (e : Edge) (sink clock_net clock_sink table : ℕ) → LeaveAtFlop d xs hold net e sink clock_net clock_sink left table
      → IsSomeAnd (flop_slack_in d W hold net e sink clock_net clock_sink table) (λ s. s ≤ℤ left)
  at_flop hold net e sink clock_net clock_sink table l =
      let o = slice_get d.tables table in
      let need = constraint_at o l.clock l.datum in
      let P : ℤ → Type 0 = λ v. IsSomeAnd (flop_slack_in d W hold net e sink clock_net clock_sink table) (λ s. s ≤ℤ v) in
      subst P (sym l.leaves)
      (then_some _ (sink_window d W net e sink) (IsIn l.datum) (λ s. s ≤ℤ flop_leaves hold l.period need l.clock l.datum) (arrival_in d W xs net e sink l.datum ws lie l.datum_arrives)
      (λ r k.
      then_some _ (sink_window d W clock_net Rise clock_sink) (IsIn l.clock) (λ s. s ≤ℤ flop_leaves hold l.period need l.clock l.datum)
      (arrival_in d W xs clock_net Rise clock_sink l.clock ws lie l.clock_arrives)
      (λ q h.
      let most = (delay_range o (slews_box q.window r.window)).most in
      let Q : ℤ → Type 0 = λ t. flop_slack hold t most q.window r.window ≤ℤ flop_leaves hold l.period need l.clock l.datum in
      subst Q (period_is d l.period l.clocked) (flop_below hold l.period need most q r l.clock l.datum h k (constraint_below o q r l.clock l.datum h k)))))

  at_port : (hold : Bool) (net : ℕ) (e : Edge) (sink : ℕ) (delay : ℤ) → LeaveAtPort d xs hold net e sink left delay → IsSomeAnd (port_slack_in d W hold net e sink delay) (λ s. s ≤ℤ left)
  at_port hold net e sink delay l =
      let P : ℤ → Type 0 = λ v. IsSomeAnd (port_slack_in d W hold net e sink delay) (λ s. s ≤ℤ v) in
      subst P (sym l.leaves)
      (then_some _ (sink_window d W net e sink) (IsIn l.datum) (λ s. s ≤ℤ port_leaves hold l.period delay l.datum) (arrival_in d W xs net e sink l.datum ws lie l.datum_arrives)
      (λ r k.
      let Q : ℤ → Type 0 = λ t. port_slack hold t delay r.window ≤ℤ port_leaves hold l.period delay l.datum in
      subst Q (period_is d l.period l.clocked) (port_below hold l.period delay r l.datum k)))

-- and in windows that are live where the transitions are there is one
pub slacks_there : (d : Parts) (W : Assignment) (xs : List Transition) (left : ℤ) → ((x : Transition) → Contains xs x → IsLive (W x.net x.edge)) → HaveSlacks d xs W left (λ s. Unit {0})
slacks_there d W xs left live = record {
  flop = λ hold net e sink clock_net clock_sink table l.
      then_some _ (sink_window d W net e sink) (λ s. Unit {0}) (λ s. Unit {0}) (window_there net e sink l.datum l.datum_arrives)
      (λ r k. then_some _ (sink_window d W clock_net Rise clock_sink) (λ s. Unit {0}) (λ s. Unit {0}) (window_there clock_net Rise clock_sink l.clock l.clock_arrives) (λ q h. tt));
  port = λ hold net e sink delay l. then_some _ (sink_window d W net e sink) (λ s. Unit {0}) (λ s. Unit {0}) (window_there net e sink l.datum l.datum_arrives) (λ r k. tt);
} where
  window_there : (n : ℕ) (e : Edge) (sink : ℕ) (a : Arrival) → ArrivesAt d xs n e sink a → IsSomeAnd (sink_window d W n e sink) (λ s. Unit {0})
  window_there n e sink a h =
      let P : ℕ → Type 0 = λ i. IsLive (W i h.x.edge) in
      let Q : Edge → Type 0 = λ f. IsLive (W n f) in
      chosen (is_live (W n e)) (with_wire (W n e) (wire_in d W n e sink)) (λ s. Unit {0}) (subst Q h.at_edge (subst P h.at_net (live h.x h.listed))) tt
