-- Windows within an accepted envelope fit the wires behind them.
use Rattle.std.proofs.Common.{◌≡◌, ℕ, ◌<◌, refl, ◌≤ℤ◌, List, length, get_or, arith}
use Rattle.std.specs.Prelude.{Option, Some, None, IfSome}
use Rattle.std.specs.Option.{IsSomeAnd}
use Rattle.std.specs.List.{All, slice_get}
use Rattle.std.proofs.lemmas.Int.{ints}
use Rattle.xt_model.specs.declared.edge.Edge.{Edge}
use Rattle.xt_model.specs.declared.quad.Quad.{Quad}
use Rattle.xt_model.specs.declared.quad.Pair.{Pair}
use Rattle.xt_model.specs.declared.net.Net.{Net}
use Rattle.xt_model.specs.declared.net.TimingArc.{TimingArc}
use Rattle.xt_model.specs.Quads.{IsLive, IsWithin}
use Rattle.xt_model.specs.Parts.{Parts}
use Rattle.xt_model.specs.Miller.{IsMiller}
use Rattle.xt_model.specs.Sound.{IsSound, IsSoundNet}
use Rattle.xt_model.specs.Assign.{Assignment, assigned}
use Rattle.xt_meaning.specs.Wires.{wire_delay}
use Rattle.xt_meaning.specs.Overlap.{Answers, all_overlap, least_factors, greatest_factors}
use Rattle.xt_meaning.specs.Operator.{wire_range}
use Rattle.xt_meaning.specs.Envelope.{IsEnvelope, IsAccepted, greatest_wire}
use Rattle.xt_meaning.specs.Laws.{HasRoom}
use Rattle.xt_meaning.specs.Reads.{HoldsOfReads, HoldsOfArcReads}
use Rattle.xt_meaning.proofs.Growth.{IsImpliedAt, factors_ordered, greatest_factors_rise, wire_delay_mono}
use Rattle.xt_meaning.proofs.Room.{wire_delay_natural}
use Rattle.xt_meaning.proofs.Limits.{room_at}
use Rattle.miller_bits.specs.Views.{HasNet}
use Rattle.miller_bits.proofs.Sums.{found}
use Rattle.net_eval.specs.Room.{ReadsWithinEnvelope, FitsWire, FitsAtInput, ReadsFitBy}
use Rattle.table_box.specs.Groups.{AreGroups}
use Rattle.net_eval.specs.Scenes.{Scene, IsReadyNet}
use Rattle.net_eval.proofs.Contributions.{sound_wired}

-- a window with room at every sink fits the wire to each
pub room_fits : (d : Parts) (own : ℕ) (n : Net) (b : Answers) (e : Edge) (sink : ℕ) (q : Quad) → IsMiller d.miller → IsSoundNet d own n → sink < length n.sinks → HasRoom d.miller n q
    → FitsWire q (wire_range d.miller b own e sink (Some n))
room_fits d own n b e sink q m s sink_in room =
    let ks = n.couplings in
    let w = sound_wired d own n s in
    let implied : IsImpliedAt b all_overlap own ks = record { each = λ e f k x h t. refl } in
    let below : wire_delay (greatest_factors d.miller b own e ks) n sink ≤ℤ greatest_wire d.miller n sink =
    wire_delay_mono (greatest_factors d.miller b own e ks) (greatest_factors d.miller all_overlap own e ks) n sink (greatest_factors_rise d.miller b all_overlap own e ks m implied) w in
    let time = room.arrivals sink sink_in in
    record {
      driver = room.driver;
      low = wire_delay_natural d own n (least_factors d.miller b own e ks) sink s;
      ordered = wire_delay_mono (least_factors d.miller b own e ks) (greatest_factors d.miller b own e ks) n sink (factors_ordered d.miller b own e ks m) w;
      high = omega (arith, ints, below, time.most, room.driver.thi.least);
    }

fits_at : (d : Parts) (top : List Pair) (W : Assignment) (b : Answers) (a : TimingArc) (o : Option Net) → IsSound d → IsEnvelope d top → IsAccepted d top → slice_get d.nets a.from.0 ≡ o
    → IsSomeAnd o (λ m. a.sink < length m.sinks) → IsWithin (W a.from.0 a.input) (assigned top a.from.0 a.input) → IsLive (W a.from.0 a.input)
    → FitsWire (W a.from.0 a.input) (wire_range d.miller b a.from.0 a.input a.sink o)
fits_at d top W b a None s env acc there sink w live = absurd sink
fits_at d top W b a (Some m) s env acc there sink w live =
    room_fits d a.from.0 m b a.input a.sink (W a.from.0 a.input) s.miller (found (IsSoundNet d a.from.0) (slice_get d.nets a.from.0) m there (s.nets a.from.0)) sink
    (room_at d top a.from.0 a.input m (W a.from.0 a.input) s env.widest acc there w live)

-- windows within an accepted envelope fit the wires, whatever overlaps
pub reads_fit : (d : Parts) (b : Answers) (W : Assignment) (n : ℕ) → IsSound d → ReadsWithinEnvelope d W n → ReadsFitBy d b W n
reads_fit d b W n s within = record { inputs = each (slice_get d.nets n) (s.nets n) within.inputs } where
  each : (o : Option Net) → IfSome o (IsSoundNet d n) → IfSome o (λ net. All (λ a. IsWithin (W a.from.0 a.input) (assigned within.top a.from.0 a.input)) net.arcs)
      → IfSome o (λ net. All (FitsAtInput d b W) net.arcs)
  each None sound inputs = tt
  each (Some net) sound inputs = λ k x h live.
      fits_at d within.top W b (get_or net.arcs k x) (slice_get d.nets (get_or net.arcs k x).from.0) s within.envelope within.accepted refl (sound.arcs k x h).sink (inputs k x h) live

-- a net whose input windows fit can be evaluated
pub ready_net : (has : ℕ → Type 0) (s : Scene) (groups : List ℕ) (n : ℕ) (net : Net) → AreGroups s.design.tables groups → IsSound s.design → slice_get s.design.nets n ≡ Some net
    → HoldsOfReads (HasNet has) s.design n → ReadsFitBy s.design s.answers s.windows n → IsReadyNet has s groups n net
ready_net has s groups n net grouped whole there reads fit =
    let sound = found (IsSoundNet s.design n) (slice_get s.design.nets n) net there (whole.nets n) in
    let looks = found (λ net. All (HoldsOfArcReads (HasNet has) s.design n net) net.arcs) (slice_get s.design.nets n) net there reads.arcs in
    let inputs = found (λ net. All (FitsAtInput s.design s.answers s.windows) net.arcs) (slice_get s.design.nets n) net there fit.inputs in
    record {
      there = there;
      sound = sound;
      miller = whole.miller;
      grouped = grouped;
      words = reads;
      arcs = λ k x h. record {
        sound = sound.arcs k x h;
        words = λ e. record { own = (looks k x h).from e; aggressors = (looks k x h).from_aggressors };
        room = inputs k x h;
      };
    }
