-- Windows as the views of victims.
use Rattle.std.proofs.Common.{◌≡◌, ℕ, ◌+◌, ◌*◌, ◌<◌, ◌≤◌, refl, sym, subst, List, length, get_or, arith}
use Rattle.std.specs.Prelude.{Option, Some, None, IfSome}
use Rattle.std.specs.Option.{IsSomeAnd}
use Rattle.std.specs.List.{slice_get}
use Rattle.std.proofs.lemmas.Option.{slice_get_within}
use Rattle.xt_model.specs.declared.edge.Edge.{Edge}
use Rattle.xt_model.specs.declared.edge.Edge.TheVariants.{Rise, Fall}
use Rattle.xt_model.specs.declared.quad.Pair.{Pair}
use Rattle.xt_model.specs.declared.net.Net.{Net}
use Rattle.xt_model.specs.Parts.{Parts}
use Rattle.xt_model.specs.Sound.{IsSound, IsSoundNet, HasSink}
use Rattle.xt_model.specs.Assign.{assigned, edge_number, words_of, quads_of}
use Rattle.xt_meaning.specs.Reads.{HoldsOfEnds}
use Rattle.xt_meaning.proofs.Words.{quads_of_words}
use Rattle.miller_bits.specs.Views.{HasNet, HasVictim}
use Rattle.net_eval.proofs.Steady.{has_sink}

-- the words of a list of windows
abbrev pub HasWord : List Pair → ℕ → Type 0
HasWord v word = word < 8 * length v

edge_small : (e : Edge) → edge_number e ≤ 1
edge_small Rise = omega arith
edge_small Fall = omega arith

has_net : (v : List Pair) (n : ℕ) → n < length v → HasNet (HasWord v) n
has_net v n h = λ e side k. let s = edge_small e in omega (arith, h, k, s)

has_ends : (d : Parts) (v : List Pair) (n : ℕ) (o : Option Net) → length v ≡ length d.nets → IfSome o (IsSoundNet d n) → IfSome o (λ net. HoldsOfEnds (HasNet (HasWord v)) net.couplings)
has_ends d v n None count s = tt
has_ends d v n (Some net) count s = λ k x h. has_net v (get_or net.couplings k x).to.0 (rw count ((s.couplings k x h).there))

-- windows hold the words of each victim
pub victim_there : (d : Parts) (v : List Pair) (n : ℕ) (e : Edge) → length v ≡ length d.nets → IsSound d → n < length d.nets → HasVictim (HasWord v) d n e
victim_there d v n e count s n_in = record {
  own = has_net v n (rw count n_in) e;
  aggressors = has_ends d v n (slice_get d.nets n) count (s.nets n);
}

-- a net with a sink is there
pub sink_net : (d : Parts) (n sink : ℕ) → HasSink d n sink → n < length d.nets
sink_net d n sink h = has_sink d n sink (slice_get d.nets n) refl h

-- the quads of the words of windows are the windows
pub quads_here : (v : List Pair) → quads_of (words_of (assigned v)) ≡ assigned v
quads_here v = λ i n e. quads_of_words (assigned v) n e i
