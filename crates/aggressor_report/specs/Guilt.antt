-- Which aggressors can matter to which edge of a net, in the least windows and in the greatest.
use Rattle.std.specs.Prelude.{ℕ, ◌+◌, Bool, true, false, ◌&&◌, not, if◌then◌else◌, List, [], ◌∷◌, ◌++◌, Option}
use Rattle.std.specs.List.{filter, slice_get}
use Rattle.std.specs.Option.{option_and_then}
use Rattle.xt_model.specs.declared.edge.Edge.{Edge}
use Rattle.xt_model.specs.declared.edge.Edge.TheVariants.{Rise, Fall}
use Rattle.xt_model.specs.declared.quad.Pair.{Pair}
use Rattle.xt_model.specs.declared.net.NetId.{NetId}
use Rattle.xt_model.specs.declared.net.Coupling.{Coupling}
use Rattle.xt_model.specs.declared.net.Net.{Net}
use Rattle.xt_model.specs.Quads.{other_edge}
use Rattle.xt_model.specs.Parts.{Parts}
use Rattle.xt_model.specs.Assign.{assigned}
use Rattle.xt_meaning.specs.Overlap.{overlap_answers}
use Rattle.aggressor_report.specs.declared.mark.Mark.{Mark}
use Rattle.aggressor_report.specs.declared.mark.Mark.TheVariants.{No, Possible, Sure}
use Rattle.aggressor_report.specs.declared.guilt.Guilt.{Guilt}

-- whether an edge of one net overlaps an edge of another in these windows of the design
abbrev pub overlap_in : Parts → List Pair → ℕ → Edge → ℕ → Edge → Bool
overlap_in d windows n e m f = overlap_answers d.period (assigned windows) n e m f

-- two edges overlap in the least windows, in the greatest alone, or not at all
abbrev pub mark_by : Bool → Bool → Mark
mark_by least greatest = if least then Sure else if greatest then Possible else No

-- the mark of an edge of a victim and an edge of an aggressor
abbrev pub mark_of : Parts → List Pair → List Pair → ℕ → Edge → ℕ → Edge → Mark
mark_of d low high n e m f = mark_by (overlap_in d low n e m f) (overlap_in d high n e m f)

-- the entry of a victim's edge and the coupling of this number in the victim's list: the aggressor's same edge can
-- speed the victim's up, its other edge can slow it down
abbrev pub entry_of : Parts → List Pair → List Pair → NetId → Edge → ℕ → Coupling → Guilt
entry_of d low high victim e number k = record {
  victim = victim;
  edge = e;
  coupling = number;
  fast = mark_of d low high victim.0 e k.to.0 e;
  slow = mark_of d low high victim.0 e k.to.0 (other_edge e);
}

-- one entry for each of these couplings of a victim's edge, with their numbers from this one on
abbrev pub edge_entries : Parts → List Pair → List Pair → NetId → Edge → ℕ → List Coupling → List Guilt
edge_entries d low high victim e number [] = []
edge_entries d low high victim e number (k ∷ more) =
    entry_of d low high victim e number k ∷ edge_entries d low high victim e (number + 1) more

-- the entries of these nets, by net, by edge and by coupling; the first net has this number
abbrev pub net_entries : Parts → List Pair → List Pair → ℕ → List Net → List Guilt
net_entries d low high n [] = []
net_entries d low high n (net ∷ more) =
    edge_entries d low high (record { 0 = n }) Rise 0 net.couplings
    ++ (edge_entries d low high (record { 0 = n }) Fall 0 net.couplings ++ net_entries d low high (n + 1) more)

abbrev pub is_no : Mark → Bool
is_no No = true
is_no Possible = false
is_no Sure = false

-- the aggressor can do something to the edge
abbrev pub is_guilty : Guilt → Bool
is_guilty g = not (is_no g.fast && is_no g.slow)

-- the entries in which an aggressor can do something
abbrev pub guilty : Parts → List Pair → List Pair → List Guilt
guilty d low high = filter is_guilty (net_entries d low high 0 d.nets)

-- the coupling of an entry, by its number in the victim's list
abbrev pub coupling_of : Parts → Guilt → Option Coupling
coupling_of d g = option_and_then (λ victim. slice_get victim.couplings g.coupling) (slice_get d.nets g.victim.0)
