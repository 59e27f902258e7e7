-- How much of the coupling capacitance of a net can switch at one moment.
use Rattle.std.specs.Prelude.{ℕ, Bool, ◌&&◌, if◌then◌else◌, ℤ, pos, ◌+ℤ◌, List, [], ◌∷◌, Option, Some, None}
use Rattle.std.specs.List.{slice_get}
use Rattle.xt_model.specs.declared.edge.Edge.{Edge}
use Rattle.xt_model.specs.declared.quad.Quad.{Quad}
use Rattle.xt_model.specs.declared.net.Coupling.{Coupling}
use Rattle.xt_model.specs.declared.net.Net.{Net}
use Rattle.xt_model.specs.Quads.{is_live, IsLive}
use Rattle.xt_model.specs.Parts.{Parts}
use Rattle.xt_model.specs.Assign.{Assignment}
use Rattle.xt_meaning.specs.Overlap.{active_from, active_to, Meet, ranges_meet}

-- a transition of the window can be under way at this moment: the window is live, and its active range meets the
-- moment, in a design with a clock period also where it is moved by some whole number of periods
pub record IsUnderWay (period : Option ℤ) (q : Quad) (moment : ℤ) : Type 0 where
  pub live : IsLive q
  pub meet : Meet period (active_from q) (active_to q) moment moment

-- the same as an answer
abbrev pub is_under_way : Option ℤ → Quad → ℤ → Bool
is_under_way period q moment = is_live q && ranges_meet period (active_from q) (active_to q) moment moment

-- what a coupling adds at this moment: its capacitance, where the edge e of its aggressor can be under way
abbrev pub part_of : Option ℤ → Assignment → Edge → ℤ → Coupling → ℤ
part_of period W e moment k = if is_under_way period (W k.to.0 e) moment then k.cap else pos 0

-- and what all these couplings add
abbrev pub share_of : Option ℤ → Assignment → Edge → ℤ → List Coupling → ℤ
share_of period W e moment [] = pos 0
share_of period W e moment (k ∷ more) = part_of period W e moment k +ℤ share_of period W e moment more

-- the couplings of a net, where it is there
abbrev pub couplings_of : Option Net → List Coupling
couplings_of None = []
couplings_of (Some net) = net.couplings

-- the share of net number n, by the edges e of its aggressors, at this moment: the sum of its coupling capacitors
-- whose aggressor can be under way then
unfoldable pub share : Parts → Assignment → ℕ → Edge → ℤ → ℤ
share d W n e moment = share_of d.period W e moment (couplings_of (slice_get d.nets n))
