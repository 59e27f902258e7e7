-- What an edit of the layout makes of a design: capacitance goes from the couplings between two nets to ground, or
-- comes back.
use Rattle.std.specs.Prelude.{ℕ, zero, suc, ◌-◌, ◌==◌, if◌then◌else◌, ℤ, pos, negsuc, ◌+ℤ◌, ◌-ℤ◌, ◌*ℤ◌}
use Rattle.std.specs.Prelude.{List, [], ◌∷◌, map}
use Rattle.std.specs.Int.{int_min, int_div_euclid}
use Rattle.xt_model.specs.declared.net.Coupling.{Coupling}
use Rattle.xt_model.specs.declared.net.SinkPin.{SinkPin}
use Rattle.xt_model.specs.declared.net.Net.{Net}
use Rattle.xt_model.specs.Miller.{MillerNumbers}
use Rattle.xt_model.specs.Parts.{Parts}
use Rattle.eco_warm.specs.declared.edit.Edit.{Edit}
use Rattle.eco_warm.specs.declared.edit.Edit.TheVariants.{Shield, Apart, Near}
use Rattle.eco_warm.specs.declared.edit.Move.{Move}
use Rattle.eco_warm.specs.declared.edit.Move.TheVariants.{Whole, ToGround, FromGround}
use Rattle.eco_warm.specs.declared.edit.Change.{Change}
use Rattle.eco_warm.specs.declared.edit.Change.TheVariants.{Shrinks, Grows, Neither}

-- ---- one coupling

-- what is left of the capacitance of a coupling
abbrev pub cap_left : Move → ℤ → ℤ
cap_left Whole cap = pos 0
cap_left (ToGround by) cap = cap -ℤ int_min by cap
cap_left (FromGround by) cap = cap +ℤ by

-- a coefficient in proportion to what is left of the capacitance, rounded down; without capacitance it stays
abbrev pub in_proportion : ℤ → ℤ → ℤ → ℤ
in_proportion (pos zero) left coef = coef
in_proportion (pos (suc c)) left coef = int_div_euclid (coef *ℤ left) (pos (suc c))
in_proportion (negsuc c) left coef = coef

-- what is left of a wire coefficient of the coupling
abbrev pub coef_left : Move → ℤ → ℤ → ℤ
coef_left Whole cap coef = pos 0
coef_left (ToGround by) cap coef = in_proportion cap (cap_left (ToGround by) cap) coef
coef_left (FromGround by) cap coef = in_proportion cap (cap_left (FromGround by) cap) coef

-- ---- the couplings of a net

-- a coupling with what is left of it, before others; where all of it goes to ground it is taken out
abbrev pub coupling_before : Move → Coupling → List Coupling → List Coupling
coupling_before Whole k more = more
coupling_before (ToGround by) k more = record k { cap = cap_left (ToGround by) k.cap } ∷ more
coupling_before (FromGround by) k more = record k { cap = cap_left (FromGround by) k.cap } ∷ more

-- the couplings of a net where those to the net number `other` are moved
abbrev pub couplings_left : Move → ℕ → List Coupling → List Coupling
couplings_left m other [] = []
couplings_left m other (k ∷ ks) =
    if k.to.0 == other then coupling_before m k (couplings_left m other ks) else k ∷ couplings_left m other ks

-- what they lose, which the load gains
abbrev pub cap_moved : Move → ℕ → List Coupling → ℤ
cap_moved m other [] = pos 0
cap_moved m other (k ∷ ks) =
    (if k.to.0 == other then k.cap -ℤ cap_left m k.cap else pos 0) +ℤ cap_moved m other ks

-- a coefficient with what is left of it, before others; it is taken out with its coupling
abbrev pub coef_before : Move → ℤ → ℤ → List ℤ → List ℤ
coef_before Whole cap coef more = more
coef_before (ToGround by) cap coef more = coef_left (ToGround by) cap coef ∷ more
coef_before (FromGround by) cap coef more = coef_left (FromGround by) cap coef ∷ more

-- the coefficients of a sink, one for each coupling
abbrev pub coefs_left : Move → ℕ → List Coupling → List ℤ → List ℤ
coefs_left m other [] cs = []
coefs_left m other (k ∷ ks) [] = []
coefs_left m other (k ∷ ks) (c ∷ cs) =
    if k.to.0 == other then coef_before m k.cap c (coefs_left m other ks cs) else c ∷ coefs_left m other ks cs

-- what they lose, which the sink's base gains
abbrev pub coef_moved : Move → ℕ → List Coupling → List ℤ → ℤ
coef_moved m other [] cs = pos 0
coef_moved m other (k ∷ ks) [] = pos 0
coef_moved m other (k ∷ ks) (c ∷ cs) =
    (if k.to.0 == other then c -ℤ coef_left m k.cap c else pos 0) +ℤ coef_moved m other ks cs

-- the sum of a list
abbrev pub total : List ℤ → ℤ
total [] = pos 0
total (x ∷ xs) = x +ℤ total xs

-- a sink of a net with these couplings
abbrev pub sink_left : Move → ℕ → List Coupling → SinkPin → SinkPin
sink_left m other ks s = record s {
  base = s.base +ℤ coef_moved m other ks s.coefs;
  coefs = coefs_left m other ks s.coefs;
}

-- the net where its couplings to the net number `other` are moved
abbrev pub net_left : Move → ℕ → Net → Net
net_left m other n = record n {
  load = n.load +ℤ cap_moved m other n.couplings;
  couplings = couplings_left m other n.couplings;
  sinks = map (sink_left m other n.couplings) n.sinks;
}

-- ---- the nets of a design

-- the nets with f of the one of this number in its place
abbrev pub at_net : ℕ → (Net → Net) → List Net → List Net
at_net i f [] = []
at_net zero f (n ∷ more) = f n ∷ more
at_net (suc i) f (n ∷ more) = n ∷ at_net i f more

-- the couplings of net a to net b are moved, and those of net b to net a
abbrev pub nets_left : Move → ℕ → ℕ → List Net → List Net
nets_left m a b nets = at_net b (net_left m a) (at_net a (net_left m b) nets)

-- how many pairs of nets are coupled after a move between two coupled nets, of this many
abbrev pub pairs_left : Move → ℕ → ℕ
pairs_left Whole count = count - 1
pairs_left (ToGround by) count = count
pairs_left (FromGround by) count = count

-- ---- edits

-- a shield takes all coupling to ground; nets that are moved apart have less of it, by this much of each coupling, as
-- far as it has that much; nets that are moved nearer have this much more
abbrev pub move_of : Edit → Move
move_of (Shield a b) = Whole
move_of (Apart a b by) = ToGround by
move_of (Near a b by) = FromGround by

abbrev pub first_of : Edit → ℕ
first_of (Shield a b) = a.0
first_of (Apart a b by) = a.0
first_of (Near a b by) = a.0

abbrev pub second_of : Edit → ℕ
second_of (Shield a b) = b.0
second_of (Apart a b by) = b.0
second_of (Near a b by) = b.0

-- the design after the edit
abbrev pub edited : Edit → Parts → Parts
edited e d = record d { nets = nets_left (move_of e) (first_of e) (second_of e) d.nets }

-- how an edit moves windows in a design whose middle Miller number is one whole capacitor: there, what goes to ground
-- counts as before where nothing overlaps, and less moves with overlaps
abbrev pub whole_change : Edit → Change
whole_change (Shield a b) = Shrinks
whole_change (Apart a b by) = Shrinks
whole_change (Near a b by) = Grows

abbrev pub change_of : MillerNumbers → Edit → Change
change_of m e = if m.mid == 4 then whole_change e else Neither
