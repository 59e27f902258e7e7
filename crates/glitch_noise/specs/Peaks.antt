-- The greatest share of a net over all moments, and the first moment that has it.
use Rattle.std.specs.Prelude.{◌≡◌, ℕ, ◌+◌, ℤ, pos, ◌+ℤ◌, ◌*ℤ◌, ◌≤ℤ◌, List, [], ◌∷◌, ◌++◌, Option, Some, None, IfSome}
use Rattle.std.specs.Int.{int_div_euclid}
use Rattle.std.specs.List.{slice_get}
use Rattle.xt_model.specs.declared.edge.Edge.{Edge}
use Rattle.xt_model.specs.declared.edge.Edge.TheVariants.{Rise, Fall}
use Rattle.xt_model.specs.declared.net.Net.{Net}
use Rattle.xt_model.specs.Parts.{Parts}
use Rattle.xt_model.specs.Sound.{coupling_sum}
use Rattle.xt_model.specs.Assign.{Assignment}
use Rattle.glitch_noise.specs.declared.peak.Peak.{Peak}
use Rattle.glitch_noise.specs.Shares.{share}

-- the moments that are compared for the first one: in a design with a clock period, those of one period
abbrev pub IsMoment : Option ℤ → ℤ → Type 0
IsMoment None moment = Unit {0}
IsMoment (Some period) moment = (pos 0 ≤ℤ moment) × ((moment +ℤ pos 1) ≤ℤ period)

-- of these shares, by moment, the greatest over all whole moments is `most`, and `moment` is the first that has it
pub record IsGreatest (period : Option ℤ) (shares : ℤ → ℤ) (most moment : ℤ) : Type 0 where
  pub bound : (m : ℤ) → shares m ≤ℤ most
  pub counts : IsMoment period moment
  pub reached : shares moment ≡ most
  pub first : (m : ℤ) → IsMoment period m → shares m ≡ most → moment ≤ℤ m

-- none of them is above 0
abbrev pub IsCalm : (ℤ → ℤ) → Type 0
IsCalm shares = (m : ℤ) → shares m ≤ℤ pos 0

-- the peak of net number n, which is `net`, for the edges e of its aggressors; its size is the share as a part of the
-- load of the net and all its couplings, in millionths, rounded down
pub record IsPeak (d : Parts) (W : Assignment) (n : ℕ) (net : Net) (e : Edge) (p : Peak) : Type 0 where
  pub victim : p.victim.0 ≡ n
  pub edge : p.edge ≡ e
  pub some : pos 1 ≤ℤ p.sum
  pub greatest : IsGreatest d.period (share d W n e) p.sum p.moment
  pub size : pos p.ppm ≡ int_div_euclid (pos 1000000 *ℤ p.sum) (net.load +ℤ coupling_sum net.couplings)

-- the peaks of a net for one edge of its aggressors: one, or none where no moment has a share above 0
abbrev pub EdgePeaks : Parts → Assignment → ℕ → Net → Edge → List Peak → Type 0
EdgePeaks d W n net e [] = IsCalm (share d W n e)
EdgePeaks d W n net e (p ∷ []) = IsPeak d W n net e p
EdgePeaks d W n net e (p ∷ q ∷ more) = ⊥

-- the peaks of net number n for one edge of its aggressors come to a list
abbrev pub EdgePeaksAt : Parts → Assignment → ℕ → Edge → List Peak → List Peak → Type 0
EdgePeaksAt d W n e before after =
    IfSome (slice_get d.nets n) (λ net. (own : List Peak) × EdgePeaks d W n net e own × (after ≡ before ++ own))

-- those of a net: for the rises of its aggressors, then for their falls
pub record NetPeaks (d : Parts) (W : Assignment) (n : ℕ) (net : Net) (ps : List Peak) : Type 0 where
  pub rises : List Peak
  pub falls : List Peak
  pub of_rises : EdgePeaks d W n net Rise rises
  pub of_falls : EdgePeaks d W n net Fall falls
  pub all : ps ≡ rises ++ falls

-- those of nets, of which the first has number n, in their order
abbrev pub ArePeaks : Parts → Assignment → ℕ → List Net → List Peak → Type 0
ArePeaks d W n [] ps = ps ≡ []
ArePeaks d W n (net ∷ more) ps =
    (own others : List Peak) × NetPeaks d W n net own × ArePeaks d W (n + 1) more others × (ps ≡ own ++ others)
