-- Laws of shares and peaks.
use Rattle.std.specs.Prelude.{◌≡◌, ◌↔◌, ℕ, IsTrue, ℤ, List, Option}
use Rattle.xt_model.specs.declared.quad.Quad.{Quad}
use Rattle.xt_model.specs.declared.net.Net.{Net}
use Rattle.xt_model.specs.Parts.{Parts}
use Rattle.xt_model.specs.Assign.{Assignment}
use Rattle.xt_meaning.specs.Overlap.{IsRealPeriod}
use Rattle.glitch_noise.specs.declared.peak.Peak.{Peak}
use Rattle.glitch_noise.specs.Shares.{IsUnderWay, is_under_way}
use Rattle.glitch_noise.specs.Peaks.{ArePeaks}

-- the answer decides whether a transition can be under way
abbrev pub AnswerDecides : Type 0
AnswerDecides = (period : Option ℤ) (q : Quad) (moment : ℤ) → IsRealPeriod period
    → IsTrue (is_under_way period q moment) ↔ IsUnderWay period q moment

-- nets have one list of peaks
abbrev pub PeaksAreUnique : Type 0
PeaksAreUnique = (d : Parts) (W : Assignment) (n : ℕ) (nets : List Net) (ps qs : List Peak)
    → ArePeaks d W n nets ps → ArePeaks d W n nets qs → ps ≡ qs
