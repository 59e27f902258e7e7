-- The checks of a design.
use Rattle.std.specs.Prelude.{ℕ, ◌+◌, ◌<◌, neg_ℤ, List, length, [], ◌∷◌, ◌++◌, Option, Some, None}
use Rattle.std.specs.Option.{option_map}
use Rattle.xt_model.specs.declared.edge.Edge.{Edge}
use Rattle.xt_model.specs.declared.edge.Edge.TheVariants.{Rise, Fall}
use Rattle.xt_model.specs.declared.check.CheckPoint.{CheckPoint}
use Rattle.xt_model.specs.declared.check.CheckPoint.TheVariants.{Flop, Port}
use Rattle.xt_model.specs.Parts.{Parts}
use Rattle.xt_model.specs.Limits.{most_delay}
use Rattle.xt_model.specs.Sound.{HasSink, IsBetween}
use Rattle.slack_report.specs.declared.check.Check.{Check}
use Rattle.slack_report.specs.declared.check.Reference.{Reference}
use Rattle.slack_report.specs.declared.check.Reference.TheVariants.{Clock, Outside}

-- of two things the one for an edge
abbrev pub at_edge : {A : Type 0} → Edge → A → A → A
at_edge Rise rise fall = rise
at_edge Fall rise fall = fall

-- the check of an edge of the data at check point number i; there is one where the point has a table or a time for the
-- edge
abbrev pub check_at : ℕ → CheckPoint → Edge → Option Check
check_at i (Flop name hold datum datum_sink clock clock_sink rise fall) e =
    option_map
    (λ table. record {
      point = i;
      hold = hold;
      net = datum;
      edge = e;
      sink = datum_sink;
      reference = Clock clock clock_sink table;
    })
    (at_edge e rise fall)
check_at i (Port name hold net sink rise fall) e =
    option_map
    (λ delay. record { point = i; hold = hold; net = net; edge = e; sink = sink; reference = Outside delay })
    (at_edge e rise fall)

-- none or one
abbrev pub listed : {A : Type 0} → Option A → List A
listed None = []
listed (Some x) = x ∷ []

-- the checks of a point, of the rise before the fall
abbrev pub checks_at : ℕ → CheckPoint → List Check
checks_at i p = listed (check_at i p Rise) ++ listed (check_at i p Fall)

-- those of these points in order; the first point has this number
abbrev pub checks_from : ℕ → List CheckPoint → List Check
checks_from i [] = []
checks_from i (p ∷ more) = checks_at i p ++ checks_from (i + 1) more

-- those of a design
abbrev pub checks_of : Parts → List Check
checks_of d = checks_from 0 d.checks

-- what data is checked against is there, and a delay is in its range
abbrev pub IsSoundReference : Parts → Reference → Type 0
IsSoundReference d (Clock net sink table) = HasSink d net.0 sink × (table < length d.tables)
IsSoundReference d (Outside delay) = IsBetween (neg_ℤ most_delay) most_delay delay

-- so is the sink of the data
pub record IsSoundTest (d : Parts) (c : Check) : Type 0 where
  pub sink : HasSink d c.net.0 c.sink
  pub reference : IsSoundReference d c.reference
