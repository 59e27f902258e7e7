-- The windows at sinks that are kept.
use Rattle.std.specs.Prelude.{◌≡◌, ◌==◌, ◌&&◌, Bool, IfSome, None}
use Rattle.std.specs.HashMap.{get}
use Rattle.xt_model.specs.declared.edge.Edge.TheVariants.{Rise, Fall}
use Rattle.xt_model.specs.Parts.{Parts}
use Rattle.xt_model.specs.Assign.{Assignment}
use Rattle.xt_model.specs.Sound.{IsConstraint}
use Rattle.sink_windows.specs.Sinks.{sink_window}
use Rattle.slack_report.specs.declared.sinks.Place.{Place}
use Rattle.slack_report.specs.declared.sinks.EdgeWindows.{EdgeWindows}
use Rattle.slack_report.specs.declared.sinks.SinkTable.{SinkTable}

-- the same sink of the same net
abbrev pub same_place : Place → Place → Bool
same_place a b = a.net.0 == b.net.0 && a.sink == b.sink

-- in these windows the edges of a net have these at a sink
pub record IsAtSink (d : Parts) (W : Assignment) (p : Place) (w : EdgeWindows) : Type 0 where
  pub rise : w.rise ≡ sink_window d W p.net.0 Rise p.sink
  pub fall : w.fall ≡ sink_window d W p.net.0 Fall p.sink
  pub rise_limits : IfSome w.rise (λ s. IsConstraint s.window)
  pub fall_limits : IfSome w.fall (λ s. IsConstraint s.window)

-- what is kept of a sink is what the edges have there
abbrev pub KeepsOnly : Parts → Assignment → SinkTable → Type 0
KeepsOnly d W t = (p : Place) → IfSome (get same_place t.kept p) (IsAtSink d W p)

abbrev pub KeepsNothing : SinkTable → Type 0
KeepsNothing t = (p : Place) → get same_place t.kept p ≡ None
