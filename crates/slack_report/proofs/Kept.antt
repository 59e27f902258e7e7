-- What is kept of sinks.
use Rattle.std.proofs.Common.{◌≡◌, refl, sym, subst, arith}
use Rattle.std.specs.Prelude.{Bool, true, false, cond, Option, Some, None, IfSome}
use Rattle.std.specs.HashMap.{HashMap, get, Updates}
use Rattle.std.proofs.lemmas.Bool.Decides.{nat_tests}
use Rattle.xt_model.specs.declared.edge.Edge.{Edge}
use Rattle.xt_model.specs.declared.edge.Edge.TheVariants.{Rise, Fall}
use Rattle.xt_model.specs.Parts.{Parts}
use Rattle.xt_model.specs.Assign.{Assignment}
use Rattle.xt_model.specs.Sound.{IsConstraint}
use Rattle.sink_windows.specs.declared.sink.SinkWindow.{SinkWindow}
use Rattle.slack_report.specs.declared.sinks.Place.{Place}
use Rattle.slack_report.specs.declared.sinks.EdgeWindows.{EdgeWindows}
use Rattle.slack_report.specs.Checks.{at_edge}
use Rattle.slack_report.specs.Kept.{same_place, IsAtSink}

-- sinks that pass the test are the same
same_places : (a b : Place) → same_place a b ≡ true → a ≡ b
same_places a b h =
    let n : a.net.0 ≡ b.net.0 = grind (arith, nat_tests) in
    let s : a.sink ≡ b.sink = grind (arith, nat_tests) in
    let k : ◌≡◌ {A = Place} (record { net = record { 0 = a.net.0 }; sink = a.sink }) (record { net = record { 0 = b.net.0 }; sink = b.sink }) = rw (n, s) refl in
    k

kept_by : (d : Parts) (W : Assignment) (b : Bool) (p q : Place) (w : EdgeWindows) (o : Option EdgeWindows) → same_place p q ≡ b → IsAtSink d W p w → IfSome o (IsAtSink d W q) → IfSome (cond b (Some w) o) (IsAtSink d W q)
kept_by d W true p q w o same there rest = subst (λ (x : Place). IsAtSink d W x w) (same_places p q same) there
kept_by d W false p q w o same there rest = rest

module _ (d : Parts) (W : Assignment) {S : Type 0} where
  -- each sink that is kept has its windows
  abbrev Keeps : HashMap Place EdgeWindows S → Type 0
  Keeps m = (q : Place) → IfSome (get same_place m q) (IsAtSink d W q)

  -- nothing is kept at first
  pub none_kept : (m : HashMap Place EdgeWindows S) → ((q : Place) → get same_place m q ≡ None) → Keeps m
  none_kept m none = λ q. let P : Option EdgeWindows → Type 0 = λ o. IfSome o (IsAtSink d W q) in subst P (sym (none q)) tt

  -- what is found of a sink
  pub found_there : (m : HashMap Place EdgeWindows S) (p : Place) (w : EdgeWindows) → Keeps m → Some w ≡ get same_place m p → IsAtSink d W p w
  found_there m p w only h = let P : Option EdgeWindows → Type 0 = λ o. IfSome o (IsAtSink d W p) in subst P (sym h) (only p)

  -- a sink more is kept
  pub kept_more : (m n : HashMap Place EdgeWindows S) (p : Place) (w : EdgeWindows) → Updates same_place m n p (Some w) → IsAtSink d W p w → Keeps m → Keeps n
  kept_more m n p w more there only = λ q.
      let P : Option EdgeWindows → Type 0 = λ o. IfSome o (IsAtSink d W q) in
      subst P (sym (more.0 q)) (kept_by d W (same_place p q) p q w (get same_place m q) refl there (only q))

-- what is known of each edge is so of the one that is asked for
pub edge_limits : (d : Parts) (W : Assignment) (p : Place) (w : EdgeWindows) (e : Edge) (o : Option SinkWindow) → IsAtSink d W p w → o ≡ at_edge e w.rise w.fall → IfSome o (λ s. IsConstraint s.window)
edge_limits d W p w Rise o there h = let P : Option SinkWindow → Type 0 = λ x. IfSome x (λ s. IsConstraint s.window) in subst P (sym h) there.rise_limits
edge_limits d W p w Fall o there h = let P : Option SinkWindow → Type 0 = λ x. IfSome x (λ s. IsConstraint s.window) in subst P (sym h) there.fall_limits
