-- The slacks of a design are of its check points, and where one is not idle its data switches.
use Rattle.std.proofs.Common.{◌≡◌, ℕ, suc, ◌+◌, refl, sym, ap, subst, ◌∙◌, Bool, true, false, List, [], ◌∷◌, ◌++◌, map, ℤ, arith}
use Rattle.std.specs.Prelude.{Option, Some, None, if◌then◌else◌}
use Rattle.std.specs.Option.{option_map, option_and_then}
use Rattle.std.specs.List.{All, slice_get}
use Rattle.std.proofs.lemmas.List.{map-append}
use Rattle.std.proofs.lemmas.List.Elements.{All-append, All-nil, All-from_recursion}
use Rattle.xt_model.specs.declared.edge.Edge.{Edge}
use Rattle.xt_model.specs.declared.edge.Edge.TheVariants.{Rise, Fall}
use Rattle.xt_model.specs.declared.net.NetId.{NetId}
use Rattle.xt_model.specs.declared.check.CheckPoint.{CheckPoint}
use Rattle.xt_model.specs.declared.check.CheckPoint.TheVariants.{Flop, Port}
use Rattle.xt_model.specs.Quads.{is_live, IsLive}
use Rattle.xt_model.specs.Parts.{Parts}
use Rattle.xt_model.specs.Assign.{Assignment}
use Rattle.sink_windows.specs.Sinks.{wire_in, with_wire}
use Rattle.slack_report.specs.declared.check.Check.{Check}
use Rattle.slack_report.specs.declared.check.Reference.TheVariants.{Clock, Outside}
use Rattle.slack_report.specs.declared.slack.Slack.{Slack}
use Rattle.slack_report.specs.Points.{data_net, IsAtPoint}
use Rattle.slack_report.specs.Checks.{at_edge, check_at, listed, checks_from, checks_of}
use Rattle.slack_report.specs.Slacks.{slack_against, slack_in, slack_by, slack_of}

live_from : {A B : Type 0} (f : A → Option B) (x : A) (y : B) (b : Bool) → option_and_then f (if b then Some x else None) ≡ Some y → b ≡ true
live_from f x y true h = refl
live_from f x y false h = absurd cc

module _ (d : Parts) (low high : Assignment) where
  abbrev Placed : Slack → Type 0
  Placed s = IsAtPoint d high s

  switches : (c : Check) (x : ℤ) → slack_in d high c ≡ Some x → IsLive (high c.net.0 c.edge)
  switches c x h =
      live_from (λ datum. slack_against d high c.hold datum.window c.reference) (with_wire (high c.net.0 c.edge) (wire_in d high c.net.0 c.edge c.sink)) x (is_live (high c.net.0 c.edge)) h

  placed_by : (c : Check) (p : CheckPoint) → slice_get d.checks c.point ≡ Some p → c.net ≡ data_net p → (g l : Option ℤ) → slack_in d high c ≡ g → Placed (slack_by c g l)
  placed_by c p there net None l h = record { point = p; there = there; switches = λ f. absurd cc }
  placed_by c p there net (Some g) None h = record { point = p; there = there; switches = λ f. absurd cc }
  placed_by c p there net (Some g) (Some l) h = record {
    point = p;
    there = there;
    switches = λ f. subst (λ (n : NetId). IsLive (high n.0 c.edge)) net (switches c g h);
  }

  placed : (c : Check) (p : CheckPoint) → slice_get d.checks c.point ≡ Some p → c.net ≡ data_net p → Placed (slack_of d low high c)
  placed c p there net = placed_by c p there net (slack_in d high c) (slack_in d low c) refl

  abbrev edge_slacks : ℕ → CheckPoint → Edge → List Slack
  edge_slacks i p e = map (slack_of d low high) (listed (check_at i p e))

  of_flop : (i : ℕ) (p : CheckPoint) → slice_get d.checks i ≡ Some p → (hold : Bool) (e : Edge) (ds : ℕ) (clock : NetId) (cs : ℕ) (o : Option ℕ)
      → All Placed (map (slack_of d low high) (listed (option_map (λ table. record { point = i; hold = hold; net = data_net p; edge = e; sink = ds; reference = Clock clock cs table }) o)))
  of_flop i p there hold e ds clock cs None = All-nil Placed
  of_flop i p there hold e ds clock cs (Some table) =
      let c : Check = record { point = i; hold = hold; net = data_net p; edge = e; sink = ds; reference = Clock clock cs table } in
      All-from_recursion Placed (slack_of d low high c ∷ []) (placed c p there refl, tt)

  of_port : (i : ℕ) (p : CheckPoint) → slice_get d.checks i ≡ Some p → (hold : Bool) (e : Edge) (sink : ℕ) (o : Option ℤ)
      → All Placed (map (slack_of d low high) (listed (option_map (λ delay. record { point = i; hold = hold; net = data_net p; edge = e; sink = sink; reference = Outside delay }) o)))
  of_port i p there hold e sink None = All-nil Placed
  of_port i p there hold e sink (Some delay) =
      let c : Check = record { point = i; hold = hold; net = data_net p; edge = e; sink = sink; reference = Outside delay } in
      All-from_recursion Placed (slack_of d low high c ∷ []) (placed c p there refl, tt)

  of_edge : (i : ℕ) (p : CheckPoint) (e : Edge) → slice_get d.checks i ≡ Some p → All Placed (edge_slacks i p e)
  of_edge i (Flop name hold datum ds clock cs rise fall) e there = of_flop i (Flop name hold datum ds clock cs rise fall) there hold e ds clock cs (at_edge e rise fall)
  of_edge i (Port name hold net sink rise fall) e there = of_port i (Port name hold net sink rise fall) there hold e sink (at_edge e rise fall)

  of_points : (ps : List CheckPoint) (i : ℕ) → ((k : ℕ) (p : CheckPoint) → slice_get ps k ≡ Some p → slice_get d.checks (i + k) ≡ Some p) → All Placed (map (slack_of d low high) (checks_from i ps))
  of_points [] i there = All-nil Placed
  of_points (p ∷ ps) i there =
      let f = slack_of d low high in
      let rise = listed (check_at i p Rise) in
      let fall = listed (check_at i p Fall) in
      let more = checks_from (i + 1) ps in
      let here : slice_get d.checks i ≡ Some p = ap (λ n. slice_get d.checks n) (omega arith) ∙ there 0 p refl in
      let rest = of_points ps (i + 1) (λ k q h. ap (λ n. slice_get d.checks n) (omega arith) ∙ there (suc k) q h) in
      let split : map f ((rise ++ fall) ++ more) ≡ (map f rise ++ map f fall) ++ map f more = map-append f (rise ++ fall) more ∙ ap (λ t. t ++ map f more) (map-append f rise fall) in
      subst (All Placed) (sym split)
      (All-append Placed (map f rise ++ map f fall) (map f more) (All-append Placed (map f rise) (map f fall) (of_edge i p Rise here) (of_edge i p Fall here)) rest)

  -- all slacks of a design
  pub all_placed : All Placed (map (slack_of d low high) (checks_of d))
  all_placed = of_points d.checks 0 (λ k p h. let e : 0 + k ≡ k = omega arith in ap (λ n. slice_get d.checks n) e ∙ h)
