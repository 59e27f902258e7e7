-- Transitions that are under way together at two coupled nets have an entry that tells of it.
use Rattle.std.proofs.Common.{◌≡◌, ◌≢◌, ℕ, zero, suc, ◌+◌, inl, inr, refl, sym, subst, Bool, true, false, List, [], ◌∷◌, ◌++◌, arith}
use Rattle.std.specs.Prelude.{IsTrue, ◌&&◌, not, Some}
use Rattle.std.specs.List.{Any, Contains, slice_get}
use Rattle.std.proofs.lemmas.Option.{none-some, same_Some}
use Rattle.xt_model.specs.declared.edge.Edge.{Edge}
use Rattle.xt_model.specs.declared.edge.Edge.TheVariants.{Rise, Fall}
use Rattle.xt_model.specs.declared.quad.Pair.{Pair}
use Rattle.xt_model.specs.declared.net.NetId.{NetId}
use Rattle.xt_model.specs.declared.net.Coupling.{Coupling}
use Rattle.xt_model.specs.declared.net.Net.{Net}
use Rattle.xt_model.specs.Quads.{other_edge}
use Rattle.xt_model.specs.Parts.{Parts}
use Rattle.xt_model.specs.Sound.{IsSound}
use Rattle.xt_model.specs.Levels.{AreLevels}
use Rattle.xt_model.specs.Assign.{assigned}
use Rattle.xt_meaning.specs.Fixpoint.{IsGreatestFixpoint}
use Rattle.xt_meaning.specs.Envelope.{IsEnvelope}
use Rattle.xt_meaning.proofs.Growth.{wired}
use Rattle.run_laws.specs.Transitions.{Transition, MeetsOneAt, AreConsistent}
use Rattle.run_laws.proofs.Hulls.{within_greatest}
use Rattle.aggressor_report.specs.declared.mark.Mark.{Mark}
use Rattle.aggressor_report.specs.declared.mark.Mark.TheVariants.{No, Possible, Sure}
use Rattle.aggressor_report.specs.declared.guilt.Guilt.{Guilt}
use Rattle.aggressor_report.specs.Guilt.{overlap_in, mark_by, entry_of, edge_entries, net_entries, is_no, is_guilty, guilty}
use Rattle.slack_laws.specs.Meetings.{IsMarked}
use Rattle.slack_laws.proofs.Lists.{Has, has_left, has_right, has_filtered, any_from_has}
use Rattle.slack_laws.proofs.Wires.{meets_overlap}

-- ---- marks
marked : (least greatest : Bool) → IsTrue greatest → mark_by least greatest ≢ No
marked true greatest h e = absurd (cc)
marked false true h e = absurd (cc)
marked false false h e = absurd (cc)

is_no_itself : (m : Mark) → IsTrue (is_no m) → m ≡ No
is_no_itself No h = refl
is_no_itself Possible h = absurd (cc)
is_no_itself Sure h = absurd (cc)

guilty_by : (f s : Bool) → (IsTrue f → IsTrue s → ⊥) → IsTrue (not (f && s))
guilty_by true true h = absurd (h refl refl)
guilty_by true false h = refl
guilty_by false s h = refl

two_edges : (e f : Edge) → (P : Type 0) → (f ≡ e → P) → (f ≡ other_edge e → P) → P
two_edges Rise Rise P same other = same refl
two_edges Rise Fall P same other = other refl
two_edges Fall Rise P same other = other refl
two_edges Fall Fall P same other = same refl

-- an entry that tells of an edge is not left out
marked_guilty : (net : ℕ) (edge : Edge) (number : ℕ) (f : Edge) (g : Guilt) → IsMarked net edge number f g → IsTrue (is_guilty g)
marked_guilty net edge number f g m =
    guilty_by (is_no g.fast) (is_no g.slow)
    (λ fast slow. two_edges edge f ⊥ (λ same. m.fast same (is_no_itself g.fast fast)) (λ other. m.slow other (is_no_itself g.slow slow)))

-- ---- entries
module _ (d : Parts) (low high : List Pair) (P : Guilt → Type 0) where
  has_entry : (victim : NetId) (e : Edge) (from : ℕ) (ks : List Coupling) (j number : ℕ) (k : Coupling) → slice_get ks j ≡ Some k → number ≡ from + j → P (entry_of d low high victim e number k)
      → Has P (edge_entries d low high victim e from ks)
  has_entry victim e from [] j number k there place h = absurd (none-some k there)
  has_entry victim e from (i ∷ more) zero number k there place h =
      let here : number ≡ from = omega (arith, place) in
      let Q : Coupling → Type 0 = λ c. P (entry_of d low high victim e from c) in
      let R : ℕ → Type 0 = λ n. P (entry_of d low high victim e n k) in
      inl (subst Q (sym (same_Some i k there)) (subst R here h))
  has_entry victim e from (i ∷ more) (suc j) number k there place h = inr (has_entry victim e (from + 1) more j number k there (omega (arith, place)) h)

  has_edge : (n : ℕ) (net : Net) (more : List Net) (e : Edge) → Has P (edge_entries d low high (record { 0 = n }) e 0 net.couplings) → Has P (net_entries d low high n (net ∷ more))
  has_edge n net more Rise h =
      let rise = edge_entries d low high (record { 0 = n }) Rise 0 net.couplings in
      let fall = edge_entries d low high (record { 0 = n }) Fall 0 net.couplings in
      has_left P rise (fall ++ net_entries d low high (n + 1) more) h
  has_edge n net more Fall h =
      let rise = edge_entries d low high (record { 0 = n }) Rise 0 net.couplings in
      let fall = edge_entries d low high (record { 0 = n }) Fall 0 net.couplings in
      has_right P rise (fall ++ net_entries d low high (n + 1) more) (has_left P fall (net_entries d low high (n + 1) more) h)

  has_net : (from : ℕ) (nets : List Net) (j n : ℕ) (net : Net) (e : Edge) → slice_get nets j ≡ Some net → n ≡ from + j → Has P (edge_entries d low high (record { 0 = n }) e 0 net.couplings)
      → Has P (net_entries d low high from nets)
  has_net from [] j n net e there place h = absurd (none-some net there)
  has_net from (m ∷ more) zero n net e there place h =
      let here : n ≡ from = omega (arith, place) in
      let Q : Net → Type 0 = λ o. Has P (edge_entries d low high (record { 0 = from }) e 0 o.couplings) in
      let R : ℕ → Type 0 = λ i. Has P (edge_entries d low high (record { 0 = i }) e 0 net.couplings) in
      has_edge from m more e (subst Q (sym (same_Some m net there)) (subst R here h))
  has_net from (m ∷ more) (suc j) n net e there place h =
      let rise = edge_entries d low high (record { 0 = from }) Rise 0 m.couplings in
      let fall = edge_entries d low high (record { 0 = from }) Fall 0 m.couplings in
      let rest = net_entries d low high (from + 1) more in
      has_right P rise (fall ++ rest) (has_right P fall rest (has_net (from + 1) more j n net e there (omega (arith, place)) h))

-- ---- the law
pub meetings_marked : (d : Parts) (levels : List ℕ) (top low high : List Pair) (xs : List Transition) (x : Transition) (net : Net) (number : ℕ) (k : Coupling) (f : Edge) → IsSound d
    → AreLevels d.nets levels → IsEnvelope d top → IsGreatestFixpoint d high → AreConsistent d xs → Contains xs x → slice_get d.nets x.net ≡ Some net → slice_get net.couplings number ≡ Some k
    → MeetsOneAt d xs x k.to.0 f → Any (IsMarked x.net x.edge number f) (guilty d low high)
meetings_marked d levels top low high xs x net number k f s l t g why listed net_there there meets =
    let P = IsMarked x.net x.edge number f in
    let n = x.net in
    let e = x.edge in
    let victim : NetId = record { 0 = n } in
    let together = meets_overlap d (assigned high) xs x k.to.0 f (wired d s) (within_greatest d levels top high xs s l t g why) listed meets in
    let Q : Edge → Type 0 = λ i. IsTrue (overlap_in d high n e k.to.0 i) in
    let entry : P (entry_of d low high victim e number k) = record {
      of_net = refl;
      of_edge = refl;
      of_coupling = refl;
      fast = λ same. marked (overlap_in d low n e k.to.0 e) (overlap_in d high n e k.to.0 e) (subst Q same together);
      slow = λ other. marked (overlap_in d low n e k.to.0 (other_edge e)) (overlap_in d high n e k.to.0 (other_edge e)) (subst Q other together);
    } in
    any_from_has P (guilty d low high)
    (has_filtered P is_guilty (net_entries d low high 0 d.nets) (marked_guilty n e number f)
    (has_net d low high P 0 d.nets n n net e net_there (omega arith) (has_entry d low high P victim e 0 net.couplings number number k there (omega arith) entry)))
