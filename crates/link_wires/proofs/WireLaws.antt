-- What holds of nets and their wires one by one.
use Rattle.std.proofs.Common.{◌≡◌, ℕ, zero, suc, ◌+◌, ◌<◌, ◌≤◌, List, [], ◌∷◌, ◌++◌, length, take, get_or, refl, sym, ap, ◌∙◌, arith, subst, length-append}
use Rattle.std.specs.Prelude.{Some, None, is_some, unwrap_or}
use Rattle.std.specs.List.{All, slice_get, enumerate_from}
use Rattle.std.proofs.lemmas.Bool.{false≢true}
use Rattle.std.proofs.lemmas.List.FromFn.{length-enumerate_from, get_or-enumerate_from}
use Rattle.std.proofs.lemmas.List.Elements.{All-cons, All-nil}
use Rattle.std.specs.Option.{IsSomeAnd}
use Rattle.std.proofs.lemmas.List.{take_all}
use Rattle.std.proofs.lemmas.Option.{slice_get-get_or}
use Rattle.verilog_net.specs.declared.netlist.Netlist.{Netlist}
use Rattle.spef_read.specs.declared.parasitics.Parasitics.{Parasitics}
use Rattle.link_rules.specs.declared.circuit.NetPins.{NetPins}
use Rattle.link_rules.specs.declared.fault.LinkFault.{LinkFault}
use Rattle.link_rules.specs.declared.fault.LinkFault.TheVariants as faults
use Rattle.link_rules.specs.Refusals.{IsAcceptedWire, IsWireFault, IsFirstWireFault}
use Rattle.link_wires.specs.declared.wire.NetWire.{NetWire}
use Rattle.link_wires.specs.Wires.{IsWireOf, AreWires, IsNetFault, IsFirstFault}
use Rattle.link_wires.proofs.ListLaws.{take_push}

pub numbered_push : {X : Type 0} (xs : List X) (i : ℕ) (d : X) → i < length xs
    → take (i + 1) (enumerate_from 0 xs) ≡ take i (enumerate_from 0 xs) ++ (i, get_or xs i d) ∷ []
numbered_push xs i d lt =
    let len = length-enumerate_from 0 xs in
    let one = take_push (enumerate_from 0 xs) i (0, d) (omega (arith, lt, len)) in
    let at : get_or (enumerate_from 0 xs) i (0, d) ≡ (0 + i, get_or xs i d) = get_or-enumerate_from 0 xs i (0, d) lt in
    let number : 0 + i ≡ i = omega arith in
    one ∙ ap (λ x. take i (enumerate_from 0 xs) ++ x ∷ []) (at ∙ ap (λ m. (m, get_or xs i d)) number)

none_some : {A : Type 0} (x : A) → None ≡ Some x → ⊥
none_some x e = false≢true (ap is_some e)

some_is : {A : Type 0} (a b : A) → Some a ≡ Some b → a ≡ b
some_is a b e = ap (λ o. unwrap_or o a) e

-- two lists in step, of which the items at each place go together
module _ {N W : Type 0} (P : N → W → Type 0) where
  abbrev pub AreEach : List N → List W → Type 0
  AreEach ns ws = (i : ℕ) (n : N) (w : W) → slice_get ns i ≡ Some n → slice_get ws i ≡ Some w → P n w

  pub each_push : (ns : List N) (ws : List W) (n : N) (w : W) → length ws ≡ length ns → AreEach ns ws → P n w
      → AreEach (ns ++ n ∷ []) (ws ++ w ∷ [])
  each_push [] [] n w len all here zero m v a b = same_both n m w v a b here
    where
      same_both : (n m : N) (w v : W) → Some n ≡ Some m → Some w ≡ Some v → P n w → P m v
      same_both n m w v a b here = subst (λ x. P x v) (some_is n m a) (subst (λ y. P n y) (some_is w v b) here)
  each_push [] [] n w len all here (suc i) m v a b = absurd (none_some m a)
  each_push [] (x ∷ ws) n w len all here i m v a b = absurd (omega (arith, len))
  each_push (y ∷ ns) [] n w len all here i m v a b = absurd (omega (arith, len))
  each_push (y ∷ ns) (x ∷ ws) n w len all here zero m v a b = all 0 m v a b
  each_push (y ∷ ns) (x ∷ ws) n w len all here (suc i) m v a b =
      each_push ns ws n w (omega (arith, len)) (λ j p q c d. all (suc j) p q c d) here i m v a b

  -- what each item has, from what goes with it
  pub all_each : (Q : N → Type 0) → ((n : N) (w : W) → P n w → Q n) → (ns : List N) (ws : List W) → length ws ≡ length ns → AreEach ns ws → All Q ns
  all_each Q from [] ws len all = All-nil Q
  all_each Q from (n ∷ ns) [] len all = absurd (omega (arith, len))
  all_each Q from (n ∷ ns) (w ∷ ws) len all =
      All-cons Q n ns (from n w (all 0 n w refl refl)) (all_each Q from ns ws (omega (arith, len)) (λ j p q c d. all (suc j) p q c d))

module _ (n : Netlist) (p : Parasitics) (nets : List NetPins) (i : ℕ) (x : NetPins) (ws : List NetWire) (lt : i < length nets) (at : x ≡ get_or nets i x)
    (before : AreWires n p (take i (enumerate_from 0 nets)) ws) where
  -- one more net, whose wire is accepted
  pub wires_push : (w : NetWire) → IsWireOf n p (i, x) w → AreWires n p (take (i + 1) (enumerate_from 0 nets)) (ws ++ w ∷ [])
  wires_push w here =
      let more : take (i + 1) (enumerate_from 0 nets) ≡ take i (enumerate_from 0 nets) ++ (i, x) ∷ [] =
      numbered_push nets i x lt ∙ ap (λ y. take i (enumerate_from 0 nets) ++ (i, y) ∷ []) (sym at) in
      let count = before.count in
      let left = length-append ws (w ∷ []) in
      let right = length-append (take i (enumerate_from 0 nets)) ((i, x) ∷ []) in
      let whole : AreWires n p (take i (enumerate_from 0 nets) ++ (i, x) ∷ []) (ws ++ w ∷ []) = record {
        count = omega (arith, count, left, right);
        each = each_push (IsWireOf n p) (take i (enumerate_from 0 nets)) ws (i, x) w before.count before.each here;
      } in
      subst (λ xs. AreWires n p xs (ws ++ w ∷ [])) (sym more) whole

  first : (fault : LinkFault) → IsWireFault n p (i, x) fault → IsFirstWireFault n p (enumerate_from 0 nets) fault
  first fault h =
      let len = length-enumerate_from 0 nets in
      let number : 0 + i ≡ i = omega arith in
      let found : slice_get (enumerate_from 0 nets) i ≡ Some (i, x) =
      slice_get-get_or (enumerate_from 0 nets) i (0, x) (omega (arith, lt, len))
      ∙ ap Some (get_or-enumerate_from 0 nets i (0, x) lt ∙ (ap (λ m. (m, get_or nets i x)) number ∙ ap (λ y. (i, y)) (sym at))) in
      record {
        place = i;
        at = subst (λ o. IsSomeAnd o (λ m. IsWireFault n p m fault)) (sym found) h;
        before = all_each (IsWireOf n p) (IsAcceptedWire n p) (λ m w wire. wire.accepted) (take i (enumerate_from 0 nets)) ws before.count before.each;
      }

  -- the first net with a fault
  pub first_fault : (fault : LinkFault) → IsNetFault n p (i, x) fault → IsFirstFault n p (enumerate_from 0 nets) fault
  first_fault faults.NoMemory h = tt
  first_fault (faults.Refused r) h = first (faults.Refused r) h
  first_fault (faults.Limit what name value) h = first (faults.Limit what name value) h

pub wires_whole : (n : Netlist) (p : Parasitics) (nets : List NetPins) (i : ℕ) (ws : List NetWire) → length nets ≤ i → AreWires n p (take i (enumerate_from 0 nets)) ws
    → AreWires n p (enumerate_from 0 nets) ws
wires_whole n p nets i ws past all =
    let len = length-enumerate_from 0 nets in
    subst (λ xs. AreWires n p xs ws) (take_all i (enumerate_from 0 nets) (omega (arith, past, len))) all
