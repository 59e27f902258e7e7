-- Nets that are made one by one, and what they are together.
use Rattle.std.specs.Prelude.{◌≡◌, refl, ℕ, zero, suc, ◌+◌, ◌<◌, List, [], ◌∷◌, ◌++◌, length, map, take, drop, ℤ, pos, Some}
use Rattle.std.specs.List.{All, AllByRecursion, slice_get, enumerate_from}
use Rattle.std.proofs.Common.{arith, sym, ap, ◌∙◌, subst, length-append, get_or}
use Rattle.std.proofs.lemmas.List.{take_more, length-take-le}
use Rattle.std.proofs.lemmas.List.Elements.{recursion_from_All, All-more}
use Rattle.xt_model.specs.declared.net.Coupling.{Coupling}
use Rattle.xt_model.specs.declared.net.SinkPin.{SinkPin}
use Rattle.xt_model.specs.declared.net.Net.{Net}
use Rattle.verilog_net.specs.declared.netlist.Netlist.{Netlist}
use Rattle.spef_read.specs.declared.parasitics.Parasitics.{Parasitics}
use Rattle.elmore_tree.specs.declared.form.WireForm.{WireForm}
use Rattle.elmore_tree.specs.Forms.{IsFormOf, IsAcceptedTree}
use Rattle.elmore_tree.specs.Sums.{SinkSums, IsSinkSums}
use Rattle.elmore_tree.specs.Trees.{ground_sum}
use Rattle.link_rules.specs.declared.circuit.Sink.{Sink}
use Rattle.link_rules.specs.declared.circuit.NetPins.{NetPins}
use Rattle.link_rules.specs.Bare.{bare_net, filled_sinks, filled_nets}
use Rattle.link_rules.specs.Bare as bare
use Rattle.link_rules.specs.Ends.{sink_name}
use Rattle.link_rules.specs.Link.{AreForms}
use Rattle.link_wires.specs.declared.wire.NetWire.{NetWire}
use Rattle.link_wires.specs.Wires.{IsWireOf}
use Rattle.design_link.specs.Nets.{plain_sink, net_by, IsMade, Fits, AreMade}
use Rattle.design_link.proofs.SoundDesigns.{sinks_length}

-- ---- sinks
filled_push : (ss : List Sink) (fs : List SinkSums) (s : Sink) (f : SinkSums) → length fs ≡ length ss
    → filled_sinks (map plain_sink (ss ++ s ∷ [])) (fs ++ f ∷ [])
    ≡ filled_sinks (map plain_sink ss) fs ++ record { name = (plain_sink s).name; base = f.base; coefs = f.coefs } ∷ []
filled_push [] [] s f e = refl
filled_push [] (g ∷ fs) s f e = absurd (omega (arith, e))
filled_push (t ∷ ss) [] s f e = absurd (omega (arith, e))
filled_push (t ∷ ss) (g ∷ fs) s f e =
    ap (λ r. record { name = (plain_sink t).name; base = g.base; coefs = g.coefs } ∷ r) (filled_push ss fs s f (omega (arith, e)))

pub filled_more : (ss : List Sink) (fs : List SinkSums) (i : ℕ) (d : Sink) (e : SinkSums) → length fs ≡ length ss → i < length ss
    → filled_sinks (map plain_sink (take (i + 1) ss)) (take (i + 1) fs)
    ≡ filled_sinks (map plain_sink (take i ss)) (take i fs)
    ++ record { name = (plain_sink (get_or ss i d)).name; base = (get_or fs i e).base; coefs = (get_or fs i e).coefs } ∷ []
filled_more ss fs i d e same lt =
    let a = length-take-le i ss (omega (arith, lt)) in
    let b = length-take-le i fs (omega (arith, lt, same)) in
    rw (take_more ss i d lt, take_more fs i e (omega (arith, lt, same))) (filled_push (take i ss) (take i fs) (get_or ss i d) (get_or fs i e) (omega (arith, a, b)))

-- ---- nets
made_at : (ps : List NetPins) (ws : List NetWire) (ns : List Net) (p : NetPins) (w : NetWire) (n : Net) → length ws ≡ length ps → length ns ≡ length ps
    → ((i : ℕ) (q : NetPins) (v : NetWire) (m : Net) → slice_get ps i ≡ Some q → slice_get ws i ≡ Some v → slice_get ns i ≡ Some m → IsMade q v m)
    → IsMade p w n → (i : ℕ) (q : NetPins) (v : NetWire) (m : Net) → slice_get (ps ++ p ∷ []) i ≡ Some q → slice_get (ws ++ w ∷ []) i ≡ Some v
    → slice_get (ns ++ n ∷ []) i ≡ Some m → IsMade q v m
made_at [] [] [] p w n a b all one zero q v m x y z =
    let e : p ≡ q = cc in
    let f : w ≡ v = cc in
    let g : n ≡ m = cc in
    subst (λ k. IsMade k v m) e (subst (λ k. IsMade p k m) f (subst (λ k. IsMade p w k) g one))
made_at [] [] [] p w n a b all one (suc i) q v m x y z = absurd (cc)
made_at [] (v' ∷ ws) ns p w n a b all one i q v m x y z = absurd (omega (arith, a))
made_at [] [] (m' ∷ ns) p w n a b all one i q v m x y z = absurd (omega (arith, b))
made_at (p' ∷ ps) [] ns p w n a b all one i q v m x y z = absurd (omega (arith, a))
made_at (p' ∷ ps) (w' ∷ ws) [] p w n a b all one i q v m x y z = absurd (omega (arith, b))
made_at (p' ∷ ps) (w' ∷ ws) (n' ∷ ns) p w n a b all one zero q v m x y z = all 0 q v m x y z
made_at (p' ∷ ps) (w' ∷ ws) (n' ∷ ns) p w n a b all one (suc i) q v m x y z =
    made_at ps ws ns p w n (omega (arith, a)) (omega (arith, b)) (λ j. all (suc j)) one i q v m x y z

made_push : (ps : List NetPins) (ws : List NetWire) (ns : List Net) (p : NetPins) (w : NetWire) (n : Net) → length ws ≡ length ps
    → AreMade ps ws ns → IsMade p w n → AreMade (ps ++ p ∷ []) (ws ++ w ∷ []) (ns ++ n ∷ [])
made_push ps ws ns p w n a h one =
    let c = h.count in
    let x = length-append ns (n ∷ []) in
    let y = length-append ps (p ∷ []) in
    record { count = omega (arith, c, x, y); each = made_at ps ws ns p w n a h.count h.each one }

pub made_more : (ps : List NetPins) (ws : List NetWire) (ns : List Net) (i : ℕ) (d : NetPins) (e : NetWire) (n : Net) → length ws ≡ length ps → i < length ps
    → AreMade (take i ps) (take i ws) ns → IsMade (get_or ps i d) (get_or ws i e) n → AreMade (take (i + 1) ps) (take (i + 1) ws) (ns ++ n ∷ [])
made_more ps ws ns i d e n same lt h one =
    let a = length-take-le i ps (omega (arith, lt)) in
    let b = length-take-le i ws (omega (arith, lt, same)) in
    rw (take_more ps i d lt, take_more ws i e (omega (arith, lt, same))) (made_push (take i ps) (take i ws) ns (get_or ps i d) (get_or ws i e) n (omega (arith, a, b)) h one)

-- ---- what is made is the design that is defined
module _ (netlist : Netlist) (parasitics : Parasitics) where
  -- the wires of nets fit them
  pub wires_fit : (ps : List NetPins) (ws : List NetWire) (k : ℕ) → length ws ≡ length ps
      → ((i : ℕ) (n : bare.Numbered) (w : NetWire) → slice_get (enumerate_from k ps) i ≡ Some n → slice_get ws i ≡ Some w → IsWireOf netlist parasitics n w)
      → (i : ℕ) (p : NetPins) (w : NetWire) → slice_get ps i ≡ Some p → slice_get ws i ≡ Some w → Fits p w
  wires_fit [] ws k a all i p w x y = absurd (cc)
  wires_fit (q ∷ ps) [] k a all i p w x y = absurd (cc)
  wires_fit (q ∷ ps) (v ∷ ws) k a all zero p w x y =
      let same : q ≡ p = cc in
      let h = all 0 (k, q) w refl y in
      record {
        accepted = subst IsAcceptedTree (sym h.tree) h.accepted.wire;
        sinks = ap (λ t. length t.sinks) h.tree ∙ (sinks_length netlist parasitics (k, q) ∙ ap (λ r. length r.sinks) same);
      }
  wires_fit (q ∷ ps) (v ∷ ws) k a all (suc i) p w x y = wires_fit ps ws (k + 1) (omega (arith, a)) (λ j. all (suc j)) i p w x y

  -- forms of wires, with which the nets are the bare ones
  pub record AreFormed (ns : List bare.Numbered) (nets : List Net) : Type 0 where
    pub forms : List WireForm
    pub are : AreForms netlist parasitics ns forms
    pub sums : AllByRecursion (λ f. AllByRecursion IsSinkSums f.sinks) forms
    pub is : nets ≡ filled_nets (map (bare_net netlist parasitics) ns) forms

  one_is : (k : ℕ) (p : NetPins) (w : NetWire) (n : Net) (f : WireForm) → IsWireOf netlist parasitics (k, p) w → IsFormOf (bare.tree netlist parasitics (k, p)) f
      → n ≡ net_by p w.couplings f
      → n ≡ record (bare_net netlist parasitics (k, p)) { sinks = filled_sinks (bare_net netlist parasitics (k, p)).sinks f.sinks }
  unfolding bare_net
  one_is k p w n f h form is =
      let by = form.sums form.paths.0 form.paths.1 in
      let made : ℤ → List Coupling → Net = λ load couplings. record {
        name = p.name;
        input = p.input;
        load = load;
        given = p.given;
        couplings = couplings;
        sinks = filled_sinks (map plain_sink p.sinks) f.sinks;
        arcs = p.arcs;
      } in
      is ∙ (ap (λ l. made l w.couplings) by.load ∙ ap (made (pos (ground_sum (bare.tree netlist parasitics (k, p)).ground))) h.couplings)

  form_at : (n : bare.Numbered) (ns : List bare.Numbered) (f : WireForm) (fs : List WireForm) → IsFormOf (bare.tree netlist parasitics n) f
      → AreForms netlist parasitics ns fs → AreForms netlist parasitics (n ∷ ns) (f ∷ fs)
  form_at n ns f fs one rest = record { count = ap suc rest.count; each = λ i m g x y. at i m g x y }
    where
      at : (i : ℕ) (m : bare.Numbered) (g : WireForm) → slice_get (n ∷ ns) i ≡ Some m → slice_get (f ∷ fs) i ≡ Some g → IsFormOf (bare.tree netlist parasitics m) g
      at zero m g x y =
          let e : n ≡ m = cc in
          let h : f ≡ g = cc in
          subst (λ k. IsFormOf (bare.tree netlist parasitics k) g) e (subst (IsFormOf (bare.tree netlist parasitics n)) h one)
      at (suc i) m g x y = rest.each i m g x y

  pub nets_formed : (ps : List NetPins) (ws : List NetWire) (ns : List Net) (k : ℕ) → length ws ≡ length ps → length ns ≡ length ps
      → ((i : ℕ) (n : bare.Numbered) (w : NetWire) → slice_get (enumerate_from k ps) i ≡ Some n → slice_get ws i ≡ Some w → IsWireOf netlist parasitics n w)
      → ((i : ℕ) (p : NetPins) (w : NetWire) (n : Net) → slice_get ps i ≡ Some p → slice_get ws i ≡ Some w → slice_get ns i ≡ Some n → IsMade p w n)
      → AreFormed (enumerate_from k ps) ns
  nets_formed [] ws [] k a b all made = record { forms = []; are = record { count = refl; each = λ i m g x y. absurd (cc) }; sums = tt; is = refl }
  nets_formed [] ws (n ∷ ns) k a b all made = absurd (omega (arith, b))
  nets_formed (p ∷ ps) [] ns k a b all made = absurd (omega (arith, a))
  nets_formed (p ∷ ps) (w ∷ ws) [] k a b all made = absurd (omega (arith, b))
  nets_formed (p ∷ ps) (w ∷ ws) (n ∷ ns) k a b all made =
      let h = all 0 (k, p) w refl refl in
      let m = made 0 p w n refl refl refl in
      let form : IsFormOf (bare.tree netlist parasitics (k, p)) m.form = subst (λ t. IsFormOf t m.form) h.tree m.formed.form in
      let rest = nets_formed ps ws ns (k + 1) (omega (arith, a)) (omega (arith, b)) (λ j. all (suc j)) (λ j. made (suc j)) in
      let fill : Net = record (bare_net netlist parasitics (k, p)) { sinks = filled_sinks (bare_net netlist parasitics (k, p)).sinks m.form.sinks } in
      let first : n ≡ fill = one_is k p w n m.form h form m.is in
      record {
        forms = m.form ∷ rest.forms;
        are = form_at (k, p) (enumerate_from (k + 1) ps) m.form rest.forms form rest.are;
        sums = (recursion_from_All IsSinkSums m.form.sinks m.formed.sums, rest.sums);
        is = ap (λ r. r ∷ ns) first ∙ ap (λ r. fill ∷ r) rest.is;
      }

-- ---- turns of loops
pub sinks_turn : (ss : List Sink) (fs : List SinkSums) (i : ℕ) (s : Sink) (f : SinkSums) (made new : List SinkPin) (v : SinkPin) → length fs ≡ length ss → i < length ss
    → s ≡ get_or ss i s → f ≡ get_or fs i f → made ≡ filled_sinks (map plain_sink (take i ss)) (take i fs) → new ≡ made ++ v ∷ []
    → v ≡ record { name = sink_name s.end; base = f.base; coefs = f.coefs } → new ≡ filled_sinks (map plain_sink (take (i + 1) ss)) (take (i + 1) fs)
sinks_turn ss fs i s f made new v same lt at_s at_f so_far next is =
    let put : Sink → SinkSums → SinkPin = λ t g. record { name = sink_name t.end; base = g.base; coefs = g.coefs } in
    let v_is : v ≡ put (get_or ss i s) (get_or fs i f) = is ∙ (ap (λ t. put t f) at_s ∙ ap (put (get_or ss i s)) at_f) in
    next ∙ (ap (λ m. m ++ v ∷ []) so_far ∙ (ap (λ x. filled_sinks (map plain_sink (take i ss)) (take i fs) ++ x ∷ []) v_is ∙ sym (filled_more ss fs i s f same lt)))

pub sums_turn : (fs : List SinkSums) (i : ℕ) (f : SinkSums) → i < length fs → f ≡ get_or fs i f → All IsSinkSums (take i fs) → IsSinkSums f
    → All IsSinkSums (take (i + 1) fs)
sums_turn fs i f lt at all one = All-more IsSinkSums fs i f lt all (subst IsSinkSums at one)

pub nets_turn : (ps : List NetPins) (ws : List NetWire) (ns new : List Net) (i : ℕ) (p : NetPins) (w : NetWire) (n : Net) → length ws ≡ length ps → i < length ps
    → p ≡ get_or ps i p → w ≡ get_or ws i w → AreMade (take i ps) (take i ws) ns → IsMade p w n → new ≡ ns ++ n ∷ []
    → AreMade (take (i + 1) ps) (take (i + 1) ws) new
nets_turn ps ws ns new i p w n same lt at_p at_w h one next =
    subst (AreMade (take (i + 1) ps) (take (i + 1) ws)) (sym next)
    (made_more ps ws ns i p w n same lt h (subst (λ k. IsMade (get_or ps i p) k n) at_w (subst (λ k. IsMade k w n) at_p one)))

-- ---- items that are taken from the front
-- an item of a list by its place, and what is behind it
pub record IsFront {X : Type 0} (xs : List X) (k : ℕ) (x : X) (rest : List X) : Type 0 where
  pub within : k < length xs
  pub at : slice_get xs k ≡ Some x
  pub is : x ≡ get_or xs k x
  pub behind : rest ≡ drop (k + 1) xs

pub front : {X : Type 0} (xs : List X) (k : ℕ) (x : X) (rest : List X) → x ∷ rest ≡ drop k xs → IsFront xs k x rest
front [] zero x rest e = absurd (cc)
front [] (suc k) x rest e = absurd (cc)
front (y ∷ ys) zero x rest e =
    let a : x ≡ y = cc in
    let b : rest ≡ ys = cc in
    record { within = omega arith; at = ap Some (sym a); is = a; behind = b }
front (y ∷ ys) (suc k) x rest e =
    let h = front ys k x rest e in
    let lt = h.within in
    let more : suc k + 1 ≡ suc (k + 1) = omega arith in
    record { within = omega (arith, lt); at = h.at; is = h.is; behind = h.behind ∙ ap (λ j. drop j (y ∷ ys)) (sym more) }

-- ---- nets whose pins and wires are used up one by one
-- the nets that are made, and what is left of the pins and the wires, with the numbers of these
pub record AreMadeBefore (ps : List NetPins) (ws : List NetWire) (ns : List Net) (left : List NetPins) (rest : List NetWire) (a b : ℕ) : Type 0 where
  pub made : AreMade (take (length ns) ps) (take (length ns) ws) ns
  pub left_is : left ≡ drop (length ns) ps
  pub rest_is : rest ≡ drop (length ns) ws
  pub left_count : a ≡ length left
  pub rest_count : b ≡ length rest

pub before_turn : (ps : List NetPins) (ws : List NetWire) (ns new : List Net) (left more : List NetPins) (rest others : List NetWire) (a b i j : ℕ) (p : NetPins) (w : NetWire) (n : Net)
    → length ws ≡ length ps → AreMadeBefore ps ws ns left rest a b → left ≡ p ∷ more → rest ≡ w ∷ others → i + 1 ≡ a → j + 1 ≡ b → IsMade p w n
    → new ≡ ns ++ n ∷ [] → AreMadeBefore ps ws new more others i j
before_turn ps ws ns new left more rest others a b i j p w n same h first second fewer less one next =
    let x = front ps (length ns) p more (sym first ∙ h.left_is) in
    let y = front ws (length ns) w others (sym second ∙ h.rest_is) in
    let size : length new ≡ length ns + 1 = ap length next ∙ length-append ns (n ∷ []) in
    let some = h.left_count ∙ ap length first in
    let others_count = h.rest_count ∙ ap length second in
    let made = nets_turn ps ws ns new (length ns) p w n same x.within x.is y.is h.made one next in
    record {
      made = subst (λ k. AreMade (take k ps) (take k ws) new) (sym size) made;
      left_is = x.behind ∙ ap (λ k. drop k ps) (sym size);
      rest_is = y.behind ∙ ap (λ k. drop k ws) (sym size);
      left_count = omega (arith, some, fewer);
      rest_count = omega (arith, others_count, less);
    }

-- ---- sinks and forms that are used up one by one
-- the sinks that are made, and what is left of the sinks of the net and of the forms, with the numbers of these
pub record AreFilledBefore (ss : List Sink) (fs : List SinkSums) (made : List SinkPin) (left : List SinkSums) (rest : List Sink) (a b : ℕ) : Type 0 where
  pub value : made ≡ filled_sinks (map plain_sink (take (length made) ss)) (take (length made) fs)
  pub sums : All IsSinkSums (take (length made) fs)
  pub left_is : left ≡ drop (length made) fs
  pub rest_is : rest ≡ drop (length made) ss
  pub left_count : a ≡ length left
  pub rest_count : b ≡ length rest

pub filled_turn : (ss : List Sink) (fs : List SinkSums) (made new : List SinkPin) (left more : List SinkSums) (rest others : List Sink) (a b i j : ℕ) (s : Sink) (f : SinkSums) (v : SinkPin)
    → length fs ≡ length ss → AreFilledBefore ss fs made left rest a b → left ≡ f ∷ more → rest ≡ s ∷ others → i + 1 ≡ a → j + 1 ≡ b
    → v ≡ record { name = sink_name s.end; base = f.base; coefs = f.coefs } → IsSinkSums f → new ≡ made ++ v ∷ [] → AreFilledBefore ss fs new more others i j
filled_turn ss fs made new left more rest others a b i j s f v same h first second fewer less is sound next =
    let x = front fs (length made) f more (sym first ∙ h.left_is) in
    let y = front ss (length made) s others (sym second ∙ h.rest_is) in
    let size : length new ≡ length made + 1 = ap length next ∙ length-append made (v ∷ []) in
    let some = h.left_count ∙ ap length first in
    let others_count = h.rest_count ∙ ap length second in
    let value = sinks_turn ss fs (length made) s f made new v same y.within y.is x.is h.value next is in
    let sums = sums_turn fs (length made) f x.within x.is h.sums sound in
    record {
      value = value ∙ ap (λ k. filled_sinks (map plain_sink (take k ss)) (take k fs)) (sym size);
      sums = subst (λ k. All IsSinkSums (take k fs)) (sym size) sums;
      left_is = x.behind ∙ ap (λ k. drop k fs) (sym size);
      rest_is = y.behind ∙ ap (λ k. drop k ss) (sym size);
      left_count = omega (arith, some, fewer);
      rest_count = omega (arith, others_count, less);
    }
