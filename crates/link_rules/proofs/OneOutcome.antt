-- Linking has one outcome: one design or one fault, but for want of memory.
use Rattle.std.specs.Prelude.{◌≡◌, ◌≢◌, refl, ℕ, zero, suc, ◌<◌, List, [], ◌∷◌, length, map, take, ℤ, Option, Some, None, Result, Ok, Err, ◌⊎◌}
use Rattle.std.specs.List.{AllByRecursion, slice_get}
use Rattle.std.specs.Option.{IsSomeAnd}
use Rattle.std.proofs.Common.{arith, sym, ap, ◌∙◌, subst, inl, inr}
use Rattle.std.proofs.lemmas.Bool.{cases_lt}
use Rattle.std.proofs.lemmas.List.Elements.{recursion_from_All}
use Rattle.name_numbers.specs.Names.{Text}
use Rattle.xt_model.specs.declared.net.Net.{Net}
use Rattle.xt_model.specs.Parts.{Parts}
use Rattle.xt_model.specs.Levels.{AreLevelled}
use Rattle.xt_model.specs.Loops.{IsFirstLoop}
use Rattle.xt_model.proofs.LevelLaws.{no_loop}
use Rattle.xt_model.proofs.LoopLaws.{first_is_loop, first_is_one}
use Rattle.verilog_net.specs.declared.netlist.Netlist.{Netlist}
use Rattle.spef_read.specs.declared.parasitics.Parasitics.{Parasitics}
use Rattle.elmore_tree.specs.declared.form.WireForm.{WireForm}
use Rattle.elmore_tree.specs.Forms.{IsFormOf}
use Rattle.elmore_tree.specs.Paths.{IsMeshed, IsLeastUnreached}
use Rattle.elmore_tree.specs.Sums.{SinkSums}
use Rattle.elmore_tree.specs.Trees.{TreeParts}
use Rattle.link_rules.specs.declared.fault.LinkFault.{LinkFault}
use Rattle.link_rules.specs.declared.fault.LinkFault.TheVariants as faults
use Rattle.link_rules.specs.declared.fault.LinkRefusal.TheVariants as refusals
use Rattle.link_rules.specs.Bare.{Inputs, numbered, bare_parts, bare_nets, parts_with}
use Rattle.link_rules.specs.Bare as bare
use Rattle.link_rules.specs.Limits.{count_fault, size_fault}
use Rattle.link_rules.specs.Link.{name_at, IsLoopFault, AreForms, AtInstances, AtDrivers, AtWires, AtSizes, AtLevels, AtClock, IsRefused, IsLinked, Links}
use Rattle.link_rules.specs.Link as link
use Rattle.link_rules.specs.Refusals.{instance_fault, driver_fault, net_limit, IsAcceptedWire, IsWireFault, IsFirstWireFault, AreAcceptedWires, clock_fault}

-- ---- values that are there
one_value : {X : Type 0} (o : Option X) (x y : X) → o ≡ Some x → o ≡ Some y → x ≡ y
one_value o x y a b = cc

no_value : {X : Type 0} (o : Option X) (x : X) → o ≡ None → o ≡ Some x → ⊥
no_value o x a b = cc

there : {X : Type 0} (P : X → Type 0) (o : Option X) → IsSomeAnd o P → (x : X) × (o ≡ Some x) × P x
there P None h = absurd h
there P (Some x) h = (x, refl, h)

before_by : {X : Type 0} (P : X → Type 0) (xs : List X) (p q : ℕ) (x : X) → p < q → slice_get xs p ≡ Some x → AllByRecursion P (take q xs) → P x
before_by P [] p q x lt at a = absurd (cc)
before_by P (y ∷ xs) p zero x lt at a = absurd (omega (arith, lt))
before_by P (y ∷ xs) zero (suc q) x lt at a = let e : y ≡ x = cc in subst P e a.0
before_by P (y ∷ xs) (suc p) (suc q) x lt at a = before_by P xs p q x (omega (arith, lt)) at a.1

one_least : (t : TreeParts) (k l : ℕ) → IsLeastUnreached t k → IsLeastUnreached t l → k ≡ l
one_least t k l a b = elim (cases_lt k l) [
  | inl lt ↦ absurd (a.outside (b.least k lt a.needed))
  | inr ge ↦ elim (cases_lt l k) [
    | inl lt ↦ absurd (b.outside (a.least l lt b.needed))
    | inr le ↦ omega (arith, ge, le)
  ]
]

-- ---- forms
form_is_one : (t : TreeParts) (f g : WireForm) → IsFormOf t f → IsFormOf t g → f ≡ g
form_is_one t f g p q =
    let a = p.sums p.paths.0 p.paths.1 in
    let b = q.sums p.paths.0 p.paths.1 in
    let made : ℤ → List SinkSums → WireForm = λ load sinks. record { load = load; sinks = sinks } in
    ap (λ l. made l f.sinks) (a.load ∙ sym b.load) ∙ ap (made g.load) (a.sinks ∙ sym b.sinks)

module _ (netlist : Netlist) (parasitics : Parasitics) where
  abbrev AreEach : List bare.Numbered → List WireForm → Type 0
  AreEach ns fs = (i : ℕ) (n : bare.Numbered) (form : WireForm) → slice_get ns i ≡ Some n → slice_get fs i ≡ Some form
      → IsFormOf (bare.tree netlist parasitics n) form

  forms_by : (ns : List bare.Numbered) (fs gs : List WireForm) → length fs ≡ length ns → length gs ≡ length ns → AreEach ns fs → AreEach ns gs → fs ≡ gs
  forms_by [] [] [] a b p q = refl
  forms_by [] [] (g ∷ gs) a b p q = absurd (omega (arith, b))
  forms_by [] (f ∷ fs) gs a b p q = absurd (omega (arith, a))
  forms_by (n ∷ ns) [] gs a b p q = absurd (omega (arith, a))
  forms_by (n ∷ ns) (f ∷ fs) [] a b p q = absurd (omega (arith, b))
  forms_by (n ∷ ns) (f ∷ fs) (g ∷ gs) a b p q =
      let first : f ≡ g = form_is_one (bare.tree netlist parasitics n) f g (p 0 n f refl refl) (q 0 n g refl refl) in
      let rest : fs ≡ gs = forms_by ns fs gs (omega (arith, a)) (omega (arith, b)) (λ i. p (suc i)) (λ i. q (suc i)) in
      ap (λ h. h ∷ fs) first ∙ ap (λ hs. g ∷ hs) rest

  forms_are_one : (ns : List bare.Numbered) (fs gs : List WireForm) → AreForms netlist parasitics ns fs → AreForms netlist parasitics ns gs → fs ≡ gs
  forms_are_one ns fs gs a b = forms_by ns fs gs a.count b.count a.each b.each

  -- ---- the faults of a wire
  record IsMeshFault (n : bare.Numbered) (f : LinkFault) : Type 0 where
    limit : net_limit netlist parasitics n ≡ None
    mesh : IsMeshed (bare.tree netlist parasitics n)
    is : f ≡ faults.Refused (refusals.K5 n.1.name)

  record IsReachFault (n : bare.Numbered) (f : LinkFault) : Type 0 where
    limit : net_limit netlist parasitics n ≡ None
    tree : IsMeshed (bare.tree netlist parasitics n) → ⊥
    place : ℕ
    least : IsLeastUnreached (bare.tree netlist parasitics n) place
    node : Text
    at : slice_get (bare.nodes netlist parasitics n) place ≡ Some node
    is : f ≡ faults.Refused (refusals.K6 n.1.name node)

  abbrev IsOneOf : bare.Numbered → LinkFault → Type 0
  IsOneOf n f = (net_limit netlist parasitics n ≡ Some f) ⊎ (IsMeshFault n f ⊎ IsReachFault n f)

  which : (n : bare.Numbered) (f : LinkFault) → IsWireFault netlist parasitics n f → IsOneOf n f
  which n (faults.Refused (refusals.K1 a b)) h = absurd h
  which n (faults.Refused (refusals.K2 a b)) h = absurd h
  which n (faults.Refused (refusals.K3 a)) h = absurd h
  which n (faults.Refused (refusals.K4 a)) h = absurd h
  which n (faults.Refused (refusals.K5 a)) h =
      inr (inl (record { limit = h.0; mesh = h.2; is = ap (λ (m : Text). faults.Refused (refusals.K5 m)) h.1 }))
  which n (faults.Refused (refusals.K6 a b)) h =
      inr (inr (record {
        limit = h.0;
        tree = h.2;
        place = h.3.0;
        least = h.3.1;
        node = b;
        at = h.3.2;
        is = ap (λ (m : Text). faults.Refused (refusals.K6 m b)) h.1;
      }))
  which n (faults.Refused (refusals.K7 a)) h = absurd h
  which n (faults.Refused (refusals.K9 a b)) h = absurd h
  which n (faults.Limit what name value) h = inl h
  which n faults.NoMemory h = absurd h

  wire_is_one : (n : bare.Numbered) (f g : LinkFault) → IsOneOf n f → IsOneOf n g → f ≡ g
  wire_is_one n f g (inl a) (inl b) = one_value (net_limit netlist parasitics n) f g a b
  wire_is_one n f g (inl a) (inr (inl b)) = absurd (no_value (net_limit netlist parasitics n) f b.limit a)
  wire_is_one n f g (inl a) (inr (inr b)) = absurd (no_value (net_limit netlist parasitics n) f b.limit a)
  wire_is_one n f g (inr (inl a)) (inl b) = absurd (no_value (net_limit netlist parasitics n) g a.limit b)
  wire_is_one n f g (inr (inl a)) (inr (inl b)) = a.is ∙ sym b.is
  wire_is_one n f g (inr (inl a)) (inr (inr b)) = absurd (b.tree a.mesh)
  wire_is_one n f g (inr (inr a)) (inl b) = absurd (no_value (net_limit netlist parasitics n) g a.limit b)
  wire_is_one n f g (inr (inr a)) (inr (inl b)) = absurd (a.tree b.mesh)
  wire_is_one n f g (inr (inr a)) (inr (inr b)) =
      let place : a.place ≡ b.place = one_least (bare.tree netlist parasitics n) a.place b.place a.least b.least in
      let at : slice_get (bare.nodes netlist parasitics n) b.place ≡ Some a.node =
      ap (slice_get (bare.nodes netlist parasitics n)) (sym place) ∙ a.at in
      let node : a.node ≡ b.node = one_value (slice_get (bare.nodes netlist parasitics n) b.place) a.node b.node at b.at in
      a.is ∙ (ap (λ (m : Text). faults.Refused (refusals.K6 n.1.name m)) node ∙ sym b.is)

  -- a wire that is accepted has no fault
  no_fault_if_accepted : (n : bare.Numbered) (f : LinkFault) → IsAcceptedWire netlist parasitics n → IsOneOf n f → ⊥
  no_fault_if_accepted n f t (inl a) = no_value (net_limit netlist parasitics n) f t.limit a
  no_fault_if_accepted n f t (inr (inl a)) = t.wire.tree a.mesh
  no_fault_if_accepted n f t (inr (inr a)) = a.least.outside (t.wire.reached a.place a.least.needed)

  module _ (ns : List bare.Numbered) where
    abbrev IsAt : ℕ → LinkFault → Type 0
    IsAt i f = (n : bare.Numbered) × (slice_get ns i ≡ Some n) × IsWireFault netlist parasitics n f

    place_of : (f : LinkFault) (h : IsFirstWireFault netlist parasitics ns f) → IsAt h.place f
    place_of f h = there (λ n. IsWireFault netlist parasitics n f) (slice_get ns h.place) h.at

    not_before : (p q : ℕ) (f : LinkFault) → p < q → IsAt p f → AreAcceptedWires netlist parasitics (take q ns) → ⊥
    not_before p q f lt a all =
        no_fault_if_accepted a.0 f (before_by (IsAcceptedWire netlist parasitics) ns p q a.0 lt a.1 (recursion_from_All (IsAcceptedWire netlist parasitics) (take q ns) all))
        (which a.0 f a.2)

    same_place : (p q : ℕ) (f g : LinkFault) → p ≡ q → IsAt p f → IsAt q g → f ≡ g
    same_place p q f g e a b =
        let at : slice_get ns q ≡ Some a.0 = ap (slice_get ns) (sym e) ∙ a.1 in
        let n : a.0 ≡ b.0 = one_value (slice_get ns q) a.0 b.0 at b.1 in
        let here : IsWireFault netlist parasitics b.0 f = subst (λ m. IsWireFault netlist parasitics m f) n a.2 in
        wire_is_one b.0 f g (which b.0 f here) (which b.0 g b.2)

    wires_are_one : (f g : LinkFault) → IsFirstWireFault netlist parasitics ns f → IsFirstWireFault netlist parasitics ns g → f ≡ g
    wires_are_one f g a b = elim (cases_lt a.place b.place) [
      | inl lt ↦ absurd (not_before a.place b.place f lt (place_of f a) b.before)
      | inr ge ↦ elim (cases_lt b.place a.place) [
        | inl lt ↦ absurd (not_before b.place a.place g lt (place_of g b) a.before)
        | inr le ↦ same_place a.place b.place f g (omega (arith, ge, le)) (place_of f a) (place_of g b)
      ]
    ]

    no_wire : (f : LinkFault) → IsFirstWireFault netlist parasitics ns f → AreAcceptedWires netlist parasitics ns → ⊥
    no_wire f a all =
        let here = place_of f a in
        let each = recursion_from_All (IsAcceptedWire netlist parasitics) ns all in
        no_fault_if_accepted here.0 f (each_by_place ns a.place here.0 here.1 each) (which here.0 f here.2)
      where
        each_by_place : (ms : List bare.Numbered) (i : ℕ) (n : bare.Numbered) → slice_get ms i ≡ Some n → AllByRecursion (IsAcceptedWire netlist parasitics) ms → IsAcceptedWire netlist parasitics n
        each_by_place [] i n at every = absurd (cc)
        each_by_place (m ∷ ms) zero n at every = let e : m ≡ n = cc in subst (IsAcceptedWire netlist parasitics) e every.0
        each_by_place (m ∷ ms) (suc i) n at every = each_by_place ms i n at every.1

-- ---- loops
module _ (nets : List Net) where
  abbrev IsLoopOf : LinkFault → Type 0
  IsLoopOf f = (loop : List ℕ) × IsFirstLoop nets loop × (f ≡ faults.Refused (refusals.K4 (map (name_at nets) loop)))

  loop_of : (f : LinkFault) → IsLoopFault nets f → IsLoopOf f
  loop_of (faults.Refused (refusals.K1 a b)) h = absurd h
  loop_of (faults.Refused (refusals.K2 a b)) h = absurd h
  loop_of (faults.Refused (refusals.K3 a)) h = absurd h
  loop_of (faults.Refused (refusals.K4 a)) h = (h.0, h.1, ap (λ (names : List Text). faults.Refused (refusals.K4 names)) h.2)
  loop_of (faults.Refused (refusals.K5 a)) h = absurd h
  loop_of (faults.Refused (refusals.K6 a b)) h = absurd h
  loop_of (faults.Refused (refusals.K7 a)) h = absurd h
  loop_of (faults.Refused (refusals.K9 a b)) h = absurd h
  loop_of (faults.Limit what name value) h = absurd h
  loop_of faults.NoMemory h = absurd h

  loop_is_one : (f g : LinkFault) → IsLoopFault nets f → IsLoopFault nets g → f ≡ g
  loop_is_one f g p q =
      let a = loop_of f p in
      let b = loop_of g q in
      let loop : a.0 ≡ b.0 = first_is_one nets a.0 b.0 a.1 b.1 in
      a.2 ∙ (ap (λ (l : List ℕ). faults.Refused (refusals.K4 (map (name_at nets) l))) loop ∙ sym b.2)

  no_loop_fault : (f : LinkFault) → IsLoopFault nets f → AreLevelled nets → ⊥
  no_loop_fault f p levels = let a = loop_of f p in no_loop nets levels.0 a.0 levels.1 (first_is_loop nets a.0 a.1)

-- ---- the stages
module _ (x : Inputs) where
  abbrev FromLevels : LinkFault → Type 0
  FromLevels f = AtLevels x f ⊎ AtClock x f

  abbrev FromSizes : LinkFault → Type 0
  FromSizes f = AtSizes x f ⊎ FromLevels f

  abbrev FromWires : LinkFault → Type 0
  FromWires f = AtWires x f ⊎ FromSizes f

  abbrev FromDrivers : LinkFault → Type 0
  FromDrivers f = AtDrivers x f ⊎ FromWires f

  abbrev FromInstances : LinkFault → Type 0
  FromInstances f = AtInstances x f ⊎ FromDrivers f

  levels_sizes : (f : LinkFault) → FromLevels f → size_fault (bare_parts x) ≡ None
  levels_sizes f (inl a) = a.sizes
  levels_sizes f (inr a) = a.sizes

  sizes_wires : (f : LinkFault) → FromSizes f → link.HasAcceptedWires x
  sizes_wires f (inl a) = a.wires
  sizes_wires f (inr (inl a)) = a.wires
  sizes_wires f (inr (inr a)) = a.wires

  wires_pins : (f : LinkFault) → FromWires f → link.HasAcceptedPins x
  wires_pins f (inl a) = a.pins
  wires_pins f (inr a) = (sizes_wires f a).pins

  drivers_instances : (f : LinkFault) → FromDrivers f → instance_fault x.library x.netlist ≡ None
  drivers_instances f (inl a) = a.instances
  drivers_instances f (inr a) = (wires_pins f a).instances

  instances_counts : (f : LinkFault) → FromInstances f → count_fault x.netlist ≡ None
  instances_counts f (inl a) = a.counts
  instances_counts f (inr (inl a)) = a.counts
  instances_counts f (inr (inr a)) = (wires_pins f a).counts

  levels_one : (f g : LinkFault) → FromLevels f → FromLevels g → f ≡ g
  levels_one f g (inl a) (inl b) = loop_is_one (bare_nets x) f g a.here b.here
  levels_one f g (inl a) (inr b) = absurd (no_loop_fault (bare_nets x) f a.here b.levels)
  levels_one f g (inr a) (inl b) = absurd (no_loop_fault (bare_nets x) g b.here a.levels)
  levels_one f g (inr a) (inr b) = one_value (clock_fault (bare_parts x)) f g a.here b.here

  sizes_one : (f g : LinkFault) → FromSizes f → FromSizes g → f ≡ g
  sizes_one f g (inl a) (inl b) = one_value (size_fault (bare_parts x)) f g a.here b.here
  sizes_one f g (inl a) (inr b) = absurd (no_value (size_fault (bare_parts x)) f (levels_sizes g b) a.here)
  sizes_one f g (inr a) (inl b) = absurd (no_value (size_fault (bare_parts x)) g (levels_sizes f a) b.here)
  sizes_one f g (inr a) (inr b) = levels_one f g a b

  wires_one : (f g : LinkFault) → FromWires f → FromWires g → f ≡ g
  wires_one f g (inl a) (inl b) = wires_are_one x.netlist x.parasitics (numbered x) f g a.here b.here
  wires_one f g (inl a) (inr b) = absurd (no_wire x.netlist x.parasitics (numbered x) f a.here (sizes_wires g b).wires)
  wires_one f g (inr a) (inl b) = absurd (no_wire x.netlist x.parasitics (numbered x) g b.here (sizes_wires f a).wires)
  wires_one f g (inr a) (inr b) = sizes_one f g a b

  drivers_one : (f g : LinkFault) → FromDrivers f → FromDrivers g → f ≡ g
  drivers_one f g (inl a) (inl b) = one_value (driver_fault x.library x.netlist) f g a.here b.here
  drivers_one f g (inl a) (inr b) = absurd (no_value (driver_fault x.library x.netlist) f (wires_pins g b).drivers a.here)
  drivers_one f g (inr a) (inl b) = absurd (no_value (driver_fault x.library x.netlist) g (wires_pins f a).drivers b.here)
  drivers_one f g (inr a) (inr b) = wires_one f g a b

  instances_one : (f g : LinkFault) → FromInstances f → FromInstances g → f ≡ g
  instances_one f g (inl a) (inl b) = one_value (instance_fault x.library x.netlist) f g a.here b.here
  instances_one f g (inl a) (inr b) = absurd (no_value (instance_fault x.library x.netlist) f (drivers_instances g b) a.here)
  instances_one f g (inr a) (inl b) = absurd (no_value (instance_fault x.library x.netlist) g (drivers_instances f a) b.here)
  instances_one f g (inr a) (inr b) = drivers_one f g a b

  -- there is one fault at most
  pub fault_is_one : (f g : LinkFault) → IsRefused x f → IsRefused x g → f ≡ g
  fault_is_one f g (inl a) (inl b) = one_value (count_fault x.netlist) f g a b
  fault_is_one f g (inl a) (inr b) = absurd (no_value (count_fault x.netlist) f (instances_counts g b) a)
  fault_is_one f g (inr a) (inl b) = absurd (no_value (count_fault x.netlist) g (instances_counts f a) b)
  fault_is_one f g (inr a) (inr b) = instances_one f g a b

  -- where there is a design nothing is refused
  pub linked_is_accepted : (f : LinkFault) (d : Parts) → IsRefused x f → IsLinked x d → ⊥
  linked_is_accepted f d (inl a) l = no_value (count_fault x.netlist) f l.wires.pins.counts a
  linked_is_accepted f d (inr (inl a)) l = no_value (instance_fault x.library x.netlist) f l.wires.pins.instances a.here
  linked_is_accepted f d (inr (inr (inl a))) l = no_value (driver_fault x.library x.netlist) f l.wires.pins.drivers a.here
  linked_is_accepted f d (inr (inr (inr (inl a)))) l = no_wire x.netlist x.parasitics (numbered x) f a.here l.wires.wires
  linked_is_accepted f d (inr (inr (inr (inr (inl a))))) l = no_value (size_fault (bare_parts x)) f l.sizes a.here
  linked_is_accepted f d (inr (inr (inr (inr (inr (inl a)))))) l = no_loop_fault (bare_nets x) f a.here l.levels
  linked_is_accepted f d (inr (inr (inr (inr (inr (inr a)))))) l = no_value (clock_fault (bare_parts x)) f l.clock a.here

  -- there is one design at most
  pub design_is_one : (d e : Parts) → IsLinked x d → IsLinked x e → d ≡ e
  design_is_one d e a b =
      let forms : a.parts.0 ≡ b.parts.0 = forms_are_one x.netlist x.parasitics (numbered x) a.parts.0 b.parts.0 a.parts.1 b.parts.1 in
      a.parts.2 ∙ (ap (parts_with x) forms ∙ sym b.parts.2)

  abbrev Answer : Type 0
  Answer = Result Parts LinkFault

  refused : (f : LinkFault) → ◌≢◌ {A = Answer} (Err f) (Err faults.NoMemory) → Links x (Err f) → IsRefused x f
  refused (faults.Refused r) some h = h
  refused (faults.Limit what name value) some h = h
  refused faults.NoMemory some h = absurd (some refl)

  -- two answers of linking are one, but for want of memory
  pub links_one : (r s : Answer) → r ≢ Err faults.NoMemory → s ≢ Err faults.NoMemory → Links x r → Links x s → r ≡ s
  links_one (Ok d) (Ok e) p q a b = ap Ok (design_is_one d e a b)
  links_one (Ok d) (Err g) p q a b = absurd (linked_is_accepted g d (refused g q b) a)
  links_one (Err f) (Ok e) p q a b = absurd (linked_is_accepted f e (refused f p a) b)
  links_one (Err f) (Err g) p q a b = ap Err (fault_is_one f g (refused f p a) (refused g q b))
