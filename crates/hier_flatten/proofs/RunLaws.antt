-- Instances of cells up to the first one of a module.
use Rattle.std.proofs.Common.{◌≡◌, refl, ℕ, zero, suc, ◌+◌, ◌<◌, ◌≤◌, List, [], ◌∷◌, ◌++◌, length, take, drop, map, get_or, is_some, Bool, true, false, Option, Some, None, sym, ap, ◌∙◌, subst, arith}
use Rattle.std.proofs.lemmas.List.{append_assoc, append-nil, length-append, length-map, length-take-le}
use Rattle.std.specs.List.{slice_get}
use Rattle.name_numbers.specs.Names.{Text}
use Rattle.xt_model.specs.Options as options
use Rattle.xt_model.specs.Results.{◌>>=◌}
use Rattle.xt_model.specs.declared.fault.LimitKind.{LimitKind}
use Rattle.std.proofs.Math.Nat.{mul-le-mul_right}
use Rattle.verilog_net.specs.declared.netlist.Instance.{Instance}
use Rattle.verilog_net.specs.declared.netlist.Netlist.{Netlist}
use Rattle.hier_flatten.specs.declared.below.Frame.{Frame}
use Rattle.hier_flatten.specs.declared.index.Next.{Next}
use Rattle.hier_flatten.specs.Hierarchy.{Hierarchy, IsHierarchy, module_number, module_of, cells_by, cells_in, cells_before}
use Rattle.hier_flatten.specs.Search.{most_in}
use Rattle.hier_flatten.specs.Flat.{Scope, Flat, ranges_of, Counts, counts_of, flat_below, flat_instance, limit_of, prefix_below, entered_below}
use Rattle.hier_flatten.specs.Walk.{scope_of, IsEntered, IsNext, AreNested, AreHierarchies, rest_flat, Comes, Passes, room_in, work}
use Rattle.hier_flatten.proofs.SliceLaws.{rest_of, first_and_rest}
use Rattle.hier_flatten.proofs.WalkLaws.{cell_is, ended, less_ended, enter_turn, passes}

-- a list that is longer by nothing
grown_by_none : (h : Hierarchy) (s : Scope) (flat : Flat) → flat_below h s flat ≡ flat_below h s (record flat { instances = flat.instances ++ [] })
grown_by_none h s flat = ap (λ is. flat_below h s (record flat { instances = is })) (sym (append-nil flat.instances))

module _ (modules : List Netlist) where
  -- what comes after this many instances, each of a cell
  record IsAfter (s : Scope) (n : ℕ) (is : List Instance) (h : Hierarchy) (flat : Flat) : Type 0 where
    below : Hierarchy
    rest : IsHierarchy modules (drop n is) below
    comes : flat_below h s flat
        ≡ flat_below below s (record flat { instances = flat.instances ++ map (flat_instance (ranges_of flat.nets) s) (take n is) })

  after_one : (s : Scope) (i : Instance) (is : List Instance) (h : Hierarchy) (flat : Flat) (n : ℕ) (o : Option ℕ) → module_number modules i.cell ≡ o
      → IsHierarchy modules (i ∷ is) h → ((k : Hierarchy) (later : Flat) → IsHierarchy modules is k → IsAfter s n is k later)
      → IsAfter s (cells_by o n) (i ∷ is) h flat
  after_one s i is h flat n (Some k) e t next = record { below = h; rest = t; comes = grown_by_none h s flat }
  after_one s i is h flat n None e t next =
      let none : module_of modules i.cell ≡ None = ap (λ o. options.◌>>=◌ o (slice_get modules)) e in
      let c = cell_is modules i is h none t in
      let made : Instance = flat_instance (ranges_of flat.nets) s i in
      let later : Flat = record flat { instances = flat.instances ++ made ∷ [] } in
      let r = next c.more later c.rest in
      record {
        below = r.below;
        rest = r.rest;
        comes = ap (λ k. flat_below k s flat) c.whole
            ∙ (r.comes
            ∙ ap (λ x. flat_below r.below s (record flat { instances = x }))
            (append_assoc flat.instances (made ∷ []) (map (flat_instance (ranges_of flat.nets) s) (take n is))));
      }

  after : (s : Scope) (is : List Instance) (h : Hierarchy) (flat : Flat) → IsHierarchy modules is h → IsAfter s (cells_before modules is) is h flat
  after s [] h flat t = record { below = h; rest = t; comes = grown_by_none h s flat }
  after s (i ∷ is) h flat t =
      after_one s i is h flat (cells_before modules is) (module_number modules i.cell) refl t (λ k later u. after s is k later u)

  few_by : (o : Option ℕ) (n k : ℕ) → n ≤ k → cells_by o n ≤ suc k
  few_by None n k h = omega (arith, h)
  few_by (Some number) n k h = omega arith

  pub few_before : (is : List Instance) → cells_before modules is ≤ length is
  few_before [] = omega arith
  few_before (i ∷ is) = few_by (module_number modules i.cell) (cells_before modules is) (length is) (few_before is)

-- ---- counting them
module _ (rest : List (Option ℕ)) (d o : Option ℕ) (count whole : ℕ) (b : Bool) (some : 1 ≤ length rest) (is : o ≡ get_or rest 0 d) where
  first : rest ≡ o ∷ rest_of rest
  first = first_and_rest rest d o some is

  -- an instance of a cell more is passed
  pub cells_more : (p : Option ℕ) → o ≡ p → b ≡ is_some p → b ≡ false → count + cells_in rest ≡ whole → count + 1 + cells_in (rest_of rest) ≡ whole
  cells_more (Some k) e test isnt sum = absurd (cc)
  cells_more None e test isnt sum =
      let one : cells_in rest ≡ suc (cells_in (rest_of rest)) = ap cells_in first ∙ ap (λ q. cells_by q (cells_in (rest_of rest))) e in
      omega (arith, one, sum)

  -- an instance of a module is met
  pub cells_end : (p : Option ℕ) → o ≡ p → b ≡ is_some p → b ≡ true → count + cells_in rest ≡ whole → count ≡ whole
  cells_end None e test is_one sum = absurd (cc)
  cells_end (Some k) e test is_one sum =
      let none : cells_in rest ≡ 0 = ap cells_in first ∙ ap (λ q. cells_by q (cells_in (rest_of rest))) e in
      omega (arith, none, sum)

-- ---- the frame after them
abbrev pub after_cells : List Netlist → Frame → Frame
after_cells modules f = record f { rest = record f.rest { now = drop (cells_before modules f.rest.now) f.rest.now } }

abbrev pub with_cells : List Netlist → Frame → Text → Flat → Flat
with_cells modules f path flat = record flat {
  instances = flat.instances ++ map (flat_instance (ranges_of flat.nets) (scope_of path f)) (take (cells_before modules f.rest.now) f.rest.now);
}

pub then_comes : (modules : List Netlist) (a b c : List Frame) (p q r : Text) (x y z : Flat) → Comes modules a p x b q y → Comes modules b q y c r z
    → Comes modules a p x c r z
then_comes modules a b c p q r x y z first second = record { each = turn }
  where
    turn : (hs : List Hierarchy) → AreHierarchies modules a hs → (hs' : List Hierarchy) × AreHierarchies modules c hs' × (rest_flat hs a p x ≡ rest_flat hs' c r z)
    turn hs are =
        let one = first.each hs are in
        let two = second.each one.0 one.1 in
        (two.0, two.1, one.2 ∙ two.2)

module _ (modules : List Netlist) (f : Frame) (fs : List Frame) (path : Text) (flat : Flat) where
  abbrev f1 : Frame
  f1 = after_cells modules f

  abbrev flat1 : Flat
  flat1 = with_cells modules f path flat

  pub run : Comes modules (f ∷ fs) path flat (f1 ∷ fs) path flat1
  run = record { each = turn }
    where
      turn : (hs : List Hierarchy) → AreHierarchies modules (f ∷ fs) hs
          → (hs' : List Hierarchy) × AreHierarchies modules (f1 ∷ fs) hs' × (rest_flat hs (f ∷ fs) path flat ≡ rest_flat hs' (f1 ∷ fs) path flat1)
      turn [] a = absurd a
      turn (h ∷ hs) a =
          let r = after modules (scope_of path f) f.rest.now h flat a.0 in
          (r.below ∷ hs, (r.rest, a.1), ap (λ b. b >>= rest_flat hs fs path) r.comes)

  pub run_met : (counts_of flat1).met ≡ (counts_of flat).met + cells_before modules f.rest.now
  run_met =
      let n = cells_before modules f.rest.now in
      let s = scope_of path f in
      let made = map (flat_instance (ranges_of flat.nets) s) (take n f.rest.now) in
      let a : length (flat.instances ++ made) ≡ length flat.instances + length made = length-append flat.instances made in
      let b : length made ≡ length (take n f.rest.now) = length-map (take n f.rest.now) (flat_instance (ranges_of flat.nets) s) in
      let c : length (take n f.rest.now) ≡ n = length-take-le n f.rest.now (few_before modules f.rest.now) in
      omega (arith, a, b, c)

  pub run_passes : (what : LimitKind) → Passes modules (f1 ∷ fs) path flat1 what → Passes modules (f ∷ fs) path flat what
  run_passes what beyond hs a =
      let t = run.each hs a in
      t.2 ∙ beyond t.0 t.1

-- ---- how much is left
fewer : (k : ℕ) (is : List Instance) → length (drop k is) ≤ length is
fewer zero is = omega arith
fewer (suc k) [] = omega arith
fewer (suc k) (i ∷ is) = let h = fewer k is in omega (arith, h)

module _ (modules : List Netlist) (counts counts1 : Counts) (f : Frame) (fs : List Frame) (met : counts1.met ≡ counts.met + cells_before modules f.rest.now) where
  pub run_work : work modules counts1 (after_cells modules f ∷ fs) ≤ work modules counts (f ∷ fs)
  unfolding work
  run_work =
      let n = cells_before modules f.rest.now in
      let room : room_in counts1 ≤ room_in counts = omega (arith, met) in
      let product = mul-le-mul_right (most_in modules) room in
      let shorter : length (drop n f.rest.now) ≤ length f.rest.now = fewer n f.rest.now in
      omega (arith, product, shorter)

  pub run_ended : work modules counts1 fs < work modules counts (f ∷ fs)
  run_ended = let a = less_ended modules counts1 (after_cells modules f) fs in let b = run_work in omega (arith, a, b)

-- ---- a turn of the building
module _ (modules : List Netlist) (f : Frame) (fs : List Frame) (path path' : Text) (flat flat' : Flat) (cells : List Instance)
    (front : cells ≡ take (cells_before modules f.rest.now) f.rest.now) (kept : path' ≡ path)
    (added : flat' ≡ record flat { instances = flat.instances ++ map (flat_instance (ranges_of flat.nets) (scope_of path f)) cells }) where
  abbrev g1 : Frame
  g1 = after_cells modules f

  grown : flat' ≡ with_cells modules f path flat
  grown = added ∙ ap (λ cs. record flat { instances = flat.instances ++ map (flat_instance (ranges_of flat.nets) (scope_of path f)) cs }) front

  abbrev end : Flat
  end = with_cells modules f path flat

  pub build_ended : drop (cells_before modules f.rest.now) f.rest.now ≡ []
      → Comes modules (f ∷ fs) path flat fs path' flat' × (work modules (counts_of flat') fs < work modules (counts_of flat) (f ∷ fs))
  build_ended none =
      let comes : Comes modules (f ∷ fs) path flat fs path end =
      then_comes modules (f ∷ fs) (g1 ∷ fs) fs path path path flat end end (run modules f fs path flat) (ended modules g1 fs path end none) in
      let less : work modules (counts_of end) fs < work modules (counts_of flat) (f ∷ fs) =
      run_ended modules (counts_of flat) (counts_of end) f fs (run_met modules f fs path flat) in
      rw (kept, grown) (comes, less)

  pub build_less : work modules (counts_of flat') fs < work modules (counts_of flat) (f ∷ fs)
  build_less =
      let less : work modules (counts_of end) fs < work modules (counts_of flat) (f ∷ fs) =
      run_ended modules (counts_of flat) (counts_of end) f fs (run_met modules f fs path flat) in
      rw grown less

  module _ (n : Next) (next : IsNext modules (drop (cells_before modules f.rest.now) f.rest.now) n) where
    pub build_passed : (what : LimitKind) → limit_of (counts_of flat') ≡ Some what → Passes modules (f ∷ fs) path flat what
    build_passed what limit =
        run_passes modules f fs path flat what
        (passes modules g1 fs path end n.instance.now n.«module».now n.more.instances.now next.first next.named what
        (subst (λ (x : Flat). limit_of (counts_of x) ≡ Some what) grown limit))

    pub build_entered : (g b : Frame) (one new : List Frame) (far : Text) (last : Flat) → g.rest.now ≡ n.more.instances.now → g.path ≡ f.path
        → g.nets.now ≡ f.nets.now → g.meant.items ≡ f.meant.items → limit_of (counts_of flat') ≡ None → length path ≡ f.path → AreNested f.path fs
        → IsEntered (ranges_of flat'.nets) (scope_of path' f) n.instance.now n.«module».now b → one ≡ g ∷ fs → new ≡ b ∷ one
        → far ≡ prefix_below path' n.instance.now.name → last ≡ entered_below flat' (scope_of path' f) n.instance.now n.«module».now
        → Comes modules (f ∷ fs) path flat new far last × AreNested (length far) new
        × (work modules (counts_of last) new < work modules (counts_of flat) (f ∷ fs))
    build_entered g b one new far last more same nets meant limit len nested made pushed then_pushed way entered =
        let i : Instance = n.instance.now in
        let m : Netlist = n.«module».now in
        let turn = enter_turn modules g1 fs path end i g (next.first ∙ ap (λ r. i ∷ r) (sym more))
        same nets meant b m one new far last next.named (subst (λ (x : Flat). limit_of (counts_of x) ≡ None) grown limit) len nested
        (subst (λ (x : Flat). IsEntered (ranges_of x.nets) (scope_of path f) i m b) grown (subst (λ p. IsEntered (ranges_of flat'.nets) (scope_of p f) i m b) kept made))
        pushed then_pushed (way ∙ ap (λ p. prefix_below p i.name) kept)
        (entered ∙ (ap (λ p. entered_below flat' (scope_of p f) i m) kept ∙ ap (λ (x : Flat). entered_below x (scope_of path f) i m) grown)) in
        let work_less = turn.2 in
        let before = run_work modules (counts_of flat) (counts_of end) f fs (run_met modules f fs path flat) in (
          then_comes modules (f ∷ fs) (g1 ∷ fs) new path path far flat end last (run modules f fs path flat) turn.0,
          turn.1,
          omega (arith, work_less, before),
        )
