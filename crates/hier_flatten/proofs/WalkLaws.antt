-- One turn of the walk through the hierarchy.
use Rattle.std.proofs.Common.{◌≡◌, refl, ℕ, zero, suc, ◌+◌, ◌*◌, ◌<◌, ◌≤◌, List, [], ◌∷◌, ◌++◌, length, take, Option, Some, None, Result, Ok, Err, sym, ap, ◌∙◌, subst, arith}
use Rattle.std.proofs.lemmas.List.{take_all, take_at, length-append}
use Rattle.std.proofs.Math.Nat.{suc-mul}
use Rattle.std.specs.List.{slice_get}
use Rattle.name_numbers.specs.Names.{Text}
use Rattle.xt_model.specs.Limits.{most_instances}
use Rattle.xt_model.specs.Options as options
use Rattle.xt_model.specs.Results.{◌>>=◌}
use Rattle.xt_model.specs.declared.fault.LimitKind.{LimitKind}
use Rattle.verilog_net.specs.declared.netlist.Instance.{Instance}
use Rattle.verilog_net.specs.declared.netlist.Netlist.{Netlist}
use Rattle.hier_flatten.specs.declared.below.Frame.{Frame}
use Rattle.hier_flatten.specs.Hierarchy.{Hierarchy, ends, cell, inner, IsHierarchy, HasHierarchy, module_number, module_of, links_of}
use Rattle.hier_flatten.specs.Search.{most_in}
use Rattle.hier_flatten.specs.Flat.{Scope, Flat, ranges_of, Counts, counts_of, flat_below, prefix_below, scope_below, entered_below, limit_of, unless_passed, top_scope, at_top, built}
use Rattle.hier_flatten.specs.Walk.{scope_of, IsEntered, AreLinked, AreNested, AreHierarchies, rest_flat, Comes, Passes, room_in, work, Builds}
use Rattle.hier_flatten.proofs.SearchLaws.{most_at}
use Rattle.hier_flatten.proofs.GrowingLaws.{within}

abbrev Built : Type 0
Built = Result Flat LimitKind

-- ---- one step after another
bind_assoc : (r : Built) (f g : Flat → Built) → ((r >>= f) >>= g) ≡ (r >>= (λ x. f x >>= g))
bind_assoc (Ok x) f g = refl
bind_assoc (Err e) f g = refl

bind_same : (r : Built) (f g : Flat → Built) → ((x : Flat) → f x ≡ g x) → (r >>= f) ≡ (r >>= g)
bind_same (Ok x) f g h = h x
bind_same (Err e) f g h = refl

bind_ok : (r : Built) (f : Flat → Built) → ((x : Flat) → f x ≡ Ok x) → (r >>= f) ≡ r
bind_ok (Ok x) f h = h x
bind_ok (Err e) f h = refl

-- ---- what is below instances
module _ (modules : List Netlist) where
  none_below : (h : Hierarchy) → IsHierarchy modules [] h → h ≡ ends
  none_below ends t = refl
  none_below (cell j more) t = absurd t
  none_below (inner j m below more) t = absurd t

  pub record IsCell (i : Instance) (is : List Instance) (h : Hierarchy) : Type 0 where
    pub more : Hierarchy
    pub whole : h ≡ cell i more
    pub rest : IsHierarchy modules is more

  pub cell_is : (i : Instance) (is : List Instance) (h : Hierarchy) → module_of modules i.cell ≡ None → IsHierarchy modules (i ∷ is) h → IsCell i is h
  cell_is i is ends none t = absurd t
  cell_is i is (cell j more) none t = record { more = more; whole = ap (λ k. cell k more) (sym t.0); rest = t.2 }
  cell_is i is (inner j m below more) none t = absurd (cc (sym none ∙ t.1))

  record IsInner (i : Instance) (m : Netlist) (is : List Instance) (h : Hierarchy) : Type 0 where
    below : Hierarchy
    more : Hierarchy
    whole : h ≡ inner i m below more
    inside : IsHierarchy modules m.instances below
    rest : IsHierarchy modules is more

  inner_is : (i : Instance) (m : Netlist) (is : List Instance) (h : Hierarchy) → module_of modules i.cell ≡ Some m
      → IsHierarchy modules (i ∷ is) h → IsInner i m is h
  inner_is i m is ends e t = absurd t
  inner_is i m is (cell j more) e t = absurd (cc (sym e ∙ t.1))
  inner_is i m is (inner j n below more) e t =
      let some : ◌≡◌ {A = Option Netlist} (Some n) (Some m) = sym t.1 ∙ e in
      let same : n ≡ m = cc in
      record {
        below = below;
        more = more;
        whole = ap (λ k. inner k n below more) (sym t.0) ∙ ap (λ k. inner i k below more) same;
        inside = subst (λ k. IsHierarchy modules k.instances below) same t.2;
        rest = t.3;
      }

-- ---- paths
take_short : (a n : ℕ) (p : Text) → a ≤ n → take a (take n p) ≡ take a p
take_short zero n p h = refl
take_short (suc a) zero p h = absurd (omega (arith, h))
take_short (suc a) (suc n) [] h = refl
take_short (suc a) (suc n) (x ∷ p) h = ap (λ t. x ∷ t) (take_short a n p (omega (arith, h)))

take_less : (a n : ℕ) (p q : Text) → a ≤ n → take n p ≡ take n q → take a p ≡ take a q
take_less a n p q h e = sym (take_short a n p h) ∙ (ap (take a) e ∙ take_short a n q h)

pub same_path : (n : ℕ) (p q : Text) (hs : List Hierarchy) (fs : List Frame) (flat : Flat) → take n p ≡ take n q → AreNested n fs
    → rest_flat hs fs p flat ≡ rest_flat hs fs q flat
same_path n p q [] [] flat e nested = refl
same_path n p q [] (f ∷ fs) flat e nested = refl
same_path n p q (h ∷ hs) [] flat e nested = refl
same_path n p q (h ∷ hs) (f ∷ fs) flat e nested =
    let path : take f.path p ≡ take f.path q = take_less f.path n p q nested.0 e in
    let scope : scope_of p f ≡ scope_of q f = ap (λ t. record { prefix = t; nets = f.nets.now; meant = f.meant.items }) path in
    ap (λ s. flat_below h s flat >>= rest_flat hs fs p) scope
    ∙ bind_same (flat_below h (scope_of q f) flat) (rest_flat hs fs p) (rest_flat hs fs q)
    (λ x. same_path f.path p q hs fs x path nested.1)

pub whole_path : (p : Text) (n : ℕ) → length p ≡ n → take n p ≡ p
whole_path p n e = take_all n p (omega (arith, e))

-- ---- one turn
module _ (modules : List Netlist) (f : Frame) (fs : List Frame) (path : Text) (flat : Flat) where
  -- no instance is left
  pub ended : f.rest.now ≡ [] → Comes modules (f ∷ fs) path flat fs path flat
  ended none = record { each = turn }
    where
      turn : (hs : List Hierarchy) → AreHierarchies modules (f ∷ fs) hs
          → (hs' : List Hierarchy) × AreHierarchies modules fs hs' × (rest_flat hs (f ∷ fs) path flat ≡ rest_flat hs' fs path flat)
      turn [] a = absurd a
      turn (h ∷ hs) a =
          let is : h ≡ ends = none_below modules h (subst (λ t. IsHierarchy modules t h) none a.0) in
          (hs, a.1, ap (λ k. flat_below k (scope_of path f) flat >>= rest_flat hs fs path) is)

  module _ (g b : Frame) (i : Instance) (m : Netlist) (rest : f.rest.now ≡ i ∷ g.rest.now) (e : module_of modules i.cell ≡ Some m)
      (same : g.path ≡ f.path) (nets : g.nets.now ≡ f.nets.now) (meant : g.meant.items ≡ f.meant.items) (limit : limit_of (counts_of flat) ≡ None)
      (len : length path ≡ f.path) (nested : AreNested f.path fs) (made : IsEntered (ranges_of flat.nets) (scope_of path f) i m b) where
    abbrev s : Scope
    s = scope_of path f

    prefix_is : s.prefix ≡ path
    prefix_is = whole_path path f.path len

    abbrev below_path : Text
    below_path = prefix_below path i.name

    back_path : take f.path below_path ≡ take f.path path
    back_path = take_at path (i.name ++ 47 ∷ []) f.path len ∙ sym (whole_path path f.path len)

    inside_scope : scope_of below_path b ≡ scope_below (ranges_of flat.nets) s i m
    inside_scope =
        let n : length below_path ≡ b.path = ap (λ p. length (prefix_below p i.name)) (sym prefix_is) ∙ sym made.path in
        ap (λ p. record { prefix = p; nets = b.nets.now; meant = b.meant.items })
        (whole_path below_path b.path n ∙ ap (λ p. prefix_below p i.name) (sym prefix_is))
        ∙ made.scope

    outer_scope : scope_of below_path g ≡ s
    outer_scope =
        ap (λ n. record { prefix = take n below_path; nets = g.nets.now; meant = g.meant.items }) same
        ∙ (ap (λ p. record { prefix = p; nets = g.nets.now; meant = g.meant.items }) back_path
        ∙ (ap (λ n. record { prefix = take f.path path; nets = n; meant = g.meant.items }) nets
        ∙ ap (λ w. record { prefix = take f.path path; nets = f.nets.now; meant = w }) meant))

    -- an instance of a module
    pub entered : Comes modules (f ∷ fs) path flat (b ∷ g ∷ fs) below_path (entered_below flat s i m)
    entered = record { each = turn }
      where
        turn : (hs : List Hierarchy) → AreHierarchies modules (f ∷ fs) hs
            → (hs' : List Hierarchy) × AreHierarchies modules (b ∷ g ∷ fs) hs'
            × (rest_flat hs (f ∷ fs) path flat ≡ rest_flat hs' (b ∷ g ∷ fs) below_path (entered_below flat s i m))
        turn [] a = absurd a
        turn (h ∷ hs) a =
            let inside = inner_is modules i m g.rest.now h e (subst (λ t. IsHierarchy modules t h) rest a.0) in
            let at = flat_below inside.below (scope_below (ranges_of flat.nets) s i m) (entered_below flat s i m) in (
              inside.below ∷ inside.more ∷ hs,
              (subst (λ t. IsHierarchy modules t inside.below) (sym made.rest) inside.inside, (inside.rest, a.1)),
              ap (λ k. flat_below k s flat >>= rest_flat hs fs path) inside.whole
                  ∙ (ap (λ l. (unless_passed l at >>= flat_below inside.more s) >>= rest_flat hs fs path) limit
                  ∙ (bind_assoc at (flat_below inside.more s) (rest_flat hs fs path)
                  ∙ (bind_same at (λ x. flat_below inside.more s x >>= rest_flat hs fs path) (λ x. flat_below inside.more s x >>= rest_flat hs fs below_path)
                  (λ x. bind_same (flat_below inside.more s x) (rest_flat hs fs path) (rest_flat hs fs below_path)
                  (λ y. same_path f.path path below_path hs fs y (sym back_path) nested))
                  ∙ (ap (λ t. at >>= (λ x. flat_below inside.more t x >>= rest_flat hs fs below_path)) (sym outer_scope)
                  ∙ ap (λ t. flat_below inside.below t (entered_below flat s i m) >>= rest_flat (inside.more ∷ hs) (g ∷ fs) below_path) (sym inside_scope))))),
            )

    pub entered_nested : AreNested (length below_path) (b ∷ g ∷ fs)
    entered_nested =
        let n : b.path ≡ length below_path = made.path ∙ ap (λ p. length (prefix_below p i.name)) prefix_is in
        let longer : length below_path ≡ length path + length (i.name ++ 47 ∷ []) = length-append path (i.name ++ 47 ∷ []) in
        (omega (arith, n), (omega (arith, n, longer, len, same), subst (λ k. AreNested k fs) (sym same) nested))

-- ---- a frame is taken from the stack
pub taken : (hs : List Hierarchy) (f : Frame) (fs : List Frame) (path : Text) (flat : Flat) → AreNested f.path fs
    → rest_flat hs (f ∷ fs) path flat ≡ rest_flat hs (f ∷ fs) (take f.path path) flat
taken hs f fs path flat nested =
    same_path f.path path (take f.path path) hs (f ∷ fs) flat (sym (take_short f.path f.path path (omega arith))) (omega arith, nested)

-- ---- how much is left
module _ (modules : List Netlist) (counts : Counts) (f : Frame) (fs : List Frame) where
  pub less_ended : work modules counts fs < work modules counts (f ∷ fs)
  unfolding work
  less_ended = omega arith

  module_at : (name : Text) (m : Netlist) (o : Option ℕ) → options.◌>>=◌ o (slice_get modules) ≡ Some m → length m.instances + 2 ≤ most_in modules
  module_at name m None e = absurd (cc)
  module_at name m (Some k) e = most_at modules k m e

  pub less_entered : (g b : Frame) (i : Instance) (m : Netlist) (new : Counts) → f.rest.now ≡ i ∷ g.rest.now → b.rest.now ≡ m.instances
      → module_of modules i.cell ≡ Some m → new.met ≡ counts.met + 1 → counts.met + 1 ≤ most_instances
      → work modules new (b ∷ g ∷ fs) < work modules counts (f ∷ fs)
  unfolding work
  less_entered g b i m new rest inside e more limit =
      let room : room_in counts ≡ suc (room_in new) = omega (arith, limit, more) in
      let product : room_in counts * most_in modules ≡ room_in new * most_in modules + most_in modules = ap (λ n. n * most_in modules) room ∙ suc-mul (room_in new) (most_in modules) in
      let most = module_at i.cell m (module_number modules i.cell) e in
      let n : length f.rest.now ≡ length g.rest.now + 1 = ap length rest ∙ omega arith in
      let k : length b.rest.now ≡ length m.instances = ap length inside in
      omega (arith, product, most, n, k)

-- ---- the numbers of modules
pub linked_on : (modules : List Netlist) (f g b : Frame) (fs one new : List Frame) → AreLinked modules (f ∷ fs) → g.links.now ≡ links_of modules g.rest.now
    → b.links.now ≡ links_of modules b.rest.now → one ≡ g ∷ fs → new ≡ b ∷ one → AreLinked modules new
linked_on modules f g b fs one new linked more below pushed then_pushed =
    let all : new ≡ b ∷ g ∷ fs = then_pushed ∙ ap (λ t. b ∷ t) pushed in
    let both : AreLinked modules (b ∷ g ∷ fs) = (below, (more, linked.1)) in
    rw all both

pub linked_at_top : (modules : List Netlist) (f : Frame) (stack new : List Frame) (is : List Instance) → f.rest.now ≡ is → f.links.now ≡ links_of modules is
    → stack ≡ [] → new ≡ f ∷ stack → AreLinked modules new
linked_at_top modules f stack new is rest links none pushed =
    let whole : new ≡ f ∷ [] = pushed ∙ ap (λ s. f ∷ s) none in
    let linked : AreLinked modules (f ∷ []) = (links ∙ ap (links_of modules) (sym rest), tt) in
    rw whole linked

-- ---- the whole walk
-- what is flat and what is left come to the flat netlist of the top
abbrev pub Walks : List Netlist → Netlist → List Frame → Text → Flat → Type 0
Walks modules top fs path flat =
    (hs : List Hierarchy) × AreHierarchies modules fs hs × Builds modules top (built top) (rest_flat hs fs path flat)

pub carried : (modules : List Netlist) (top : Netlist) (f : Frame) (fs new : List Frame) (path path' : Text) (flat flat' : Flat) → AreNested f.path fs
    → Walks modules top (f ∷ fs) path flat → Comes modules (f ∷ fs) (take f.path path) flat new path' flat' → Walks modules top new path' flat'
carried modules top f fs new path path' flat flat' nested (hs, a, (h, is, e)) comes =
    let t = comes.each hs a in
    (t.0, t.1, (h, is, e ∙ (taken hs f fs path flat nested ∙ t.2)))

pub failed : (modules : List Netlist) (top : Netlist) (f : Frame) (fs : List Frame) (path : Text) (flat : Flat) (what : LimitKind) → AreNested f.path fs
    → Walks modules top (f ∷ fs) path flat → Passes modules (f ∷ fs) (take f.path path) flat what → Builds modules top (built top) (Err what)
failed modules top f fs path flat what nested (hs, a, (h, is, e)) beyond = (h, is, e ∙ (taken hs f fs path flat nested ∙ beyond hs a))

pub walked : (modules : List Netlist) (top : Netlist) (path : Text) (flat : Flat) → Walks modules top [] path flat → Builds modules top (built top) (Ok flat)
walked modules top path flat ([], a, b) = b
walked modules top path flat (g ∷ hs, a, b) = absurd a

pub begun : (modules : List Netlist) (top : Netlist) (f : Frame) (h : Hierarchy) → IsHierarchy modules top.instances h
    → scope_of [] f ≡ top_scope top → f.rest.now ≡ top.instances
    → AreHierarchies modules (f ∷ []) (h ∷ []) × Builds modules top (built top) (rest_flat (h ∷ []) (f ∷ []) [] (at_top top))
unfolding built
begun modules top f h is scope rest = (
  (subst (λ t. IsHierarchy modules t h) (sym rest) is, tt),
  (h, is, sym (bind_ok (flat_below h (scope_of [] f) (at_top top)) (rest_flat [] [] []) (λ x. refl) ∙ ap (λ s. flat_below h s (at_top top)) scope)),
)

-- ---- one turn whole
module _ (modules : List Netlist) (f : Frame) (fs : List Frame) (path : Text) (flat : Flat) (i : Instance) (g : Frame) (first : f.rest.now ≡ i ∷ g.rest.now)
    (same : g.path ≡ f.path) (nets : g.nets.now ≡ f.nets.now) (meant : g.meant.items ≡ f.meant.items) where
  pub enter_turn : (b : Frame) (m : Netlist) (one new : List Frame) (path' : Text) (flat' : Flat) → module_of modules i.cell ≡ Some m → limit_of (counts_of flat) ≡ None
      → length path ≡ f.path → AreNested f.path fs → IsEntered (ranges_of flat.nets) (scope_of path f) i m b → one ≡ g ∷ fs → new ≡ b ∷ one
      → path' ≡ prefix_below path i.name → flat' ≡ entered_below flat (scope_of path f) i m
      → Comes modules (f ∷ fs) path flat new path' flat' × AreNested (length path') new × (work modules (counts_of flat') new < work modules (counts_of flat) (f ∷ fs))
  enter_turn b m one new path' flat' e limit len nested made pushed then_pushed way grown =
      let end : Flat = entered_below flat (scope_of path f) i m in
      let comes : Comes modules (f ∷ fs) path flat (b ∷ g ∷ fs) (prefix_below path i.name) end =
      entered modules f fs path flat g b i m first e same nets meant limit len nested made in
      let order : AreNested (length (prefix_below path i.name)) (b ∷ g ∷ fs) =
      entered_nested modules f fs path flat g b i m first e same nets meant limit len nested made in
      let less : work modules (counts_of end) (b ∷ g ∷ fs) < work modules (counts_of flat) (f ∷ fs) =
      less_entered modules (counts_of flat) f fs g b i m (counts_of end) first made.rest e (omega arith) (within (counts_of flat) limit) in
      let all : new ≡ b ∷ g ∷ fs = then_pushed ∙ ap (λ t. b ∷ t) pushed in
      rw (all, way, grown) (comes, order, less)

pub walk_begun : (modules : List Netlist) (top : Netlist) (f : Frame) (stack new : List Frame) (path : Text) (flat : Flat) → HasHierarchy modules top.instances
    → (scope_of [] f ≡ top_scope top) × (f.rest.now ≡ top.instances) × (f.path ≡ 0) → stack ≡ [] → new ≡ f ∷ stack → path ≡ [] → flat ≡ at_top top
    → AreNested (length path) new × Walks modules top new path flat
walk_begun modules top f stack new path flat h (scope, rest, zero_path) none pushed empty start =
    let whole : new ≡ f ∷ [] = pushed ∙ ap (λ s. f ∷ s) none in
    let b = begun modules top f h.0 h.1 scope rest in
    let walks : Walks modules top (f ∷ []) [] (at_top top) = (h.0 ∷ [], b.0, b.1) in
    let nested : AreNested (length {A = ℕ} []) (f ∷ []) = (omega (arith, zero_path), tt) in
    rw (whole, empty, start) (nested, walks)

pub walk_carried : (modules : List Netlist) (top : Netlist) (f : Frame) (stack fs new : List Frame) (path cut path' : Text) (flat flat' : Flat)
    → stack ≡ f ∷ fs → cut ≡ take f.path path → AreNested (length path) stack → Walks modules top stack path flat
    → Comes modules (f ∷ fs) cut flat new path' flat' → Walks modules top new path' flat'
walk_carried modules top f stack fs new path cut path' flat flat' popped shorter nested walks comes =
    let order : AreNested (length path) (f ∷ fs) = subst (AreNested (length path)) popped nested in
    carried modules top f fs new path path' flat flat' order.1 (subst (λ s. Walks modules top s path flat) popped walks)
    (subst (λ p. Comes modules (f ∷ fs) p flat new path' flat') shorter comes)

pub walk_failed : (modules : List Netlist) (top : Netlist) (f : Frame) (stack fs : List Frame) (path cut : Text) (flat : Flat) (what : LimitKind)
    → stack ≡ f ∷ fs → cut ≡ take f.path path → AreNested (length path) stack → Walks modules top stack path flat
    → Passes modules (f ∷ fs) cut flat what → Builds modules top (built top) (Err what)
walk_failed modules top f stack fs path cut flat what popped shorter nested walks beyond =
    let order : AreNested (length path) (f ∷ fs) = subst (AreNested (length path)) popped nested in
    failed modules top f fs path flat what order.1 (subst (λ s. Walks modules top s path flat) popped walks)
    (subst (λ p. Passes modules (f ∷ fs) p flat what) shorter beyond)

-- where an instance of a module passes a limit, so does all that is left
module _ (modules : List Netlist) (f : Frame) (fs : List Frame) (path : Text) (flat : Flat) (i : Instance) (m : Netlist) (is : List Instance)
    (rest : f.rest.now ≡ i ∷ is) (e : module_of modules i.cell ≡ Some m) where
  pub passes : (what : LimitKind) → limit_of (counts_of flat) ≡ Some what → Passes modules (f ∷ fs) path flat what
  passes what limit [] a = absurd a
  passes what limit (h ∷ hs) a =
      let inside = inner_is modules i m is h e (subst (λ t. IsHierarchy modules t h) rest a.0) in
      let s = scope_of path f in
      let at = flat_below inside.below (scope_below (ranges_of flat.nets) s i m) (entered_below flat s i m) in
      ap (λ k. flat_below k s flat >>= rest_flat hs fs path) inside.whole
      ∙ ap (λ l. (unless_passed l at >>= flat_below inside.more s) >>= rest_flat hs fs path) limit
