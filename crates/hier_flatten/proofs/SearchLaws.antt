-- One turn of the search for a module that contains itself.
use Rattle.std.proofs.Common.{◌≡◌, refl, ℕ, zero, suc, ◌+◌, ◌*◌, ◌<◌, ◌≤◌, List, [], ◌∷◌, ◌++◌, length, get_or, set, replicate, Option, Some, None, IfSome, sym, ap, ◌∙◌, subst, arith, ◌⊎◌, inl, inr}
use Rattle.std.specs.List.{slice_get}
use Rattle.std.proofs.lemmas.Bool.{cases_eq}
use Rattle.std.proofs.lemmas.List.{append_assoc, length-set, length-replicate}
use Rattle.std.proofs.lemmas.Option.{slice_get_within}
use Rattle.std.proofs.Math.Nat.{suc-mul, mul-le-mul_right}
use Rattle.xt_model.specs.Options.{◌>>=◌}
use Rattle.verilog_net.specs.declared.netlist.Instance.{Instance}
use Rattle.verilog_net.specs.declared.netlist.Netlist.{Netlist}
use Rattle.hier_flatten.specs.declared.circle.Mark.{Mark}
use Rattle.hier_flatten.specs.declared.circle.Mark.TheVariants as marks
use Rattle.hier_flatten.specs.declared.circle.Visit.{Visit}
use Rattle.hier_flatten.specs.Hierarchy.{ends, cell, inner, HasHierarchy, IsFinite, module_number, Contains, IsBelow, SomeContainsItself}
use Rattle.hier_flatten.proofs.SliceLaws.{rest_of, first_and_rest, element_at, get_set_other}
use Rattle.hier_flatten.specs.Search.{IsOn, IsChain, IsSearch, AreMet, new_in, most_in, work}

-- ---- marks
pub set_at : (ms : List Mark) (k : ℕ) (a b : Mark) → slice_get (set ms k a) k ≡ Some b → a ≡ b
set_at [] k a b e = absurd (cc)
set_at (m ∷ ms) zero a b e = cc
set_at (m ∷ ms) (suc k) a b e = set_at ms k a b e

new_open : marks.New ≡ marks.Open → ⊥
new_open e = cc

done_open : marks.Done ≡ marks.Open → ⊥
done_open e = cc

open_done : marks.Open ≡ marks.Done → ⊥
open_done e = cc

pub open_new : marks.Open ≡ marks.New → ⊥
open_new e = cc

pub done_new : marks.Done ≡ marks.New → ⊥
done_new e = cc

pub met_set : (ms : List Mark) (k : ℕ) (a : Mark) → (a ≡ marks.New → ⊥) → AreMet ms (set ms k a)
met_set ms k a not_new n h e = elim (cases_eq n k) [
  | inl same ↦ not_new (set_at ms k a marks.New (subst (λ i. slice_get (set ms k a) i ≡ Some marks.New) same e))
  | inr other ↦ h (sym (get_set_other ms k n a other) ∙ e)
]

-- ---- what is below instances
module _ (modules : List Netlist) where
  pub cell_below : (i : Instance) (is : List Instance) → module_number modules i.cell ≡ None → HasHierarchy modules is → HasHierarchy modules (i ∷ is)
  cell_below i is none h = (cell i h.0, (refl, ap (λ o. o >>= slice_get modules) none, h.1))

  pub inner_below : (i : Instance) (is : List Instance) (k : ℕ) (m : Netlist) → module_number modules i.cell ≡ Some k
      → slice_get modules k ≡ Some m → HasHierarchy modules m.instances → HasHierarchy modules is → HasHierarchy modules (i ∷ is)
  inner_below i is k m e there b h = (inner i m b.0 h.0, (refl, ap (λ o. o >>= slice_get modules) e ∙ there, b.1, h.1))

  -- ---- one instance more
  on_same : (p q : Visit) (ps : List Visit) (n : ℕ) → q.number ≡ p.number → IsOn n (p ∷ ps) → IsOn n (q ∷ ps)
  on_same p q ps n e (inl h) = inl (e ∙ h)
  on_same p q ps n e (inr h) = inr h

  chain_same : (p q : Visit) (ps : List Visit) → q.number ≡ p.number → IsChain modules (p ∷ ps) → IsChain modules (q ∷ ps)
  chain_same p q [] e h = tt
  chain_same p q (r ∷ ps) e h = (subst (Contains modules r.number) (sym e) h.0, h.1)

  pub one_on : (ms : List Mark) (ps : List Visit) (p q : Visit) (i : Instance) → q.number ≡ p.number → p.rest.now ≡ i ∷ q.rest.now
      → (HasHierarchy modules q.rest.now → HasHierarchy modules p.rest.now) → IsSearch modules ms (p ∷ ps) → IsSearch modules ms (q ∷ ps)
  one_on ms ps p q i number rest below h =
      let at = h.places.0 in
      record {
        count = h.count;
        done = h.done;
        on = λ n e. on_same p q ps n number (h.on n e);
        places = (
          record {
            holder = at.holder;
            there = ap (slice_get modules) number ∙ at.there;
            passed = at.passed ++ i ∷ [];
            whole = at.whole ∙ (ap (λ t. at.passed ++ t) rest ∙ sym (append_assoc at.passed (i ∷ []) q.rest.now));
            below = λ b. at.below (below b);
          },
          h.places.1,
        );
        chain = chain_same p q ps number h.chain;
      }

  -- the same place again
  pub once_more : (ms : List Mark) (ps : List Visit) (p q : Visit) → q.number ≡ p.number → q.rest.now ≡ p.rest.now
      → IsSearch modules ms (p ∷ ps) → IsSearch modules ms (q ∷ ps)
  once_more ms ps p q number rest h =
      let at = h.places.0 in
      record {
        count = h.count;
        done = h.done;
        on = λ n e. on_same p q ps n number (h.on n e);
        places = (
          record {
            holder = at.holder;
            there = ap (slice_get modules) number ∙ at.there;
            passed = at.passed;
            whole = at.whole ∙ ap (λ t. at.passed ++ t) (sym rest);
            below = λ b. at.below (subst (HasHierarchy modules) rest b);
          },
          h.places.1,
        );
        chain = chain_same p q ps number h.chain;
      }

  -- ---- a module is entered
  abbrev pub IsNext : List Visit → ℕ → Type 0
  IsNext [] n = Unit {0}
  IsNext (p ∷ ps) n = Contains modules p.number n

  chain_next : (q : Visit) (ps : List Visit) → IsNext ps q.number → IsChain modules ps → IsChain modules (q ∷ ps)
  chain_next q [] next h = tt
  chain_next q (p ∷ ps) next h = (next, h)

  pub entered : (ms : List Mark) (ps : List Visit) (q : Visit) (m : Netlist) → slice_get modules q.number ≡ Some m
      → q.rest.now ≡ m.instances → IsNext ps q.number → IsSearch modules ms ps
      → IsSearch modules (set ms q.number marks.Open) (q ∷ ps)
  entered ms ps q m there rest next h =
      let old : (n : ℕ) (a : Mark) → (n ≡ q.number → ⊥) → slice_get (set ms q.number marks.Open) n ≡ Some a → slice_get ms n ≡ Some a =
      λ n a other e. sym (get_set_other ms q.number n marks.Open other) ∙ e in
      let at : (n : ℕ) (a : Mark) → n ≡ q.number → slice_get (set ms q.number marks.Open) n ≡ Some a → marks.Open ≡ a =
      λ n a same e. set_at ms q.number marks.Open a (subst (λ i. slice_get (set ms q.number marks.Open) i ≡ Some a) same e) in
      record {
        count = length-set ms q.number marks.Open ∙ h.count;
        done = λ n e. elim (cases_eq n q.number) [
          | inl same ↦ absurd (open_done (at n marks.Done same e))
          | inr other ↦ h.done n (old n marks.Done other e)
        ];
        on = λ n e. elim (cases_eq n q.number) [
          | inl same ↦ inl (sym same)
          | inr other ↦ inr (h.on n (old n marks.Open other e))
        ];
        places = (
          record {
            holder = m;
            there = there;
            passed = [];
            whole = sym rest;
            below = λ b. subst (HasHierarchy modules) rest b;
          },
          h.places,
        );
        chain = chain_next q ps next h.chain;
      }

  -- ---- a module is done
  chain_rest : (p : Visit) (ps : List Visit) → IsChain modules (p ∷ ps) → IsChain modules ps
  chain_rest p [] h = tt
  chain_rest p (q ∷ ps) h = h.1

  on_rest : (p : Visit) (ps : List Visit) (n : ℕ) → (n ≡ p.number → ⊥) → IsOn n (p ∷ ps) → IsOn n ps
  on_rest p ps n other (inl h) = absurd (other (sym h))
  on_rest p ps n other (inr h) = h

  pub done_with : (ms : List Mark) (ps : List Visit) (p : Visit) → p.rest.now ≡ [] → IsSearch modules ms (p ∷ ps)
      → IsSearch modules (set ms p.number marks.Done) ps
  done_with ms ps p rest h =
      let place = h.places.0 in
      let old : (n : ℕ) (a : Mark) → (n ≡ p.number → ⊥) → slice_get (set ms p.number marks.Done) n ≡ Some a → slice_get ms n ≡ Some a =
      λ n a other e. sym (get_set_other ms p.number n marks.Done other) ∙ e in
      let at : (n : ℕ) (a : Mark) → n ≡ p.number → slice_get (set ms p.number marks.Done) n ≡ Some a → marks.Done ≡ a =
      λ n a same e. set_at ms p.number marks.Done a (subst (λ i. slice_get (set ms p.number marks.Done) i ≡ Some a) same e) in
      let none : HasHierarchy modules [] = (ends, tt) in
      let whole : HasHierarchy modules place.holder.instances = place.below (subst (HasHierarchy modules) (sym rest) none) in
      record {
        count = length-set ms p.number marks.Done ∙ h.count;
        done = λ n e m there. elim (cases_eq n p.number) [
          | inl same ↦
              let is : ◌≡◌ {A = Option Netlist} (Some place.holder) (Some m) = sym place.there ∙ (ap (slice_get modules) (sym same) ∙ there) in
              let holds : place.holder ≡ m = cc in
              subst (λ m'. HasHierarchy modules m'.instances) holds whole
          | inr other ↦ h.done n (old n marks.Done other e) m there
        ];
        on = λ n e. elim (cases_eq n p.number) [
          | inl same ↦ absurd (done_open (at n marks.Open same e))
          | inr other ↦ on_rest p ps n other (h.on n (old n marks.Open other e))
        ];
        places = h.places.1;
        chain = chain_rest p ps h.chain;
      }

  -- ---- a module that is being looked through is met again
  leads : (k : ℕ) (p : Visit) (ps : List Visit) → IsChain modules (p ∷ ps) → IsOn k (p ∷ ps) → (steps : ℕ) × IsBelow modules steps k p.number
  leads k p ps chain (inl h) = (zero, sym h)
  leads k p [] chain (inr h) = absurd h
  leads k p (q ∷ ps) chain (inr h) =
      let rest = leads k q ps chain.1 h in
      (suc rest.0, (q.number, rest.1, chain.0))

  pub holds : (ms : List Mark) (ps : List Visit) (p : Visit) (i : Instance) (is : List Instance) (k : ℕ) → IsSearch modules ms (p ∷ ps)
      → p.rest.now ≡ i ∷ is → module_number modules i.cell ≡ Some k → Contains modules p.number k
  holds ms ps p i is k h rest named =
      let at = h.places.0 in
      record {
        holder = at.holder;
        there = at.there;
        before = at.passed;
        instance = i;
        after = is;
        among = at.whole ∙ ap (λ t. at.passed ++ t) rest;
        named = named;
      }

  pub circle : (ms : List Mark) (ps : List Visit) (p : Visit) (i : Instance) (is : List Instance) (k : ℕ) → IsSearch modules ms (p ∷ ps)
      → p.rest.now ≡ i ∷ is → module_number modules i.cell ≡ Some k → slice_get ms k ≡ Some marks.Open → SomeContainsItself modules
  circle ms ps p i is k h rest named mark =
      let way = leads k p ps h.chain (h.on k mark) in
      record { number = k; steps = way.0; below = (p.number, way.1, holds ms ps p i is k h rest named) }

  -- ---- at the end
  -- a module that was met is done once no other is being looked through
  pub finite : (ms : List Mark) (n : ℕ) → IsSearch modules ms [] → (slice_get ms n ≡ Some marks.New → ⊥) → IsFinite modules n
  finite ms n h met = marked' (slice_get ms n) refl
    where
      marked' : (o : Option Mark) → slice_get ms n ≡ o → IsFinite modules n
      marked' None e = λ m there.
          let found = element_at ms n (omega (arith, slice_get_within modules n m there, h.count)) in
          absurd (cc (sym e ∙ found.1))
      marked' (Some marks.New) e = absurd (met e)
      marked' (Some marks.Open) e = absurd (h.on n e)
      marked' (Some marks.Done) e = h.done n e

-- ---- how much is left
new_more : (ms : List Mark) (k : ℕ) → slice_get ms k ≡ Some marks.New → new_in ms ≡ suc (new_in (set ms k marks.Open))
new_more [] k e = absurd (cc)
new_more (marks.New ∷ ms) zero e = omega arith
new_more (marks.Open ∷ ms) zero e = absurd (cc)
new_more (marks.Done ∷ ms) zero e = absurd (cc)
new_more (marks.New ∷ ms) (suc k) e = let rest = new_more ms k e in omega (arith, rest)
new_more (marks.Open ∷ ms) (suc k) e = new_more ms k e
new_more (marks.Done ∷ ms) (suc k) e = new_more ms k e

new_done : (ms : List Mark) (k : ℕ) → new_in (set ms k marks.Done) ≤ new_in ms
new_done [] k = omega arith
new_done (marks.New ∷ ms) zero = omega arith
new_done (marks.Open ∷ ms) zero = omega arith
new_done (marks.Done ∷ ms) zero = omega arith
new_done (marks.New ∷ ms) (suc k) = let rest = new_done ms k in omega (arith, rest)
new_done (marks.Open ∷ ms) (suc k) = new_done ms k
new_done (marks.Done ∷ ms) (suc k) = new_done ms k

two_in : (modules : List Netlist) → 2 ≤ most_in modules
two_in [] = omega arith
two_in (m ∷ ms) = let rest = two_in ms in omega (arith, rest)

pub most_at : (modules : List Netlist) (k : ℕ) (m : Netlist) → slice_get modules k ≡ Some m → length m.instances + 2 ≤ most_in modules
most_at [] k m e = absurd (cc)
most_at (n ∷ ms) zero m e =
    let same : length n.instances ≡ length m.instances = (let is : n ≡ m = cc in ap (λ x. length x.instances) is) in
    let rest = two_in ms in
    omega (arith, rest, same)
most_at (n ∷ ms) (suc k) m e = let rest = most_at ms k m e in omega (arith, rest)

module _ (modules : List Netlist) (ms : List Mark) (ps : List Visit) where
  pub less_on : (p q : Visit) (i : Instance) → p.rest.now ≡ i ∷ q.rest.now → work modules ms (q ∷ ps) < work modules ms (p ∷ ps)
  unfolding work
  less_on p q i rest = let n : length p.rest.now ≡ length q.rest.now + 1 = ap length rest ∙ omega arith in omega (arith, n)

  pub less_popped : (p : Visit) → work modules ms ps < work modules ms (p ∷ ps)
  unfolding work
  less_popped p = omega arith

  pub less_done : (p : Visit) → work modules (set ms p.number marks.Done) ps < work modules ms (p ∷ ps)
  unfolding work
  less_done p =
      let fewer = mul-le-mul_right (most_in modules) (new_done ms p.number) in
      omega (arith, fewer)

  pub less_entered : (p r q : Visit) (m : Netlist) → r.rest.now ≡ p.rest.now → slice_get modules q.number ≡ Some m → q.rest.now ≡ m.instances
      → slice_get ms q.number ≡ Some marks.New → work modules (set ms q.number marks.Open) (q ∷ r ∷ ps) < work modules ms (p ∷ ps)
  unfolding work
  less_entered p r q m same there rest new =
      let k = new_in (set ms q.number marks.Open) in
      let product : new_in ms * most_in modules ≡ k * most_in modules + most_in modules = ap (λ n. n * most_in modules) (new_more ms q.number new) ∙ suc-mul k (most_in modules) in
      let most = most_at modules q.number m there in
      let one : length q.rest.now ≡ length m.instances = ap length rest in
      let other : length r.rest.now ≡ length p.rest.now = ap length same in
      omega (arith, product, most, one, other)

-- ---- one turn whole
module _ (modules : List Netlist) (ms : List Mark) (ps : List Visit) (p : Visit) (d i : Instance) (some : 1 ≤ length p.rest.now)
    (is : i ≡ get_or p.rest.now 0 d) (search : IsSearch modules ms (p ∷ ps)) where
  first : p.rest.now ≡ i ∷ rest_of p.rest.now
  first = first_and_rest p.rest.now d i some is

  pub met_again : (k : ℕ) → module_number modules i.cell ≡ Some k → slice_get ms k ≡ Some marks.Open → SomeContainsItself modules
  met_again k named mark = circle modules ms ps p i (rest_of p.rest.now) k search first named mark

  -- the instance is that of a cell, or of a module that is done
  abbrev pub IsPassed : Type 0
  IsPassed = (module_number modules i.cell ≡ None)
      ⊎ ((k : ℕ) × (module_number modules i.cell ≡ Some k) × (k < length modules) × (slice_get ms k ≡ Some marks.Done))

  passed_below : (q : Visit) → q.rest.now ≡ rest_of p.rest.now → IsPassed → HasHierarchy modules q.rest.now → HasHierarchy modules p.rest.now
  passed_below q rest (inl none) h =
      subst (HasHierarchy modules) (ap (λ r. i ∷ r) rest ∙ sym first) (cell_below modules i q.rest.now none h)
  passed_below q rest (inr k) h =
      let m = element_at modules k.0 k.2 in
      subst (HasHierarchy modules) (ap (λ r. i ∷ r) rest ∙ sym first)
      (inner_below modules i q.rest.now k.0 m.0 k.1 m.1 (search.done k.0 k.3 m.0 m.1) h)

  pub goes_on : (q : Visit) (new : List Visit) → q.number ≡ p.number → q.rest.now ≡ rest_of p.rest.now → IsPassed → new ≡ q ∷ ps
      → IsSearch modules ms new × (work modules ms new < work modules ms (p ∷ ps))
  goes_on q new number rest passed pushed =
      let whole : p.rest.now ≡ i ∷ q.rest.now = first ∙ ap (λ r. i ∷ r) (sym rest) in
      subst (λ s. IsSearch modules ms s × (work modules ms s < work modules ms (p ∷ ps))) (sym pushed)
      (one_on modules ms ps p q i number whole (passed_below q rest passed) search, less_on modules ms ps p q i whole)

  pub goes_in : (r q : Visit) (one two : List Visit) → r.number ≡ p.number → r.rest.now ≡ p.rest.now
      → module_number modules i.cell ≡ Some q.number → q.number < length modules → IfSome (slice_get modules q.number) (λ m. q.rest.now ≡ m.instances)
      → slice_get ms q.number ≡ Some marks.New → one ≡ r ∷ ps → two ≡ q ∷ one
      → IsSearch modules (set ms q.number marks.Open) two × (work modules (set ms q.number marks.Open) two < work modules ms (p ∷ ps))
  goes_in r q one two number rest named within instances new first_pushed then_pushed =
      let m = element_at modules q.number within in
      let inside : q.rest.now ≡ m.0.instances = rw m.1 at instances in
      let back = once_more modules ms ps p r number rest search in
      let next : Contains modules r.number q.number = subst (λ n. Contains modules n q.number) (sym number) (holds modules ms ps p i (rest_of p.rest.now) q.number search first named) in
      subst (λ s. IsSearch modules (set ms q.number marks.Open) s × (work modules (set ms q.number marks.Open) s < work modules ms (p ∷ ps)))
      (sym (then_pushed ∙ ap (λ s. q ∷ s) first_pushed))
      (entered modules ms (r ∷ ps) q m.0 m.1 inside next back, less_entered modules ms ps p r q m.0 rest m.1 inside new)

-- ---- the start
all_new : (n k : ℕ) (a : Mark) → slice_get (replicate n marks.New) k ≡ Some a → marks.New ≡ a
all_new zero k a e = absurd (cc)
all_new (suc n) zero a e = cc
all_new (suc n) (suc k) a e = all_new n k a e

pub begun : (modules : List Netlist) (ms : List Mark) (n : ℕ) → ms ≡ replicate n marks.New → n ≡ length modules → IsSearch modules ms []
begun modules ms n e len =
    let start : IsSearch modules (replicate n marks.New) [] = record {
      count = length-replicate n marks.New ∙ len;
      done = λ k d. absurd (done_new (sym (all_new n k marks.Done d)));
      on = λ k d. absurd (open_new (sym (all_new n k marks.Open d)));
      places = tt;
      chain = tt;
    } in
    rw e start

-- a module is entered where no other is being looked through
pub first_entered : (modules : List Netlist) (ms : List Mark) (q : Visit) (stack new : List Visit) → slice_get ms q.number ≡ Some marks.New
    → IfSome (slice_get modules q.number) (λ m. q.rest.now ≡ m.instances) → stack ≡ [] → new ≡ q ∷ stack → IsSearch modules ms []
    → IsSearch modules (set ms q.number marks.Open) new
first_entered modules ms q stack new mark instances none pushed h =
    let m = element_at modules q.number (omega (arith, slice_get_within ms q.number marks.New mark, h.count)) in
    let inside : q.rest.now ≡ m.0.instances = rw m.1 at instances in
    subst (IsSearch modules (set ms q.number marks.Open)) (sym (pushed ∙ ap (λ s. q ∷ s) none)) (entered modules ms [] q m.0 m.1 inside tt h)

pub entered_met : (ms : List Mark) (n : ℕ) → slice_get (set ms n marks.Open) n ≡ Some marks.New → ⊥
entered_met ms n e = open_new (set_at ms n marks.Open marks.New e)

-- the modules so far and one more
pub finite_more : (modules : List Netlist) (n : ℕ) → ((k : ℕ) → k < n → IsFinite modules k) → IsFinite modules n → (k : ℕ) → k < n + 1 → IsFinite modules k
finite_more modules n all one k lt = elim (cases_eq k n) [
  | inl same ↦ subst (IsFinite modules) (sym same) one
  | inr other ↦ all k (omega (arith, lt, other))
]

pub finite_all : (modules : List Netlist) (n : ℕ) → length modules ≤ n → ((k : ℕ) → k < n → IsFinite modules k) → (k : ℕ) → IsFinite modules k
finite_all modules n h all k m there = all k (omega (arith, h, slice_get_within modules k m there)) m there
