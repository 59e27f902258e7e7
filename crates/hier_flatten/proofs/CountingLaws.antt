-- Counting, one turn after another.
use Rattle.std.proofs.Common.{◌≡◌, refl, ◌+◌, ◌<◌, List, [], ◌∷◌, ◌++◌, length, take, drop, replicate, is_some, true, false, Option, Some, None, sym, ap, ◌∙◌, subst, arith}
use Rattle.std.proofs.lemmas.List.{length-take-le, length-replicate}
use Rattle.name_numbers.specs.Names.{Text}
use Rattle.xt_model.specs.declared.fault.LimitKind.{LimitKind}
use Rattle.verilog_net.specs.declared.netlist.Instance.{Instance}
use Rattle.verilog_net.specs.declared.netlist.Netlist.{Netlist}
use Rattle.verilog_net.specs.declared.netlist.Wire.{Wire}
use Rattle.verilog_net.specs.declared.netlist.Wire.TheVariants as wires
use Rattle.verilog_net.specs.Nets.{Nets}
use Rattle.hier_flatten.specs.declared.below.Frame.{Frame}
use Rattle.hier_flatten.specs.declared.index.Next.{Next}
use Rattle.hier_flatten.specs.Hierarchy.{HasHierarchy, cells_before}
use Rattle.hier_flatten.specs.Flat.{Flat, ranges_of, Counts, counts_of, limit_of, prefix_below, wires_below, entered_below, own_nets, top_scope, at_top, built}
use Rattle.hier_flatten.specs.Walk.{scope_at, scope_of, IsEntered, IsNext, AreNested, CountedOn, Decides, work}
use Rattle.hier_flatten.proofs.BelowLaws.{path_free, ranges_added, top_ranges}
use Rattle.hier_flatten.proofs.GrowingLaws.{within}
use Rattle.hier_flatten.proofs.WalkLaws.{Walks, whole_path, ended, less_entered, enter_turn, passes, walk_begun, walk_carried, walk_failed, walked}
use Rattle.hier_flatten.proofs.RunLaws.{after_cells, with_cells, then_comes, run, run_met, run_passes, run_work, run_ended, few_before}

-- ---- one turn
module _ (modules : List Netlist) (f : Frame) (fs : List Frame) (counts one : Counts) (cells : List Instance)
    (front : cells ≡ take (cells_before modules f.rest.now) f.rest.now) (met : one ≡ record counts { met = counts.met + length cells }) where
  abbrev f1 : Frame
  f1 = after_cells modules f

  run_counts : one ≡ record counts { met = counts.met + cells_before modules f.rest.now }
  run_counts =
      met
      ∙ ap (λ k. record counts { met = counts.met + k })
      (ap length front ∙ length-take-le (cells_before modules f.rest.now) f.rest.now (few_before modules f.rest.now))

  -- the instances of cells were counted
  counted_run : (path : Text) (flat : Flat) → counts_of flat ≡ counts → counts_of (with_cells modules f path flat) ≡ one
  counted_run path flat counted =
      ap (λ n. record { ranges = ranges_of flat.nets; met = n }) (run_met modules f fs path flat)
      ∙ (ap (λ (k : Counts). record k { met = k.met + cells_before modules f.rest.now }) counted ∙ sym run_counts)

  pub one_met : one.met ≡ counts.met + cells_before modules f.rest.now
  one_met = ap (λ (k : Counts). k.met) run_counts

  pub count_ended : drop (cells_before modules f.rest.now) f.rest.now ≡ [] → CountedOn modules f fs counts fs one None × (work modules one fs < work modules counts (f ∷ fs))
  count_ended none = (turn, run_ended modules counts one f fs one_met)
    where
      turn : CountedOn modules f fs counts fs one None
      turn path flat counted len nested =
          let end : Flat = with_cells modules f path flat in
          record {
            path' = path;
            flat' = end;
            counted = counted_run path flat counted;
            nested = subst (λ n. AreNested n fs) (sym len) nested;
            comes = then_comes modules (f ∷ fs) (f1 ∷ fs) fs path path path flat end end (run modules f fs path flat) (ended modules f1 fs path end none);
          }

  module _ (n : Next) (next : IsNext modules (drop (cells_before modules f.rest.now) f.rest.now) n) where
    abbrev i : Instance
    i = n.instance.now

    abbrev m : Netlist
    m = n.«module».now

    pub count_passed : (what : LimitKind) (new : List Frame) (counts' : Counts) → limit_of one ≡ Some what → CountedOn modules f fs counts new counts' (Some what)
    count_passed what new counts' limit path flat counted =
        let end : Flat = with_cells modules f path flat in
        run_passes modules f fs path flat what
        (passes modules f1 fs path end i m n.more.instances.now next.first next.named what (ap limit_of (counted_run path flat counted) ∙ limit))

    -- an instance of a module
    pub count_entered : (g b : Frame) (ws : List Wire) (counts' : Counts) (pushed new : List Frame) → g.rest.now ≡ n.more.instances.now → g.path ≡ f.path
        → g.nets.now ≡ f.nets.now → g.meant.items ≡ f.meant.items → limit_of one ≡ None
        → ((prefix : Text) → ws ≡ wires_below one.ranges (scope_at prefix f) i m)
        → ((prefix : Text) → length prefix ≡ f.path → IsEntered one.ranges (scope_at prefix f) i m b)
        → counts' ≡ record { ranges = one.ranges ++ ranges_of (own_nets [] m.nets ws); met = one.met + 1 } → pushed ≡ g ∷ fs → new ≡ b ∷ pushed
        → CountedOn modules f fs counts new counts' None × (work modules counts' new < work modules counts (f ∷ fs))
    count_entered g b ws counts' pushed new more same nets meant limit connected made last to_g to_b =
        let inside : b.rest.now ≡ m.instances = (made (replicate f.path 0) (length-replicate f.path 0)).rest in
        let all : new ≡ b ∷ g ∷ fs = to_b ∙ ap (λ t. b ∷ t) to_g in
        let first : f1.rest.now ≡ i ∷ g.rest.now = next.first ∙ ap (λ r. i ∷ r) (sym more) in
        let less = less_entered modules one f1 fs g b i m counts' first inside next.named (ap (λ (c : Counts). c.met) last) (within one limit) in
        let before = run_work modules counts one f fs one_met in
        let both : CountedOn modules f fs counts (b ∷ g ∷ fs) counts' None × (work modules counts' (b ∷ g ∷ fs) < work modules counts (f ∷ fs)) =
        (turn, omega (arith, less, before)) in
        rw all both
      where
        turn : CountedOn modules f fs counts (b ∷ g ∷ fs) counts' None
        turn path flat counted len nested =
            let mid : Flat = with_cells modules f path flat in
            let counted1 : counts_of mid ≡ one = counted_run path flat counted in
            let s = scope_of path f in
            let end : Flat = entered_below mid s i m in
            let here : ranges_of flat.nets ≡ one.ranges = ap (λ (k : Counts). k.ranges) counted1 in
            let met : length mid.instances + flat.entered ≡ one.met = ap (λ (k : Counts). k.met) counted1 in
            let short : length s.prefix ≡ f.path = ap length (whole_path path f.path len) ∙ len in
            let entered : IsEntered (ranges_of flat.nets) s i m b = subst (λ r. IsEntered r s i m b) (sym here) (made s.prefix short) in
            let whole : ws ≡ wires_below (ranges_of flat.nets) s i m = connected s.prefix ∙ ap (λ r. wires_below r s i m) (sym here) in
            let added : Nets = own_nets (prefix_below s.prefix i.name) m.nets (wires_below (ranges_of flat.nets) s i m) in
            let own : ranges_of added ≡ ranges_of (own_nets [] m.nets ws) =
            path_free (prefix_below s.prefix i.name) [] m.nets (wires_below (ranges_of flat.nets) s i m) ∙ ap (λ w. ranges_of (own_nets [] m.nets w)) (sym whole) in
            let longer : ranges_of end.nets ≡ one.ranges ++ ranges_of (own_nets [] m.nets ws) =
            ranges_added flat.nets added ∙ (ap (λ r. r ++ ranges_of added) here ∙ ap (λ r. one.ranges ++ r) own) in
            let again : length mid.instances + (flat.entered + 1) ≡ one.met + 1 = omega (arith, met) in
            let counted' : counts_of end ≡ counts' =
            ap (λ r. record { ranges = r; met = length mid.instances + (flat.entered + 1) }) longer
            ∙ (ap (λ n. record { ranges = one.ranges ++ ranges_of (own_nets [] m.nets ws); met = n }) again ∙ sym last) in
            let step = enter_turn modules f1 fs path mid i g (next.first ∙ ap (λ r. i ∷ r) (sym more)) same nets meant b m (g ∷ fs) (b ∷ g ∷ fs)
            (prefix_below path i.name) end next.named
            (ap limit_of counted1 ∙ limit) len nested entered refl refl refl refl in
            record {
              path' = prefix_below path i.name;
              flat' = end;
              counted = counted';
              nested = step.1;
              comes = then_comes modules (f ∷ fs) (f1 ∷ fs) (b ∷ g ∷ fs) path path (prefix_below path i.name) flat mid end (run modules f fs path flat) step.0;
            }

-- ---- the whole walk
pub record IsCounting (modules : List Netlist) (top : Netlist) (stack : List Frame) (counts : Counts) : Type 0 where
  pub path : Text
  pub flat : Flat
  pub counted : counts_of flat ≡ counts
  pub nested : AreNested (length path) stack
  pub walks : Walks modules top stack path flat

pub count_begun : (modules : List Netlist) (top : Netlist) (f : Frame) (stack new : List Frame) (ws : List Wire) (start counts : Counts)
    → HasHierarchy modules top.instances → (scope_of [] f ≡ top_scope top) × (f.rest.now ≡ top.instances) × (f.path ≡ 0) → stack ≡ [] → new ≡ f ∷ stack
    → ws ≡ replicate (length top.nets) wires.Open → start ≡ record { ranges = []; met = 0 }
    → counts ≡ record start { ranges = start.ranges ++ ranges_of (own_nets [] top.nets ws) } → IsCounting modules top new counts
count_begun modules top f stack new ws start counts h frame none pushed unconnected nothing all =
    let begun = walk_begun modules top f stack new [] (at_top top) h frame none pushed refl refl in
    record {
      path = [];
      flat = at_top top;
      counted = sym (all
          ∙ (ap (λ (k : Counts). record k { ranges = k.ranges ++ ranges_of (own_nets [] top.nets ws) }) nothing
          ∙ (ap (λ w. record { ranges = ranges_of (own_nets [] top.nets w); met = 0 }) unconnected ∙ ap (λ r. record { ranges = r; met = 0 }) (top_ranges top.nets))));
      nested = begun.0;
      walks = begun.1;
    }

module _ (modules : List Netlist) (top : Netlist) (f : Frame) (stack fs new : List Frame) (counts counts' : Counts) (popped : stack ≡ f ∷ fs)
    (h : IsCounting modules top stack counts) where
  order : AreNested (length h.path) (f ∷ fs)
  order = subst (AreNested (length h.path)) popped h.nested

  cut_path : length (take f.path h.path) ≡ f.path
  cut_path = length-take-le f.path h.path order.0

  -- what the next turn answers
  pub count_carried : (o : Option LimitKind) → is_some o ≡ false → CountedOn modules f fs counts new counts' o → IsCounting modules top new counts'
  count_carried (Some what) isnt on = absurd (cc)
  count_carried None isnt on =
      let next = on (take f.path h.path) h.flat h.counted cut_path order.1 in
      record {
        path = next.path';
        flat = next.flat';
        counted = next.counted;
        nested = next.nested;
        walks = walk_carried modules top f stack fs new h.path (take f.path h.path) next.path' h.flat next.flat' popped refl h.nested h.walks next.comes;
      }

  pub count_failed : (o : Option LimitKind) → is_some o ≡ true → CountedOn modules f fs counts new counts' o → Decides modules top (built top) o
  count_failed None some on = absurd (cc)
  count_failed (Some what) some on =
      walk_failed modules top f stack fs h.path (take f.path h.path) h.flat what popped refl h.nested h.walks (on (take f.path h.path) h.flat h.counted)

pub counted_all : (modules : List Netlist) (top : Netlist) (stack : List Frame) (counts : Counts) → stack ≡ [] → IsCounting modules top stack counts
    → Decides modules top (built top) None
counted_all modules top stack counts none h = (h.flat, walked modules top h.path h.flat (subst (λ s. Walks modules top s h.path h.flat) none h.walks))
