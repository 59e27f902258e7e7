-- A flat netlist of sound modules is sound to be linked.
use Rattle.std.specs.Prelude.{◌≡◌, refl, ℕ, ◌<◌, ◌≤◌, ◌||◌, ◌&&◌, Bool, true, false, List, [], ◌∷◌, ◌++◌, length, map}
use Rattle.std.specs.Prelude.{Option, Some, None, IfSome, Result, Ok, Err, IfOk, if◌then◌else◌}
use Rattle.std.specs.List.{All, AllByRecursion, list_any, slice_get}
use Rattle.std.specs.Str.{bytes_eq}
use Rattle.std.proofs.Common.{arith, sym, ap, ◌∙◌, subst, inl, inr}
use Rattle.std.proofs.lemmas.Bool.{false≢true, ltb-false, or_parts}
use Rattle.std.proofs.lemmas.List.{length-append}
use Rattle.std.proofs.lemmas.List.Elements.{All-from_recursion, recursion_from_All}
use Rattle.std.proofs.lemmas.Slice.Eq.{bytes_eq-Decides}
use Rattle.name_numbers.specs.Names.{Text, has_name}
use Rattle.xt_model.specs.Limits.{most_text_name}
use Rattle.xt_model.specs.Options as options
use Rattle.xt_model.specs.Results.{◌>>=◌}
use Rattle.xt_model.specs.declared.fault.LimitKind.{LimitKind}
use Rattle.verilog_net.specs.declared.netlist.Net.{Net}
use Rattle.verilog_net.specs.declared.netlist.Instance.{Instance}
use Rattle.verilog_net.specs.declared.netlist.Netlist.{Netlist}
use Rattle.verilog_net.specs.declared.netlist.Wire.{Wire}
use Rattle.verilog_net.specs.declared.netlist.Wire.TheVariants as wires
use Rattle.verilog_net.specs.Nets.{Nets, NetBit, most_bit, named_bit}
use Rattle.xt_model.specs.declared.code.Code.TheVariants.{V1, V5}
use Rattle.hier_flatten.specs.declared.fault.FlatFault.TheVariants as faults
use Rattle.hier_flatten.specs.Hierarchy.{Hierarchy, ends, cell, inner, IsHierarchy, module_number, top_of}
use Rattle.hier_flatten.specs.Fits.{misfit}
use Rattle.hier_flatten.specs.Flat.{Scope, Flat, Ranges, ranges_of, counts_of, flat_instance, flat_pins, own_of, own_nets, prefix_below, wires_below, scope_below, entered_below, limit_of, unless_passed, flat_below, top_scope, at_top, built}
use Rattle.hier_flatten.specs.Names.{is_repeated, is_some_bit, is_scalar, has_bit_name, has_equal_names, is_long, has_long_name}
use Rattle.hier_flatten.specs.Meaning.{Outcome, named, within_limits, TopMeans, HierarchyMeans, circular, finite, unless_misfit, FlatMeans, AnswersFlat}
use Rattle.hier_flatten.proofs.MeaningLaws.{top_has}
use Rattle.text_forms.specs.Names.{IsShortName}
use Rattle.verilog_net.specs.Sound.{IsSoundInstance, IsSoundNetlist}
use Rattle.verilog_net.specs.Sound.{IsSoundModule}
use Rattle.text_forms.proofs.Bytes.{each-append, each_push, each_at}
use Rattle.verilog_net.proofs.OwnNames.{Shape, shapes, Has, AreNamedApart, IsDistinct, AreDistinct, IsBounded, bit_unknown}
use Rattle.verilog_net.proofs.SoundNetlists.{own_names}

-- ---- names
abbrev IsPlain : ℕ → Type 0
IsPlain b = (33 ≤ b) × (b ≤ 126)

-- at least one byte, and printable ones alone
record IsPrinted (name : Text) : Type 0 where
  some : 0 < length name
  printable : AllByRecursion IsPlain name

printed : (name : Text) → IsShortName name → IsPrinted name
printed name h = record { some = h.name.some; printable = recursion_from_All IsPlain name h.name.printable }

short : (name : Text) → IsPrinted name → length name ≤ most_text_name → IsShortName name
short name h le = record {
  name = record { some = h.some; short = omega (arith, le); printable = All-from_recursion IsPlain name h.printable };
  short = le;
}

printed_below : (prefix name : Text) → AllByRecursion IsPlain prefix → IsPrinted name → IsPrinted (prefix ++ name)
printed_below prefix name p h = record {
  some = omega (arith, length-append prefix name, h.some);
  printable = each-append IsPlain prefix name p h.printable;
}

prefix_printed : (prefix name : Text) → AllByRecursion IsPlain prefix → IsPrinted name → AllByRecursion IsPlain (prefix_below prefix name)
prefix_printed prefix name p h = each-append IsPlain prefix (name ++ 47 ∷ []) p (each_push IsPlain name 47 h.printable (omega arith, omega arith))

-- ---- nets and instances as they are added
abbrev IsInBounds : Option (ℕ × ℕ) → Type 0
IsInBounds o = IfSome o (λ r. (r.0 ≤ most_bit) × (r.1 ≤ most_bit))

record IsGoodNet (net : Text × Net) : Type 0 where
  name : IsPrinted net.0
  range : IsInBounds net.1.range

record IsGoodInstance (i : Instance) : Type 0 where
  cell : IsShortName i.cell
  name : IsPrinted i.name
  pins : AllByRecursion (λ p. IsShortName p.0) i.pins

record IsGood (flat : Flat) : Type 0 where
  nets : AllByRecursion IsGoodNet flat.nets
  instances : AllByRecursion IsGoodInstance flat.instances

good_nets : (m : Netlist) → IsSoundModule m → AllByRecursion IsGoodNet m.nets
good_nets m h = both m.nets (recursion_from_All (λ net. IsShortName net.0) m.nets h.nets) (recursion_from_All (λ net. IsInBounds net.1.range) m.nets h.ranges)
  where
    both : (nets : Nets) → AllByRecursion (λ net. IsShortName net.0) nets → AllByRecursion (λ net. IsInBounds net.1.range) nets → AllByRecursion IsGoodNet nets
    both [] a b = tt
    both (net ∷ nets) a b = (record { name = printed net.0 a.0; range = b.0 }, both nets a.1 b.1)

own_good : (prefix : Text) (nets : Nets) (ws : List Wire) → AllByRecursion IsPlain prefix → AllByRecursion IsGoodNet nets → AllByRecursion IsGoodNet (own_nets prefix nets ws)
own_good prefix [] ws p h = tt
own_good prefix (net ∷ nets) [] p h = tt
own_good prefix (net ∷ nets) (w ∷ ws) p h =
    each-append IsGoodNet (own_of prefix net w) (own_nets prefix nets ws) (one w) (own_good prefix nets ws p h.1)
  where
    one : (w : Wire) → AllByRecursion IsGoodNet (own_of prefix net w)
    one wires.Open = (record { name = printed_below prefix net.0 p h.0.name; range = h.0.range }, tt)
    one wires.Constant = tt
    one (wires.Bit decl bit) = tt
    one (wires.Whole decl) = tt

pins_good : (flat : Ranges) (nets : Nets) (meant : List Wire) (pins : List (Text × Wire)) → AllByRecursion (λ p. IsShortName p.0) pins
    → AllByRecursion (λ p. IsShortName p.0) (flat_pins flat nets meant pins)
pins_good flat nets meant [] h = tt
pins_good flat nets meant (p ∷ pins) h = (h.0, pins_good flat nets meant pins h.1)

instance_good : (flat : Ranges) (s : Scope) (i : Instance) → AllByRecursion IsPlain s.prefix → IsSoundInstance i → IsGoodInstance (flat_instance flat s i)
instance_good flat s i p h = record {
  cell = h.cell;
  name = printed_below s.prefix i.name p (printed i.name h.name);
  pins = pins_good flat s.nets s.meant i.pins (recursion_from_All (λ p. IsShortName p.0) i.pins h.pins);
}

-- ---- a flat netlist that is made, step by step
pub bind_parts : (r : Result Flat LimitKind) (f : Flat → Result Flat LimitKind) (x : Flat) → (r >>= f) ≡ Ok x → (y : Flat) × (r ≡ Ok y) × (f y ≡ Ok x)
bind_parts (Ok y) f x e = (y, refl, e)
bind_parts (Err l) f x e = absurd (cc)

pub passed_parts : (o : Option LimitKind) (r : Result Flat LimitKind) (x : Flat) → unless_passed o r ≡ Ok x → r ≡ Ok x
passed_parts None r x e = e
passed_parts (Some what) r x e = absurd (cc)

module _ (modules : List Netlist) (sound : All IsSoundModule modules) where
  module_sound : (o : Option ℕ) (m : Netlist) → options.◌>>=◌ o (slice_get modules) ≡ Some m → IsSoundModule m
  module_sound None m e = absurd (cc)
  module_sound (Some k) m e = each_at IsSoundModule modules k m (recursion_from_All IsSoundModule modules sound) e

  below_good : (h : Hierarchy) (is : List Instance) (s : Scope) (flat new : Flat) → IsHierarchy modules is h → AllByRecursion IsSoundInstance is
      → AllByRecursion IsPlain s.prefix → IsGood flat → flat_below h s flat ≡ Ok new → IsGood new
  below_good ends [] s flat new t all p good e = let same : flat ≡ new = cc in rw same at good
  below_good ends (i ∷ is) s flat new t all p good e = absurd t
  below_good (cell j more) [] s flat new t all p good e = absurd t
  below_good (cell j more) (i ∷ is) s flat new t all p good e =
      let one : IsGoodInstance (flat_instance (ranges_of flat.nets) s j) = subst (λ k. IsGoodInstance (flat_instance (ranges_of flat.nets) s k)) t.0 (instance_good (ranges_of flat.nets) s i p all.0) in
      below_good more is s (record flat { instances = flat.instances ++ flat_instance (ranges_of flat.nets) s j ∷ [] }) new t.2 all.1 p
      (record { nets = good.nets; instances = each_push IsGoodInstance flat.instances (flat_instance (ranges_of flat.nets) s j) good.instances one }) e
  below_good (inner j m below more) [] s flat new t all p good e = absurd t
  below_good (inner j m below more) (i ∷ is) s flat new t all p good e =
      let inside = module_sound (module_number modules i.cell) m t.1 in
      let name : IsPrinted j.name = subst (λ k. IsPrinted k.name) t.0 (printed i.name all.0.name) in
      let way = prefix_printed s.prefix j.name p name in
      let parts = bind_parts (unless_passed (limit_of (counts_of flat)) (flat_below below (scope_below (ranges_of flat.nets) s j m) (entered_below flat s j m))) (flat_below more s) new e in
      let added = own_good (prefix_below s.prefix j.name) m.nets (wires_below (ranges_of flat.nets) s j m) way (good_nets m inside) in
      let entered : IsGood (entered_below flat s j m) = record {
        nets = each-append IsGoodNet flat.nets (own_nets (prefix_below s.prefix j.name) m.nets (wires_below (ranges_of flat.nets) s j m)) good.nets added;
        instances = good.instances;
      } in
      let middle = below_good below m.instances (scope_below (ranges_of flat.nets) s j m) (entered_below flat s j m) parts.0 t.2
      (recursion_from_All IsSoundInstance m.instances inside.instances) way entered
      (passed_parts (limit_of (counts_of flat)) (flat_below below (scope_below (ranges_of flat.nets) s j m) (entered_below flat s j m)) parts.0 parts.1) in
      below_good more is s parts.0 new t.3 all.1 p middle parts.2

  built_good : (top : Netlist) (h : Hierarchy) (flat : Flat) → IsSoundModule top → IsHierarchy modules top.instances h → built top h ≡ Ok flat → IsGood flat
  unfolding built
  built_good top h flat top_sound is e =
      below_good h top.instances (top_scope top) (at_top top) flat is (recursion_from_All IsSoundInstance top.instances top_sound.instances) tt
      (record { nets = good_nets top top_sound; instances = tt }) e

-- ---- names of their own
and_second : (a b : Bool) → (a && b) ≡ false → a ≡ true → b ≡ false
and_second true b e h = e
and_second false b e h = absurd (false≢true h)

others : (name : Text) (nets : Nets) → has_name name (map (λ net. net.0) nets) ≡ false → AllByRecursion (λ t. name ≡ t.0 → ⊥) (shapes nets)
others name [] e = tt
others name (net ∷ nets) e =
    let parts = or_parts (bytes_eq name net.0) (has_name name (map (λ n. n.0) nets)) e in
    ((λ same. false≢true (sym parts.0 ∙ (bytes_eq-Decides name net.0).1 same)), others name nets parts.1)

all_apart : (nets : Nets) → is_repeated (map (λ net. net.0) nets) ≡ false → AreNamedApart (shapes nets)
all_apart [] e = tt
all_apart (net ∷ nets) e =
    let parts = or_parts (has_name net.0 (map (λ n. n.0) nets)) (is_repeated (map (λ n. n.0) nets)) e in
    (others net.0 nets parts.0, all_apart nets parts.1)

no_bit : (o : Option NetBit) → is_some_bit o ≡ false → o ≡ None
no_bit None e = refl
no_bit (Some bit) e = absurd (false≢true (sym e))

bounded : (o : Option (ℕ × ℕ)) → IsInBounds o → IsBounded o
bounded None h r e = absurd (cc)
bounded (Some q) h r e = let same : q ≡ r = cc in rw same at h

all_bounded : (nets : Nets) → AllByRecursion IsGoodNet nets → AllByRecursion (λ t. IsBounded t.1) (shapes nets)
all_bounded [] h = tt
all_bounded (net ∷ nets) h = (bounded net.1.range h.0.range, all_bounded nets h.1)

-- a net of one bit does not have the name of a bit
record IsUnnamed (all : Nets) (t : Shape) : Type 0 where
  free : t.1 ≡ None → named_bit t.0 all ≡ None

unnamed : (all nets : Nets) → list_any (has_bit_name all) nets ≡ false → AllByRecursion (IsUnnamed all) (shapes nets)
unnamed all [] e = tt
unnamed all (net ∷ nets) e =
    let parts = or_parts (has_bit_name all net) (list_any (has_bit_name all) nets) e in (
      record { free = λ none. no_bit (named_bit net.0 all) (and_second (is_scalar net.1.range) (is_some_bit (named_bit net.0 all)) parts.0 (ap is_scalar none)) },
      unnamed all nets parts.1,
    )

module _ (all : Nets) (apart : AreNamedApart (shapes all)) where
  distinct_from : (s : Shape) (ts : List Shape) → Has s (shapes all) → IsBounded s.1 → IsUnnamed all s → ((t : Shape) → Has t ts → Has t (shapes all))
      → AllByRecursion (λ t. s.0 ≡ t.0 → ⊥) ts → AllByRecursion (λ t. IsBounded t.1) ts → AllByRecursion (IsUnnamed all) ts → AllByRecursion (IsDistinct s) ts
  distinct_from s [] at b u within d bs us = tt
  distinct_from s (t ∷ ts) at b u within d bs us = (
    record {
      differ = d.0;
      first = λ none. bit_unknown t.0 all s apart at b (us.0.free none);
      second = λ none. bit_unknown s.0 all t apart (within t (inl refl)) bs.0 (u.free none);
    },
    distinct_from s ts at b u (λ r h. within r (inr h)) d.1 bs.1 us.1,
  )

  all_distinct : (ss : List Shape) → ((t : Shape) → Has t ss → Has t (shapes all)) → AreNamedApart ss → AllByRecursion (λ t. IsBounded t.1) ss
      → AllByRecursion (IsUnnamed all) ss → AreDistinct ss
  all_distinct [] within d b u = tt
  all_distinct (s ∷ ss) within d b u =
      (distinct_from s ss (within s (inl refl)) b.0 u.0 (λ t h. within t (inr h)) d.0 b.1 u.1, all_distinct ss (λ t h. within t (inr h)) d.1 b.1 u.1)

-- ---- the netlist
short_nets : (nets : Nets) → AllByRecursion IsGoodNet nets → list_any (λ net. is_long net.0) nets ≡ false → AllByRecursion (λ net. IsShortName net.0) nets
short_nets [] h e = tt
short_nets (net ∷ nets) h e =
    let parts = or_parts (is_long net.0) (list_any (λ n. is_long n.0) nets) e in
    (short net.0 h.0.name (ltb-false most_text_name (length net.0) parts.0), short_nets nets h.1 parts.1)

short_instances : (is : List Instance) → AllByRecursion IsGoodInstance is → list_any (λ i. is_long i.name) is ≡ false → AllByRecursion IsSoundInstance is
short_instances [] h e = tt
short_instances (i ∷ is) h e =
    let parts = or_parts (is_long i.name) (list_any (λ j. is_long j.name) is) e in (
      record {
        cell = h.0.cell;
        name = short i.name h.0.name (ltb-false most_text_name (length i.name) parts.0);
        pins = All-from_recursion (λ p. IsShortName p.0) i.pins h.0.pins;
      },
      short_instances is h.1 parts.1,
    )

good_sound : (name : Text) (flat : Flat) → IsGood flat → has_equal_names flat.nets flat.instances ≡ false → has_long_name flat.nets flat.instances ≡ false
    → IsSoundNetlist (record { «module» = name; nets = flat.nets; instances = flat.instances })
unfolding has_equal_names has_long_name
good_sound name flat good equal long =
    let names = or_parts (is_repeated (map (λ net. net.0) flat.nets)) (list_any (has_bit_name flat.nets) flat.nets || is_repeated (map (λ i. i.name) flat.instances)) equal in
    let bits = or_parts (list_any (has_bit_name flat.nets) flat.nets) (is_repeated (map (λ i. i.name) flat.instances)) names.1 in
    let lengths = or_parts (list_any (λ net. is_long net.0) flat.nets) (list_any (λ i. is_long i.name) flat.instances) long in
    let apart = all_apart flat.nets names.0 in
    let ranges = all_bounded flat.nets good.nets in
    let m : Netlist = record { «module» = name; nets = flat.nets; instances = flat.instances } in
    record {
      nets = All-from_recursion (λ net. IsShortName net.0) flat.nets (short_nets flat.nets good.nets lengths.0);
      own = own_names m (all_distinct flat.nets apart (shapes flat.nets) (λ t h. h) apart ranges (unnamed flat.nets flat.nets bits.0)) ranges;
      instances = All-from_recursion IsSoundInstance flat.instances (short_instances flat.instances good.instances lengths.1);
    }

named_sound : (last : ℕ) (top : Netlist) (flat : Flat) (n : Netlist) → IsGood flat → named last top flat ≡ Ok n → IsSoundNetlist n
named_sound last top flat n good e = by (has_equal_names flat.nets flat.instances) refl (has_long_name flat.nets flat.instances) refl e
  where
    by : (a : Bool) → has_equal_names flat.nets flat.instances ≡ a → (b : Bool) → has_long_name flat.nets flat.instances ≡ b
        → ◌≡◌ {A = Outcome} (if a then Err (faults.Refused last V5) else if b then Err (faults.Refused last V1)
        else Ok (record { «module» = top.«module»; nets = flat.nets; instances = flat.instances })) (Ok n) → IsSoundNetlist n
    by true equal b long e = absurd (cc)
    by false equal true long e = absurd (cc)
    by false equal false long e =
        let whole : Netlist = record { «module» = top.«module»; nets = flat.nets; instances = flat.instances } in
        let same : whole ≡ n = cc in
        subst IsSoundNetlist same (good_sound top.«module» flat good equal long)

-- ---- the modules of a text
module _ (modules : List Netlist) (sound : All IsSoundModule modules) (last : ℕ) (n : Netlist) where
  top_sound : (top : Netlist) → top_of modules ≡ Some top → IsSoundModule top
  top_sound top e = top_has IsSoundModule modules top (recursion_from_All IsSoundModule modules sound) e

  limits_sound : (top : Netlist) (h : Hierarchy) → IsSoundModule top → IsHierarchy modules top.instances h → (r : Result Flat LimitKind) → built top h ≡ r
      → Ok n ≡ within_limits last top r → IsSoundNetlist n
  limits_sound top h inside is (Err what) at e = absurd (cc)
  limits_sound top h inside is (Ok flat) at e = named_sound last top flat n (built_good modules sound top h flat inside is at) (sym e)

  top_means : (t : Option Netlist) → top_of modules ≡ t → TopMeans modules last t (Ok n) → IsSoundNetlist n
  top_means None at e = absurd (cc)
  top_means (Some top) at (h, is, e) = limits_sound top h (top_sound top at) is (built top h) refl e

  hierarchy_means : HierarchyMeans modules last (Ok n) → IsSoundNetlist n
  hierarchy_means (circular some e) = absurd (cc)
  hierarchy_means (finite none t) = top_means (top_of modules) refl t

  misfit_means : (m : Option ℕ) → unless_misfit m modules last (Ok n) → IsSoundNetlist n
  misfit_means (Some line) e = absurd (cc)
  misfit_means None h = hierarchy_means h

  -- a flat netlist is sound to be linked
  pub flat_sound : FlatMeans modules last (Ok n) → IsSoundNetlist n
  unfolding FlatMeans
  flat_sound h = misfit_means (misfit modules) h

-- ---- the answers
pub flat_answer : (modules : List Netlist) → All IsSoundModule modules → (last : ℕ) (r : Outcome) → AnswersFlat r (FlatMeans modules last) → IfOk r IsSoundNetlist
flat_answer modules sound last (Ok n) h = flat_sound modules sound last n h
flat_answer modules sound last (Err fault) h = tt
