-- Names below instances: where no module's instances share a name, and none of these has a `/`, no two flat ones are equal.
use Rattle.std.proofs.Common.{◌≡◌, refl, ℕ, zero, suc, ◌&&◌, ◌||◌, not, Bool, true, false, subst, List, [], ◌∷◌, ◌++◌, map, Option, Some, None, Ok, sym, ap, ◌∙◌}
use Rattle.std.specs.List.{AllByRecursion, list_any, list_all, slice_get}
use Rattle.std.specs.Str.{bytes_eq}
use Rattle.std.proofs.lemmas.Bool.{false≢true, or_parts}
use Rattle.std.proofs.lemmas.List.{append_assoc, append-nil, append_cancel_left, map-append}
use Rattle.std.proofs.lemmas.List.Folds.{list_any-append}
use Rattle.std.proofs.lemmas.Slice.Eq.{bytes_eq-Decides}
use Rattle.name_numbers.specs.Names.{Text, has_name}
use Rattle.xt_model.specs.Options as options
use Rattle.verilog_net.specs.declared.netlist.Instance.{Instance}
use Rattle.verilog_net.specs.declared.netlist.Netlist.{Netlist}
use Rattle.text_forms.proofs.Bytes.{each-append}
use Rattle.hier_flatten.specs.Hierarchy.{Hierarchy, ends, cell, inner, IsHierarchy, module_number, top_of}
use Rattle.hier_flatten.specs.Flat.{Scope, Flat, ranges_of, counts_of, flat_instance, limit_of, unless_passed, flat_below, prefix_below, scope_below, entered_below, top_scope, at_top, built}
use Rattle.hier_flatten.specs.Names.{is_repeated, is_slash, has_slash, has_plain_names}
use Rattle.hier_flatten.specs.Walk.{Builds}
use Rattle.hier_flatten.proofs.MeaningLaws.{top_has}
use Rattle.hier_flatten.proofs.FlatNetlists.{bind_parts, passed_parts}

abbrev names_of : List Instance → List Text
names_of is = map (λ i. i.name) is

-- ---- the first name of a path
abbrev IsTail : Text → Type 0
IsTail [] = Unit {0}
IsTail (byte ∷ more) = byte ≡ 47

not_slash : (byte : ℕ) → byte ≡ 47 → is_slash byte ≡ false → ⊥
not_slash byte is plain = false≢true (sym plain ∙ ap is_slash is)

same_first : (a b s t : Text) → has_slash a ≡ false → has_slash b ≡ false → IsTail s → IsTail t → a ++ s ≡ b ++ t → a ≡ b
same_first [] [] s t p q u v e = refl
same_first [] (y ∷ b) [] t p q u v e = absurd (cc)
same_first [] (y ∷ b) (x ∷ s) t p q u v e =
    let same : x ≡ y = cc in
    absurd (not_slash y (sym same ∙ u) (or_parts (is_slash y) (has_slash b) q).0)
same_first (x ∷ a) [] s [] p q u v e = absurd (cc)
same_first (x ∷ a) [] s (y ∷ t) p q u v e =
    let same : x ≡ y = cc in
    absurd (not_slash x (same ∙ v) (or_parts (is_slash x) (has_slash a) p).0)
same_first (x ∷ a) (y ∷ b) s t p q u v e =
    let same : x ≡ y = cc in
    let rest : a ++ s ≡ b ++ t = cc in
    ap (λ z. z ∷ a) same
    ∙ ap (λ z. y ∷ z) (same_first a b s t (or_parts (is_slash x) (has_slash a) p).1 (or_parts (is_slash y) (has_slash b) q).1 u v rest)

-- a name at or below one of these instances
record IsUnder (prefix : Text) (is : List Instance) (name : Text) : Type 0 where
  first : Text
  among : has_name first (names_of is) ≡ true
  plain : has_slash first ≡ false
  tail : Text
  slash : IsTail tail
  whole : name ≡ prefix ++ (first ++ tail)

or_second : (a b : Bool) → b ≡ true → (a || b) ≡ true
or_second true b e = refl
or_second false b e = e

under_more : (prefix : Text) (i : Instance) (is : List Instance) (names : List Text) → AllByRecursion (IsUnder prefix is) names
    → AllByRecursion (IsUnder prefix (i ∷ is)) names
under_more prefix i is [] h = tt
under_more prefix i is (n ∷ names) h = (
  record {
    first = h.0.first;
    among = or_second (bytes_eq h.0.first i.name) (has_name h.0.first (names_of is)) h.0.among;
    plain = h.0.plain;
    tail = h.0.tail;
    slash = h.0.slash;
    whole = h.0.whole;
  },
  under_more prefix i is names h.1,
)

here : (i : Instance) (is : List Instance) → has_name i.name (names_of (i ∷ is)) ≡ true
here i is = ap (λ b. b || has_name i.name (names_of is)) ((bytes_eq-Decides i.name i.name).1 refl)

-- names below a module's instance
under_inner : (prefix : Text) (i : Instance) (is inside : List Instance) (names : List Text) → has_slash i.name ≡ false
    → AllByRecursion (IsUnder (prefix_below prefix i.name) inside) names → AllByRecursion (IsUnder prefix (i ∷ is)) names
under_inner prefix i is inside [] plain h = tt
under_inner prefix i is inside (n ∷ names) plain h = (
  record {
    first = i.name;
    among = here i is;
    plain = plain;
    tail = 47 ∷ (h.0.first ++ h.0.tail);
    slash = refl;
    whole = h.0.whole
        ∙ (append_assoc prefix (i.name ++ 47 ∷ []) (h.0.first ++ h.0.tail)
        ∙ ap (λ t. prefix ++ t) (append_assoc i.name (47 ∷ []) (h.0.first ++ h.0.tail)));
  },
  under_inner prefix i is inside names plain h.1,
)

-- a name under one instance is none of those under others
module _ (prefix first tail : Text) (is : List Instance) (plain : has_slash first ≡ false) (slash : IsTail tail) (fresh : has_name first (names_of is) ≡ false) where
  other_name : (name n : Text) → name ≡ prefix ++ (first ++ tail) → IsUnder prefix is n → bytes_eq name n ≡ false
  other_name name n whole h = by (bytes_eq name n) refl
    where
      by : (b : Bool) → bytes_eq name n ≡ b → b ≡ false
      by false e = refl
      by true e =
          let same : name ≡ n = (bytes_eq-Decides name n).0 e in
          let rest : first ++ tail ≡ h.first ++ h.tail =
          append_cancel_left prefix (first ++ tail) (h.first ++ h.tail) (sym whole ∙ (same ∙ h.whole)) in
          let one : first ≡ h.first = same_first first h.first tail h.tail plain h.plain slash h.slash rest in
          absurd (false≢true (sym fresh ∙ (ap (λ f. has_name f (names_of is)) one ∙ h.among)))

  others_fresh : (name : Text) (names : List Text) → name ≡ prefix ++ (first ++ tail) → AllByRecursion (IsUnder prefix is) names → has_name name names ≡ false
  others_fresh name [] whole h = refl
  others_fresh name (n ∷ names) whole h =
      ap (λ b. b || has_name name names) (other_name name n whole h.0) ∙ others_fresh name names whole h.1

-- names that differ, and others that differ from these
repeated_both : (xs ys : List Text) → is_repeated xs ≡ false → is_repeated ys ≡ false → AllByRecursion (λ x. has_name x ys ≡ false) xs
    → is_repeated (xs ++ ys) ≡ false
repeated_both [] ys a b h = b
repeated_both (x ∷ xs) ys a b h =
    let parts = or_parts (has_name x xs) (is_repeated xs) a in
    ap (λ c. c || is_repeated (xs ++ ys)) (list_any-append (bytes_eq x) xs ys ∙ (ap (λ c. c || has_name x ys) parts.0 ∙ h.0))
    ∙ repeated_both xs ys parts.1 b h.1

-- ---- what is added below instances
record AreAdded (prefix : Text) (is : List Instance) (old new : Flat) : Type 0 where
  added : List Text
  names : names_of new.instances ≡ names_of old.instances ++ added
  under : AllByRecursion (IsUnder prefix is) added
  differ : is_repeated added ≡ false

record ArePlain (is : List Instance) : Type 0 where
  slashes : list_any (λ i. has_slash i.name) is ≡ false
  differ : is_repeated (names_of is) ≡ false

and_parts : (a b : Bool) → (a && b) ≡ true → (a ≡ true) × (b ≡ true)
and_parts true b e = (refl, e)
and_parts false b e = absurd (false≢true e)

not_true : (b : Bool) → not b ≡ true → b ≡ false
not_true false e = refl
not_true true e = absurd (false≢true e)

plain_in : (m : Netlist) → has_plain_names m ≡ true → ArePlain m.instances
plain_in m e =
    let parts = and_parts (not (list_any (λ i. has_slash i.name) m.instances)) (not (is_repeated (names_of m.instances))) e in
    record {
      slashes = not_true (list_any (λ i. has_slash i.name) m.instances) parts.0;
      differ = not_true (is_repeated (names_of m.instances)) parts.1;
    }

all_plain : (ms : List Netlist) → list_all has_plain_names ms ≡ true → AllByRecursion (λ m. has_plain_names m ≡ true) ms
all_plain [] e = tt
all_plain (m ∷ ms) e = let parts = and_parts (has_plain_names m) (list_all has_plain_names ms) e in (parts.0, all_plain ms parts.1)

plain_at : (ms : List Netlist) (k : ℕ) (m : Netlist) → AllByRecursion (λ m. has_plain_names m ≡ true) ms → slice_get ms k ≡ Some m → has_plain_names m ≡ true
plain_at [] k m h e = absurd (cc)
plain_at (n ∷ ms) zero m h e = let same : n ≡ m = cc in rw same at h.0
plain_at (n ∷ ms) (suc k) m h e = plain_at ms k m h.1 e

module _ (modules : List Netlist) (plain : AllByRecursion (λ m. has_plain_names m ≡ true) modules) where
  module_plain : (o : Option ℕ) (m : Netlist) → options.◌>>=◌ o (slice_get modules) ≡ Some m → ArePlain m.instances
  module_plain None m e = absurd (cc)
  module_plain (Some k) m e = plain_in m (plain_at modules k m plain e)

  below_added : (h : Hierarchy) (is : List Instance) (s : Scope) (flat new : Flat) → IsHierarchy modules is h → ArePlain is → flat_below h s flat ≡ Ok new
      → AreAdded s.prefix is flat new
  below_added ends [] s flat new t p e =
      let same : flat ≡ new = cc in
      record { added = []; names = ap (λ (f : Flat). names_of f.instances) (sym same) ∙ sym (append-nil (names_of flat.instances)); under = tt; differ = refl }
  below_added ends (i ∷ is) s flat new t p e = absurd t
  below_added (cell j more) [] s flat new t p e = absurd t
  below_added (cell j more) (i ∷ is) s flat new t p e =
      let slashes = or_parts (has_slash i.name) (list_any (λ i. has_slash i.name) is) p.slashes in
      let names = or_parts (has_name i.name (names_of is)) (is_repeated (names_of is)) p.differ in
      let made : Instance = flat_instance (ranges_of flat.nets) s j in
      let rest = below_added more is s (record flat { instances = flat.instances ++ made ∷ [] }) new t.2 (record { slashes = slashes.1; differ = names.1 }) e in
      let whole : made.name ≡ s.prefix ++ (i.name ++ []) = ap (λ (k : Instance). s.prefix ++ k.name) (sym t.0) ∙ ap (λ n. s.prefix ++ n) (sym (append-nil i.name)) in
      record {
        added = made.name ∷ rest.added;
        names = rest.names
            ∙ (ap (λ ns. ns ++ rest.added) (map-append (λ (k : Instance). k.name) flat.instances (made ∷ []))
            ∙ append_assoc (names_of flat.instances) (made.name ∷ []) rest.added);
        under = (record { first = i.name; among = here i is; plain = slashes.0; tail = []; slash = tt; whole = whole }, under_more s.prefix i is rest.added rest.under);
        differ = ap (λ b. b || is_repeated rest.added) (others_fresh s.prefix i.name [] is slashes.0 tt names.0 made.name rest.added whole rest.under) ∙ rest.differ;
      }
  below_added (inner j m below more) [] s flat new t p e = absurd t
  below_added (inner j m below more) (i ∷ is) s flat new t p e =
      let slashes = or_parts (has_slash i.name) (list_any (λ i. has_slash i.name) is) p.slashes in
      let names = or_parts (has_name i.name (names_of is)) (is_repeated (names_of is)) p.differ in
      let entered : Flat = entered_below flat s j m in
      let scope : Scope = scope_below (ranges_of flat.nets) s j m in
      let parts = bind_parts (unless_passed (limit_of (counts_of flat)) (flat_below below scope entered)) (flat_below more s) new e in
      let inside = below_added below m.instances scope entered parts.0 t.2 (module_plain (module_number modules i.cell) m t.1)
      (passed_parts (limit_of (counts_of flat)) (flat_below below scope entered) parts.0 parts.1) in
      let rest = below_added more is s parts.0 new t.3 (record { slashes = slashes.1; differ = names.1 }) parts.2 in
      let here_under : AllByRecursion (IsUnder (prefix_below s.prefix i.name) m.instances) inside.added =
      subst (λ (k : Instance). AllByRecursion (IsUnder (prefix_below s.prefix k.name) m.instances) inside.added) (sym t.0) inside.under in
      record {
        added = inside.added ++ rest.added;
        names = rest.names ∙ (ap (λ ns. ns ++ rest.added) inside.names ∙ append_assoc (names_of flat.instances) inside.added rest.added);
        under = each-append (IsUnder s.prefix (i ∷ is)) inside.added rest.added (under_inner s.prefix i is m.instances inside.added slashes.0 here_under)
            (under_more s.prefix i is rest.added rest.under);
        differ = repeated_both inside.added rest.added inside.differ rest.differ (apart inside.added here_under slashes.0 names.0 rest.added rest.under);
      }
    where
      apart : (xs : List Text) → AllByRecursion (IsUnder (prefix_below s.prefix i.name) m.instances) xs → has_slash i.name ≡ false
          → has_name i.name (names_of is) ≡ false → (ys : List Text) → AllByRecursion (IsUnder s.prefix is) ys → AllByRecursion (λ x. has_name x ys ≡ false) xs
      apart [] h plain fresh ys k = tt
      apart (x ∷ xs) h plain fresh ys k = (
        others_fresh s.prefix i.name (47 ∷ (h.0.first ++ h.0.tail)) is plain refl fresh x ys
            (h.0.whole
            ∙ (append_assoc s.prefix (i.name ++ 47 ∷ []) (h.0.first ++ h.0.tail)
            ∙ ap (λ t. s.prefix ++ t) (append_assoc i.name (47 ∷ []) (h.0.first ++ h.0.tail))))
            k,
        apart xs h.1 plain fresh ys k,
      )

-- no two instances of the flat netlist have one name
pub apart_below : (modules : List Netlist) (top : Netlist) (flat : Flat) → top_of modules ≡ Some top → list_all has_plain_names modules ≡ true
    → Builds modules top (built top) (Ok flat) → is_repeated (map (λ i. i.name) flat.instances) ≡ false
unfolding built
apart_below modules top flat one plain (h, is, e) =
    let each = all_plain modules plain in
    let a = below_added modules each h top.instances (top_scope top) (at_top top) flat is
    (plain_in top (top_has (λ m. has_plain_names m ≡ true) modules top each one)) e in
    ap is_repeated a.names ∙ a.differ
