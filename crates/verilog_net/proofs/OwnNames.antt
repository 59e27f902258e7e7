-- No two nets of a netlist, and no two bits, have the same name.
use Rattle.std.specs.Prelude.{◌≡◌, refl, ℕ, suc, ◌+◌, ◌≤◌, nat_le, nat_lt, ◌&&◌, Bool, true, false, not, List, [], ◌∷◌, ◌++◌, length, take, map}
use Rattle.std.specs.Prelude.{Option, Some, None, if◌then◌else◌}
use Rattle.std.specs.List.{AllByRecursion, slice_get, position_or_len, list_any}
use Rattle.std.specs.Str.{bytes_eq}
use Rattle.std.proofs.Common.{arith, sym, ap, ◌∙◌, cond, ◌⊎◌, inl, inr}
use Rattle.std.proofs.Math.Numerals.{one-add}
use Rattle.std.proofs.lemmas.Bool.{cond_both, lt-ltb, le-ltb, cases_lt, false≢true, false_from_ne_true, and_parts, or_left, or_right, or_cases, leb-true}
use Rattle.std.proofs.lemmas.List.{take_at}
use Rattle.std.proofs.lemmas.Slice.Eq.{bytes_eq-Decides}
use Rattle.xt_model.specs.Options.{◌>>=◌}
use Rattle.name_numbers.specs.Names.{Text, found, value_of, with_value}
use Rattle.verilog_net.specs.declared.netlist.Net.{Net}
use Rattle.text_forms.specs.Names.{is_name}
use Rattle.text_forms.proofs.Bytes.{each_push, each-weaker}
use Rattle.verilog_net.specs.Nets.{Nets, most_bit, has_bit, named_bit, bit_from, BitNets, bit_nets_of, with_bit_net, with_net_at, with_net, has_bit_net}
use Rattle.name_numbers.proofs.FoundLaws.{entry, entry_at}
use Rattle.verilog_net.proofs.BitNames.{tail, found_bit}

-- ---- what is in a list
module _ {X : Type 0} where
  abbrev pub Has : X → List X → Type 0
  Has x [] = ⊥
  Has x (y ∷ ys) = (y ≡ x) ⊎ Has x ys

  pub each_of : (P : X → Type 0) (xs : List X) (x : X) → AllByRecursion P xs → Has x xs → P x
  each_of P [] x a h = absurd h
  each_of P (y ∷ ys) x a (inl e) = rw e at a.0
  each_of P (y ∷ ys) x a (inr h) = each_of P ys x a.1 h

  pub all_by : (P : X → Type 0) (xs : List X) → ((x : X) → Has x xs → P x) → AllByRecursion P xs
  all_by P [] f = tt
  all_by P (x ∷ xs) f = (f x (inl refl), all_by P xs (λ y h. f y (inr h)))

  pub has_push : (x : X) (xs : List X) (y : X) → Has x xs → Has x (xs ++ y ∷ [])
  has_push x [] y h = absurd h
  has_push x (z ∷ xs) y (inl e) = inl e
  has_push x (z ∷ xs) y (inr h) = inr (has_push x xs y h)

  pub has_last : (xs : List X) (y : X) → Has y (xs ++ y ∷ [])
  has_last [] y = inl refl
  has_last (z ∷ xs) y = inr (has_last xs y)

  some_of : (p : X → Bool) (xs : List X) (x : X) → Has x xs → p x ≡ true → list_any p xs ≡ true
  some_of p [] x h t = absurd h
  some_of p (y ∷ ys) x (inl same) t = or_left (p y) (list_any p ys) (ap p same ∙ t)
  some_of p (y ∷ ys) x (inr h) t = or_right (p y) (list_any p ys) (some_of p ys x h t)

same_text : (a b : Text) → bytes_eq a b ≡ true → a ≡ b
same_text a b e = (bytes_eq-Decides a b).0 e

other_text : (a b : Text) → (a ≡ b → ⊥) → bytes_eq a b ≡ false
other_text a b d = false_from_ne_true (bytes_eq a b) (λ e. d (same_text a b e))

-- ---- what is found, along the list
module _ {V : Type 0} where
  abbrev pub later : Option (ℕ × V) → Option (ℕ × V)
  later None = None
  later (Some r) = Some (1 + r.0, r.1)

  later_got : (n : ℕ) (o : Option (Text × V)) → (o >>= entry (1 + n)) ≡ later (o >>= entry n)
  later_got n None = refl
  later_got n (Some e) = refl

  module _ (e : Text × V) (more : List (Text × V)) where
    later_at : (n : ℕ) → (slice_get (e ∷ more) (1 + n) >>= entry (1 + n)) ≡ later (slice_get more n >>= entry n)
    later_at n = ap (λ i. slice_get (e ∷ more) i >>= entry (1 + n)) (one-add n) ∙ later_got n (slice_get more n)

    later_if : (n : ℕ) (b : Bool)
        → ((if b then Some (1 + n) else None) >>= entry_at (e ∷ more)) ≡ later ((if b then Some n else None) >>= entry_at more)
    later_if n true = later_at n
    later_if n false = refl

    less_by : (n m : ℕ) → nat_lt (1 + n) (suc m) ≡ nat_lt n m
    less_by n m = elim (cases_lt n m) [
      | inl lt ↦ lt-ltb (1 + n) (suc m) (omega (arith, lt)) ∙ sym (lt-ltb n m lt)
      | inr le ↦ le-ltb (1 + n) (suc m) (omega (arith, le)) ∙ sym (le-ltb n m le)
    ]

    found_by : (n m : ℕ) (b : Bool)
        → ((if nat_lt (cond (not b) (1 + n) 0) (suc m) then Some (cond (not b) (1 + n) 0) else None) >>= entry_at (e ∷ more))
        ≡ (if b then Some (0, e.1) else later ((if nat_lt n m then Some n else None) >>= entry_at more))
    found_by n m true = rw (lt-ltb 0 (suc m) (omega arith)) refl
    found_by n m false = rw (less_by n m) (later_if n (nat_lt n m))

    -- the first entry, where it has the name, or else what is found after it
    pub found_cons : (name : Text) → found name (e ∷ more) ≡ (if bytes_eq name e.0 then Some (0, e.1) else later (found name more))
    found_cons name =
        found_by (position_or_len (bytes_eq name) (map (λ e. e.0) more)) (length (map (λ e. e.0) more)) (bytes_eq name e.0)

  later_none : (o : Option (ℕ × V)) → later o ≡ None → o ≡ None
  later_none None h = refl
  later_none (Some r) h = absurd (cc)

  later_some : (o : Option (ℕ × V)) (r : ℕ × V) → later o ≡ Some r → (q : ℕ × V) × (o ≡ Some q) × (q.1 ≡ r.1)
  later_some None r h = absurd (cc)
  later_some (Some q) r h = let same : ◌≡◌ {A = ℕ × V} (1 + q.0, q.1) r = cc in (q, refl, ap (λ x. x.1) same)

  none_by : (b : Bool) (v : V) (o : Option (ℕ × V)) → (if b then Some (0, v) else later o) ≡ None → (b ≡ false) × (o ≡ None)
  none_by true v o h = absurd (cc)
  none_by false v o h = (refl, later_none o h)

  -- a name that is not found is on no entry
  pub absent : (name : Text) (named : List (Text × V)) → found name named ≡ None → AllByRecursion (λ e. name ≡ e.0 → ⊥) named
  absent name [] h = tt
  absent name (e ∷ more) h =
      let parts = none_by (bytes_eq name e.0) e.1 (found name more) (sym (found_cons e more name) ∙ h) in
      ((λ same. false≢true (sym parts.0 ∙ (bytes_eq-Decides name e.0).1 same)), absent name more parts.1)

  -- a new name goes last
  pub with_push : (name : Text) (v : V) (named : List (Text × V)) → AllByRecursion (λ e. name ≡ e.0 → ⊥) named
      → with_value name v named ≡ named ++ (name, v) ∷ []
  with_push name v [] h = refl
  with_push name v (e ∷ more) h = rw (other_text name e.0 h.0) (ap (λ es. e ∷ es) (with_push name v more h.1))

  -- what a name has once it has its value, and once another one has
  value_same : (name : Text) (v : V) (named : List (Text × V)) → value_of name (with_value name v named) ≡ Some v
  value_same name v [] = rw ((bytes_eq-Decides name name).1 refl) refl
  value_same name v (e ∷ more) =
      cond_both (bytes_eq name e.0) ((e.0, v) ∷ more) (e ∷ with_value name v more) (λ es. value_of name es ≡ Some v)
      (λ h. rw h refl) (λ h. rw h (value_same name v more))

  value_other : (other name : Text) (v : V) (named : List (Text × V)) → bytes_eq other name ≡ false
      → value_of other (with_value name v named) ≡ value_of other named
  value_other other name v [] h = rw h refl
  value_other other name v (e ∷ more) h =
      cond_both (bytes_eq name e.0) ((e.0, v) ∷ more) (e ∷ with_value name v more)
      (λ es. value_of other es ≡ (if bytes_eq other e.0 then Some e.1 else value_of other more))
      (λ same. rw (ap (bytes_eq other) (sym (same_text name e.0 same)) ∙ h) refl)
      (λ apart. ap (λ o. if bytes_eq other e.0 then Some e.1 else o) (value_other other name v more h))

-- ---- a net by its name and its range
abbrev pub Shape : Type 0
Shape = Text × Option (ℕ × ℕ)

abbrev pub shape : Text × Net → Shape
shape e = (e.0, e.1.range)

abbrev pub shapes : Nets → List Shape
shapes nets = map shape nets

-- the name is that of no bit of the net
abbrev pub NoBitOf : Shape → Text → Type 0
NoBitOf s name = (r : ℕ × ℕ) (k : ℕ) → s.1 ≡ Some r → has_bit r k ≡ true → name ≡ s.0 ++ tail k → ⊥

-- two nets have different names, and none has the name of a bit of the other
pub record IsClear (s t : Shape) : Type 0 where
  pub differ : s.0 ≡ t.0 → ⊥
  pub first : NoBitOf s t.0
  pub second : NoBitOf t s.0

abbrev pub AreClear : List Shape → Type 0
AreClear [] = Unit {0}
AreClear (s ∷ more) = AllByRecursion (IsClear s) more × AreClear more

-- nets with different names
abbrev pub AreNamedApart : List Shape → Type 0
AreNamedApart [] = Unit {0}
AreNamedApart (s ∷ more) = AllByRecursion (λ t. s.0 ≡ t.0 → ⊥) more × AreNamedApart more

pub named_apart : (ss : List Shape) → AreClear ss → AreNamedApart ss
named_apart [] h = tt
named_apart (s ∷ more) h = (each-weaker (IsClear s) (λ t. s.0 ≡ t.0 → ⊥) (λ t c. c.differ) more h.0, named_apart more h.1)

-- two nets, no bits of which have one name
pub record IsDistinct (s t : Shape) : Type 0 where
  pub differ : s.0 ≡ t.0 → ⊥
  pub first : t.1 ≡ None → NoBitOf s t.0
  pub second : s.1 ≡ None → NoBitOf t s.0

abbrev pub AreDistinct : List Shape → Type 0
AreDistinct [] = Unit {0}
AreDistinct (s ∷ more) = AllByRecursion (IsDistinct s) more × AreDistinct more

is_distinct : (s t : Shape) → IsClear s t → IsDistinct s t
is_distinct s t c = record { differ = c.differ; first = λ e. c.first; second = λ e. c.second }

pub clear_distinct : (ss : List Shape) → AreClear ss → AreDistinct ss
clear_distinct [] h = tt
clear_distinct (s ∷ more) h = (each-weaker (IsClear s) (IsDistinct s) (is_distinct s) more h.0, clear_distinct more h.1)

-- numbers of bits that are not too great
abbrev pub IsBounded : Option (ℕ × ℕ) → Type 0
IsBounded o = (r : ℕ × ℕ) → o ≡ Some r → (r.0 ≤ most_bit) × (r.1 ≤ most_bit)

-- where the name is that of a bit, its number is noted under its bus
abbrev pub IsNoted : BitNets → Text → Type 0
IsNoted named name = (place k : ℕ) → bit_from 0 name ≡ Some (place, k) → Has k (bit_nets_of (take place name) named)

pub record AreFine (nets : List Shape) (named : BitNets) : Type 0 where
  pub names : AllByRecursion (λ s. is_name s.0 ≡ true) nets
  pub bounded : AllByRecursion (λ s. IsBounded s.1) nets
  pub clear : AreClear nets
  pub noted : AllByRecursion (λ s. IsNoted named s.0) nets

pub none_fine : (named : BitNets) → AreFine [] named
none_fine named = record { names = tt; bounded = tt; clear = tt; noted = tt }

pub bit_bounded : (o : Option (ℕ × ℕ)) (r : ℕ × ℕ) (k : ℕ) → IsBounded o → o ≡ Some r → has_bit r k ≡ true → k ≤ most_bit
bit_bounded o r k h e t =
    let b = h r e in
    elim (or_cases (nat_le r.0 k && nat_le k r.1) (nat_le r.1 k && nat_le k r.0) t) [
      | inl up ↦ let le = leb-true k r.1 (and_parts (nat_le r.0 k) (nat_le k r.1) up).1 in omega (arith, le, b)
      | inr down ↦ let le = leb-true k r.0 (and_parts (nat_le r.1 k) (nat_le k r.0) down).1 in omega (arith, le, b)
    ]

-- ---- a further net
clear_push : (s : Shape) (ss : List Shape) → AreClear ss → AllByRecursion (λ t. IsClear t s) ss → AreClear (ss ++ s ∷ [])
clear_push s [] c e = (tt, tt)
clear_push s (t ∷ ss) c e = (each_push (IsClear t) ss s c.0 e.0, clear_push s ss c.1 e.1)

-- the first net of a name, where names differ
range_found : (name : Text) (o : Option (ℕ × ℕ)) (nets : Nets) → AreNamedApart (shapes nets) → Has (name, o) (shapes nets)
    → (x : ℕ × Net) × (found name nets ≡ Some x) × (x.1.range ≡ o)
range_found name o [] c h = absurd h
range_found name o (e ∷ more) c (inl same) =
    let is : e.0 ≡ name = ap (λ s. s.0) same in
    ((0, e.1), found_cons e more name ∙ ap (λ b. if b then Some (0, e.1) else later (found name more)) ((bytes_eq-Decides name e.0).1 (sym is)), ap (λ s. s.1) same)
range_found name o (e ∷ more) c (inr h) =
    let rest = range_found name o more c.1 h in
    let apart : name ≡ e.0 → ⊥ = λ is. each_of (λ t. e.0 ≡ t.0 → ⊥) (shapes more) (name, o) c.0 h (sym is) in (
      (1 + rest.0.0, rest.0.1),
      found_cons e more name ∙ (ap (λ b. if b then Some (0, e.1) else later (found name more)) (other_text name e.0 apart) ∙ ap later rest.1),
      rest.2,
    )

-- a name that `named_bit` does not know is that of no bit
pub bit_unknown : (name : Text) (nets : Nets) (s : Shape) → AreNamedApart (shapes nets) → Has s (shapes nets) → IsBounded s.1
    → named_bit name nets ≡ None → NoBitOf s name
unfolding named_bit
bit_unknown name nets s c h bounds none r k range bit same =
    let le = bit_bounded s.1 r k bounds range bit in
    let at : bit_from 0 name ≡ Some (length s.0, k) = ap (bit_from 0) same ∙ found_bit k s.0 le in
    let bus : take (length s.0) name ≡ s.0 = ap (take (length s.0)) same ∙ take_at s.0 (tail k) (length s.0) refl in
    let net = range_found s.0 s.1 nets c h in
    let found' : found (take (length s.0) name) nets ≡ Some net.0 = ap (λ t. found t nets) bus ∙ net.1 in
    let range' : net.0.1.range ≡ Some r = net.2 ∙ range in
    absurd (cc (rw (at, found', range', bit) at none))

module _ (name : Text) (named : BitNets) where
  noted_by : (o : Option (ℕ × ℕ)) (bus : Text) (k : ℕ) → Has k (bit_nets_of bus named) → Has k (bit_nets_of bus (with_net_at name o named))
  noted_by None bus k h = h
  noted_by (Some place) bus k h = grown (bytes_eq bus (take place.0 name)) refl
    where
      grown : (b : Bool) → bytes_eq bus (take place.0 name) ≡ b → Has k (bit_nets_of bus (with_bit_net (take place.0 name) place.1 named))
      grown true e =
          let same = same_text bus (take place.0 name) e in
          rw (same, value_same (take place.0 name) (bit_nets_of (take place.0 name) named ++ place.1 ∷ []) named)
          (has_push k (bit_nets_of (take place.0 name) named) place.1 (rw same at h))
      grown false e = rw (value_other bus (take place.0 name) (bit_nets_of (take place.0 name) named ++ place.1 ∷ []) named e) h

  -- what was noted stays so
  still_noted : (other : Text) → IsNoted named other → IsNoted (with_net name named) other
  unfolding with_net
  still_noted other h place k at = noted_by (bit_from 0 name) (take place other) k (h place k at)

  -- and the name is noted
  pub now_noted : IsNoted (with_net name named) name
  unfolding with_net
  now_noted place k at =
      rw (at, value_same (take place name) (bit_nets_of (take place name) named ++ k ∷ []) named) (has_last (bit_nets_of (take place name) named) k)

-- no bit of the bus has the name of a net
bit_free : (name : Text) (o : Option (ℕ × ℕ)) (named : BitNets) (other : Text) → IsBounded o → IsNoted named other
    → has_bit_net name o named ≡ false → NoBitOf (name, o) other
unfolding has_bit_net
bit_free name None named other bounds noted free r k range bit same = absurd (cc)
bit_free name (Some q) named other bounds noted free r k range bit same =
    let le = bit_bounded (Some q) r k bounds range bit in
    let at : bit_from 0 other ≡ Some (length name, k) = ap (bit_from 0) same ∙ found_bit k name le in
    let bus : take (length name) other ≡ name = ap (take (length name)) same ∙ take_at name (tail k) (length name) refl in
    let there : Has k (bit_nets_of (take (length name) other) named) = noted (length name) k at in
    let eq : q ≡ r = cc in
    false≢true (sym free ∙ some_of (has_bit q) (bit_nets_of name named) k (rw bus at there) (ap (λ p. has_bit p k) eq ∙ bit))

module _ (name : Text) (v : Net) where
  pub shapes_push : (nets' : Nets) → map shape (nets' ++ (name, v) ∷ []) ≡ map shape nets' ++ (name, v.range) ∷ []
  shapes_push [] = refl
  shapes_push (e ∷ more) = ap (λ s. shape e ∷ s) (shapes_push more)

  same_by : (e : Text × Net) (more : Nets) (r : ℕ × Net) (b : Bool) → bytes_eq name e.0 ≡ b
      → (if b then Some (0, e.1) else later (found name more)) ≡ Some r → v.range ≡ r.1.range
      → ((q : ℕ × Net) → found name more ≡ Some q → v.range ≡ q.1.range → shapes (with_value name v more) ≡ shapes more)
      → shapes (if b then (e.0, v) ∷ more else e ∷ with_value name v more) ≡ shape e ∷ shapes more
  same_by e more r true is h range rest =
      let same : ◌≡◌ {A = ℕ × Net} (0, e.1) r = cc in
      let net : e.1.range ≡ r.1.range = ap (λ x. x.1.range) same in
      ap (λ o. (e.0, o) ∷ shapes more) (range ∙ sym net)
  same_by e more r false is h range rest =
      let q = later_some (found name more) r h in
      ap (λ s. shape e ∷ s) (rest q.0 q.1 (range ∙ sym (ap (λ n. n.range) q.2)))

  -- a net that is there, with its range
  pub same_shapes : (nets' : Nets) (r : ℕ × Net) → found name nets' ≡ Some r → v.range ≡ r.1.range → shapes (with_value name v nets') ≡ shapes nets'
  same_shapes [] r h range = absurd (cc)
  same_shapes (e ∷ more) r h range =
      same_by e more r (bytes_eq name e.0) refl (sym (found_cons e more name) ∙ h) range (λ q at range'. same_shapes more q at range')

module _ (name : Text) (v : Net) (nets : Nets) (named : BitNets) (fine : AreFine (shapes nets) named) where
  unmapped : (nets' : Nets) → AllByRecursion (λ e. name ≡ e.0 → ⊥) nets' → AllByRecursion (λ s. name ≡ s.0 → ⊥) (shapes nets')
  unmapped [] a = tt
  unmapped (e ∷ more) a = (a.0, unmapped more a.1)

  -- a net of a new name, which is that of no bit, and of whose bits no net has the name
  pub further_fine : is_name name ≡ true → IsBounded v.range → found name nets ≡ None → named_bit name nets ≡ None
      → has_bit_net name v.range named ≡ false → AreFine (shapes (with_value name v nets)) (with_net name named)
  further_fine is bounds new unknown free =
      let away = absent name nets new in
      let apart = unmapped nets away in
      rw (with_push name v nets away, shapes_push name v nets) (record {
        names = each_push (λ s. is_name s.0 ≡ true) (shapes nets) (name, v.range) fine.names is;
        bounded = each_push (λ s. IsBounded s.1) (shapes nets) (name, v.range) fine.bounded bounds;
        clear = clear_push (name, v.range) (shapes nets) fine.clear (all_by (λ t. IsClear t (name, v.range)) (shapes nets) (λ t h. record {
          differ = λ e. each_of (λ s. name ≡ s.0 → ⊥) (shapes nets) t apart h (sym e);
          first = bit_unknown name nets t (named_apart (shapes nets) fine.clear) h (each_of (λ s. IsBounded s.1) (shapes nets) t fine.bounded h) unknown;
          second = bit_free name v.range named t.0 bounds (each_of (λ s. IsNoted named s.0) (shapes nets) t fine.noted h) free;
        }));
        noted = each_push (λ s. IsNoted (with_net name named) s.0) (shapes nets) (name, v.range)
            (all_by (λ s. IsNoted (with_net name named) s.0) (shapes nets) (λ t h. still_noted name named t.0 (each_of (λ s. IsNoted named s.0) (shapes nets) t fine.noted h)))
            (now_noted name named);
      })

  -- a net that is there with the same range
  pub again_fine : (r : ℕ × Net) → found name nets ≡ Some r → v.range ≡ r.1.range → AreFine (shapes (with_value name v nets)) named
  again_fine r h range = rw (same_shapes name v nets r h range) fine
