-- Names that differ, one after another.
use Rattle.std.proofs.Common.{◌≡◌, refl, ℕ, zero, suc, ◌+◌, ◌<◌, ◌≤◌, ◌==◌, ◌||◌, not, cond, Bool, true, false, is_some, option_map, option_to_list, get_or, subst, List, [], ◌∷◌, ◌++◌, length, map, take, Option, Some, None, sym, ap, ◌∙◌, arith, if◌then◌else◌}
use Rattle.std.specs.List.{list_any, slice_get, position_or_len}
use Rattle.std.specs.Prelude.{position}
use Rattle.std.specs.Str.{bytes_eq}
use Rattle.std.proofs.lemmas.Bool.{eqb-true, false≢true, lt-ltb}
use Rattle.std.proofs.lemmas.List.{append_assoc, length-map, map-append, take_all}
use Rattle.std.proofs.lemmas.List.Folds.{list_any-append, list_any_at}
use Rattle.std.proofs.lemmas.List.Quantifiers.{position-Some}
use Rattle.std.proofs.lemmas.Slice.Eq.{bytes_eq-Decides}
use Rattle.name_numbers.specs.Names.{Text, has_name, found, with_name, with_value}
use Rattle.verilog_net.specs.declared.netlist.Net.{Net}
use Rattle.verilog_net.specs.declared.netlist.Instance.{Instance}
use Rattle.xt_model.specs.Options.{◌>>=◌}
use Rattle.hier_flatten.proofs.BelowLaws.{take_one}
use Rattle.hier_flatten.proofs.SliceLaws.{element_at, rest_of, first_and_rest}
use Rattle.verilog_net.specs.Nets.{Nets}
use Rattle.hier_flatten.specs.Names.{is_repeated, has_bit_name, has_equal_names, AreApart}

or_of : (a b c : Bool) → (a || (b || c)) ≡ ((a || b) || c)
or_of true b c = refl
or_of false b c = refl

same_name : (a b : Text) → bytes_eq a b ≡ bytes_eq b a
same_name a b = by (bytes_eq a b) (bytes_eq b a) refl refl
  where
    by : (x y : Bool) → bytes_eq a b ≡ x → bytes_eq b a ≡ y → x ≡ y
    by true true p q = refl
    by false false p q = refl
    by true false p q = absurd (false≢true (sym q ∙ (bytes_eq-Decides b a).1 (sym ((bytes_eq-Decides a b).0 p))))
    by false true p q = absurd (false≢true (sym p ∙ (bytes_eq-Decides a b).1 (sym ((bytes_eq-Decides b a).0 q))))

-- names once another one goes last
repeated_push : (names : List Text) (name : Text) → is_repeated (names ++ name ∷ []) ≡ (is_repeated names || has_name name names)
repeated_push [] name = refl
repeated_push (n ∷ names) name =
    ap (λ b. b || is_repeated (names ++ name ∷ [])) (list_any-append (bytes_eq n) names (name ∷ []))
    ∙ (ap (λ b. (list_any (bytes_eq n) names || list_any (bytes_eq n) (name ∷ [])) || b) (repeated_push names name)
    ∙ (ap (λ b. (has_name n names || (b || false)) || (is_repeated names || has_name name names)) (same_name n name)
    ∙ turn (has_name n names) (bytes_eq name n) (is_repeated names) (has_name name names)))
  where
    turn : (a b c d : Bool) → ((a || (b || false)) || (c || d)) ≡ ((a || c) || (b || d))
    turn true b c d = refl
    turn false true true d = refl
    turn false true false d = refl
    turn false false c d = refl

-- equal names stay equal with others after them
or_true : (a b : Bool) → b ≡ true → (a || b) ≡ true
or_true true b h = refl
or_true false b h = h

repeated_append : (names more : List Text) → is_repeated names ≡ true → is_repeated (names ++ more) ≡ true
repeated_append [] more e = absurd (false≢true e)
repeated_append (n ∷ names) more e = by (has_name n names) refl (repeated_append names more) e
  where
    by : (b : Bool) → has_name n names ≡ b → (is_repeated names ≡ true → is_repeated (names ++ more) ≡ true) → (b || is_repeated names) ≡ true
        → (has_name n (names ++ more) || is_repeated (names ++ more)) ≡ true
    by true is later e = ap (λ b. b || is_repeated (names ++ more)) (list_any-append (bytes_eq n) names more ∙ ap (λ b. b || list_any (bytes_eq n) more) is)
    by false is later e = or_true (has_name n (names ++ more)) (is_repeated (names ++ more)) (later e)

-- names that differ so far, of all the names
pub record AreSoFar (seen rest all : List Text) : Type 0 where
  pub whole : seen ++ rest ≡ all
  pub differ : is_repeated seen ≡ false

pub none_seen : (all : List Text) → AreSoFar [] all all
none_seen all = record { whole = refl; differ = refl }

pub seen_more : (seen : List Text) (name : Text) (rest all : List Text) → has_name name seen ≡ false → AreSoFar seen (name ∷ rest) all
    → AreSoFar (seen ++ name ∷ []) rest all
seen_more seen name rest all new h = record {
  whole = append_assoc seen (name ∷ []) rest ∙ h.whole;
  differ = repeated_push seen name ∙ (ap (λ b. b || has_name name seen) h.differ ∙ new);
}

pub seen_again : (seen : List Text) (name : Text) (rest all : List Text) → has_name name seen ≡ true → AreSoFar seen (name ∷ rest) all
    → is_repeated all ≡ true
seen_again seen name rest all again h =
    ap is_repeated (sym (append_assoc seen (name ∷ []) rest ∙ h.whole))
    ∙ repeated_append (seen ++ name ∷ []) rest (repeated_push seen name ∙ (ap (λ b. b || has_name name seen) h.differ ∙ again))

pub seen_all : (seen all : List Text) → AreSoFar seen [] all → is_repeated all ≡ false
seen_all seen all h = ap is_repeated (sym h.whole ∙ nil seen) ∙ h.differ
  where
    nil : (xs : List Text) → xs ++ [] ≡ xs
    nil [] = refl
    nil (x ∷ xs) = ap (λ t. x ∷ t) (nil xs)

-- ---- tables
any_within : (p : Text → Bool) (xs : List Text) → list_any p xs ≡ true → position_or_len p xs < length xs
any_within p [] e = absurd (false≢true e)
any_within p (x ∷ xs) e = by (p x) (any_within p xs) e
  where
    by : (b : Bool) → (list_any p xs ≡ true → position_or_len p xs < length xs) → (b || list_any p xs) ≡ true
        → cond (not b) (1 + position_or_len p xs) 0 < suc (length xs)
    by true later e = omega arith
    by false later e = let rest = later e in omega (arith, rest)

module _ {V : Type 0} where
  -- what is found at a place of the names
  abbrev found_at : List (Text × V) → Option ℕ → Option (ℕ × V)
  found_at named o = o >>= (λ i. slice_get named i >>= (λ e. Some (i, e.1)))

  -- a name that is found is among the names, another one is not
  pub found_is : (name : Text) (named : List (Text × V)) (r : ℕ × V) → found name named ≡ Some r → has_name name (map (λ e. e.0) named) ≡ true
  found_is name named r e = by (position (bytes_eq name) (map (λ e. e.0) named)) refl e
    where
      by : (o : Option ℕ) → position (bytes_eq name) (map (λ e. e.0) named) ≡ o → found_at named o ≡ Some r → has_name name (map (λ e. e.0) named) ≡ true
      by None at e = absurd (cc)
      by (Some i) at e =
          let p = position-Some (bytes_eq name) (map (λ e. e.0) named) i name at in
          list_any_at (bytes_eq name) (map (λ e. e.0) named) i name p.0 p.1

  pub not_found : (name : Text) (named : List (Text × V)) → found name named ≡ None → has_name name (map (λ e. e.0) named) ≡ false
  not_found name named none = by (has_name name (map (λ e. e.0) named)) refl
    where
      by : (b : Bool) → has_name name (map (λ e. e.0) named) ≡ b → has_name name (map (λ e. e.0) named) ≡ false
      by false e = e
      by true e =
          let n = position_or_len (bytes_eq name) (map (λ e. e.0) named) in
          let lt : n < length (map (λ e. e.0) named) = any_within (bytes_eq name) (map (λ e. e.0) named) e in
          let at : position (bytes_eq name) (map (λ e. e.0) named) ≡ Some n = rw (lt-ltb n (length (map (λ e. e.0) named)) lt) refl in
          let got = element_at named n (omega (arith, lt, length-map named (λ e. e.0))) in
          let whole : found name named ≡ Some (n, got.0.1) = rw (at, got.1) refl in
          absurd (cc (sym none ∙ whole))

  -- a new name goes last
  pub push_new : (name : Text) (v : V) (named : List (Text × V)) → has_name name (map (λ e. e.0) named) ≡ false
      → with_value name v named ≡ named ++ (name, v) ∷ []
  push_new name v [] h = refl
  push_new name v (e ∷ more) h = by (bytes_eq name e.0) (push_new name v more) h
    where
      by : (b : Bool) → (has_name name (map (λ e. e.0) more) ≡ false → with_value name v more ≡ more ++ (name, v) ∷ [])
          → (b || has_name name (map (λ e. e.0) more)) ≡ false
          → (if b then (e.0, v) ∷ more else e ∷ with_value name v more) ≡ e ∷ (more ++ (name, v) ∷ [])
      by true later h = absurd (false≢true (sym h))
      by false later h = ap (λ t. e ∷ t) (later h)

  pub is_found : {A : Type 0} (x : Option A) (f : A → ℕ × V) (name : Text) (named : List (Text × V)) (b : Bool) → option_map f x ≡ found name named
      → b ≡ is_some x → has_name name (map (λ e. e.0) named) ≡ b
  is_found None f name named b e is = not_found name named (sym e) ∙ sym is
  is_found (Some a) f name named b e is = found_is name named (f a) (sym e) ∙ sym is

-- ---- nets that are kept
pub nil : {X : Type 0} (xs : List X) → xs ++ [] ≡ xs
nil [] = refl
nil (x ∷ xs) = ap (λ t. x ∷ t) (nil xs)

module _ (table : Nets) (name : Text) (net : Net) where
  -- the table goes on with a net of another name
  pub put_new : (new : Nets) → AreApart table [] → has_name name (map (λ e. e.0) table) ≡ false → new ≡ with_value name net table
      → AreApart new [] × (new ++ [] ≡ (table ++ []) ++ (name, net) ∷ [])
  put_new new apart fresh given =
      let pushed : new ≡ table ++ (name, net) ∷ [] = given ∙ push_new name net table fresh in
      let names : map (λ e. e.0) new ≡ map (λ e. e.0) table ++ name ∷ [] = ap (map (λ e. e.0)) pushed ∙ map-append (λ e. e.0) table ((name, net) ∷ []) in (
        ap is_repeated names ∙ (repeated_push (map (λ e. e.0) table) name ∙ (ap (λ b. b || has_name name (map (λ e. e.0) table)) apart ∙ fresh)),
        nil new ∙ (pushed ∙ ap (λ t. t ++ (name, net) ∷ []) (sym (nil table))),
      )

  -- equal names are there, or come with this net
  pub put_more : (more new : Nets) → AreApart table more → (more ≡ [] → has_name name (map (λ e. e.0) table) ≡ true) → new ≡ more ++ (name, net) ∷ []
      → AreApart table new × (table ++ new ≡ (table ++ more) ++ (name, net) ∷ [])
  put_more [] new apart again pushed =
      let whole : is_repeated (map (λ e. e.0) (table ++ (name, net) ∷ [])) ≡ true =
      ap is_repeated (map-append (λ e. e.0) table ((name, net) ∷ []))
      ∙ (repeated_push (map (λ e. e.0) table) name ∙ or_true (is_repeated (map (λ e. e.0) table)) (has_name name (map (λ e. e.0) table)) (again refl)) in
      let joined : table ++ (name, net) ∷ [] ≡ (table ++ []) ++ (name, net) ∷ [] = ap (λ t. t ++ (name, net) ∷ []) (sym (nil table)) in
      rw pushed (whole, joined)
  put_more (e ∷ more) new apart again pushed =
      let joined : table ++ (e ∷ (more ++ (name, net) ∷ [])) ≡ (table ++ e ∷ more) ++ (name, net) ∷ [] = sym (append_assoc table (e ∷ more) ((name, net) ∷ [])) in
      let whole : is_repeated (map (λ e. e.0) (table ++ (e ∷ (more ++ (name, net) ∷ [])))) ≡ true =
      ap (λ nets. is_repeated (map (λ e. e.0) nets)) joined
      ∙ (ap is_repeated (map-append (λ e. e.0) (table ++ e ∷ more) ((name, net) ∷ []))
      ∙ repeated_append (map (λ e. e.0) (table ++ e ∷ more)) (name ∷ []) apart) in
      rw pushed (whole, joined)

  pub put_in : (more new : Nets) → more ≡ [] → AreApart table more → has_name name (map (λ e. e.0) table) ≡ false → new ≡ with_value name net table
      → AreApart new more × (new ++ more ≡ (table ++ more) ++ (name, net) ∷ [])
  put_in [] new none apart fresh given = put_new new apart fresh given
  put_in (e ∷ more) new none apart fresh given = absurd (cc)

module _ {X : Type 0} (xs : List X) (b : Bool) (is : b ≡ (length xs == 0)) where
  pub none_in : b ≡ true → xs ≡ []
  none_in e = by xs (sym is ∙ e)
    where
      by : (ys : List X) → (length ys == 0) ≡ true → ys ≡ []
      by [] e = refl
      by (y ∷ ys) e = let none : length (y ∷ ys) ≡ 0 = eqb-true (length (y ∷ ys)) 0 e in absurd (omega (arith, none))

  pub some_in : b ≡ false → xs ≡ [] → ⊥
  some_in e none = false≢true (sym e ∙ (is ∙ ap (λ ys. length ys == 0) none))

-- ---- a test of nets, one after another
module _ {X : Type 0} (p : X → Bool) (xs : List X) (k : ℕ) where
  pub any_more : (o : Option X) (b : Bool) → o ≡ slice_get xs k → b ≡ list_any p (option_to_list o) → b ≡ false → list_any p (take k xs) ≡ false
      → list_any p (take (k + 1) xs) ≡ false
  any_more o b at is none before =
      ap (list_any p) (take_one xs k)
      ∙ (list_any-append p (take k xs) (option_to_list (slice_get xs k))
      ∙ (ap (λ c. c || list_any p (option_to_list (slice_get xs k))) before ∙ (ap (λ q. list_any p (option_to_list q)) (sym at) ∙ (sym is ∙ none))))

  pub any_found : (o : Option X) (b : Bool) → o ≡ slice_get xs k → b ≡ list_any p (option_to_list o) → b ≡ true → list_any p xs ≡ true
  any_found o b at is some = by xs k (ap (λ q. list_any p (option_to_list q)) (sym at) ∙ (sym is ∙ some))
    where
      by : (ys : List X) (n : ℕ) → list_any p (option_to_list (slice_get ys n)) ≡ true → list_any p ys ≡ true
      by [] n e = absurd (false≢true e)
      by (y ∷ ys) zero e = one (p y) e
        where
          one : (b : Bool) → (b || false) ≡ true → (b || list_any p ys) ≡ true
          one true e = refl
          one false e = absurd (false≢true e)
      by (y ∷ ys) (suc n) e = or_true (p y) (list_any p ys) (by ys n e)

  pub any_none : length xs ≤ k → list_any p (take k xs) ≡ false → list_any p xs ≡ false
  any_none all e = ap (list_any p) (sym (take_all k xs all)) ∙ e

-- ---- names of instances, one after another
module _ (names : List Text) (rest all : List Instance) (d i : Instance) (name : Text) (some : 1 ≤ length rest) (is : i ≡ get_or rest 0 d) (named : name ≡ i.name)
    (h : AreSoFar names (map (λ i. i.name) rest) (map (λ i. i.name) all)) where
  one_next : AreSoFar names (name ∷ map (λ i. i.name) (rest_of rest)) (map (λ i. i.name) all)
  one_next =
      subst (λ n. AreSoFar names (n ∷ map (λ i. i.name) (rest_of rest)) (map (λ i. i.name) all)) (sym named)
      (subst (λ r. AreSoFar names (map (λ i. i.name) r) (map (λ i. i.name) all)) (first_and_rest rest d i some is) h)

  pub instance_again : (fresh : Bool) → fresh ≡ not (has_name name names) → fresh ≡ false → true ≡ is_repeated (map (λ i. i.name) all)
  instance_again fresh e old = sym (seen_again names name (map (λ i. i.name) (rest_of rest)) (map (λ i. i.name) all) (again (has_name name names) (sym e ∙ old)) one_next)
    where
      again : (b : Bool) → not b ≡ false → b ≡ true
      again true h = refl
      again false h = absurd (false≢true (sym h))

  pub instance_more : (fresh : Bool) (new : List Text) → fresh ≡ not (has_name name names) → fresh ≡ true → new ≡ with_name name names
      → AreSoFar new (map (λ i. i.name) (rest_of rest)) (map (λ i. i.name) all)
  instance_more fresh new e first entered =
      let free : has_name name names ≡ false = once (has_name name names) (sym e ∙ first) in
      let pushed : new ≡ names ++ name ∷ [] = entered ∙ ap (λ b. if b then names else names ++ name ∷ []) free in
      subst (λ n. AreSoFar n (map (λ i. i.name) (rest_of rest)) (map (λ i. i.name) all)) (sym pushed)
      (seen_more names name (map (λ i. i.name) (rest_of rest)) (map (λ i. i.name) all) free one_next)
    where
      once : (b : Bool) → not b ≡ true → b ≡ false
      once false h = refl
      once true h = absurd (false≢true h)

-- ---- all names
module _ (nets : Nets) (is : List Instance) where
  pub equal_nets : is_repeated (map (λ net. net.0) nets) ≡ true → has_equal_names nets is ≡ true
  unfolding has_equal_names
  equal_nets e = ap (λ b. b || (list_any (has_bit_name nets) nets || is_repeated (map (λ i. i.name) is))) e

  module _ (differ : is_repeated (map (λ net. net.0) nets) ≡ false) where
    pub equal_bits : list_any (has_bit_name nets) nets ≡ true → true ≡ has_equal_names nets is
    unfolding has_equal_names
    equal_bits e =
        sym (or_true (is_repeated (map (λ net. net.0) nets)) (list_any (has_bit_name nets) nets || is_repeated (map (λ i. i.name) is))
        (ap (λ b. b || is_repeated (map (λ i. i.name) is)) e))

    pub equal_instances : (b : Bool) → list_any (has_bit_name nets) nets ≡ false → b ≡ is_repeated (map (λ i. i.name) is) → b ≡ has_equal_names nets is
    unfolding has_equal_names
    equal_instances b bits e =
        e ∙ sym (ap (λ x. x || (list_any (has_bit_name nets) nets || is_repeated (map (λ i. i.name) is))) differ
        ∙ ap (λ x. x || is_repeated (map (λ i. i.name) is)) bits)
