-- Names with their values: what is found is there, and names are kept.
use Rattle.std.specs.Prelude.{◌≡◌, refl, ℕ, zero, suc, ◌+◌, ◌<◌, ◌≤◌, Bool, true, false, nat_lt, not, List, [], ◌∷◌, length, map, position}
use Rattle.std.specs.Prelude.{Option, Some, None, if◌then◌else◌}
use Rattle.std.specs.List.{AllByRecursion, slice_get, position_or_len}
use Rattle.std.specs.Str.{bytes_eq}
use Rattle.std.proofs.Common.{arith, cond}
use Rattle.std.proofs.lemmas.Bool.{ltb-false}
use Rattle.std.proofs.lemmas.List.{length-map}
use Rattle.xt_model.specs.Options.{◌>>=◌}
use Rattle.name_numbers.specs.Names.{Text, found, with_value}

-- ---- an item that is there
module _ {X : Type 0} where
  pub within_by : (xs : List X) (i : ℕ) (x : X) → slice_get xs i ≡ Some x → i < length xs
  within_by [] i x h = absurd (cc)
  within_by (y ∷ xs) zero x h = omega arith
  within_by (y ∷ xs) (suc i) x h = let lt = within_by xs i x h in omega (arith, lt)

  pub get_none : (xs : List X) (i : ℕ) → slice_get xs i ≡ None → length xs ≤ i
  get_none [] i h = omega arith
  get_none (y ∷ xs) zero h = absurd (cc)
  get_none (y ∷ xs) (suc i) h = let le = get_none xs i h in omega (arith, le)

module _ {V : Type 0} where
  -- ---- what is found
  abbrev pub entry : ℕ → Text × V → Option (ℕ × V)
  entry i e = Some (i, e.1)

  abbrev pub entry_at : List (Text × V) → ℕ → Option (ℕ × V)
  entry_at named i = slice_get named i >>= entry i

  Found : List (Text × V) → ℕ × V → Type 0
  Found named r = (e : Text × V) × (slice_get named r.0 ≡ Some e) × (e.1 ≡ r.1)

  got_by : (named : List (Text × V)) (i : ℕ) (o : Option (Text × V)) (r : ℕ × V) → slice_get named i ≡ o
      → (o >>= entry i) ≡ Some r → Found named r
  unfolding Found
  got_by named i None r at h = absurd (cc)
  got_by named i (Some e) r at h =
      let same : ◌≡◌ {A = ℕ × V} (i, e.1) r = cc in
      subst' same
    where
      subst' : ◌≡◌ {A = ℕ × V} (i, e.1) r → Found named r
      subst' same = rw (← same) (e, at, refl)

  found_by : (named : List (Text × V)) (o : Option ℕ) (r : ℕ × V)
      → (o >>= entry_at named) ≡ Some r → Found named r
  found_by named None r h = absurd (cc)
  found_by named (Some i) r h = got_by named i (slice_get named i) r refl h

  pub found_within : (name : Text) (named : List (Text × V)) (r : ℕ × V) → found name named ≡ Some r → r.0 < length named
  unfolding Found
  found_within name named r h =
      let f = found_by named (position (bytes_eq name) (map (λ e. e.0) named)) r h in within_by named r.0 f.0 f.1

  -- the value that is found is one of those that are there
  pub found_value : (P : V → Type 0) (name : Text) (named : List (Text × V)) (r : ℕ × V)
      → AllByRecursion (λ e. P e.1) named → found name named ≡ Some r → P r.1
  unfolding Found
  found_value P name named r each h =
      let f = found_by named (position (bytes_eq name) (map (λ e. e.0) named)) r h in
      value_at named r.0 f.0 each f.1 f.2
    where
      value_at : (es : List (Text × V)) (i : ℕ) (e : Text × V) → AllByRecursion (λ e. P e.1) es → slice_get es i ≡ Some e → e.1 ≡ r.1 → P r.1
      value_at [] i e a at same = absurd (cc)
      value_at (x ∷ es) zero e a at same = let eq : x.1 ≡ r.1 = cc in rw eq at a.0
      value_at (x ∷ es) (suc i) e a at same = value_at es i e a.1 at same

  -- ---- a name that is not found is on none of the items
  none_here : (named : List (Text × V)) (i : ℕ) (o : Option (Text × V)) → slice_get named i ≡ o
      → (o >>= entry i) ≡ None → length named ≤ i
  none_here named i None at h = get_none named i at
  none_here named i (Some e) at h = absurd (cc)

  place_past : (named : List (Text × V)) (p n : ℕ) (b : Bool) → nat_lt p n ≡ b → n ≡ length named
      → ((if b then Some p else None) >>= entry_at named) ≡ None → n ≤ p
  place_past named p n true e len h = let le = none_here named p (slice_get named p) refl h in omega (arith, le, len)
  place_past named p n false e len h = ltb-false p n e

  pub past_all : (name : Text) (named : List (Text × V)) → found name named ≡ None
      → length named ≤ position_or_len (bytes_eq name) (map (λ e. e.0) named)
  past_all name named h =
      let len = length-map named (λ (e : Text × V). e.0) in
      let le = place_past named (position_or_len (bytes_eq name) (map (λ e. e.0) named)) (length (map (λ e. e.0) named))
      (nat_lt (position_or_len (bytes_eq name) (map (λ e. e.0) named)) (length (map (λ e. e.0) named))) refl len h in
      omega (arith, le, len)

  -- ---- one more name with its value, or another value of a name
  module _ (P : Text → Type 0) where
    keeps_by : (name : Text) (v : V) (e : Text × V) (more rest : List (Text × V)) (b : Bool)
        → P e.0 → AllByRecursion (λ e. P e.0) more → AllByRecursion (λ e. P e.0) rest
        → AllByRecursion (λ e. P e.0) (if b then (e.0, v) ∷ more else e ∷ rest)
    keeps_by name v e more rest true p a r = (p, a)
    keeps_by name v e more rest false p a r = (p, r)

    -- the names are those that were there and this one
    pub with_names : (name : Text) (v : V) (named : List (Text × V)) → P name → AllByRecursion (λ e. P e.0) named
        → AllByRecursion (λ e. P e.0) (with_value name v named)
    with_names name v [] p a = (p, tt)
    with_names name v (e ∷ more) p a =
        keeps_by name v e more (with_value name v more) (bytes_eq name e.0) a.0 a.1 (with_names name v more p a.1)

  module _ (P : V → Type 0) where
    values_by : (name : Text) (v : V) (e : Text × V) (more rest : List (Text × V)) (b : Bool)
        → P v → P e.1 → AllByRecursion (λ e. P e.1) more → AllByRecursion (λ e. P e.1) rest
        → AllByRecursion (λ e. P e.1) (if b then (e.0, v) ∷ more else e ∷ rest)
    values_by name v e more rest true p q a r = (p, a)
    values_by name v e more rest false p q a r = (q, r)

    -- the values are those that were there and this one
    pub with_values : (name : Text) (v : V) (named : List (Text × V)) → P v → AllByRecursion (λ e. P e.1) named
        → AllByRecursion (λ e. P e.1) (with_value name v named)
    with_values name v [] p a = (p, tt)
    with_values name v (e ∷ more) p a =
        values_by name v e more (with_value name v more) (bytes_eq name e.0) p a.0 a.1 (with_values name v more p a.1)

  grows_by : (name : Text) (v : V) (e : Text × V) (more rest : List (Text × V)) (b : Bool) → length more ≤ length rest
      → suc (length more) ≤ length (if b then (e.0, v) ∷ more else e ∷ rest)
  grows_by name v e more rest true h = omega arith
  grows_by name v e more rest false h = omega (arith, h)

  -- no name is lost
  pub with_grows : (name : Text) (v : V) (named : List (Text × V)) → length named ≤ length (with_value name v named)
  with_grows name v [] = omega arith
  with_grows name v (e ∷ more) = grows_by name v e more (with_value name v more) (bytes_eq name e.0) (with_grows name v more)

  pub with_some : (name : Text) (v : V) (named : List (Text × V)) → 0 < length (with_value name v named)
  with_some name v [] = omega arith
  with_some name v (e ∷ more) = by (bytes_eq name e.0)
    where
      by : (b : Bool) → 0 < length (if b then (e.0, v) ∷ more else e ∷ with_value name v more)
      by true = omega arith
      by false = omega arith

  further_by : (name : Text) (v : V) (e : Text × V) (more rest : List (Text × V)) (b : Bool) (p : ℕ)
      → (length more ≤ p → length more < length rest)
      → suc (length more) ≤ cond (not b) (1 + p) 0 → suc (length more) < length (if b then (e.0, v) ∷ more else e ∷ rest)
  further_by name v e more rest true p f h = absurd (omega (arith, h))
  further_by name v e more rest false p f h = let lt = f (omega (arith, h)) in omega (arith, lt)

  past_further : (name : Text) (v : V) (named : List (Text × V)) → length named ≤ position_or_len (bytes_eq name) (map (λ e. e.0) named)
      → length named < length (with_value name v named)
  past_further name v [] h = omega arith
  past_further name v (e ∷ more) h =
      further_by name v e more (with_value name v more) (bytes_eq name e.0) (position_or_len (bytes_eq name) (map (λ e. e.0) more))
      (past_further name v more) h

  -- a new name goes last
  pub with_further : (name : Text) (v : V) (named : List (Text × V)) → found name named ≡ None
      → length named < length (with_value name v named)
  with_further name v named h = past_further name v named (past_all name named h)
