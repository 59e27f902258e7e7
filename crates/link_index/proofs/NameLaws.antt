-- Names of bits, entered one after another.
use Rattle.std.specs.Prelude.{◌≡◌, ◌≢◌, refl, ℕ, zero, suc, Bool, true, false, cond, ◌||◌, List, [], ◌∷◌, ◌++◌, length, map, take, drop, Option, Some, None, option_map}
use Rattle.std.specs.List.{slice_get, list_any}
use Rattle.std.specs.Str.{bytes_eq}
use Rattle.std.proofs.Common.{sym, ap, ◌∙◌, arith, ◌+◌, ◌-◌, ◌<◌, ◌≤◌, subst, ◌⊎◌, inl, inr, length-append, append_assoc}
use Rattle.std.proofs.lemmas.Bool.{cases_lt, false≢true, lt-leb, le-leb}
use Rattle.std.proofs.lemmas.Option.{slice_get-map, slice_get_within, get_or_from_slice_get}
use Rattle.std.specs.Option.{IsSomeAnd}
use Rattle.std.specs.List.{slice_index}
use Rattle.std.proofs.lemmas.List.{take_more, take_all, map-append, get_or_append_left, get_or_push}
use Rattle.std.proofs.lemmas.Bool.Decides.{nat_tests}
use Rattle.std.proofs.lemmas.Slice.Eq.{bytes_eq-Decides}
use Rattle.name_numbers.specs.Names.{Text, with_value}
use Rattle.verilog_net.specs.declared.netlist.Net.{Net}
use Rattle.verilog_net.specs.declared.netlist.PortRole.{PortRole}
use Rattle.verilog_net.specs.Nets.{Nets}
use Rattle.verilog_net.specs.Bits.{Bit, rising, falling, numbers_of, bus_bit, bits_by, bits_from, bits}
use Rattle.link_index.specs.Bits.{width, offset}
use Rattle.link_index.specs.Names.{with_names, net_names}
use Rattle.link_index.proofs.BitLaws.{from-parts, bits_are, bits_more}

-- ---- tables

pub with_names-append : (t : List (Text × Unit {0})) (xs ys : List Text) → with_names t (xs ++ ys) ≡ with_names (with_names t xs) ys
with_names-append t [] ys = refl
with_names-append t (x ∷ xs) ys = with_names-append (with_value x tt t) xs ys

fresh_by : (n : Text) (e : Text × Unit {0}) (more : List (Text × Unit {0})) (b c : Bool) → bytes_eq n e.0 ≡ b → (b || c) ≡ false
    → (c ≡ false → map (λ x. x.0) (with_value n tt more) ≡ map (λ x. x.0) more ++ n ∷ [])
    → map (λ x. x.0) (cond b ((e.0, tt) ∷ more) (e ∷ with_value n tt more)) ≡ e.0 ∷ (map (λ x. x.0) more ++ n ∷ [])
fresh_by n e more true c h f go = absurd (false≢true (sym f))
fresh_by n e more false c h f go = ap (λ t. e.0 ∷ t) (go f)

-- a name that is not there goes last
pub fresh_last : (n : Text) (t : List (Text × Unit {0})) → list_any (bytes_eq n) (map (λ x. x.0) t) ≡ false
    → map (λ x. x.0) (with_value n tt t) ≡ map (λ x. x.0) t ++ n ∷ []
fresh_last n [] h = refl
fresh_last n (e ∷ more) h =
    fresh_by n e more (bytes_eq n e.0) (list_any (bytes_eq n) (map (λ x. x.0) more)) refl h (fresh_last n more)

-- no two are the same
abbrev pub AreApart : List Text → Type 0
AreApart ns = (i j : ℕ) (a b : Text) → i < j → slice_get ns i ≡ Some a → slice_get ns j ≡ Some b → a ≢ b

any_there : (n : Text) (ns : List Text) → list_any (bytes_eq n) ns ≡ true → (i : ℕ) × (i < length ns) × (slice_get ns i ≡ Some n)
any_there n [] h = absurd (false≢true h)
any_there n (x ∷ xs) h = by (bytes_eq n x) refl (any_there n xs)
  where
    by : (b : Bool) → bytes_eq n x ≡ b → (list_any (bytes_eq n) xs ≡ true → (i : ℕ) × (i < length xs) × (slice_get xs i ≡ Some n))
        → (i : ℕ) × (i < length (x ∷ xs)) × (slice_get (x ∷ xs) i ≡ Some n)
    by true e later = (0, omega arith, ap Some (sym ((bytes_eq-Decides n x).0 e)))
    by false e later = let at = later (rw e at h) in (suc at.0, omega (arith, at.1), at.2)

before_seam : (xs ys : List Text) (i : ℕ) → i < length xs → slice_get (xs ++ ys) i ≡ slice_get xs i
before_seam [] ys i h = absurd (omega arith)
before_seam (x ∷ xs) ys zero h = refl
before_seam (x ∷ xs) ys (suc i) h = before_seam xs ys i (omega arith)

at_seam : (xs : List Text) (y : Text) (ys : List Text) → slice_get (xs ++ y ∷ ys) (length xs) ≡ Some y
at_seam [] y ys = refl
at_seam (x ∷ xs) y ys = at_seam xs y ys

not_there : (done : List Text) (n : Text) (more : List Text) → AreApart (done ++ n ∷ more) → list_any (bytes_eq n) done ≡ false
not_there done n more apart = by (list_any (bytes_eq n) done) refl
  where
    by : (b : Bool) → list_any (bytes_eq n) done ≡ b → b ≡ false
    by false e = refl
    by true e =
        let at = any_there n done e in
        absurd (apart at.0 (length done) n n at.1 (before_seam done (n ∷ more) at.0 at.1 ∙ at.2) (at_seam done n more) refl)

pub names_from : (t : List (Text × Unit {0})) (done rest : List Text) → map (λ x. x.0) t ≡ done → AreApart (done ++ rest)
    → map (λ x. x.0) (with_names t rest) ≡ done ++ rest
names_from t done [] e apart = e ∙ sym (append-none done)
  where
    append-none : (xs : List Text) → xs ++ [] ≡ xs
    append-none [] = refl
    append-none (x ∷ xs) = ap (λ l. x ∷ l) (append-none xs)
names_from t done (n ∷ more) e apart =
    let fresh : list_any (bytes_eq n) (map (λ x. x.0) t) ≡ false = ap (list_any (bytes_eq n)) e ∙ not_there done n more apart in
    let last : map (λ x. x.0) (with_value n tt t) ≡ done ++ n ∷ [] = fresh_last n t fresh ∙ ap (λ l. l ++ n ∷ []) e in
    let same : (done ++ n ∷ []) ++ more ≡ done ++ (n ∷ more) = append_assoc done (n ∷ []) more in
    names_from (with_value n tt t) (done ++ n ∷ []) more last (subst AreApart (sym same) apart) ∙ same

-- names that are all different are all there, in order
pub names_all : (ns : List Text) → AreApart ns → map (λ x. x.0) (with_names [] ns) ≡ ns
names_all ns apart = names_from [] [] ns refl apart

names_at : (bs : List Bit) (i : ℕ) (n : Text) (o : Option Bit) → slice_get bs i ≡ o → slice_get (map (λ b. b.name) bs) i ≡ Some n
    → (b : Bit) × (slice_get bs i ≡ Some b) × (b.name ≡ n)
names_at bs i n None e h = let k : None ≡ Some n = sym (slice_get-map (λ b. b.name) bs i ∙ ap (option_map (λ b. b.name)) e) ∙ h in absurd (cc)
names_at bs i n (Some b) e h =
    let k : Some b.name ≡ Some n = sym (slice_get-map (λ b. b.name) bs i ∙ ap (option_map (λ b. b.name)) e) ∙ h in
    let same : b.name ≡ n = cc in
    (b, e, same)

-- bits of different names have different names
pub names_apart : (bs : List Bit)
    → ((i j : ℕ) (a b : Bit) → i < j → slice_get bs i ≡ Some a → slice_get bs j ≡ Some b → a.name ≢ b.name)
    → AreApart (map (λ b. b.name) bs)
names_apart bs differ i j a b less at bt e =
    let x = names_at bs i a (slice_get bs i) refl at in
    let y = names_at bs j b (slice_get bs j) refl bt in
    differ i j x.0 y.0 less x.1 y.1 (x.2 ∙ e ∙ sym y.2)

-- ---- the names of bits

mapped_twice : {A B C : Type 0} (f : B → C) (g : A → B) (xs : List A) → map f (map g xs) ≡ map (λ x. f (g x)) xs
mapped_twice f g [] = refl
mapped_twice f g (x ∷ xs) = ap (λ l. f (g x) ∷ l) (mapped_twice f g xs)

pub names_of_net : (decl : ℕ) (name : Text) (role : PortRole) (r : Option (ℕ × ℕ)) → map (λ b. b.name) (bits_by decl name role r) ≡ net_names name r
names_of_net decl name role None = refl
names_of_net decl name role (Some r) = mapped_twice (λ b. b.name) (bus_bit decl name role) (numbers_of r)

one_net : {X : Type 0} (i : ℕ) (xs : List X) (x : X) → slice_get xs i ≡ Some x → take (i + 1) xs ≡ take i xs ++ x ∷ []
one_net i xs x h = take_more xs i x (slice_get_within xs i x h) ∙ ap (λ y. take i xs ++ y ∷ []) (get_or_from_slice_get xs i x x h)

-- the names of the bits of one net more
pub names_more : (nets : Nets) (k : ℕ) (e : Text × Net) → slice_get nets k ≡ Some e
    → map (λ b. b.name) (bits_from 0 (take (k + 1) nets)) ≡ map (λ b. b.name) (bits_from 0 (take k nets)) ++ net_names e.0 e.1.range
names_more nets k e there =
    ap (λ t. map (λ b. b.name) (bits_from 0 t)) (one_net k nets e there)
    ∙ ap (map (λ b. b.name)) (from-parts 0 (take k nets) (e ∷ []))
    ∙ map-append (λ b. b.name) (bits_from 0 (take k nets)) (bits_from (0 + length (take k nets)) (e ∷ []))
    ∙ ap (λ l. map (λ b. b.name) (bits_from 0 (take k nets)) ++ l) (
    ap (map (λ b. b.name)) (none_more (bits_by (0 + length (take k nets)) e.0 e.1.role e.1.range))
    ∙ names_of_net (0 + length (take k nets)) e.0 e.1.role e.1.range)
  where
    none_more : (xs : List Bit) → xs ++ [] ≡ xs
    none_more [] = refl
    none_more (x ∷ xs) = ap (λ l. x ∷ l) (none_more xs)

-- ---- sizes

parted : {X : Type 0} (k : ℕ) (xs : List X) → xs ≡ take k xs ++ drop k xs
parted zero [] = refl
parted zero (x ∷ xs) = refl
parted (suc k) [] = refl
parted (suc k) (x ∷ xs) = ap (λ l. x ∷ l) (parted k xs)

-- the first nets have no more bits than all
pub first_within : (nets : Nets) (k : ℕ) → length (bits_from 0 (take k nets)) ≤ length (bits_from 0 nets)
first_within nets k =
    let e = ap (λ t. length (bits_from 0 t)) (parted k nets)
    ∙ ap length (from-parts 0 (take k nets) (drop k nets))
    ∙ length-append (bits_from 0 (take k nets)) (bits_from (0 + length (take k nets)) (drop k nets)) in
    omega (arith, e)

-- nor do these with those of the next
pub net_within : (nets : Nets) (k : ℕ) (e : Text × Net) → slice_get nets k ≡ Some e
    → length (bits_from 0 (take k nets)) + width e.1.range ≤ length (bits_from 0 nets)
net_within nets k e there = omega (arith, bits_more nets k e there, first_within nets (k + 1))

-- the same by the net's width
module _ (nets : Nets) (k w : ℕ) where
  more_by : (o : Option (Text × Net)) → slice_get nets k ≡ o → IsSomeAnd o (λ e. w ≡ width e.1.range)
      → length (bits (take (k + 1) nets)) ≡ length (bits (take k nets)) + w
  more_by None at h = absurd h
  more_by (Some e) at h =
      ap length (bits_are (take (k + 1) nets)) ∙ bits_more nets k e at
      ∙ ap (λ n. n + width e.1.range) (ap length (sym (bits_are (take k nets)))) ∙ ap (λ n. length (bits (take k nets)) + n) (sym h)

  pub one_net_more : IsSomeAnd (slice_get nets k) (λ e. w ≡ width e.1.range) → length (bits (take (k + 1) nets)) ≡ length (bits (take k nets)) + w
  one_net_more h = more_by (slice_get nets k) refl h

  pub one_net_within : IsSomeAnd (slice_get nets k) (λ e. w ≡ width e.1.range) → length (bits (take k nets)) + w ≤ length (bits nets)
  one_net_within h =
      let e = first_within nets (k + 1) in
      omega (arith, e, one_net_more h, ap length (bits_are (take (k + 1) nets)), ap length (bits_are nets))

pub net_bits_within : (nets : Nets) (k : ℕ) (e : Text × Net) → slice_get nets k ≡ Some e
    → length (bits (take k nets)) + width e.1.range ≤ length (bits nets)
net_bits_within nets k e h = omega (arith, net_within nets k e h, ap length (bits_are (take k nets)), ap length (bits_are nets))

pub nets_within : (nets : Nets) (k : ℕ) → length (bits (take k nets)) ≤ length (bits nets)
nets_within nets k = omega (arith, first_within nets k, ap length (bits_are (take k nets)), ap length (bits_are nets))

pub all_nets : (nets : Nets) (n : ℕ) → length nets ≤ n → bits (take n nets) ≡ bits nets
all_nets nets n h = ap bits (take_all n nets h)

pub no_nets : (nets : Nets) → bits (take 0 nets) ≡ []
no_nets nets = bits_are (take 0 nets)

-- the names of the bits of one net more
pub names_one_more : (nets : Nets) (k : ℕ) (e : Text × Net) → slice_get nets k ≡ Some e
    → map (λ b. b.name) (bits (take (k + 1) nets)) ≡ map (λ b. b.name) (bits (take k nets)) ++ net_names e.0 e.1.range
names_one_more nets k e h =
    ap (map (λ b. b.name)) (bits_are (take (k + 1) nets)) ∙ names_more nets k e h
    ∙ ap (λ l. map (λ b. b.name) l ++ net_names e.0 e.1.range) (sym (bits_are (take k nets)))

-- a table with the names of one net more
module _ (nets : Nets) (k : ℕ) (t u : List (Text × Unit {0})) (h : t ≡ with_names [] (map (λ b. b.name) (bits (take k nets)))) where
  entered_by : (o : Option (Text × Net)) → slice_get nets k ≡ o → IsSomeAnd o (λ e. u ≡ with_names t (net_names e.0 e.1.range))
      → u ≡ with_names [] (map (λ b. b.name) (bits (take (k + 1) nets)))
  entered_by None at g = absurd g
  entered_by (Some e) at g =
      g ∙ ap (λ x. with_names x (net_names e.0 e.1.range)) h
      ∙ sym (with_names-append [] (map (λ b. b.name) (bits (take k nets))) (net_names e.0 e.1.range))
      ∙ ap (with_names []) (sym (names_one_more nets k e at))

  pub entered_more : IsSomeAnd (slice_get nets k) (λ e. u ≡ with_names t (net_names e.0 e.1.range))
      → u ≡ with_names [] (map (λ b. b.name) (bits (take (k + 1) nets)))
  entered_more g = entered_by (slice_get nets k) refl g

-- a table with one number of a bus more
pub entered_one : (f : ℕ → Text) (numbers : List ℕ) (k n : ℕ) (first t u : List (Text × Unit {0})) → slice_get numbers k ≡ Some n
    → t ≡ with_names first (map f (take k numbers)) → u ≡ with_value (f n) tt t → u ≡ with_names first (map f (take (k + 1) numbers))
entered_one f numbers k n first t u at h g =
    g ∙ ap (with_value (f n) tt) h
    ∙ sym (with_names-append first (map f (take k numbers)) (f n ∷ []))
    ∙ ap (with_names first) (sym (map-append f (take k numbers) (n ∷ [])))
    ∙ ap (λ l. with_names first (map f l)) (sym (one_net k numbers n at))

-- the first bits of one net more
pub starts_more : (nets : Nets) (v u : List ℕ) (n x : ℕ) → u ≡ v ++ x ∷ [] → length v ≡ n → x ≡ length (bits (take n nets))
    → ((k : ℕ) → k < n → slice_index v k ≡ length (bits (take k nets)))
    → (k : ℕ) → k < n + 1 → slice_index u k ≡ length (bits (take k nets))
starts_more nets v u n x e l h each k lt = ap (λ w. slice_index w k) e ∙ by (cases_lt k n)
  where
    by : (k < n) ⊎ (n ≤ k) → slice_index (v ++ x ∷ []) k ≡ length (bits (take k nets))
    by (inl less) = get_or_append_left v (x ∷ []) 0 k (omega (arith, l)) ∙ each k less
    by (inr ge) =
        let same : n ≡ k = omega arith in
        get_or_push v x 0 k (l ∙ same) ∙ h ∙ ap (λ m. length (bits (take m nets))) same

in_range : (r : ℕ × ℕ) (b o : ℕ) → offset (Some r) b ≡ Some o → o < width (Some r)
in_range r b o h = grind (arith, nat_tests)

pub offset_within : (r : Option (ℕ × ℕ)) (b o : ℕ) → offset r b ≡ Some o → o < width r
offset_within None b o h = grind (arith, nat_tests)
offset_within (Some r) b o h = in_range r b o h

-- ---- the numbers of a bus

rising_at : (f n k : ℕ) → k < n → slice_get (rising f n) k ≡ Some (f + k)
rising_at f zero k h = absurd (omega arith)
rising_at f (suc n) zero h = ap Some (omega arith)
rising_at f (suc n) (suc k) h = rising_at (f + 1) n k (omega arith) ∙ ap Some (omega arith)

falling_at : (f n k : ℕ) → k < n → n ≤ f + 1 → slice_get (falling f n) k ≡ Some (f - k)
falling_at f zero k h l = absurd (omega arith)
falling_at f (suc n) zero h l = ap Some (omega arith)
falling_at f (suc n) (suc k) h l = falling_at (f - 1) n k (omega arith) (omega arith) ∙ ap Some (omega arith)

-- the number of the bit at a place of a bus
pub rising_number : (l r k : ℕ) → l ≤ r → k < r - l + 1 → slice_get (numbers_of (l, r)) k ≡ Some (l + k)
rising_number l r k up h = rw (le-leb l r up) (rising_at l (r - l + 1) k h)

pub falling_number : (l r k : ℕ) → r < l → k < l - r + 1 → slice_get (numbers_of (l, r)) k ≡ Some (l - k)
falling_number l r k down h = rw (lt-leb l r down) (falling_at l (l - r + 1) k h (omega arith))
