-- Lists that loops make, one item at a time.
use Rattle.std.proofs.Common.{◌≡◌, ℕ, zero, suc, ◌+◌, ◌<◌, ◌≤◌, true, List, [], ◌∷◌, ◌++◌, length, map, take, get_or, refl, ap, ◌∙◌, arith, length-append}
use Rattle.std.specs.Prelude.{Option, Some, None, filter_map, option_to_list, flat_map}
use Rattle.std.specs.List.{All, cons_option}
use Rattle.std.proofs.Math.Seq.{take-suc}
use Rattle.std.proofs.Math.Numerals.{add-one}
use Rattle.std.proofs.lemmas.List.{map-append, length-take-le}
use Rattle.std.proofs.lemmas.List.Elements.{filter_map-append, All-cons, All-append}
use Rattle.name_numbers.specs.Names.{Text, number_of}
use Rattle.xt_model.specs.Names.{IsName}
use Rattle.link_rules.specs.declared.circuit.Sink.{Sink}
use Rattle.verilog_net.specs.Bits.{rising}
use Rattle.link_rules.specs.Wires.{Capacitor, NamedResistor, Wire, sink_node, sink_charges, names_on, has_resistors}
use Rattle.link_wires.specs.Wires.{IsNumbered}

pub take_push : {X : Type 0} (xs : List X) (i : ℕ) (d : X) → i < length xs → take (i + 1) xs ≡ take i xs ++ get_or xs i d ∷ []
take_push xs i d lt = ap (λ m. take m xs) (add-one i) ∙ take-suc xs i d lt

-- ---- what is given of some items
filter_one : {X Y : Type 0} (f : X → Option Y) (x : X) → filter_map f (x ∷ []) ≡ option_to_list (f x)
filter_one f x = by (f x)
  where
    by : {Z : Type 0} (o : Option Z) → cons_option o [] ≡ option_to_list o
    by None = refl
    by (Some z) = refl

pub filter_push : {X Y : Type 0} (f : X → Option Y) (xs : List X) (i : ℕ) (d : X) → i < length xs
    → filter_map f (take (i + 1) xs) ≡ filter_map f (take i xs) ++ option_to_list (f (get_or xs i d))
filter_push f xs i d lt =
    ap (λ ys. filter_map f ys) (take_push xs i d lt)
    ∙ (filter_map-append f (take i xs) (get_or xs i d ∷ []) ∙ ap (λ ys. filter_map f (take i xs) ++ ys) (filter_one f (get_or xs i d)))

-- an item that gives nothing, and one that gives something
pub filter_skip : {X Y : Type 0} (f : X → Option Y) (xs : List X) (i : ℕ) (d : X) → i < length xs → f (get_or xs i d) ≡ None
    → filter_map f (take (i + 1) xs) ≡ filter_map f (take i xs)
filter_skip f xs i d lt e = filter_push f xs i d lt ∙ (ap (λ o. filter_map f (take i xs) ++ option_to_list o) e ∙ append_nil (filter_map f (take i xs)))
  where
    append_nil : {Z : Type 0} (zs : List Z) → zs ++ [] ≡ zs
    append_nil [] = refl
    append_nil (z ∷ zs) = ap (λ r. z ∷ r) (append_nil zs)

pub filter_take : {X Y : Type 0} (f : X → Option Y) (xs : List X) (i : ℕ) (d : X) (y : Y) → i < length xs → f (get_or xs i d) ≡ Some y
    → filter_map f (take (i + 1) xs) ≡ filter_map f (take i xs) ++ y ∷ []
filter_take f xs i d y lt e = filter_push f xs i d lt ∙ ap (λ o. filter_map f (take i xs) ++ option_to_list o) e

-- ---- numbers in order
pub rising_push : (a n : ℕ) → rising a (n + 1) ≡ rising a n ++ (a + n) ∷ []
rising_push a n = ap (rising a) (add-one n) ∙ push a n
  where
    push : (a n : ℕ) → rising a (suc n) ≡ rising a n ++ (a + n) ∷ []
    push a zero = ap (λ m. m ∷ []) (omega arith)
    push a (suc n) = ap (λ r. a ∷ r) (push (a + 1) n ∙ ap (λ m. rising (a + 1) n ++ m ∷ []) (omega arith))

pub map_rising_push : {Y : Type 0} (f : ℕ → Y) (n : ℕ) → map f (rising 0 (n + 1)) ≡ map f (rising 0 n) ++ f n ∷ []
map_rising_push f n =
    ap (map f) (rising_push 0 n) ∙ (map-append f (rising 0 n) ((0 + n) ∷ []) ∙ ap (λ m. map f (rising 0 n) ++ f m ∷ []) (omega arith))

-- ---- capacitances of sinks
sinks-append : (w : Wire) (k : ℕ) (xs ys : List Sink) → sink_charges w k (xs ++ ys) ≡ sink_charges w k xs ++ sink_charges w (k + length xs) ys
sinks-append w k [] ys = ap (λ m. sink_charges w m ys) (omega arith)
sinks-append w k (x ∷ xs) ys =
    ap (λ r. (sink_node w k, x.cap) ∷ r) (sinks-append w (k + 1) xs ys ∙ ap (λ m. sink_charges w (k + 1) xs ++ sink_charges w m ys) (omega arith))

pub sinks_push : (w : Wire) (xs : List Sink) (i : ℕ) (d : Sink) → i < length xs
    → sink_charges w 0 (take (i + 1) xs) ≡ sink_charges w 0 (take i xs) ++ (sink_node w i, (get_or xs i d).cap) ∷ []
sinks_push w xs i d lt =
    ap (sink_charges w 0) (take_push xs i d lt)
    ∙ (sinks-append w 0 (take i xs) (get_or xs i d ∷ []) ∙ ap (λ m. sink_charges w 0 (take i xs) ++ (sink_node w m, (get_or xs i d).cap) ∷ []) len)
  where
    len : 0 + length (take i xs) ≡ i
    len = let e = length-take-le i xs (omega (arith, lt)) in omega (arith, e)

-- ---- the nodes of a wire
pub all_left : {X : Type 0} (P : X → Type 0) (xs ys : List X) → All P (xs ++ ys) → All P xs
all_left P [] ys all = λ i d lt. absurd (omega (arith, lt))
all_left P (x ∷ xs) ys all = All-cons P x xs (all 0 x (omega arith)) (all_left P xs ys (λ i d lt. all (suc i) d (omega (arith, lt))))

pub all_right : {X : Type 0} (P : X → Type 0) (xs ys : List X) → All P (xs ++ ys) → All P ys
all_right P [] ys all = all
all_right P (x ∷ xs) ys all = all_right P xs ys (λ i d lt. all (suc i) d (omega (arith, lt)))

pub all_unmapped : {X Y : Type 0} (P : Y → Type 0) (f : X → Y) (xs : List X) → All P (map f xs) → All (λ x. P (f x)) xs
all_unmapped P f [] all = λ i d lt. absurd (omega (arith, lt))
all_unmapped P f (x ∷ xs) all =
    All-cons (λ y. P (f y)) x xs (all 0 (f x) (omega arith)) (all_unmapped P f xs (λ i d lt. all (suc i) d (omega (arith, lt))))

all_a : (P : Text → Type 0) (rs : List NamedResistor) → All P (flat_map (λ r. r.a ∷ r.b ∷ []) rs) → All (λ r. P r.a) rs
all_a P [] all = λ i d lt. absurd (omega (arith, lt))
all_a P (r ∷ rs) all = All-cons (λ r. P r.a) r rs (all 0 r.a (omega arith)) (all_a P rs (λ i d lt. all (suc (suc i)) d (omega (arith, lt))))

all_b : (P : Text → Type 0) (rs : List NamedResistor) → All P (flat_map (λ r. r.a ∷ r.b ∷ []) rs) → All (λ r. P r.b) rs
all_b P [] all = λ i d lt. absurd (omega (arith, lt))
all_b P (r ∷ rs) all = All-cons (λ r. P r.b) r rs (all 1 r.b (omega arith)) (all_b P rs (λ i d lt. all (suc (suc i)) d (omega (arith, lt))))

-- nodes that have the names of a wire number it
pub numbered_by : (nodes : List Text) (ends : List Sink) (w : Wire) → (has_resistors w ≡ true → length ends < length nodes)
    → All (λ x. number_of x nodes < length nodes) (names_on w) → IsNumbered nodes ends w
numbered_by nodes ends w apart all =
    let P : Text → Type 0 = λ x. number_of x nodes < length nodes in
    let left = all_left P (map (λ c. c.node) w.caps) (flat_map (λ r. r.a ∷ r.b ∷ []) w.resistors) all in
    let right = all_right P (map (λ c. c.node) w.caps) (flat_map (λ r. r.a ∷ r.b ∷ []) w.resistors) all in
    record {
      sinks = apart;
      caps = all_unmapped P (λ (c : Capacitor). c.node) w.caps left;
      a = all_a P w.resistors right;
      b = all_b P w.resistors right;
    }

-- ---- the name of a pin's node
pub node_name : (owner pin : Text) (d : ℕ) → IsName (owner ++ 47 ∷ pin) → IsName (d ∷ []) → IsName (owner ++ d ∷ pin)
node_name owner pin d name mark =
    let one : length (owner ++ 47 ∷ pin) ≡ length owner + length (47 ∷ pin) = length-append owner (47 ∷ pin) in
    let two : length (owner ++ d ∷ pin) ≡ length owner + length (d ∷ pin) = length-append owner (d ∷ pin) in
    let short = name.short in
    let P : ℕ → Type 0 = λ b. (33 ≤ b) × (b ≤ 126) in
    let tail : All P (47 ∷ pin) = all_right P owner (47 ∷ pin) name.printable in
    record {
      some = omega (arith, two);
      short = omega (arith, one, two, short);
      printable = All-append P owner (d ∷ pin) (all_left P owner (47 ∷ pin) name.printable)
          (All-cons P d pin (mark.printable 0 d (omega arith)) (λ i x lt. tail (suc i) x (omega (arith, lt))));
    }
