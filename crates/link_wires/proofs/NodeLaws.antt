-- Nodes by their names.
use Rattle.std.specs.Prelude.{◌≡◌, refl, ℕ, List, [], ◌∷◌, ◌++◌, length, map, Option, Some, None, is_some, option_map, option_to_list, filter_map, flat_map, fold, unwrap_or, not, ◌==◌, pos}
use Rattle.std.specs.List.{All, slice_get}
use Rattle.std.specs.Str.{bytes_eq}
use Rattle.std.proofs.Common.{sym, ap, ◌∙◌, arith, ◌≤◌, subst, get_or, append_assoc}
use Rattle.name_numbers.specs.Names.{Text, value_of, with_name}
use Rattle.std.proofs.lemmas.Option.{slice_get-map}
use Rattle.xt_model.specs.Names.{IsName}
use Rattle.verilog_net.specs.declared.netlist.Netlist.{Netlist}
use Rattle.spef_read.specs.declared.parasitics.NameId.{NameId}
use Rattle.spef_read.specs.declared.parasitics.Parasitics.{Parasitics}
use Rattle.link_rules.specs.declared.circuit.NetPins.{NetPins}
use Rattle.link_rules.specs.Ends.{NetEnd, Pin, Port, end_name, sink_name}
use Rattle.link_rules.specs.Nodes.{text_of}
use Rattle.link_rules.specs.Wires.{listed}
use Rattle.link_index.specs.Cells.{at_place}
use Rattle.link_index.proofs.FirstLaws.{find_at_place, first_and_rest, rest_of}
use Rattle.link_wires.specs.Places.{HavePlaces}
use Rattle.link_rules.specs.Wires.{Capacitor, NamedResistor, names_on, has_resistors}
use Rattle.spef_read.specs.declared.parasitics.ResText.{ResText}
use Rattle.link_wires.specs.declared.parts.CapAt.{CapAt}
use Rattle.link_wires.specs.declared.parts.WireParts.{WireParts}
use Rattle.link_wires.specs.Seen.{cap_node, both_nodes, cap_by, resistor_by, wire_by}
use Rattle.std.proofs.lemmas.List.{length-map}
use Rattle.link_wires.proofs.ListLaws.{node_name, all_left, all_right}

pub some_mapped : {A B : Type 0} (f : A → B) (o : Option A) → is_some (option_map f o) ≡ is_some o
some_mapped f None = refl
some_mapped f (Some x) = refl

-- the name of the node of an end is a name
pub end_named : (d : ℕ) (e : NetEnd) → IsName (sink_name e) → IsName (d ∷ []) → IsName (end_name d e)
end_named d (Pin owner pin) name mark = node_name owner pin d name mark
end_named d (Port port) name mark = name

-- ---- lists, item by item

filter_by : {X Y : Type 0} (f : X → Option Y) (x : X) (more : List X) (o : Option Y) → f x ≡ o → option_to_list o ++ filter_map f more ≡ filter_map f (x ∷ more)
filter_by f x more None h = rw h refl
filter_by f x more (Some y) h = rw h refl

-- what is kept of one item more
pub filter_turn : {X Y : Type 0} (f : X → Option Y) (rest : List X) (d x : X) (old new : List Y) → 1 ≤ length rest → x ≡ get_or rest 0 d
    → new ≡ old ++ option_to_list (f x) → new ++ filter_map f (rest_of rest) ≡ old ++ filter_map f rest
filter_turn f rest d x old new some is more =
    ap (λ l. l ++ filter_map f (rest_of rest)) more
    ∙ append_assoc old (option_to_list (f x)) (filter_map f (rest_of rest))
    ∙ ap (λ l. old ++ l) (filter_by f x (rest_of rest) (f x) refl
    ∙ ap (λ z. filter_map f (z ∷ rest_of rest)) is ∙ ap (filter_map f) (sym (first_and_rest rest d some)))

-- the same of a list by what each item is seen as
pub mapped_turn : {A X Y : Type 0} (g : A → X) (f : X → Option Y) (rest : List A) (d x : A) (old new : List Y) → 1 ≤ length rest → x ≡ get_or rest 0 d
    → new ≡ old ++ option_to_list (f (g x)) → new ++ filter_map f (map g (rest_of rest)) ≡ old ++ filter_map f (map g rest)
mapped_turn g f rest d x old new some is more =
    ap (λ l. l ++ filter_map f (map g (rest_of rest))) more
    ∙ append_assoc old (option_to_list (f (g x))) (filter_map f (map g (rest_of rest)))
    ∙ ap (λ l. old ++ l) (filter_by f (g x) (map g (rest_of rest)) (f (g x)) refl
    ∙ ap (λ z. filter_map f (map g (z ∷ rest_of rest))) is ∙ ap (λ l. filter_map f (map g l)) (sym (first_and_rest rest d some)))

-- what stands for an item past the end
abbrev pub no_cap : CapAt
no_cap = record { node = record { number = 0 }; to = None; value = pos 0 }

abbrev pub no_resistor : ResText
no_resistor = record { a = record { number = 0 }; b = record { number = 0 }; value = pos 0 }

-- names entered one after another
abbrev pub entering : List Text → Text → List Text
entering nodes name = with_name name nodes

pub fold_turn : {X : Type 0} (f : X → Text) (rest : List X) (d x : X) (nodes after : List Text) → 1 ≤ length rest → x ≡ get_or rest 0 d → after ≡ with_name (f x) nodes
    → fold entering after (map f (rest_of rest)) ≡ fold entering nodes (map f rest)
fold_turn f rest d x nodes after some is more =
    ap (λ n. fold entering n (map f (rest_of rest))) more
    ∙ ap (λ z. fold entering nodes (map f (z ∷ rest_of rest))) is
    ∙ ap (λ l. fold entering nodes (map f l)) (sym (first_and_rest rest d some))

pub names_rest : {X : Type 0} (f : X → Text) (rest : List X) (d : X) → 1 ≤ length rest → All IsName (map f rest) → All IsName (map f (rest_of rest))
names_rest f rest d some all =
    all_right IsName (f (get_or rest 0 d) ∷ []) (map f (rest_of rest)) (subst (λ l. All IsName (map f l)) (first_and_rest rest d some) all)

-- names of two nodes each
module _ {X : Type 0} (a b : X → Text) where
  abbrev pub both : X → List Text
  both x = a x ∷ b x ∷ []

  pub fold_pair : (rest : List X) (d x : X) (nodes mid after : List Text) → 1 ≤ length rest → x ≡ get_or rest 0 d
      → mid ≡ with_name (a x) nodes → after ≡ with_name (b x) mid
      → fold entering after (flat_map both (rest_of rest)) ≡ fold entering nodes (flat_map both rest)
  fold_pair rest d x nodes mid after some is one two =
      ap (λ n. fold entering n (flat_map both (rest_of rest))) (two ∙ ap (with_name (b x)) one)
      ∙ ap (λ z. fold entering nodes (flat_map both (z ∷ rest_of rest))) is
      ∙ ap (λ l. fold entering nodes (flat_map both l)) (sym (first_and_rest rest d some))

  pair_split : (rest : List X) (d : X) → 1 ≤ length rest → All IsName (flat_map both rest) → All IsName (both (get_or rest 0 d) ++ flat_map both (rest_of rest))
  pair_split rest d some all = subst (λ l. All IsName (flat_map both l)) (first_and_rest rest d some) all

  pub pair_rest : (rest : List X) (d : X) → 1 ≤ length rest → All IsName (flat_map both rest) → All IsName (flat_map both (rest_of rest))
  pair_rest rest d some all = all_right IsName (both (get_or rest 0 d)) (flat_map both (rest_of rest)) (pair_split rest d some all)

  pub pair_first : (rest : List X) (d x : X) → 1 ≤ length rest → x ≡ get_or rest 0 d → All IsName (flat_map both rest) → IsName (a x)
  pair_first rest d x some is all =
      let front : All IsName (both (get_or rest 0 d)) = all_left IsName (both (get_or rest 0 d)) (flat_map both (rest_of rest)) (pair_split rest d some all) in
      subst (λ (r : X). IsName (a r)) (sym is) (front 0 [] (omega arith))

  pub pair_second : (rest : List X) (d x : X) → 1 ≤ length rest → x ≡ get_or rest 0 d → All IsName (flat_map both rest) → IsName (b x)
  pair_second rest d x some is all =
      let front : All IsName (both (get_or rest 0 d)) = all_left IsName (both (get_or rest 0 d)) (flat_map both (rest_of rest)) (pair_split rest d some all) in
      subst (λ (r : X). IsName (b r)) (sym is) (front 1 [] (omega arith))

-- the first of some names
pub first_named : {X : Type 0} (f : X → Text) (rest : List X) (d x : X) → 1 ≤ length rest → x ≡ get_or rest 0 d → All IsName (map f rest) → IsName (f x)
first_named f rest d x some is all =
    let front : All IsName (f (get_or rest 0 d) ∷ map f (rest_of rest)) = subst (λ l. All IsName (map f l)) (first_and_rest rest d some) all in
    subst (λ (r : _). IsName (f r)) (sym is) (front 0 [] (omega arith))

-- the names of a wire that is seen by the numbers of its names
module _ (p : Parasitics) where
  caps_seen : (caps : List CapAt) → map (λ (c : Capacitor). c.node) (map (cap_by p) caps) ≡ map (cap_node p) caps
  caps_seen [] = refl
  caps_seen (c ∷ caps) = ap (λ l. cap_node p c ∷ l) (caps_seen caps)

  resistors_seen : (rs : List ResText) → flat_map (λ (r : NamedResistor). r.a ∷ r.b ∷ []) (map (resistor_by p) rs) ≡ flat_map (both_nodes p) rs
  resistors_seen [] = refl
  resistors_seen (r ∷ rs) = ap (λ l. text_of p r.a ∷ text_of p r.b ∷ l) (resistors_seen rs)

  pub names_seen : (w : WireParts) → names_on (wire_by p w) ≡ map (cap_node p) w.caps.items ++ flat_map (both_nodes p) w.resistors.now
  names_seen w =
      ap (λ l. l ++ flat_map (λ (r : NamedResistor). r.a ∷ r.b ∷ []) (map (resistor_by p) w.resistors.now)) (caps_seen w.caps.items)
      ∙ ap (λ l. map (cap_node p) w.caps.items ++ l) (resistors_seen w.resistors.now)

  -- the number of resistors is the same
  pub resistors_counted : (w : WireParts) → has_resistors (wire_by p w) ≡ not (length w.resistors.now == 0)
  resistors_counted w = ap (λ n. not (n == 0)) (length-map w.resistors.now (resistor_by p))

-- ---- wires by the names of nets

-- the bytes of a name, none where it is not there
pub text_is : (p : Parasitics) (name : NameId) (o : Option Text) → o ≡ slice_get (map (λ e. e.0) p.names) name.number → unwrap_or o [] ≡ text_of p name
text_is p name o h = ap (λ x. unwrap_or x []) (h ∙ slice_get-map (λ e. e.0) p.names name.number)

-- what is listed for a net stands at the place of its name
pub listed_at : (n : Netlist) (p : Parasitics) (x : NetPins) (places : List (Text × ℕ)) (d : NetEnd) (o : Option ℕ) → HavePlaces p places → x.driver ≡ Some d
    → value_of x.name places ≡ o → listed n p x ≡ at_place p.nets o
listed_at n p x places d o have drives h =
    rw drives (find_at_place (λ w. bytes_eq x.name (text_of p w.name)) p.nets o (sym (have.each x.name) ∙ h))

-- nothing is listed for a net without a driver
pub not_listed : (n : Netlist) (p : Parasitics) (x : NetPins) → x.driver ≡ None → listed n p x ≡ None
not_listed n p x h = rw h refl
