-- What an instance adds, one net after another.
use Rattle.std.proofs.Common.{◌≡◌, refl, ℕ, zero, suc, ◌+◌, ◌≤◌, List, [], ◌∷◌, ◌++◌, length, take, map, replicate, option_to_list, get_or, Option, Some, None, sym, ap, ◌∙◌, arith, if◌then◌else◌}
use Rattle.std.specs.List.{slice_get}
use Rattle.std.proofs.Math.Numerals.{add-one}
use Rattle.std.proofs.lemmas.List.{append_assoc, append-nil}
use Rattle.name_numbers.specs.Names.{Text}
use Rattle.verilog_net.specs.declared.netlist.Net.{Net}
use Rattle.verilog_net.specs.declared.netlist.Wire.{Wire}
use Rattle.verilog_net.specs.declared.netlist.Wire.TheVariants as wires
use Rattle.verilog_net.specs.Nets.{Nets, is_directed}
use Rattle.hier_flatten.specs.Tables.{IsTableOf}
use Rattle.hier_flatten.proofs.SliceLaws.{rest_of, first_and_rest}
use Rattle.hier_flatten.specs.Places.{width_of}
use Rattle.verilog_net.specs.declared.netlist.Instance.{Instance}
use Rattle.verilog_net.specs.declared.netlist.Netlist.{Netlist}
use Rattle.hier_flatten.specs.Flat.{Scope, Flat, Ranges, ranges_of, Counts, or_open, flat_wire, wire_of, own_of, own_at, own_nets, meant_by, next_after, meant_from, prefix_below, wires_below, scope_below, entered_below, bits_in}

module _ {X : Type 0} where
  -- one element more
  one_taken : (xs : List X) (k : ℕ) → take (suc k) xs ≡ take k xs ++ option_to_list (slice_get xs k)
  one_taken [] zero = refl
  one_taken [] (suc k) = refl
  one_taken (x ∷ xs) zero = refl
  one_taken (x ∷ xs) (suc k) = ap (λ t. x ∷ t) (one_taken xs k)

  pub take_one : (xs : List X) (k : ℕ) → take (k + 1) xs ≡ take k xs ++ option_to_list (slice_get xs k)
  take_one xs k = ap (λ n. take n xs) (add-one k) ∙ one_taken xs k

  map_append : {Y : Type 0} (f : X → Y) (xs ys : List X) → map f (xs ++ ys) ≡ map f xs ++ map f ys
  map_append f [] ys = refl
  map_append f (x ∷ xs) ys = ap (λ t. f x ∷ t) (map_append f xs ys)

  pub map_one : {Y : Type 0} (f : X → Y) (xs : List X) (k : ℕ) (old new : List Y) (o : Option X) → o ≡ slice_get xs k → new ≡ old ++ map f (option_to_list o)
      → old ≡ map f (take k xs) → new ≡ map f (take (k + 1) xs)
  map_one f xs k old new o at more e =
      more ∙ (ap (λ l. l ++ map f (option_to_list o)) e
      ∙ (ap (λ p. map f (take k xs) ++ map f (option_to_list p)) at
      ∙ (sym (map_append f (take k xs) (option_to_list (slice_get xs k))) ∙ ap (map f) (sym (take_one xs k)))))

-- ---- the nets without a connection
nil : (xs : Nets) → xs ++ [] ≡ xs
nil [] = refl
nil (x ∷ xs) = ap (λ t. x ∷ t) (nil xs)

one_own : (prefix : Text) (nets : Nets) (ws : List Wire) (k : ℕ)
    → own_nets prefix (take (suc k) nets) (take (suc k) ws) ≡ own_nets prefix (take k nets) (take k ws) ++ own_at prefix (slice_get nets k) (slice_get ws k)
one_own prefix [] ws zero = refl
one_own prefix [] ws (suc k) = refl
one_own prefix (net ∷ nets) [] zero = refl
one_own prefix (net ∷ nets) [] (suc k) = sym (nothing (slice_get nets k))
  where
    nothing : (o : Option (Text × Net)) → own_at prefix o None ≡ []
    nothing None = refl
    nothing (Some net) = refl
one_own prefix (net ∷ nets) (w ∷ ws) zero = nil (own_of prefix net w)
one_own prefix (net ∷ nets) (w ∷ ws) (suc k) =
    ap (λ t. own_of prefix net w ++ t) (one_own prefix nets ws k)
    ∙ sym (append_assoc (own_of prefix net w) (own_nets prefix (take k nets) (take k ws)) (own_at prefix (slice_get nets k) (slice_get ws k)))

pub own_more : (prefix : Text) (nets : Nets) (ws : List Wire) (k : ℕ)
    → own_nets prefix (take (k + 1) nets) (take (k + 1) ws) ≡ own_nets prefix (take k nets) (take k ws) ++ own_at prefix (slice_get nets k) (slice_get ws k)
own_more prefix nets ws k = ap (λ n. own_nets prefix (take n nets) (take n ws)) (add-one k) ∙ one_own prefix nets ws k

-- one net more has been added
pub added_more : (prefix : Text) (nets : Nets) (ws : List Wire) (k : ℕ) (old now new : Nets)
    → now ≡ old ++ own_nets prefix (take k nets) (take k ws) → new ≡ now ++ own_at prefix (slice_get nets k) (slice_get ws k)
    → new ≡ old ++ own_nets prefix (take (k + 1) nets) (take (k + 1) ws)
added_more prefix nets ws k old now new so_far one =
    one ∙ (ap (λ t. t ++ own_at prefix (slice_get nets k) (slice_get ws k)) so_far
    ∙ (append_assoc old (own_nets prefix (take k nets) (take k ws)) (own_at prefix (slice_get nets k) (slice_get ws k))
    ∙ ap (λ t. old ++ t) (sym (own_more prefix nets ws k))))

own_all : (prefix : Text) (nets : Nets) (ws : List Wire) (k : ℕ) → length nets ≤ k → own_nets prefix (take k nets) (take k ws) ≡ own_nets prefix nets ws
own_all prefix [] ws zero h = refl
own_all prefix [] ws (suc k) h = refl
own_all prefix (net ∷ nets) ws zero h = absurd (omega (arith, h))
own_all prefix (net ∷ nets) [] (suc k) h = refl
own_all prefix (net ∷ nets) (w ∷ ws) (suc k) h = ap (λ t. own_of prefix net w ++ t) (own_all prefix nets ws k (omega (arith, h)))

module _ (nets : Nets) (k : ℕ) (initial g new : Flat) (o : Option (Text × Net)) (at : o ≡ slice_get nets k) where
  -- a net of the top more
  pub top_more : new ≡ record g { nets = g.nets ++ option_to_list o } → g ≡ record initial { nets = take k nets } → new ≡ record initial { nets = take (k + 1) nets }
  top_more more e =
      more ∙ (ap (λ (f : Flat). record f { nets = f.nets ++ option_to_list o }) e
      ∙ (ap (λ p. record initial { nets = take k nets ++ option_to_list p }) at ∙ ap (λ n. record initial { nets = n }) (sym (take_one nets k))))

  -- a net of a module more
  pub nets_more : (prefix path : Text) (ws : List Wire) (w : Option Wire) → w ≡ slice_get ws k → path ≡ prefix
      → new ≡ record g { nets = g.nets ++ own_at path o w } → g ≡ record initial { nets = initial.nets ++ own_nets prefix (take k nets) (take k ws) }
      → new ≡ record initial { nets = initial.nets ++ own_nets prefix (take (k + 1) nets) (take (k + 1) ws) }
  nets_more prefix path ws w is way more e =
      let old : Nets = initial.nets ++ own_nets prefix (take k nets) (take k ws) in
      let whole : old ++ own_at prefix (slice_get nets k) (slice_get ws k) ≡ initial.nets ++ own_nets prefix (take (k + 1) nets) (take (k + 1) ws) =
      added_more prefix nets ws k initial.nets old (old ++ own_at prefix (slice_get nets k) (slice_get ws k)) refl refl in
      more ∙ (ap (λ (f : Flat). record f { nets = f.nets ++ own_at path o w }) e
      ∙ (ap (λ p. record initial { nets = old ++ own_at p o w }) way
      ∙ (ap (λ p. record initial { nets = old ++ own_at prefix p w }) at
      ∙ (ap (λ p. record initial { nets = old ++ own_at prefix (slice_get nets k) p }) is
      ∙ ap (λ n. record initial { nets = n }) whole))))

pub nets_all : (prefix : Text) (nets : Nets) (ws : List Wire) (k : ℕ) (initial g : Flat) → length nets ≤ k
    → g ≡ record initial { nets = initial.nets ++ own_nets prefix (take k nets) (take k ws) } → g ≡ record initial { nets = initial.nets ++ own_nets prefix nets ws }
nets_all prefix nets ws k initial g h e =
    e ∙ ap (λ n. record initial { nets = initial.nets ++ n }) (own_all prefix nets ws k h)

-- ---- the connections of a module's nets
pub wires_same : (flat : Ranges) (nets : Nets) (meant : List Wire) (entries table : List (Text × Wire)) → IsTableOf entries table → (inner : Nets)
    → map (wire_of flat nets meant table) inner ≡ map (wire_of flat nets meant entries) inner
wires_same flat nets meant entries table of [] = refl
wires_same flat nets meant entries table of (net ∷ inner) =
    ap (λ o. (if is_directed net.1.role then flat_wire flat nets meant (or_open o) else wires.Open) ∷ map (wire_of flat nets meant table) inner) (of.each net.0)
    ∙ ap (λ t. wire_of flat nets meant entries net ∷ t) (wires_same flat nets meant entries table of inner)

-- ---- instances of cells, one after another
module _ (made : Instance → Instance) (rest : List Instance) where
  pub cells_turn : (d i c : Instance) (g new whole : Flat) → 1 ≤ length rest → i ≡ get_or rest 0 d → c ≡ made i
      → new ≡ record g { instances = g.instances ++ c ∷ [] } → record g { instances = g.instances ++ map made rest } ≡ whole
      → record new { instances = new.instances ++ map made (rest_of rest) } ≡ whole
  cells_turn d i c g new whole some is one grown e =
      ap (λ (x : Flat). record x { instances = x.instances ++ map made (rest_of rest) }) grown
      ∙ (ap (λ is. record g { instances = is })
      (append_assoc g.instances (c ∷ []) (map made (rest_of rest))
      ∙ (ap (λ z. g.instances ++ z ∷ map made (rest_of rest)) one ∙ ap (λ r. g.instances ++ map made r) (sym (first_and_rest rest d i some is))))
      ∙ e)

  pub cells_end : (g whole : Flat) → rest ≡ [] → record g { instances = g.instances ++ map made rest } ≡ whole → g ≡ whole
  cells_end g whole none e =
      ap (λ is. record g { instances = is }) (sym (append-nil g.instances) ∙ ap (λ r. g.instances ++ map made r) (sym none)) ∙ e

-- ---- what nets are
pub meant_more : (ws : List Wire) (next : ℕ) (wire w : Wire) (next' : ℕ) (more whole : List Wire) → w ≡ meant_by next wire → next' ≡ next_after next wire
    → ws ++ meant_from next (wire ∷ more) ≡ whole → (ws ++ w ∷ []) ++ meant_from next' more ≡ whole
meant_more ws next wire w next' more whole one after e =
    append_assoc ws (w ∷ []) (meant_from next' more)
    ∙ (ap (λ u. ws ++ u ∷ meant_from next' more) one
    ∙ (ap (λ n. ws ++ meant_by next wire ∷ meant_from n more) after ∙ e))

-- ---- bits
pub bits_push : (ranges : Ranges) (range : Option (ℕ × ℕ)) → bits_in (ranges ++ range ∷ []) ≡ bits_in ranges + width_of range
bits_push [] range = omega arith
bits_push (r ∷ ranges) range = let rest = bits_push ranges range in omega (arith, rest)

-- ---- what is counted of the nets without a connection
pub path_free : (p q : Text) (nets : Nets) (ws : List Wire) → ranges_of (own_nets p nets ws) ≡ ranges_of (own_nets q nets ws)
path_free p q [] ws = refl
path_free p q (net ∷ nets) [] = refl
path_free p q (net ∷ nets) (wires.Open ∷ ws) = ap (λ t. net.1.range ∷ t) (path_free p q nets ws)
path_free p q (net ∷ nets) (wires.Constant ∷ ws) = path_free p q nets ws
path_free p q (net ∷ nets) (wires.Bit decl bit ∷ ws) = path_free p q nets ws
path_free p q (net ∷ nets) (wires.Whole decl ∷ ws) = path_free p q nets ws

pub ranges_added : (nets more : Nets) → ranges_of (nets ++ more) ≡ ranges_of nets ++ ranges_of more
ranges_added nets more = map_append (λ net. net.1.range) nets more

-- each net of the top is one of its own
pub top_ranges : (nets : Nets) → ranges_of (own_nets [] nets (replicate (length nets) wires.Open)) ≡ ranges_of nets
top_ranges [] = refl
top_ranges (net ∷ nets) = ap (λ t. net.1.range ∷ t) (top_ranges nets)

module _ (nets : Nets) (ws : List Wire) (k : ℕ) (initial g : Counts) where
  pub count_more : (new : Counts) (o : Option (Text × Net)) (w : Option Wire) → o ≡ slice_get nets k → w ≡ slice_get ws k
      → new ≡ record g { ranges = g.ranges ++ ranges_of (own_at [] o w) }
      → g ≡ record initial { ranges = initial.ranges ++ ranges_of (own_nets [] (take k nets) (take k ws)) }
      → new ≡ record initial { ranges = initial.ranges ++ ranges_of (own_nets [] (take (k + 1) nets) (take (k + 1) ws)) }
  count_more new o w at is more e =
      let old : Ranges = ranges_of (own_nets [] (take k nets) (take k ws)) in
      let one : Ranges = ranges_of (own_at [] (slice_get nets k) (slice_get ws k)) in
      let whole : old ++ one ≡ ranges_of (own_nets [] (take (k + 1) nets) (take (k + 1) ws)) =
      sym (ap ranges_of (own_more [] nets ws k) ∙ ranges_added (own_nets [] (take k nets) (take k ws)) (own_at [] (slice_get nets k) (slice_get ws k))) in
      more ∙ (ap (λ (c : Counts). record c { ranges = c.ranges ++ ranges_of (own_at [] o w) }) e
      ∙ (ap (λ p. record initial { ranges = (initial.ranges ++ old) ++ ranges_of (own_at [] p w) }) at
      ∙ (ap (λ p. record initial { ranges = (initial.ranges ++ old) ++ ranges_of (own_at [] (slice_get nets k) p) }) is
      ∙ ap (λ r. record initial { ranges = r }) (append_assoc initial.ranges old one ∙ ap (λ r. initial.ranges ++ r) whole))))

  pub count_all : length nets ≤ k → g ≡ record initial { ranges = initial.ranges ++ ranges_of (own_nets [] (take k nets) (take k ws)) }
      → g ≡ record initial { ranges = initial.ranges ++ ranges_of (own_nets [] nets ws) }
  count_all h e = e ∙ ap (λ n. record initial { ranges = initial.ranges ++ ranges_of n }) (own_all [] nets ws k h)

-- ---- an instance of a module is entered
pub wires_are : (flat : Ranges) (s : Scope) (i : Instance) (m : Netlist) (table : List (Text × Wire)) (ws : List Wire) → IsTableOf i.pins table
    → ws ≡ map (wire_of flat s.nets s.meant table) m.nets → ws ≡ wires_below flat s i m
wires_are flat s i m table ws of connected = connected ∙ wires_same flat s.nets s.meant i.pins table of m.nets

pub scope_is : (flat : Ranges) (s : Scope) (i : Instance) (m : Netlist) (ws meant : List Wire) → ws ≡ wires_below flat s i m
    → meant ≡ meant_from (length flat) ws → record { prefix = prefix_below s.prefix i.name; nets = m.nets; meant = meant } ≡ scope_below flat s i m
scope_is flat s i m ws meant connected made =
    ap (λ w. record { prefix = prefix_below s.prefix i.name; nets = m.nets; meant = w }) (made ∙ ap (meant_from (length flat)) connected)

module _ (flat met : Flat) (s : Scope) (i : Instance) (m : Netlist) (ws : List Wire) (path : Text)
    (connected : ws ≡ wires_below (ranges_of flat.nets) s i m) (way : path ≡ prefix_below s.prefix i.name)
    (one : met ≡ record flat { entered = flat.entered + 1 }) where
  pub entered_is : (new : Flat) → new ≡ record met { nets = met.nets ++ own_nets path m.nets ws } → new ≡ entered_below flat s i m
  entered_is new added =
      added
      ∙ (ap (λ (f : Flat). record f { nets = f.nets ++ own_nets path m.nets ws }) one
      ∙ (ap (λ p. record flat { nets = flat.nets ++ own_nets p m.nets ws; entered = flat.entered + 1 }) way
      ∙ ap (λ w. record flat { nets = flat.nets ++ own_nets (prefix_below s.prefix i.name) m.nets w; entered = flat.entered + 1 }) connected))
