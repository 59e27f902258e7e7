-- Marks by the numbers of names give the numbers of nodes.
use Rattle.std.specs.Prelude.{◌≡◌, ◌≢◌, refl, ℕ, zero, suc, ◌+◌, ◌<◌, ◌≤◌, Bool, true, false, cond, ◌||◌, List, [], ◌∷◌, ◌++◌, length, map, Option, Some, None, is_some, position, IfSome, unwrap_or}
use Rattle.std.specs.List.{All, slice_get, list_any}
use Rattle.std.specs.Option.{option_or}
use Rattle.std.specs.Str.{bytes_eq}
use Rattle.std.proofs.Common.{sym, ap, ◌∙◌, arith, subst, set, get_or, take, inl, inr}
use Rattle.std.proofs.lemmas.Bool.{false≢true, eq-eqb, ne_eqb, cases_eq, cases_lt}
use Rattle.std.proofs.lemmas.List.{length-set, length-append, length-take-le}
use Rattle.std.proofs.lemmas.List.Elements.{All-set, All-push}
use Rattle.std.proofs.lemmas.List.Quantifiers.{position-Some}
use Rattle.std.proofs.lemmas.Option.{none-some, same_Some, slice_get-get_or, slice_get_within, slice_get_past}
use Rattle.std.proofs.lemmas.Slice.Eq.{bytes_eq-Decides}
use Rattle.name_numbers.specs.Names.{Text, number_of, with_name}
use Rattle.name_parts.specs.Own.{HaveOwnNumbers}
use Rattle.xt_model.specs.Names.{IsName}
use Rattle.spef_read.specs.declared.parasitics.NameId.{NameId}
use Rattle.spef_read.specs.declared.parasitics.Parasitics.{Parasitics}
use Rattle.link_rules.specs.Nodes.{text_of, node_net}
use Rattle.link_index.proofs.FirstLaws.{position_push, number_is, any_is}
use Rattle.link_wires.specs.declared.marks.Mark.{Mark}
use Rattle.link_wires.specs.Marks.{mark_of, AreMarks, MarksOneMore, AreNodes}
use Rattle.link_wires.specs.Places.{Extracted}
use Rattle.link_wires.specs.Seen.{AreNetsOf}
use Rattle.link_wires.proofs.ListLaws.{take_push}
use Rattle.link_wires.proofs.NodeLaws.{text_is}

-- ---- lists

get_same : {X : Type 0} (xs : List X) (i : ℕ) (x : X) → i < length xs → slice_get (set xs i x) i ≡ Some x
get_same [] i x h = absurd (omega arith)
get_same (y ∷ ys) zero x h = refl
get_same (y ∷ ys) (suc i) x h = get_same ys i x (omega arith)

get_other : {X : Type 0} (xs : List X) (i j : ℕ) (x : X) → j ≢ i → slice_get (set xs i x) j ≡ slice_get xs j
get_other [] i j x ne = refl
get_other (y ∷ ys) zero zero x ne = absurd (ne refl)
get_other (y ∷ ys) zero (suc j) x ne = refl
get_other (y ∷ ys) (suc i) zero x ne = refl
get_other (y ∷ ys) (suc i) (suc j) x ne = get_other ys i j x (λ e. ne (ap suc e))

pub get_left : {X : Type 0} (xs ys : List X) (i : ℕ) → i < length xs → slice_get (xs ++ ys) i ≡ slice_get xs i
get_left [] ys i h = absurd (omega arith)
get_left (x ∷ xs) ys zero h = refl
get_left (x ∷ xs) ys (suc i) h = get_left xs ys i (omega arith)

pub get_right : {X : Type 0} (xs ys : List X) (i j : ℕ) → i ≡ length xs + j → slice_get (xs ++ ys) i ≡ slice_get ys j
get_right [] ys i j h = ap (slice_get ys) (omega (arith, h))
get_right (x ∷ xs) ys zero j h = absurd (omega (arith, h))
get_right (x ∷ xs) ys (suc i) j h = get_right xs ys i j (omega (arith, h))

there : {X : Type 0} (xs : List X) (i : ℕ) → i < length xs → (x : X) × (slice_get xs i ≡ Some x)
there [] i h = absurd (omega arith)
there (x ∷ xs) zero h = (x, refl)
there (x ∷ xs) (suc i) h = there xs i (omega arith)

-- nothing is past the end alone
not_past : {X : Type 0} (xs : List X) (i : ℕ) → slice_get xs i ≡ None → i < length xs → ⊥
not_past xs i h less = let x = there xs i less in none-some x.0 (sym h ∙ x.1)

pub got : {X : Type 0} (P : X → Type 0) (xs : List X) (k : ℕ) → All P xs → IfSome (slice_get xs k) P
got P [] k all = tt
got P (x ∷ xs) zero all = all 0 x (omega arith)
got P (x ∷ xs) (suc k) all = got P xs k (λ i d lt. all (suc i) d (omega (arith, lt)))

pub got_one : {X : Type 0} (P : X → Type 0) (xs : List X) (k : ℕ) (x : X) → All P xs → slice_get xs k ≡ Some x → P x
got_one P xs k x all h = subst (λ o. IfSome o P) h (got P xs k all)

-- ---- places of names

none_by : {A : Type 0} (o : Option A) → is_some o ≡ false → o ≡ None
none_by None h = refl
none_by (Some x) h = absurd (false≢true (sym h))

or_false : (a b : Bool) → (a || b) ≡ false → a ≡ false
or_false true b h = h
or_false false b h = refl

or_later : (a b : Bool) → (a || b) ≡ false → b ≡ false
or_later true b h = absurd (false≢true (sym h))
or_later false b h = h

none_passes : {X : Type 0} (p : X → Bool) (xs : List X) (k : ℕ) (x : X) → list_any p xs ≡ false → slice_get xs k ≡ Some x → p x ≡ false
none_passes p [] k x none h = absurd (none-some x h)
none_passes p (y ∷ xs) zero x none h = ap p (sym (same_Some y x h)) ∙ or_false (p y) (list_any p xs) none
none_passes p (y ∷ xs) (suc k) x none h = none_passes p xs k x (or_later (p y) (list_any p xs) none) h

nowhere : {X : Type 0} (p : X → Bool) (xs : List X) (k : ℕ) (x : X) → position p xs ≡ None → slice_get xs k ≡ Some x → p x ≡ false
nowhere p xs k x none h = none_passes p xs k x (any_is p xs ∙ ap is_some none) h

-- where a name is, it is
pub named_there : (name : Text) (names : List Text) (n : ℕ) → position (bytes_eq name) names ≡ Some n → slice_get names n ≡ Some name
named_there name names n h =
    let s = position-Some (bytes_eq name) names n [] h in
    slice_get-get_or names n [] s.0 ∙ ap Some (sym ((bytes_eq-Decides name (get_or names n [])).0 s.1))

same_bytes : (a : Text) → bytes_eq a a ≡ true
same_bytes a = (bytes_eq-Decides a a).1 refl

-- which of two names is compared with the other does not matter
flipped : (a b : Text) → bytes_eq a b ≡ true → bytes_eq b a ≡ true
flipped a b h = (bytes_eq-Decides b a).1 (sym ((bytes_eq-Decides a b).0 h))

-- names at two places differ
apart : (names : List Text) (k n : ℕ) (name other : Text) → HaveOwnNumbers names → slice_get names k ≡ Some other → slice_get names n ≡ Some name → k ≢ n
    → bytes_eq other name ≡ true → ⊥
apart names k n name other own at there ne e =
    let same : other ≡ name = (bytes_eq-Decides other name).0 e in
    ne (sym (own.each k other at) ∙ ap (λ t. number_of t names) same ∙ own.each n name there)

-- ---- one node more

kept_by : (o : Option ℕ) (b : Bool) (n : ℕ) → (b ≡ true → is_some o ≡ true) → option_or o (cond b (Some n) None) ≡ o
kept_by (Some i) b n h = refl
kept_by None true n h = absurd (false≢true (h refl))
kept_by None false n h = refl

kept : (nodes : List Text) (name other : Text) → (bytes_eq other name ≡ true → is_some (position (bytes_eq other) nodes) ≡ true)
    → position (bytes_eq other) nodes ≡ position (bytes_eq other) (nodes ++ name ∷ [])
kept nodes name other h =
    sym (position_push (bytes_eq other) nodes name ∙ kept_by (position (bytes_eq other) nodes) (bytes_eq other name) (length nodes) h)

fresh : (nodes : List Text) (name : Text) → position (bytes_eq name) nodes ≡ None → position (bytes_eq name) (nodes ++ name ∷ []) ≡ Some (length nodes)
fresh nodes name h =
    position_push (bytes_eq name) nodes name
    ∙ ap (λ o. option_or o (cond (bytes_eq name name) (Some (length nodes)) None)) h
    ∙ ap (λ b. cond b (Some (length nodes)) None) (same_bytes name)

module _ (names : List Text) (turn number : ℕ) (name : Text) (old : List Mark) where
  -- a name that is in no parasitics
  pub end_nowhere : position (bytes_eq name) names ≡ None → MarksOneMore names turn number name old old
  end_nowhere h = record {
    more = λ nodes count m. record {
      count = m.count;
      turns = m.turns;
      each = λ k other at. m.each k other at ∙ kept nodes name other
          (λ e. absurd (false≢true (sym (nowhere (bytes_eq name) names k other h at) ∙ flipped other name e)));
    };
  }

  -- a name that is marked
  pub end_known : (n : ℕ) → position (bytes_eq name) names ≡ Some n → is_some (mark_of turn (slice_get old n)) ≡ true → MarksOneMore names turn number name old old
  end_known n h known = record {
    more = λ nodes count m. record {
      count = m.count;
      turns = m.turns;
      each = λ k other at. m.each k other at ∙ kept nodes name other
          (λ e. ap (λ t. is_some (position (bytes_eq t) nodes)) ((bytes_eq-Decides other name).0 e)
          ∙ (ap is_some (sym (m.each n name (named_there name names n h))) ∙ known));
    };
  }

  -- a name that gets a mark
  pub end_marked : (n : ℕ) (mark : Mark) (new : List Mark) → HaveOwnNumbers names → slice_get names n ≡ Some name → mark_of turn (slice_get old n) ≡ None
      → mark.turn ≡ turn → mark.number ≡ number → new ≡ set old n mark → MarksOneMore names turn number name old new
  end_marked n mark new own there none now here is = record {
    more = λ nodes count m.
        let inside : n < length old = let c = m.count in let w = slice_get_within names n name there in omega (arith, c, w) in
        subst (λ l. AreMarks names (nodes ++ name ∷ []) turn l) (sym is) (record {
          count = length-set old n mark ∙ m.count;
          turns = All-set (λ (x : Mark). x.turn ≤ turn) old n mark (omega (arith, now)) m.turns;
          each = λ k other at. elim (cases_eq k n) [
            | inl e ↦
                let same : other ≡ name = same_Some other name (sym at ∙ (ap (slice_get names) e ∙ there)) in
                ap (λ i. mark_of turn (slice_get (set old n mark) i)) e
                ∙ (ap (mark_of turn) (get_same old n mark inside)
                ∙ (ap (λ b. cond b (Some mark.number) None) (eq-eqb mark.turn turn now)
                ∙ (ap Some (here ∙ sym count)
                ∙ sym (ap (λ t. position (bytes_eq t) (nodes ++ name ∷ [])) same ∙ fresh nodes name (sym (m.each n name there) ∙ none)))))
            | inr ne ↦
                ap (mark_of turn) (get_other old n k mark ne)
                ∙ (m.each k other at ∙ kept nodes name other (λ e. absurd (apart names k n name other own at there ne e)))
          ];
        });
  }

-- ---- the marks of a turn

past_by : (turn : ℕ) (o : Option Mark) → IfSome o (λ m. m.turn < turn) → mark_of turn o ≡ None
past_by turn None h = refl
past_by turn (Some m) h = ap (λ b. cond b (Some m.number) None) (ne_eqb m.turn turn (λ e. absurd (omega (arith, e, h))))

-- a mark of this turn, and one of another
pub marked_turn : (turn n : ℕ) (d : Mark) (marks : List Mark) → n < length marks → (get_or marks n d).turn ≡ turn → is_some (mark_of turn (slice_get marks n)) ≡ true
marked_turn turn n d marks lt e =
    ap (λ o. is_some (mark_of turn o)) (slice_get-get_or marks n d lt)
    ∙ ap (λ b. is_some (cond b (Some (get_or marks n d).number) None)) (eq-eqb (get_or marks n d).turn turn e)

pub unmarked_turn : (turn n : ℕ) (d : Mark) (marks : List Mark) → n < length marks → (get_or marks n d).turn ≢ turn → mark_of turn (slice_get marks n) ≡ None
unmarked_turn turn n d marks lt ne =
    ap (mark_of turn) (slice_get-get_or marks n d lt)
    ∙ ap (λ b. cond b (Some (get_or marks n d).number) None) (ne_eqb (get_or marks n d).turn turn ne)

-- no node is marked where all marks are of turns before
pub marks_past : (names : List Text) (turn : ℕ) (marks : List Mark) → length marks ≡ length names → All (λ m. m.turn < turn) marks → AreMarks names [] turn marks
marks_past names turn marks count past = record {
  count = count;
  turns = λ i d lt. let one = past i d lt in omega (arith, one);
  each = λ k name at. past_by turn (slice_get marks k) (got (λ (m : Mark). m.turn < turn) marks k past);
}

pub turns_past : (turn next : ℕ) (marks : List Mark) → next ≡ turn + 1 → All (λ m. m.turn ≤ turn) marks → All (λ m. m.turn < next) marks
turns_past turn next marks e all = λ i d lt. let one = all i d lt in omega (arith, one, e)

-- one end more
pub ends_turn : (names ends : List Text) (turn i : ℕ) (end : Text) (old new : List Mark) → i < length ends → end ≡ get_or ends i end → All IsName (take i ends) → IsName end
    → AreMarks names (take i ends) turn old → MarksOneMore names turn i end old new → (All IsName (take (i + 1) ends)) × AreMarks names (take (i + 1) ends) turn new
ends_turn names ends turn i end old new lt is all one m more =
    let pushed : take (i + 1) ends ≡ take i ends ++ end ∷ [] = take_push ends i end lt ∙ ap (λ e. take i ends ++ e ∷ []) (sym is) in (
      subst (All IsName) (sym pushed) (All-push IsName (take i ends) end all one),
      subst (λ l. AreMarks names l turn new) (sym pushed) (more.more (take i ends) (length-take-le i ends (omega (arith, lt))) m),
    )

-- ---- nodes

nameless : (nodes : List Text) → All IsName nodes → list_any (bytes_eq []) nodes ≡ false
nameless [] all = refl
nameless ([] ∷ nodes) all = let name = all 0 [] (omega arith) in let some = name.some in absurd (omega (arith, some))
nameless ((b ∷ bytes) ∷ nodes) all = nameless nodes (λ i d lt. all (suc i) d (omega (arith, lt)))

module _ (p : Parasitics) (nodes : List Text) (turn : ℕ) (marks : List Mark) (a : AreNodes p nodes turn marks) where
  -- the mark of a name, which is there or has no byte
  pub mark_is : (name : NameId) → mark_of turn (slice_get marks name.number) ≡ position (bytes_eq (text_of p name)) nodes
  mark_is name = by (slice_get (map (λ e. e.0) p.names) name.number) refl
    where
      by : (o : Option Text) → slice_get (map (λ e. e.0) p.names) name.number ≡ o → mark_of turn (slice_get marks name.number) ≡ position (bytes_eq (text_of p name)) nodes
      by (Some t) h =
          a.marked.each name.number t h ∙ ap (λ x. position (bytes_eq x) nodes) (text_is p name (Some t) (sym h))
      by None h =
          let out : length marks ≤ name.number = elim (cases_lt name.number (length marks)) [
            | inl lt ↦ absurd (not_past (map (λ e. e.0) p.names) name.number h (let c = a.marked.count in omega (arith, c, lt)))
            | inr le ↦ le
          ] in
          ap (mark_of turn) (slice_get_past marks name.number out)
          ∙ sym (ap (λ x. position (bytes_eq x) nodes) (sym (text_is p name None (sym h)))
          ∙ none_by (position (bytes_eq []) nodes) (sym (any_is (bytes_eq []) nodes) ∙ nameless nodes a.names))

  -- the number of a node
  pub number_by : (name : NameId) (o : Option ℕ) → mark_of turn (slice_get marks name.number) ≡ o → unwrap_or o (length nodes) ≡ number_of (text_of p name) nodes
  number_by name o h =
      ap (λ x. unwrap_or x (length nodes)) (sym h ∙ mark_is name) ∙ number_is (bytes_eq (text_of p name)) nodes

  -- a node that is there, and one that is not
  pub with_by : (name : NameId) (b : Bool) → is_some (mark_of turn (slice_get marks name.number)) ≡ b
      → with_name (text_of p name) nodes ≡ cond b nodes (nodes ++ text_of p name ∷ [])
  with_by name b h =
      ap (λ (x : Bool). cond x nodes (nodes ++ text_of p name ∷ [])) (any_is (bytes_eq (text_of p name)) nodes ∙ ap is_some (sym (mark_is name)) ∙ h)

  -- a name that is one is there
  pub name_there : (name : NameId) → IsName (text_of p name) → slice_get (map (λ e. e.0) p.names) name.number ≡ Some (text_of p name)
  name_there name is = by (slice_get (map (λ e. e.0) p.names) name.number) refl
    where
      by : (o : Option Text) → slice_get (map (λ e. e.0) p.names) name.number ≡ o → slice_get (map (λ e. e.0) p.names) name.number ≡ Some (text_of p name)
      by (Some t) h = h ∙ ap Some (text_is p name (Some t) (sym h))
      by None h =
          let named : IsName [] = subst IsName (sym (text_is p name None (sym h))) is in
          let some = named.some in
          absurd (omega (arith, some))

  -- one node more
  pub nodes_push : (name : NameId) (mark : Mark) (new : List Mark) → IsName (text_of p name) → is_some (mark_of turn (slice_get marks name.number)) ≡ false
      → mark.turn ≡ turn → mark.number ≡ length nodes → length nodes < 4294967295 → new ≡ set marks name.number mark
      → AreNodes p (nodes ++ text_of p name ∷ []) turn new
  nodes_push name mark new is none now here few e = record {
    names = All-push IsName nodes (text_of p name) a.names is;
    few = omega (arith, few, length-append nodes (text_of p name ∷ []));
    own = a.own;
    marked = (end_marked (map (λ e. e.0) p.names) turn (length nodes) (text_of p name) marks name.number mark new a.own (name_there name is)
        (none_by (mark_of turn (slice_get marks name.number)) none) now here e).more nodes refl a.marked;
  }

-- ---- nets of nodes

-- one net more is looked up
pub nets_more : (e : Extracted) (nets : List (Option (Option ℕ))) (node : NameId) (net : Option ℕ) → AreNetsOf e nets → node.number < length nets
    → net ≡ node_net e.netlist e.parasitics.delimiter (text_of e.parasitics node) → AreNetsOf e (set nets node.number (Some net))
nets_more e nets node net all lt is = record {
  each = λ k x h. elim (cases_eq k node.number) [
    | inl same ↦
        let here : Some (Some net) ≡ Some (Some x) =
        sym (get_same nets node.number (Some net) lt) ∙ (ap (λ i. slice_get (set nets node.number (Some net)) i) (sym same) ∙ h) in
        let one : net ≡ x = same_Some net x (same_Some (Some net) (Some x) here) in
        sym one ∙ (is ∙ ap (λ i. node_net e.netlist e.parasitics.delimiter (text_of e.parasitics (record { number = i }))) (sym same))
    | inr ne ↦ all.each k x (sym (get_other nets node.number k (Some net) ne) ∙ h)
  ];
}
