-- The command of a form takes exactly the words of the form, and finds what they say.
use Rattle.std.proofs.Common.{◌≡◌, ◌∙◌, ◌<◌, ◌⊎◌, ℕ, Bool, true, false, cond, not, ◌&&◌, ◌||◌, ◌==◌, ◌^◌, arith, refl, sym, ap, ap₂, subst, List, [], ◌∷◌, ◌++◌, map, fold, drop, length, Option, Some, None, inl, inr, true≢false}
use Rattle.std.proofs.Math.Path.{fun_ext}
use Rattle.std.proofs.lemmas.Bool.{and_parts, cases_Bool}
use Rattle.std.specs.List.{find, list_all, list_any}
use Rattle.std.specs.Option.{IsSomeAnd, is_some, option_and_then, option_map, option_map_or}
use Rattle.std.specs.Prelude.{slice_get}
use Rattle.std.specs.Borrow.{Bor}
use Rattle.std.proofs.lemmas.List.{length-map}
use Rattle.std.specs.Str.{bytes_eq}
use Rattle.clap.specs.Lexer.{long_of, usize_max}
use Rattle.clap.specs.declared.error.kind.ErrorKind.{ErrorKind}
use Rattle.clap.specs.declared.error.kind.ErrorKind.TheVariants as fault_kind
use Rattle.clap.specs.Kinds.{HasKind, Kinds, or_else}
use Rattle.clap.specs.Walk.{Held, Row, Rule, Walk, finished, first_of, has_row, nothing_held, rows_of, settled, walk, walked, with_default, is_early_multiple}
use Rattle.clap.specs.Takes.{is_given}
use Rattle.clap.specs.Faults.{check_fault, defaults_fault, fault_of, is_simple_and_free, repeat_fault, settle_fault, turn_fault, walk_fault}
use Rattle.clap.specs.Simple.{App, HasMatchesOf, is_simple, matches_of}
use Rattle.clap.specs.Matches.{first_value, found_of}
use Rattle.clap.specs.Values.{kind_of}
use Rattle.clap.specs.declared.error.Error.{Error}
use Rattle.clap.specs.declared.parser.matches.ArgMatches.{ArgMatches}
use Rattle.clap.proofs.OnLiterals.{clap_on_literals}
use Rattle.clap.proofs.WalkLemmas.{first_value-rows}
use Rattle.command_grammar.specs.Grammar.{Text, Item, CommandForm, are_once, given_of, has_name, has_option, in_front, is_option, is_plain, items_from, option_of, value_of}
use Rattle.command_grammar.specs.Reading.{app_of_form, is_listed, option_rule, positional_rule}
use Rattle.command_grammar.proofs.Arguments.{IsKnown, Places, Argument, all_places, rules_of, filled_args, known_option, long_option, next, rule_of_argument, shape_of, arguments_of}
use Rattle.command_grammar.proofs.Steps.{attached_held, attached_turn, attached_walked, given_held, missed_turn, never, new_row, no_repeat, open_is, opened, option_turn, option_walked, positional_turn, positional_walked, repeat, ready, row, settle_is, settled_is, stray_turn, used_as_new, value_turn, value_walked}
use Rattle.command_grammar.proofs.Once.{found_after, found_end, found_more, found_twice, once_more, whole}

-- ---- what a walk comes to

abbrev pub end_fault : CommandForm → Held → Kinds
end_fault form h =
    or_else (settle_fault (rules_of form) false h)
    (or_else (defaults_fault (settled (rules_of form) h).rows (rules_of form)) (check_fault (shape_of form) (finished (rules_of form) h) false))

abbrev pub fault_from : CommandForm → Walk → List Text → Kinds
fault_from form w words = or_else (walk_fault (shape_of form) [] w words) (end_fault form (fold (walked (rules_of form) []) w words).held)

abbrev pub rows_from : CommandForm → Walk → List Text → List Row
rows_from form w words = finished (rules_of form) (fold (walked (rules_of form) []) w words).held

abbrev pub Fails : Kinds → Type 0
Fails kinds = (k : ErrorKind) × (ks : Kinds) × (kinds ≡ k ∷ ks)

-- the walk fails where there are no items, and else its rows are those of the items
abbrev pub Agrees : Kinds → List Row → Option (List Item) → Type 0
Agrees fault rows None = Fails fault
Agrees fault rows (Some items) = (fault ≡ []) × (rows ≡ map row items)

or_else_assoc : (a b c : Kinds) → or_else (or_else a b) c ≡ or_else a (or_else b c)
or_else_assoc [] b c = refl
or_else_assoc (k ∷ ks) b c = refl

abbrev is_there : Option (Text × Option Text) → Bool
is_there o = is_some o

-- what is known of an option's word
pub record IsOptionWord (form : CommandForm) (word name : Text) (value : Option Text) : Type 0 where
  pub long : long_of word ≡ Some (name, value)
  pub there : has_option form.options name ≡ true

-- a word that is listed and not plain is an option's
option_word_of : (form : CommandForm) (word : Text) → is_plain word ≡ false → is_listed form.options word ≡ true
    → (name : Text) × (value : Option Text) × IsOptionWord form word name value × (option_of form.options word ≡ Some (name, value))
option_word_of form word plain listed = go (long_of word) refl (rw plain at listed)
  where
    go : (o : Option (Text × Option Text)) → long_of word ≡ o → is_some (option_of form.options word) ≡ true
        → (name : Text) × (value : Option Text) × IsOptionWord form word name value × (option_of form.options word ≡ Some (name, value))
    go None e h = absurd (true≢false (sym h ∙ ap (λ (l : Option (Text × Option Text)). is_some (option_and_then (λ p. cond (is_option form.options p) (Some p) None) l)) e))
    go (Some p) e h = elim (cases_Bool (is_option form.options p)) [
      | inl fine ↦
          let there = (and_parts (has_option form.options p.0) (option_map_or is_plain p.1 true) fine).0 in
          (p.0, p.1, record { long = e; there = there }, ap (λ (l : Option (Text × Option Text)). option_and_then (λ q. cond (is_option form.options q) (Some q) None) l) e ∙ ap (λ b. cond b (Some p) None) fine)
      | inr other ↦ absurd (true≢false (sym h ∙ ap (λ (l : Option (Text × Option Text)). is_some (option_and_then (λ q. cond (is_option form.options q) (Some q) None) l)) e
          ∙ ap (λ b. is_there (cond b (Some p) None)) other))
    ]

not_dash : (b : ℕ) → not (b == 45) ≡ true → (b == 45) ≡ false
not_dash b e = elim (cases_Bool (b == 45)) [
  | inl dash ↦ absurd (true≢false (sym e ∙ ap not dash))
  | inr other ↦ other
]

module _ (form : CommandForm) where
  abbrev c : List Rule
  c = rules_of form

  fault_more : (w : Walk) (word : Text) (words : List Text) → fault_from form w (word ∷ words) ≡ or_else (turn_fault (shape_of form) [] w word) (fault_from form (walked c [] w word) words)
  unfolding clap_on_literals
  fault_more w word words = or_else_assoc (turn_fault (shape_of form) [] w word) (walk_fault (shape_of form) [] (walked c [] w word) words) (end_fault form (fold (walked c []) (walked c [] w word) words).held)

  -- a word that fails
  fails_at : (w : Walk) (word : Text) (words : List Text) (k : ErrorKind) → turn_fault (shape_of form) [] w word ≡ k ∷ [] → Fails (fault_from form w (word ∷ words))
  fails_at w word words k e = (k, [], fault_more w word words ∙ ap (λ ks. or_else ks (fault_from form (walked c [] w word) words)) e)

  -- a word that passes
  passes_at : (w next : Walk) (word : Text) (words : List Text) (o : Option (List Item)) → turn_fault (shape_of form) [] w word ≡ [] → walked c [] w word ≡ next
      → Agrees (fault_from form next words) (rows_from form next words) o → Agrees (fault_from form w (word ∷ words)) (rows_from form w (word ∷ words)) o
  passes_at w next word words o quiet step h =
      let fault : fault_from form w (word ∷ words) ≡ fault_from form next words = fault_more w word words ∙ ap (λ ks. or_else ks (fault_from form (walked c [] w word) words)) quiet ∙ ap (λ v. fault_from form v words) step in
      let rows : rows_from form w (word ∷ words) ≡ rows_from form next words = ap (λ v. rows_from form v words) step in
      go o (fault_from form w (word ∷ words)) (rows_from form w (word ∷ words)) (fault_from form next words) (rows_from form next words) fault rows h
    where
      go : (o : Option (List Item)) (f : Kinds) (r : List Row) (g : Kinds) (s : List Row) → f ≡ g → r ≡ s → Agrees g s o → Agrees f r o
      go None f r g s e d h = (h.0, h.1, e ∙ h.2)
      go (Some items) f r g s e d h = (e ∙ h.0, d ∙ h.1)

  -- ---- a walk between two uses

  -- the items so far, of which the last may be pending
  pub record IsReady (h : Held) (items : List Item) : Type 0 where
    pub settles : settle_fault c false h ≡ []
    pub rows : (settled c h).rows ≡ map row items
    pub once : are_once items ≡ true

  abbrev IsRepeat : Held → Type 0
  IsRepeat h = settle_fault c false h ≡ fault_kind.ArgumentConflict ∷ []

  -- a use that is pending and repeats another one fails at whatever comes next
  repeat_fails : (h : Held) (p : ℕ) (left words : List Text) → IsRepeat h → Places c p left → list_all (is_listed form.options) words ≡ true
      → Fails (fault_from form (ready h p) words)
  unfolding clap_on_literals
  repeat_fails h p left [] d places listed = (fault_kind.ArgumentConflict, [], ap (λ ks. or_else ks (or_else (defaults_fault (settled c h).rows c) (check_fault (shape_of form) (finished c h) false))) d)
  repeat_fails h p left (word ∷ words) d places listed = elim (cases_Bool (is_plain word)) [
    | inl plain ↦ by_plain word left plain places
    | inr other ↦
        let w = option_word_of form word other (and_parts _ _ listed).0 in
        by_option w.0 w.1 w.2
  ]
    where
      by_plain : (word : Text) (left : List Text) → is_plain word ≡ true → Places c p left → Fails (fault_from form (ready h p) (word ∷ words))
      by_plain [] left plain places = absurd (true≢false (sym plain))
      by_plain (b ∷ more) [] plain places = fails_at (ready h p) (b ∷ more) words fault_kind.UnknownArgument (stray_turn c h p b more (not_dash b plain) places)
      by_plain (b ∷ more) (name ∷ rest) plain places =
          fails_at (ready h p) (b ∷ more) words fault_kind.ArgumentConflict (positional_turn c h p b more _ (not_dash b plain) places.0 ∙ d)

      by_option : (name : Text) (value : Option Text) → IsOptionWord form word name value → Fails (fault_from form (ready h p) (word ∷ words))
      by_option name None o =
          let long = long_option form name o.there in
          fails_at (ready h p) word words fault_kind.ArgumentConflict (option_turn c h p word name long.argument o.long long.found ∙ ap (λ ks. or_else ks []) d)
      by_option name (Some v) o =
          let long = long_option form name o.there in
          fails_at (ready h p) word words fault_kind.ArgumentConflict
          (attached_turn c h p word name v long.argument o.long long.found long.called ∙ ap (λ ks. or_else (or_else ks (or_else (repeat_fault false name (settled c h).rows) [])) []) d)

  -- ---- what is pending

  pending_settles : (name v : Text) (h : Held) (items : List Item) → IsKnown c name → IsReady h items
      → settle_fault c false (given_held c name v h) ≡ or_else (repeat_fault false name (map row items)) []
  pending_settles name v h items k r = settle_is c name v (settled c h).rows h.skip k ∙ ap (λ rows. or_else (repeat_fault false name rows) []) r.rows

  pending_repeat : (name v : Text) (h : Held) (items : List Item) → IsKnown c name → IsReady h items → has_name name items ≡ true → IsRepeat (given_held c name v h)
  pending_repeat name v h items k r e = pending_settles name v h items k r ∙ ap (λ ks. or_else ks []) (repeat name items e)

  pending_ready : (name v : Text) (h : Held) (items : List Item) → IsKnown c name → IsReady h items → has_name name items ≡ false
      → IsReady (given_held c name v h) (items ++ (name, v) ∷ [])
  pending_ready name v h items k r e = record {
    settles = pending_settles name v h items k r ∙ ap (λ ks. or_else ks []) (no_repeat name items e);
    rows = settled_is c name v (settled c h).rows h.skip k ∙ ap (used_as_new name v) r.rows ∙ new_row name v items e;
    once = once_more (name, v) items r.once e;
  }

  attached_ready : (name v : Text) (h : Held) (items : List Item) → IsReady h items → has_name name items ≡ false
      → IsReady (attached_held c name v h) (items ++ (name, v) ∷ [])
  attached_ready name v h items r e = record {
    settles = refl;
    rows = ap (used_as_new name v) r.rows ∙ new_row name v items e;
    once = once_more (name, v) items r.once e;
  }

  attached_fault : (h : Held) (p : ℕ) (word name v : Text) (items : List Item) → IsOptionWord form word name (Some v) → IsReady h items
      → turn_fault (shape_of form) [] (ready h p) word ≡ or_else (or_else (repeat_fault false name (map row items)) []) []
  attached_fault h p word name v items o r =
      let long = long_option form name o.there in
      attached_turn c h p word name v long.argument o.long long.found long.called
      ∙ ap₂ (λ ks rows. or_else (or_else ks (or_else (repeat_fault false name rows) [])) []) r.settles r.rows

  -- ---- the end of the words

  lacks_none : (items : List Item) (arguments : List Argument) → list_any (λ a. a.required && not (is_given a.id (map row items))) (map rule_of_argument arguments) ≡ false
  lacks_none items [] = refl
  lacks_none items (s ∷ rest) = lacks_none items rest

  check_is : (items : List Item) → check_fault (shape_of form) (map row items) false ≡ []
  check_is items = ap (λ b. cond b (fault_kind.MissingRequiredArgument ∷ []) []) (lacks_none items (arguments_of form))

  same_either : {X : Type 0} (b : Bool) (x : X) → cond b x x ≡ x
  same_either true x = refl
  same_either false x = refl

  always : (b : Bool) → (b || true) ≡ true
  always true = refl
  always false = refl

  -- no argument has a default
  no_more : (arguments : List Argument) (rows : List Row) → fold with_default rows (map rule_of_argument arguments) ≡ rows
  no_more [] rows = refl
  no_more (s ∷ rest) rows = ap (λ rs. fold with_default rs (map rule_of_argument rest)) (same_either (has_row s.name rows) rows) ∙ no_more rest rows

  no_defaults : (arguments : List Argument) (rows : List Row) → defaults_fault rows (map rule_of_argument arguments) ≡ []
  unfolding clap_on_literals
  no_defaults [] rows = refl
  no_defaults (s ∷ rest) rows = rw (always (has_row s.name rows)) (no_defaults rest (with_default rows (rule_of_argument s)))

  finished_is : (h : Held) → finished c h ≡ (settled c h).rows
  finished_is h = no_more (arguments_of form) (settled c h).rows

  end_is : (h : Held) (items : List Item) → IsReady h items → end_fault form h ≡ []
  end_is h items r =
      ap (λ ks. or_else ks (or_else (defaults_fault (settled c h).rows c) (check_fault (shape_of form) (finished c h) false))) r.settles
      ∙ ap (λ ks. or_else ks (check_fault (shape_of form) (finished c h) false)) (no_defaults (arguments_of form) (settled c h).rows)
      ∙ ap (λ rows. check_fault (shape_of form) rows false) (finished_is h ∙ r.rows) ∙ check_is items

  at_end : (h : Held) (p : ℕ) (items : List Item) → IsReady h items → Agrees (fault_from form (ready h p) []) (rows_from form (ready h p) []) (whole items)
  unfolding clap_on_literals
  at_end h p items r = rw r.once (end_is h items r, finished_is h ∙ r.rows)

  open_end : (name : Text) (h : Held) (p : ℕ) → IsKnown c name → Fails (fault_from form (opened c name h p) [])
  unfolding clap_on_literals
  open_end name h p k =
      let held = (opened c name h p).held in
      (fault_kind.InvalidValue, [], ap (λ ks. or_else ks (or_else (defaults_fault (settled c held).rows c) (check_fault (shape_of form) (finished c held) false))) (open_is c name h k))

  -- ---- the whole walk

  -- where the walk stands: at rest, or where an option waits for its value
  abbrev state : Option Text → Held → ℕ → Walk
  state None h p = ready h p
  state (Some name) h p = opened c name h p

  abbrev Known : Option Text → Type 0
  Known None = Unit {0}
  Known (Some name) = IsKnown c name

  -- wherever the walk stands, these words come to what they say
  abbrev AgreesOn : List Text → Type 0
  AgreesOn words = (waits : Option Text) (h : Held) (p : ℕ) (left : List Text) (items : List Item) → IsReady h items → Known waits → Places c p left
      → Agrees (fault_from form (state waits h p) words) (rows_from form (state waits h p) words) (found_after items (items_from form.options waits left words))

  module _ (words : List Text) (listed : list_all (is_listed form.options) words ≡ true) (later : AgreesOn words) (h : Held) (p : ℕ) (left : List Text) (items : List Item) (r : IsReady h items) where
    -- behind a use that is pending, whether it is the first of its name or not
    behind : (name v : Text) (q : ℕ) (rest : List Text) → IsKnown c name → Places c q rest
        → Agrees (fault_from form (ready (given_held c name v h) q) words) (rows_from form (ready (given_held c name v h) q) words) (found_after items (in_front (name, v) (items_from form.options None rest words)))
    behind name v q rest known there =
        let o = items_from form.options None rest words in
        let fault = fault_from form (ready (given_held c name v h) q) words in
        let rows = rows_from form (ready (given_held c name v h) q) words in
        let Q : Option (List Item) → Type 0 = λ o. Agrees fault rows o in
        elim (cases_Bool (has_name name items)) [
          | inl again ↦ subst Q (sym (found_twice (name, v) items o again)) (repeat_fails (given_held c name v h) q rest words (pending_repeat name v h items known r again) there listed)
          | inr first ↦ subst Q (sym (found_more (name, v) items o)) (later None (given_held c name v h) q rest (items ++ (name, v) ∷ []) (pending_ready name v h items known r first) tt there)
        ]

    by_plain : (word : Text) (left : List Text) → is_plain word ≡ true → Places c p left
        → Agrees (fault_from form (ready h p) (word ∷ words)) (rows_from form (ready h p) (word ∷ words)) (found_after items (items_from form.options None left (word ∷ words)))
    by_plain [] left plain places = absurd (true≢false (sym plain))
    by_plain (b ∷ more) [] plain places = rw plain (fails_at (ready h p) (b ∷ more) words fault_kind.UnknownArgument (stray_turn c h p b more (not_dash b plain) places))
    by_plain (b ∷ more) (name ∷ rest) plain places =
        rw plain (passes_at (ready h p) (ready (given_held c name (b ∷ more) h) (next p)) (b ∷ more) words _
        (positional_turn c h p b more _ (not_dash b plain) places.0 ∙ r.settles) (positional_walked c h p b more _ (not_dash b plain) places.0)
        (behind name (b ∷ more) (next p) rest places.1 places.2))

    by_option : (word name : Text) (value : Option Text) → Places c p left → IsOptionWord form word name value → is_plain word ≡ false → option_of form.options word ≡ Some (name, value)
        → Agrees (fault_from form (ready h p) (word ∷ words)) (rows_from form (ready h p) (word ∷ words)) (found_after items (items_from form.options None left (word ∷ words)))
    by_option word name None places o other is =
        let long = long_option form name o.there in
        rw (other, is) (passes_at (ready h p) (opened c name h p) word words _
        (option_turn c h p word name long.argument o.long long.found ∙ ap (λ ks. or_else ks []) r.settles) (option_walked c h p word name long.argument o.long long.found long.called)
        (later (Some name) h p left items r (known_option form name o.there) places))
    by_option word name (Some v) places o other is =
        let long = long_option form name o.there in
        let rest = items_from form.options None left words in
        let fault = fault_from form (ready h p) (word ∷ words) in
        let rows = rows_from form (ready h p) (word ∷ words) in
        let Q : Option (List Item) → Type 0 = λ o. Agrees fault rows o in
        rw (other, is) (elim (cases_Bool (has_name name items)) [
          | inl again ↦ subst Q (sym (found_twice (name, v) items rest again)) (fails_at (ready h p) word words fault_kind.ArgumentConflict
              (attached_fault h p word name v items o r ∙ ap (λ ks. or_else (or_else ks []) []) (repeat name items again)))
          | inr first ↦ subst Q (sym (found_more (name, v) items rest)) (passes_at (ready h p) (ready (attached_held c name v h) p) word words _
              (attached_fault h p word name v items o r ∙ ap (λ ks. or_else (or_else ks []) []) (no_repeat name items first))
              (attached_walked c h p word name v long.argument o.long long.found long.called)
              (later None (attached_held c name v h) p left (items ++ (name, v) ∷ []) (attached_ready name v h items r first) tt places))
        ])

    by_value : (waits word : Text) → IsKnown c waits → Places c p left → is_plain word ≡ true
        → Agrees (fault_from form (opened c waits h p) (word ∷ words)) (rows_from form (opened c waits h p) (word ∷ words)) (found_after items (items_from form.options (Some waits) left (word ∷ words)))
    by_value waits [] k places plain = absurd (true≢false (sym plain))
    by_value waits (b ∷ more) k places plain =
        rw plain (passes_at (opened c waits h p) (ready (given_held c waits (b ∷ more) h) p) (b ∷ more) words _
        (value_turn c waits h p b more (not_dash b plain)) (value_walked c waits h p b more k (not_dash b plain))
        (behind waits (b ∷ more) p left k places))

    by_missed : (waits word name : Text) (value : Option Text) → IsKnown c waits → IsOptionWord form word name value → is_plain word ≡ false
        → Agrees (fault_from form (opened c waits h p) (word ∷ words)) (rows_from form (opened c waits h p) (word ∷ words)) (found_after items (items_from form.options (Some waits) left (word ∷ words)))
    by_missed waits word name value k o other =
        let long = long_option form name o.there in
        rw other (fails_at (opened c waits h p) word words fault_kind.InvalidValue (missed_turn c h p waits word name value long.argument k o.long long.found))

  agrees : (words : List Text) → list_all (is_listed form.options) words ≡ true → AgreesOn words
  agrees [] listed None h p left items r k places =
      let P : Option (List Item) → Type 0 = λ o. Agrees (fault_from form (ready h p) []) (rows_from form (ready h p) []) o in
      subst P (sym (found_end items)) (at_end h p items r)
  agrees [] listed (Some name) h p left items r k places = open_end name h p k
  agrees (word ∷ words) listed None h p left items r k places =
      let parts = and_parts _ _ listed in
      let later = agrees words parts.1 in
      elim (cases_Bool (is_plain word)) [
        | inl plain ↦ by_plain words parts.1 later h p left items r word left plain places
        | inr other ↦
            let w = option_word_of form word other parts.0 in
            by_option words parts.1 later h p left items r word w.0 w.1 places w.2 other w.3
      ]
  agrees (word ∷ words) listed (Some waits) h p left items r k places =
      let parts = and_parts _ _ listed in
      let later = agrees words parts.1 in
      elim (cases_Bool (is_plain word)) [
        | inl plain ↦ by_value words parts.1 later h p left items r waits word k places plain
        | inr other ↦
            let w = option_word_of form word other parts.0 in
            by_missed words parts.1 later h p left items r waits word w.0 w.1 k w.2 other
      ]

  -- ---- the whole command

  nothing_ready : IsReady nothing_held []
  nothing_ready = record { settles = refl; rows = refl; once = refl }

  never_some : {X Y : Type 0} (o : Option X) → option_and_then {T = X} {U = Y} (λ x. None) o ≡ None
  never_some None = refl
  never_some (Some x) = refl

  never_kinds : {X : Type 0} (o : Option X) → option_map_or {T = X} {U = Kinds} (λ x. []) o [] ≡ []
  never_kinds None = refl
  never_kinds (Some x) = refl

  fault_is : (all : List Text) → fault_of (app_of_form form) all ≡ fault_from form (ready nothing_held 1) (drop 1 all)
  fault_is all =
      let stop = (walk c [] nothing_held (drop 1 all)).stopped in
      rw (filled_args form) (rw (never_some stop, never_kinds stop) refl)

  matches_are : (all : List Text) → matches_of (app_of_form form) all ≡ rows_from form (ready nothing_held 1) (drop 1 all)
  matches_are all = rw (filled_args form) refl

  -- the command fails at the words behind the program's where they give no items, and else finds those
  command_agrees : length form.positionals < usize_max → (all : List Text) → list_all (is_listed form.options) (drop 1 all) ≡ true
      → Agrees (fault_of (app_of_form form) all) (matches_of (app_of_form form) all) (given_of form (drop 1 all))
  command_agrees room all e =
      let words = drop 1 all in
      let P : Kinds → Type 0 = λ ks. Agrees ks (matches_of (app_of_form form) all) (given_of form words) in
      let Q : List Row → Type 0 = λ rows. Agrees (fault_from form (ready nothing_held 1) words) rows (given_of form words) in
      subst P (sym (fault_is all)) (subst Q (sym (matches_are all)) (agrees words e None nothing_held 1 form.positionals [] nothing_ready tt (all_places form room)))

  -- ---- the command is one of which `clap` says all this

  simple_words : (names : List Text) → list_all (λ (a : Rule). a.is_simple) (map positional_rule names) ≡ true
  simple_words [] = refl
  simple_words (name ∷ rest) = simple_words rest

  simple_before : (options : List Text) (names : List Text) → list_all (λ (a : Rule). a.is_simple) (map option_rule options ++ map positional_rule names) ≡ true
  simple_before [] names = simple_words names
  simple_before (o ∷ rest) names = simple_before rest names

  simple_after : (arguments : List Argument) → list_all (λ (a : Rule). a.is_simple) (map rule_of_argument arguments) ≡ true
  simple_after [] = refl
  simple_after (s ∷ rest) = simple_after rest

  free_rules : (arguments : List Argument) → list_all (λ (a : Rule). a.is_free) (map rule_of_argument arguments) ≡ true
  free_rules [] = refl
  free_rules (s ∷ rest) = free_rules rest

  never_early : (n : ℕ) (arguments : List Argument) → list_any (is_early_multiple n) (map rule_of_argument arguments) ≡ false
  never_early n [] = refl
  never_early n (s ∷ rest) = rw (never (is_some s.index)) (never_early n rest)

  app_is_simple : is_simple (app_of_form form) ≡ true
  app_is_simple =
      rw (simple_before form.options form.positionals) (rw (filled_args form) (rw (simple_after (arguments_of form)) (ap (λ b. not b && true) (never_early _ (arguments_of form)))))

  app_is_free : is_simple_and_free (app_of_form form) ≡ true
  app_is_free = rw app_is_simple (rw (filled_args form) (rw (free_rules (arguments_of form)) refl))

-- what the getters of the matches give
first_is : (name : Text) (items : List Item) → first_of name (map row items) ≡ value_of items name
first_is name [] = refl
first_is name (i ∷ rest) = go (bytes_eq i.0 name) (first_is name rest)
  where
    go : (b : Bool) → first_of name (map row rest) ≡ value_of rest name
        → option_and_then (λ (r : Row). slice_get r.values 0) (cond b (Some (row i)) (find (λ r. bytes_eq r.id name) (map row rest))) ≡ option_map (λ (j : Item). j.1) (cond b (Some i) (find (λ j. bytes_eq j.0 name) rest))
    go true e = refl
    go false e = e

-- where the command succeeds, its matches are what the words say
pub found : (form : CommandForm) (app : App) (all : List Text) (m : ArgMatches) → length form.positionals < usize_max → app ≡ app_of_form form
    → list_all (is_listed form.options) (drop 1 all) ≡ true → HasMatchesOf app all m → (is_simple_and_free app ≡ true → fault_of app all ≡ [])
    → IsSomeAnd (given_of form (drop 1 all)) (λ items. first_value (found_of m) ≡ value_of items)
found form app all m room is e matches quiet =
    let none : fault_of (app_of_form form) all ≡ [] = ap (λ a. fault_of a all) (sym is) ∙ quiet (ap is_simple_and_free is ∙ app_is_free form) in
    let rows : rows_of (found_of m) ≡ matches_of (app_of_form form) all = (matches (ap is_simple is ∙ app_is_simple form)).0 ∙ ap (λ a. matches_of a all) is in
    go (given_of form (drop 1 all)) (command_agrees form room all e) none rows
  where
    filled : (k : ErrorKind) (ks : Kinds) → k ∷ ks ≡ [] → ⊥
    filled k ks e = true≢false (ap (λ (l : Kinds). elim l as (λ _. Bool) [ [] ↦ false | x ∷ xs ↦ true ]) e)

    go : (o : Option (List Item)) → Agrees (fault_of (app_of_form form) all) (matches_of (app_of_form form) all) o → fault_of (app_of_form form) all ≡ []
        → rows_of (found_of m) ≡ matches_of (app_of_form form) all → IsSomeAnd o (λ items. first_value (found_of m) ≡ value_of items)
    go None h none rows = absurd (filled h.0 h.1 (sym h.2 ∙ none))
    go (Some items) h none rows = fun_ext (λ name. first_value-rows (found_of m) name ∙ ap (first_of name) (rows ∙ h.1) ∙ first_is name items)

-- where it fails, and not for want of memory, the words are no such words
pub refused : (form : CommandForm) (app : App) (all : List Text) (e : Error) → length form.positionals < usize_max → app ≡ app_of_form form
    → list_all (is_listed form.options) (drop 1 all) ≡ true → (is_simple_and_free app ≡ true → HasKind (fault_of app all) e)
    → (kind_of e ≡ fault_kind.OutOfMemory → ⊥) → given_of form (drop 1 all) ≡ None
refused form app all e room is listed fails memory =
    let R : Kinds → Type 0 = λ ks. HasKind ks e in
    let has : HasKind (fault_of (app_of_form form) all) e = subst R (ap (λ a. fault_of a all) is) (fails (ap is_simple_and_free is ∙ app_is_free form)) in
    go (given_of form (drop 1 all)) (command_agrees form room all listed) has
  where
    among : (o : (kind_of e ≡ fault_kind.OutOfMemory) ⊎ ⊥) → ⊥
    among (inl m) = memory m
    among (inr h) = h

    go : (o : Option (List Item)) → Agrees (fault_of (app_of_form form) all) (matches_of (app_of_form form) all) o → HasKind (fault_of (app_of_form form) all) e → o ≡ None
    go None h has = refl
    go (Some items) h has = let S : Kinds → Type 0 = λ ks. HasKind ks e in absurd (among (subst S h.0 has))

pub few : (names : List (Bor Text)) → length names < 2 ^ 63 → length (map (λ name. name.now) names) < usize_max
few names h = let same : length (map (λ (name : Bor Text). name.now) names) ≡ length names = length-map names (λ (name : Bor Text). name.now) in omega (arith, same, h)
