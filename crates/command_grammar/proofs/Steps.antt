-- What one word does to a walk of `clap` over words of a form.
use Rattle.std.proofs.Common.{◌≡◌, ◌∙◌, ℕ, Bool, true, false, cond, ◌&&◌, ◌||◌, ◌==◌, refl, sym, ap, ap₂, List, [], ◌∷◌, ◌++◌, map, Option, Some, None, inl, inr, true≢false, append-nil}
use Rattle.std.proofs.lemmas.Bool.{cases_Bool}
use Rattle.std.proofs.lemmas.List.{map-append}
use Rattle.std.proofs.lemmas.Slice.Eq.{bytes_eq-Decides}
use Rattle.std.specs.Option.{option_map_or}
use Rattle.std.specs.Str.{bytes_eq}
use Rattle.clap.specs.Lexer.{long_of}
use Rattle.clap.specs.declared.error.kind.ErrorKind.TheVariants as fault_kind
use Rattle.clap.specs.declared.builder.value_parser.Reading.TheVariants as reading
use Rattle.clap.specs.declared.parser.matches.ValueSource.TheVariants.{CommandLine}
use Rattle.clap.specs.Kinds.{Kinds, or_else}
use Rattle.clap.specs.Walk.{Held, Row, Rule, Waiting, Walk, after_flag, after_step, arg_by_id, arg_by_index, arg_by_long, at_row, has_row, idle, is_pending, long_met, long_or_other, more_values, option, option_word, settled, to_positional, trailing, used_by_id, walked, with_values, without}
use Rattle.clap.specs.Faults.{flag_word_fault, long_fault, positional_fault, repeat_fault, settle_fault, step_fault, stray_fault, turn_fault, use_fault}
use Rattle.clap.proofs.OnLiterals.{clap_on_literals}
use Rattle.command_grammar.specs.Grammar.{Text, Item, has_name}
use Rattle.command_grammar.proofs.Arguments.{IsKnown, Argument, next, rule_of_argument, same_bytes, shape_with}

abbrev pub ready : Held → ℕ → Walk
ready h p = record { held = h; waiting = idle; position = p; is_trailing = false; stopped = None }

abbrev pub row : Item → Row
row i = record { id = i.0; values = i.1 ∷ []; count = None; source = Some CommandLine; reading = reading.AsWritten }

abbrev pub used_as_new : Text → Text → List Row → List Row
used_as_new name v rows = with_values name reading.AsWritten CommandLine (v ∷ []) (without name rows)

abbrev dashes : Text
dashes = 45 ∷ 45 ∷ []

pub no_dashes : (word : Text) (p : Text × Option Text) → long_of word ≡ Some p → bytes_eq word dashes ≡ false
no_dashes word p e = elim (cases_Bool (bytes_eq word dashes)) [
  | inr other ↦ other
  | inl same ↦ absurd (none_is_not_some (ap long_of (sym ((bytes_eq-Decides word dashes).0 same)) ∙ e))
]
  where
    none_is_not_some : ◌≡◌ {A = Option (Text × Option Text)} None (Some p) → ⊥
    none_is_not_some e = true≢false (sym (ap (λ (x : Option (Text × Option Text)). elim x as (λ _. Bool) [ None ↦ false | Some y ↦ true ]) e))

pub never : (b : Bool) → (b && false) ≡ false
never true = refl
never false = refl

-- ---- an argument that is used

module _ (c : List Rule) where
  abbrev pub open_held : Text → Held → Held
  open_held name h = record { rows = (settled c h).rows; pending = Some (name, []); skip = h.skip }

  abbrev pub given_held : Text → Text → Held → Held
  given_held name value h = record { rows = (settled c h).rows; pending = Some (name, value ∷ []); skip = h.skip }

  abbrev pub attached_held : Text → Text → Held → Held
  attached_held name v h = record { rows = used_as_new name v (settled c h).rows; pending = None; skip = h.skip }

  abbrev pub opened : Text → Held → ℕ → Walk
  opened name h p = record { held = open_held name h; waiting = option name; position = p; is_trailing = false; stopped = None }

  -- a use that is pending, with its value
  pub settle_is : (name v : Text) (rows : List Row) (skip : ℕ) → IsKnown c name
      → settle_fault c false (record { rows = rows; pending = Some (name, v ∷ []); skip = skip }) ≡ or_else (repeat_fault false name rows) []
  settle_is name v rows skip k =
      ap (λ (o : Option Rule). option_map_or (λ a. use_fault false a (v ∷ []) rows) o []) k.found
      ∙ ap (λ n. or_else (repeat_fault false n rows) []) k.called

  -- an option that is pending, and has no value
  pub open_is : (name : Text) (h : Held) → IsKnown c name → settle_fault c false (open_held name h) ≡ fault_kind.InvalidValue ∷ []
  open_is name h k = ap (λ (o : Option Rule). option_map_or (λ a. use_fault false a [] (settled c h).rows) o []) k.found

  pub settled_is : (name v : Text) (rows : List Row) (skip : ℕ) → IsKnown c name
      → (settled c (record { rows = rows; pending = Some (name, v ∷ []); skip = skip })).rows ≡ used_as_new name v rows
  settled_is name v rows skip k = ap (λ (o : Option Rule). used_by_id o (v ∷ []) rows) k.found ∙ ap (λ n. used_as_new n v rows) k.called

-- ---- the word of an option

module _ (c : List Rule) where
  abbrev turn_by : (h : Held) (waiting : Waiting) (p : ℕ) (word : Text) → Bool → Option (Text × Option Text) → Kinds
  turn_by h waiting p word dashed long =
      let met = cond dashed (h, trailing p) (long_or_other c waiting word long h) in
      or_else (cond dashed [] (flag_word_fault c false long word h)) (step_fault (shape_with c) p met.0 met.1)

  abbrev walked_by : (h : Held) (waiting : Waiting) (p : ℕ) (word : Text) → Bool → Option (Text × Option Text) → Walk
  walked_by h waiting p word dashed long =
      let met = cond dashed (h, trailing p) (long_or_other c waiting word long h) in
      after_step c word (record { held = h; waiting = waiting; position = p; is_trailing = false; stopped = None }) met.0 met.1

  abbrev turn_long : (h : Held) (waiting : Waiting) (p : ℕ) (word : Text) → Option Text → Option Rule → Kinds
  turn_long h waiting p word value a =
      let met = after_flag c waiting word (long_met c a value h).0 (long_met c a value h).1 in
      or_else (long_fault c false a value h) (step_fault (shape_with c) p met.0 met.1)

  abbrev walked_long : (h : Held) (waiting : Waiting) (p : ℕ) (word : Text) → Option Text → Option Rule → Walk
  walked_long h waiting p word value a =
      let met = after_flag c waiting word (long_met c a value h).0 (long_met c a value h).1 in
      after_step c word (record { held = h; waiting = waiting; position = p; is_trailing = false; stopped = None }) met.0 met.1

  turn_found : (h : Held) (waiting : Waiting) (p : ℕ) (word name : Text) (value : Option Text) (a : Rule) → long_of word ≡ Some (name, value)
      → arg_by_long c name ≡ Some a → turn_by h waiting p word (bytes_eq word dashes) (long_of word) ≡ turn_long h waiting p word value (Some a)
  turn_found h waiting p word name value a e found =
      ap₂ (turn_by h waiting p word) (no_dashes word (name, value) e) e ∙ ap (turn_long h waiting p word value) found

  walked_found : (h : Held) (waiting : Waiting) (p : ℕ) (word name : Text) (value : Option Text) (a : Rule) → long_of word ≡ Some (name, value)
      → arg_by_long c name ≡ Some a → walked_by h waiting p word (bytes_eq word dashes) (long_of word) ≡ walked_long h waiting p word value (Some a)
  walked_found h waiting p word name value a e found =
      ap₂ (walked_by h waiting p word) (no_dashes word (name, value) e) e ∙ ap (walked_long h waiting p word value) found

  -- `--name`
  pub option_turn : (h : Held) (p : ℕ) (word name : Text) (s : Argument) → long_of word ≡ Some (name, None) → arg_by_long c name ≡ Some (rule_of_argument s)
      → turn_fault (shape_with c) [] (ready h p) word ≡ or_else (settle_fault c false h) []
  option_turn h p word name s e found = turn_found h idle p word name None (rule_of_argument s) e found

  pub option_walked : (h : Held) (p : ℕ) (word name : Text) (s : Argument) → long_of word ≡ Some (name, None) → arg_by_long c name ≡ Some (rule_of_argument s)
      → s.name ≡ name → walked c [] (ready h p) word ≡ opened c name h p
  unfolding clap_on_literals
  option_walked h p word name s e found is = walked_found h idle p word name None (rule_of_argument s) e found ∙ ap (λ n. opened c n h p) is

  -- `--name=value`
  pub attached_turn : (h : Held) (p : ℕ) (word name v : Text) (s : Argument) → long_of word ≡ Some (name, Some v) → arg_by_long c name ≡ Some (rule_of_argument s) → s.name ≡ name
      → turn_fault (shape_with c) [] (ready h p) word ≡ or_else (or_else (settle_fault c false h) (or_else (repeat_fault false name (settled c h).rows) [])) []
  attached_turn h p word name v s e found is =
      turn_found h idle p word name (Some v) (rule_of_argument s) e found
      ∙ ap (λ n. or_else (or_else (settle_fault c false h) (or_else (repeat_fault false n (settled c h).rows) [])) []) is

  pub attached_walked : (h : Held) (p : ℕ) (word name v : Text) (s : Argument) → long_of word ≡ Some (name, Some v) → arg_by_long c name ≡ Some (rule_of_argument s) → s.name ≡ name
      → walked c [] (ready h p) word ≡ ready (attached_held c name v h) p
  unfolding clap_on_literals
  attached_walked h p word name v s e found is = walked_found h idle p word name (Some v) (rule_of_argument s) e found ∙ ap (λ n. ready (attached_held c n v h) p) is

  -- the word of an option, where another waits for its value
  pub missed_turn : (h : Held) (p : ℕ) (waits word name : Text) (value : Option Text) (s : Argument) → IsKnown c waits → long_of word ≡ Some (name, value)
      → arg_by_long c name ≡ Some (rule_of_argument s) → turn_fault (shape_with c) [] (opened c waits h p) word ≡ fault_kind.InvalidValue ∷ []
  missed_turn h p waits word name None s k e found =
      turn_found (open_held c waits h) (option waits) p word name None (rule_of_argument s) e found ∙ ap (λ ks. or_else ks []) (open_is c waits h k)
  missed_turn h p waits word name (Some v) s k e found =
      turn_found (open_held c waits h) (option waits) p word name (Some v) (rule_of_argument s) e found
      ∙ ap (λ ks. or_else (or_else ks (use_fault false (rule_of_argument s) (v ∷ []) (settled c (open_held c waits h)).rows)) []) (open_is c waits h k)

  -- ---- a plain word

  plain_turn : (h : Held) (p b : ℕ) (more : Text) → (b == 45) ≡ false → turn_fault (shape_with c) [] (ready h p) (b ∷ more) ≡ option_map_or (λ a. positional_fault c false a h) (arg_by_index c p) (stray_fault (shape_with c))
  plain_turn h p b more e = rw e (rw e refl)

  plain_walked : (h : Held) (p b : ℕ) (more : Text) → (b == 45) ≡ false → walked c [] (ready h p) (b ∷ more) ≡ to_positional c (arg_by_index c p) (b ∷ more) (ready h p) h
  unfolding clap_on_literals
  plain_walked h p b more e = rw e (rw e refl)

  -- where a positional word is left, it takes the word
  pub positional_turn : (h : Held) (p b : ℕ) (more : Text) (s : Argument) → (b == 45) ≡ false → arg_by_index c p ≡ Some (rule_of_argument s)
      → turn_fault (shape_with c) [] (ready h p) (b ∷ more) ≡ settle_fault c false h
  positional_turn h p b more s e found =
      plain_turn h p b more e ∙ ap (λ (o : Option Rule). option_map_or (λ a. positional_fault c false a h) o (stray_fault (shape_with c))) found
      ∙ ap (λ several. cond several [] (settle_fault c false h)) (never (is_pending (rule_of_argument s) h.pending))

  pub positional_walked : (h : Held) (p b : ℕ) (more : Text) (s : Argument) → (b == 45) ≡ false → arg_by_index c p ≡ Some (rule_of_argument s)
      → walked c [] (ready h p) (b ∷ more) ≡ ready (given_held c s.name (b ∷ more) h) (next p)
  positional_walked h p b more s e found =
      plain_walked h p b more e ∙ ap (λ (o : Option Rule). to_positional c o (b ∷ more) (ready h p) h) found
      ∙ rw (never (is_pending (rule_of_argument s) h.pending)) refl

  -- where none is left, it is one too many
  pub stray_turn : (h : Held) (p b : ℕ) (more : Text) → (b == 45) ≡ false → arg_by_index c p ≡ None
      → turn_fault (shape_with c) [] (ready h p) (b ∷ more) ≡ fault_kind.UnknownArgument ∷ []
  stray_turn h p b more e none =
      plain_turn h p b more e ∙ ap (λ (o : Option Rule). option_map_or (λ a. positional_fault c false a h) o (stray_fault (shape_with c))) none

  -- the value of an option that waits for it
  pub value_turn : (name : Text) (h : Held) (p b : ℕ) (more : Text) → (b == 45) ≡ false → turn_fault (shape_with c) [] (opened c name h p) (b ∷ more) ≡ []
  value_turn name h p b more e = rw e (rw e refl)

  value_met : (name : Text) (h : Held) (p b : ℕ) (more : Text) → (b == 45) ≡ false
      → walked c [] (opened c name h p) (b ∷ more) ≡ (let met = option_word (arg_by_id c name) name (b ∷ more) (open_held c name h) in record { held = met.0; waiting = met.1; position = p; is_trailing = false; stopped = None })
  unfolding clap_on_literals
  value_met name h p b more e = rw e (rw e refl)

  value_held : (name word : Text) (h : Held) (s : Argument) → s.name ≡ name → option_word (Some (rule_of_argument s)) name word (open_held c name h) ≡ (given_held c name word h, idle)
  value_held name word h s is = rw (is, same_bytes name) refl

  pub value_walked : (name : Text) (h : Held) (p b : ℕ) (more : Text) → IsKnown c name → (b == 45) ≡ false → walked c [] (opened c name h p) (b ∷ more) ≡ ready (given_held c name (b ∷ more) h) p
  value_walked name h p b more k e =
      let walk_at : Held × Waiting → Walk = λ met. record { held = met.0; waiting = met.1; position = p; is_trailing = false; stopped = None } in
      value_met name h p b more e ∙ ap (λ (o : Option Rule). walk_at (option_word o name (b ∷ more) (open_held c name h))) k.found
      ∙ ap walk_at (value_held name (b ∷ more) h k.argument k.called)

-- ---- rows and items

pub has_row_is : (name : Text) (items : List Item) → has_row name (map row items) ≡ has_name name items
has_row_is name [] = refl
has_row_is name (i ∷ rest) = ap (λ b. bytes_eq i.0 name || b) (has_row_is name rest)

at_new_row : (name : Text) (change : Row → List Row) (missing : List Row) (items : List Item) → has_name name items ≡ false
    → at_row name change missing (map row items) ≡ map row items ++ missing
at_new_row name change missing [] e = refl
at_new_row name change missing (i ∷ rest) e = go (bytes_eq i.0 name) (at_new_row name change missing rest) e
  where
    go : (b : Bool) → (has_name name rest ≡ false → at_row name change missing (map row rest) ≡ map row rest ++ missing) → (b || has_name name rest) ≡ false
        → cond b (change (row i) ++ map row rest) (row i ∷ at_row name change missing (map row rest)) ≡ row i ∷ (map row rest ++ missing)
    go true more e = absurd (true≢false e)
    go false more e = ap (λ rs. row i ∷ rs) (more e)

-- what is value_of for the first time has a new row
pub new_row : (name v : Text) (items : List Item) → has_name name items ≡ false → used_as_new name v (map row items) ≡ map row (items ++ (name, v) ∷ [])
new_row name v items e =
    ap (with_values name reading.AsWritten CommandLine (v ∷ [])) (at_new_row name (λ _. []) [] items e ∙ append-nil (map row items))
    ∙ at_new_row name (more_values CommandLine (v ∷ [])) (row (name, v) ∷ []) items e ∙ sym (map-append row items ((name, v) ∷ []))

pub no_repeat : (name : Text) (items : List Item) → has_name name items ≡ false → repeat_fault false name (map row items) ≡ []
no_repeat name items e = rw (has_row_is name items ∙ e) refl

pub repeat : (name : Text) (items : List Item) → has_name name items ≡ true → repeat_fault false name (map row items) ≡ fault_kind.ArgumentConflict ∷ []
repeat name items e = rw (has_row_is name items ∙ e) refl
