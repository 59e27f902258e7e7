-- The arguments of the command of a form as `clap` builds them, and what each answers to.
use Rattle.std.proofs.Common.{◌≡◌, ◌∙◌, ◌<◌, ◌≤◌, ◌+◌, ◌==◌, ℕ, Bool, true, false, ◌||◌, refl, sym, ap, subst, arith, codes, List, [], ◌∷◌, ◌++◌, map, length, Option, Some, None, inl, inr, true≢false, append_assoc}
use Rattle.std.specs.Prelude.{min}
use Rattle.std.specs.List.{list_any}
use Rattle.std.specs.Option.{option_map_or}
use Rattle.std.specs.Str.{bytes_eq}
use Rattle.std.proofs.lemmas.Bool.{cases_Bool}
use Rattle.std.proofs.lemmas.Bool.Decides.{Decides-eqb}
use Rattle.std.proofs.lemmas.Slice.Eq.{bytes_eq-Decides}
use Rattle.clap.specs.Lexer.{usize_max}
use Rattle.clap.specs.Walk.{Rule, arg_by_id, arg_by_index, arg_by_long}
use Rattle.clap.specs.Simple.{Shape, new_rule, new_shape, built, filled_from}
use Rattle.clap.specs.declared.builder.action.ArgAction.TheVariants.{Set}
use Rattle.clap.specs.declared.builder.value_parser.ValueParser.TheVariants as vp
use Rattle.command_grammar.specs.Grammar.{Text, CommandForm, has_option}
use Rattle.command_grammar.specs.Reading.{app_of_form, option_rule, positional_rule}

-- an argument that takes one value
pub record Argument : Type 0 where
  pub name : Text
  pub long : Option Text
  pub index : Option ℕ

abbrev pub rule_of_argument : Argument → Rule
rule_of_argument s = record (new_rule s.name) {
  long = s.long;
  index = s.index;
  action = Some Set;
  range = Some (record { start_inclusive = 1; end_inclusive = 1 });
  parser = Some vp.String;
}

abbrev pub option_argument : Text → Argument
option_argument name = record { name = name; long = Some name; index = None }

abbrev pub positional_argument : ℕ → Text → Argument
positional_argument i name = record { name = name; long = None; index = Some i }

abbrev pub next : ℕ → ℕ
next i = min (i + 1) usize_max

abbrev pub positional_arguments : ℕ → List Text → List Argument
positional_arguments i [] = []
positional_arguments i (name ∷ rest) = positional_argument i name ∷ positional_arguments (next i) rest

abbrev pub arguments_of : CommandForm → List Argument
arguments_of form = map option_argument form.options ++ positional_arguments 1 form.positionals

abbrev pub rules_of : CommandForm → List Rule
rules_of form = map rule_of_argument (arguments_of form)

abbrev pub shape_with : List Rule → Shape
shape_with rules = record (new_shape (codes "xtalk")) {
  rules = rules;
  disable_help_flag = true;
  disable_version_flag = true;
  disable_help_subcommand = true;
  is_built = true;
}

abbrev pub shape_of : CommandForm → Shape
shape_of form = shape_with (rules_of form)

-- ---- what building makes of the arguments

filled_positionals : (i : ℕ) (names : List Text) → filled_from i (map positional_rule names) ≡ map rule_of_argument (positional_arguments i names)
filled_positionals i [] = refl
filled_positionals i (name ∷ rest) = ap (λ rs. rule_of_argument (positional_argument i name) ∷ rs) (filled_positionals (next i) rest)

filled_options : (options : List Text) (names : List Text) → filled_from 1 (map option_rule options ++ map positional_rule names) ≡ map rule_of_argument (map option_argument options ++ positional_arguments 1 names)
filled_options [] names = filled_positionals 1 names
filled_options (o ∷ rest) names = ap (λ rs. rule_of_argument (option_argument o) ∷ rs) (filled_options rest names)

pub filled_args : (form : CommandForm) → filled_from 1 (map option_rule form.options ++ map positional_rule form.positionals) ≡ rules_of form
filled_args form = filled_options form.options form.positionals

pub built_is : (form : CommandForm) → (built (app_of_form form)).top ≡ shape_of form
built_is form = ap shape_with (filled_args form)

-- ---- names

pub same_bytes : (a : Text) → bytes_eq a a ≡ true
same_bytes a = (bytes_eq-Decides a a).1 refl

pub has_slot : Text → List Argument → Bool
has_slot name arguments = list_any (λ s. bytes_eq s.name name) arguments

-- an argument with this name
pub record IsKnown (args : List Rule) (name : Text) : Type 0 where
  pub argument : Argument
  pub found : arg_by_id args name ≡ Some (rule_of_argument argument)
  pub called : argument.name ≡ name

found_by_id : (arguments : List Argument) (name : Text) → list_any (λ s. bytes_eq s.name name) arguments ≡ true → IsKnown (map rule_of_argument arguments) name
found_by_id [] name e = absurd (true≢false (sym e))
found_by_id (s ∷ rest) name e = elim (cases_Bool (bytes_eq s.name name)) [
  | inl same ↦ record { argument = s; found = rw same refl; called = (bytes_eq-Decides s.name name).0 same }
  | inr other ↦
      let more = found_by_id rest name (rw other at e) in
      record { argument = more.argument; found = rw other more.found; called = more.called }
]

option_there : (options : List Text) (more : List Argument) (name : Text) → has_option options name ≡ true → list_any (λ s. bytes_eq s.name name) (map option_argument options ++ more) ≡ true
option_there [] more name e = absurd (true≢false (sym e))
option_there (o ∷ rest) more name e = elim (cases_Bool (bytes_eq o name)) [
  | inl same ↦ rw same refl
  | inr other ↦ rw other (option_there rest more name (rw other at e))
]

pub known_option : (form : CommandForm) (name : Text) → has_option form.options name ≡ true → IsKnown (rules_of form) name
known_option form name e = found_by_id (arguments_of form) name (option_there form.options (positional_arguments 1 form.positionals) name e)

-- the argument that `--name` uses
pub record IsLong (args : List Rule) (name : Text) : Type 0 where
  pub argument : Argument
  pub found : arg_by_long args name ≡ Some (rule_of_argument argument)
  pub called : argument.name ≡ name

found_by_long : (options : List Text) (more : List Argument) (name : Text) → has_option options name ≡ true → IsLong (map rule_of_argument (map option_argument options ++ more)) name
found_by_long [] more name e = absurd (true≢false (sym e))
found_by_long (o ∷ rest) more name e = elim (cases_Bool (bytes_eq o name)) [
  | inl same ↦ record { argument = option_argument o; found = rw same refl; called = (bytes_eq-Decides o name).0 same }
  | inr other ↦
      let later = found_by_long rest more name (rw other at e) in
      record { argument = later.argument; found = rw other later.found; called = later.called }
]

pub long_option : (form : CommandForm) (name : Text) → has_option form.options name ≡ true → IsLong (rules_of form) name
long_option form name e = found_by_long form.options (positional_arguments 1 form.positionals) name e

-- ---- places

-- the positional words that are left have the places from this one on
abbrev pub Places : List Rule → ℕ → List Text → Type 0
Places args p [] = arg_by_index args p ≡ None
Places args p (name ∷ left) = (arg_by_index args p ≡ Some (rule_of_argument (positional_argument p name))) × IsKnown args name × Places args (next p) left

-- no argument has this place or a later one
abbrev Below : ℕ → List Argument → Type 0
Below p [] = Unit {0}
Below p (s ∷ rest) = ((q : ℕ) → p ≤ q → option_map_or (λ k. k == q) s.index false ≡ false) × Below p rest

skipped : (before more : List Argument) (p : ℕ) → Below p before → arg_by_index (map rule_of_argument (before ++ more)) p ≡ arg_by_index (map rule_of_argument more) p
skipped [] more p b = refl
skipped (s ∷ rest) more p b = rw (b.0 p (omega arith)) (skipped rest more p b.1)

below_more : (p q : ℕ) (before : List Argument) → p ≤ q → Below p before → Below q before
below_more p q [] l b = tt
below_more p q (s ∷ rest) l b = (λ r m. b.0 r (omega (arith, l, m)), below_more p q rest l b.1)

eq_false : (a b : ℕ) → a < b → (a == b) ≡ false
eq_false a b l = elim (cases_Bool (a == b)) [
  | inl same ↦ let e : a ≡ b = (Decides-eqb a b).0 same in absurd (omega (arith, e, l))
  | inr other ↦ other
]

below_end : (p : ℕ) (before : List Argument) (name : Text) → Below p before → Below (p + 1) (before ++ positional_argument p name ∷ [])
below_end p [] name b = (λ q l. eq_false p q (omega (arith, l)), tt)
below_end p (s ∷ rest) name b = (λ q l. b.0 q (omega (arith, l)), below_end p rest name b.1)

next_is : (p : ℕ) → p + 1 ≤ usize_max → next p ≡ p + 1
next_is p l = omega arith

there : (before : List Argument) (p : ℕ) (name : Text) (more : List Argument) → list_any (λ s. bytes_eq s.name name) (before ++ positional_argument p name ∷ more) ≡ true
there [] p name more = rw (same_bytes name) refl
there (s ∷ rest) p name more = or_right (bytes_eq s.name name) _ (there rest p name more)
  where
    or_right : (a b : Bool) → b ≡ true → (a || b) ≡ true
    or_right true b e = refl
    or_right false b e = e

places : (before : List Argument) (p : ℕ) (left : List Text) → p + length left ≤ usize_max → Below p before → Places (map rule_of_argument (before ++ positional_arguments p left)) p left
places before p [] room b = skipped before [] p b
places before p (name ∷ left) room b =
    let more = positional_arguments (next p) left in
    let same : (p == p) ≡ true = (Decides-eqb p p).1 refl in
    let here : arg_by_index (map rule_of_argument (before ++ positional_argument p name ∷ more)) p ≡ Some (rule_of_argument (positional_argument p name)) = skipped before (positional_argument p name ∷ more) p b ∙ rw same refl in
    let n : next p ≡ p + 1 = next_is p (omega (arith, room)) in
    let P : ℕ → Type 0 = λ q. Places (map rule_of_argument (before ++ positional_argument p name ∷ positional_arguments q left)) q left in
    let Q : List Argument → Type 0 = λ arguments. Places (map rule_of_argument arguments) (p + 1) left in
    let rest = places (before ++ positional_argument p name ∷ []) (p + 1) left (omega (arith, room)) (below_end p before name b) in
    (here, found_by_id (before ++ positional_argument p name ∷ more) name (there before p name more), subst P (sym n) (subst Q (append_assoc before (positional_argument p name ∷ []) (positional_arguments (p + 1) left)) rest))

no_places : (options : List Text) → Below 1 (map option_argument options)
no_places [] = tt
no_places (o ∷ rest) = (λ q l. refl, no_places rest)

-- the names of the positional words have the places from the first one on
pub all_places : (form : CommandForm) → length form.positionals < usize_max → Places (rules_of form) 1 form.positionals
all_places form room = places (map option_argument form.options) 1 form.positionals (omega (arith, room)) (no_places form.options)
