-- The job that words ask for, by what is read of them.
use Rattle.std.proofs.Common.{◌≡◌, ◌∙◌, ◌⊎◌, ◌≤◌, ◌<◌, Bool, true, false, arith, sym, ap, List, [], ◌∷◌, drop, length, slice_index_or, Option, Some, None, Result, Ok, Err, IfOk, refl, inl, inr, true≢false}
use Rattle.std.specs.Option.{IsSomeAnd, is_some, option_and_then}
use Rattle.std.specs.Prelude.{String, string_bytes}
use Rattle.std.specs.Global.{Global}
use Rattle.command_line.specs.declared.words.CommandName.{CommandName}
use Rattle.command_line.specs.declared.words.Job.{Job}
use Rattle.command_grammar.specs.declared.grammar.WordsFault.{WordsFault}
use Rattle.command_grammar.specs.declared.grammar.WordsFault.TheVariants.{Bad, NoMemory}
use Rattle.command_grammar.specs.Grammar.{Text, Item, CommandForm, given_of, value_of}
use Rattle.command_grammar.specs.Forms.{bytes_of}
use Rattle.command_line.specs.Words.{Reads, command_named, form_of_command, job_for, job_of}

pub job_read : (words : List (String Global)) (d : String Global) (text : Text) (found : Option CommandName) (name : CommandName) (form : CommandForm) (get : Text → Option Text)
    → 1 ≤ length words → text ≡ string_bytes (slice_index_or words 0 d) → found ≡ command_named text → found ≡ Some name → form ≡ form_of_command name
    → IsSomeAnd (given_of form (drop 1 (bytes_of words))) (λ items. get ≡ value_of items) → job_of (bytes_of words) ≡ job_for name get
job_read [] d text found name form get some is named there same given = absurd (omega (arith, some))
job_read (first ∷ rest) d text found name form get some is named there same given =
    let known : command_named (string_bytes first) ≡ Some name = ap command_named (sym is) ∙ sym named ∙ there in
    rw known (go (given_of (form_of_command name) (bytes_of rest)) (rw same at given))
  where
    go : (o : Option (List Item)) → IsSomeAnd o (λ items. get ≡ value_of items) → option_and_then (λ items. job_for name (value_of items)) o ≡ job_for name get
    go None h = absurd h
    go (Some items) h = ap (job_for name) (sym h)

-- ---- what reading gives

pub read_job : (said : Option Job) (r : Result Job WordsFault) → Reads said r → IfOk r (λ job. said ≡ Some job)
read_job said (Ok job) h = h
read_job said (Err fault) h = tt

pub read_none : (said : Option Job) (r : Result Job WordsFault) → Reads said r → r ≡ Err Bad → said ≡ None
read_none said r h bad = rw bad at h

some_is_not_none : (said : Option Job) (job : Job) → said ≡ Some job → said ≡ None → ⊥
some_is_not_none said job some none = true≢false (ap is_some (sym some ∙ none))

-- where there is no job, there is a fault
pub one_fault : (said : Option Job) (r : Result Job WordsFault) → Reads said r → said ≡ None → (r ≡ Err Bad) ⊎ (r ≡ Err NoMemory)
one_fault said (Ok job) h none = absurd (some_is_not_none said job h none)
one_fault said (Err Bad) h none = inl refl
one_fault said (Err NoMemory) h none = inr refl

-- ---- words that are read no further

pub no_words : (words : List (String Global)) → length words < 1 → job_of (bytes_of words) ≡ None
no_words [] few = refl
no_words (first ∷ rest) few = absurd (omega (arith, few))

pub no_command : (words : List (String Global)) (d : String Global) (text : Text) (found : Option CommandName)
    → 1 ≤ length words → text ≡ string_bytes (slice_index_or words 0 d) → found ≡ command_named text → found ≡ None → job_of (bytes_of words) ≡ None
no_command [] d text found some is named none = absurd (omega (arith, some))
no_command (first ∷ rest) d text found some is named none =
    let unknown : command_named (string_bytes first) ≡ None = ap command_named (sym is) ∙ sym named ∙ none in rw unknown refl

pub no_items : (words : List (String Global)) (d : String Global) (text : Text) (found : Option CommandName) (name : CommandName) (form : CommandForm)
    → 1 ≤ length words → text ≡ string_bytes (slice_index_or words 0 d) → found ≡ command_named text → found ≡ Some name → form ≡ form_of_command name
    → given_of form (drop 1 (bytes_of words)) ≡ None → job_of (bytes_of words) ≡ None
no_items [] d text found name form some is named there same none = absurd (omega (arith, some))
no_items (first ∷ rest) d text found name form some is named there same none =
    let known : command_named (string_bytes first) ≡ Some name = ap command_named (sym is) ∙ sym named ∙ there in
    rw known (ap (option_and_then (λ items. job_for name (value_of items))) (rw same at none))

abbrev is_bad : {T : Type 0} → Result T WordsFault → Bool
is_bad (Ok value) = false
is_bad (Err Bad) = true
is_bad (Err NoMemory) = false

-- the same fault, of results of two kinds
pub bad_as : {A B : Type 0} (r : Result A WordsFault) (other : Result B WordsFault) (fault : WordsFault) → r ≡ Err fault → other ≡ Err fault → other ≡ Err Bad → r ≡ Err Bad
bad_as r other Bad is same bad = is
bad_as {B = B} r other NoMemory is same bad = absurd (true≢false (ap (is_bad {T = B}) (sym bad ∙ same)))

pub either_fault : {T : Type 0} (r : Result T WordsFault) (fault : WordsFault) → r ≡ Err fault → (r ≡ Err Bad) ⊎ (r ≡ Err NoMemory)
either_fault r Bad is = inl is
either_fault r NoMemory is = inr is
