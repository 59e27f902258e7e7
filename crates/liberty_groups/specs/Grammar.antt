-- The grammar of a Liberty text as tables of forms: what may come next in each context, its item, and where the
-- text goes on. A library is one group; a group has items, which are attributes, inner groups and `;`.
use Rattle.std.specs.Prelude.{ℕ, ◌+◌, ◌-◌, Bool, true, false, nat_lt, List, [], ◌∷◌, length, Option, Some, None}
use Rattle.std.specs.Prelude.{Result, if◌then◌else◌}
use Rattle.std.specs.List.{list_any}
use Rattle.text_forms.specs.Forms.{Token, Form, Whole, Refusal, Misfits, line_at, form_at}
use Rattle.xt_model.specs.declared.code.Code.{Code}
use Rattle.xt_model.specs.declared.code.Code.TheVariants.{L1, L2}
use Rattle.liberty_groups.specs.declared.sort.Sort.{Sort}
use Rattle.liberty_groups.specs.declared.sort.Sort.TheVariants as sorts
use Rattle.liberty_groups.specs.declared.span.Span.{Span}
use Rattle.liberty_groups.specs.declared.item.Item.{Item}
use Rattle.liberty_groups.specs.declared.item.Item.TheVariants as items
use Rattle.liberty_groups.specs.declared.context.Context.{Context}
use Rattle.liberty_groups.specs.declared.context.Context.TheVariants as contexts
use Rattle.liberty_groups.specs.Sorts.{same_sort}

-- what may stand in a place of a form: a word, a word or a string, a separator of arguments, or one mark
pub data Slot : Type 0 where
  Library : Slot
  Name : Slot
  Value : Slot
  Separator : Slot
  LeftParen : Slot
  RightParen : Slot
  LeftBrace : Slot
  RightBrace : Slot
  Colon : Slot
  Semicolon : Slot
  End : Slot

-- the sorts of tokens that may stand there
abbrev pub sorts_of : Slot → List Sort
sorts_of Library = sorts.Library ∷ []
sorts_of Name = sorts.Word ∷ sorts.Library ∷ []
sorts_of Value = sorts.Word ∷ sorts.Library ∷ sorts.Text ∷ []
sorts_of Separator = sorts.Comma ∷ sorts.Colon ∷ []
sorts_of LeftParen = sorts.LeftParen ∷ []
sorts_of RightParen = sorts.RightParen ∷ []
sorts_of LeftBrace = sorts.LeftBrace ∷ []
sorts_of RightBrace = sorts.RightBrace ∷ []
sorts_of Colon = sorts.Colon ∷ []
sorts_of Semicolon = sorts.Semicolon ∷ []
sorts_of End = sorts.End ∷ []

-- a token of this sort may stand there
abbrev pub fits : Slot → Sort → Bool
fits slot sort = list_any (same_sort sort) (sorts_of slot)

abbrev pub Tokens : Type 0
Tokens = List (Token Sort)

-- where a token stands
abbrev pub span_of : Token Sort → Span
span_of t = record { from = t.from; to = t.from + length t.text }

-- where the first of some tokens stands
abbrev pub first_span : Tokens → Span
first_span [] = record { from = 0; to = 0 }
first_span (t ∷ ts) = span_of t

-- the first of some tokens as the name of an attribute or of a group
abbrev pub named : Tokens → Item
named ts = items.Named (first_span ts) (line_at 0 ts)

-- the first of some tokens as a value
abbrev pub value : Tokens → Item
value ts = items.Value (first_span ts)

abbrev pub LibertyForm : Type 0
LibertyForm = Form Slot Sort Item Context

-- a text begins with a library
abbrev pub start_forms : List LibertyForm
start_forms = record { slots = Library ∷ LeftParen ∷ []; item = named; next = contexts.LibraryArgs } ∷ []

-- arguments are words and strings; commas and colons separate them
abbrev pub args_forms : Context → Context → List LibertyForm
args_forms here next =
    record { slots = Value ∷ []; item = value; next = here }
    ∷ record { slots = Separator ∷ []; item = λ ts. items.Nothing; next = here }
    ∷ record { slots = RightParen ∷ []; item = λ ts. items.Nothing; next = next } ∷ []

-- the library opens
abbrev pub library_forms : List LibertyForm
library_forms = record { slots = LeftBrace ∷ []; item = λ ts. items.Opens; next = contexts.Items 1 } ∷ []

-- behind the end of one of `depth` open groups: the group around it goes on, or the library has ended
abbrev pub after_group : ℕ → Context
after_group depth = if nat_lt 1 depth then contexts.Items (depth - 1) else contexts.Behind

-- an item: `;`, a simple attribute, or a complex attribute or group, whose parentheses come first; or the end of the
-- innermost group
abbrev pub item_forms : ℕ → List LibertyForm
item_forms depth =
    record { slots = Semicolon ∷ []; item = λ ts. items.Ends; next = contexts.Items depth }
    ∷ record { slots = RightBrace ∷ []; item = λ ts. items.Closes; next = after_group depth }
    ∷ record { slots = Name ∷ Colon ∷ []; item = named; next = contexts.FirstValue depth }
    ∷ record { slots = Name ∷ LeftParen ∷ []; item = named; next = contexts.Args depth } ∷ []

-- at most 64 groups are open
abbrev pub can_open : ℕ → Bool
can_open depth = nat_lt depth 64

-- behind parentheses `{` opens a group; anything else ends an attribute, with `;` or as the next item
abbrev pub named_forms : ℕ → List LibertyForm
named_forms depth =
    record {
      slots = LeftBrace ∷ [];
      item = λ ts. if can_open depth then items.Opens else items.TooDeep;
      next = if can_open depth then contexts.Items (depth + 1) else contexts.Done;
    }
    ∷ item_forms depth

-- behind the colon of a simple attribute stands a value
abbrev pub first_value_forms : ℕ → List LibertyForm
first_value_forms depth = record { slots = Value ∷ []; item = value; next = contexts.Values depth } ∷ []

-- further values may follow, and `;` ends the attribute
abbrev pub values_forms : ℕ → List LibertyForm
values_forms depth =
    record { slots = Value ∷ []; item = value; next = contexts.Values depth }
    ∷ record { slots = Semicolon ∷ []; item = λ ts. items.Ends; next = contexts.Items depth } ∷ []

-- nothing stands behind the library but `;`
abbrev pub behind_forms : List LibertyForm
behind_forms =
    record { slots = Semicolon ∷ []; item = λ ts. items.Nothing; next = contexts.Behind }
    ∷ record { slots = End ∷ []; item = λ ts. items.Nothing; next = contexts.Done } ∷ []

-- the forms that may come next
abbrev pub forms_in : Context → List LibertyForm
forms_in contexts.Start = start_forms
forms_in contexts.LibraryArgs = args_forms contexts.LibraryArgs contexts.LibraryNamed
forms_in contexts.LibraryNamed = library_forms
forms_in (contexts.Items depth) = item_forms depth
forms_in (contexts.Args depth) = args_forms (contexts.Args depth) (contexts.Named depth)
forms_in (contexts.Named depth) = named_forms depth
forms_in (contexts.FirstValue depth) = first_value_forms depth
forms_in (contexts.Values depth) = values_forms depth
forms_in contexts.Behind = behind_forms
forms_in contexts.Done = []

-- the text is at its end
abbrev pub is_end : Context → Bool
is_end contexts.Done = true
is_end _ = false

-- the forms that may come next, where the text is not at its end
abbrev pub forms : Context → Option (List LibertyForm)
forms context = if is_end context then None else Some (forms_in context)

-- a token that does not fit is L1, and the end of the text L2
abbrev pub misfit : Sort → Code
misfit sorts.End = L2
misfit _ = L1

-- the same for all tokens; the end is a token of its own, so that no text lacks a token
abbrev pub misfits : Misfits Sort Code
misfits = record { token = misfit; early = L2; last = 1 }

-- a form that was read whole
abbrev pub WholeForm : Type 0
WholeForm = Whole Item Context

-- the first form of the tokens, and the tokens behind it
abbrev pub first_form : List LibertyForm → Tokens → Result (WholeForm × Tokens) (Refusal Code)
first_form fs ts = form_at fits misfits fs [] ts
