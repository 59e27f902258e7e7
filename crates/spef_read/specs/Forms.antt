-- The grammar of a SPEF text as tables of forms: what may come next in each context, its item, and where the text
-- goes on. Forms are cut where something is meant, so that each refusal is met at a form's last token.
use Rattle.std.specs.Prelude.{◌≡◌, ℕ, Bool, true, false, List, [], ◌∷◌, Option, Some, None, Result, codes}
use Rattle.std.specs.Prelude.{if◌then◌else◌}
use Rattle.std.specs.Str.{bytes_eq}
use Rattle.text_forms.specs.Forms.{Token, Form, Whole, Refusal, Misfits, text_at, form_at}
use Rattle.xt_model.specs.declared.code.Code.{Code}
use Rattle.xt_model.specs.declared.code.Code.TheVariants.{S1, S2, S7}
use Rattle.spef_read.specs.declared.sort.Sort.{Sort}
use Rattle.spef_read.specs.declared.sort.Sort.TheVariants.{Spef, Title, Flow, Brackets, NameMap, Net, Unsupported}
use Rattle.spef_read.specs.declared.sort.Sort.TheVariants.{Inductances, Confidence, NetEnd, Index, Digits, Bracket}
use Rattle.spef_read.specs.declared.sort.Sort.TheVariants.{Text, End}
use Rattle.spef_read.specs.declared.sort.Sort.TheVariants as sorts
use Rattle.spef_read.specs.declared.context.Context.{Context}
use Rattle.spef_read.specs.declared.context.Context.TheVariants as contexts
use Rattle.spef_read.specs.declared.item.Separator.{Separator}
use Rattle.spef_read.specs.declared.item.Separator.TheVariants as separators
use Rattle.spef_read.specs.declared.item.Quantity.{Quantity}
use Rattle.spef_read.specs.declared.item.Quantity.TheVariants as quantities
use Rattle.spef_read.specs.Sorts.{same_sort}

abbrev pub Bytes : Type 0
Bytes = List ℕ

abbrev pub Tokens : Type 0
Tokens = List (Token Sort)

-- the item that a form gives; words by their bytes
pub data Item : Type 0 where
  -- nothing that is not in its context
  Nothing : Item
  -- something that is refused wherever it stands
  Refused : Code → Item
  -- one of the marks of names
  Separator_is : Separator → Bytes → Item
  -- the brackets of a bus's bit, in one word or in two
  Pair : Bytes → Item
  Brackets_are : Bytes → Bytes → Item
  -- the number of a unit, and the unit
  UnitNumber : Quantity → Bytes → Item
  Unit_is : Bytes → Item
  -- a pair of the name map: `*` and its number, and its name
  PairNumber : Bytes → Item
  PairName : Bytes → Item
  -- a net begins; its name, its total capacitance
  NetBegins : Item
  NetName : Bytes → Item
  Total : Bytes → Item
  -- the first node of a capacitor or a resistor, the second one of each, and the value
  FirstNode : Bytes → Item
  CapNode : Bytes → Item
  ResNode : Bytes → Item
  CapValue : Bytes → Item
  ResValue : Bytes → Item
  NetEnds : Item
  TextEnds : Item

-- any word, a keyword too
abbrev pub is_word : Sort → Bool
is_word Text = false
is_word End = false
is_word _ = true

-- a word that has the form of a value
abbrev pub is_value_sort : Sort → Bool
is_value_sort Digits = true
is_value_sort sorts.Value = true
is_value_sort _ = false

-- any word that has not the form of a value
abbrev pub is_node : Sort → Bool
is_node Digits = false
is_node sorts.Value = false
is_node s = is_word s

-- any token within a section that is skipped: each that begins no section
abbrev pub is_passed : Sort → Bool
is_passed NameMap = false
is_passed sorts.Skipped = false
is_passed Net = false
is_passed Unsupported = false
is_passed End = false
is_passed _ = true

-- any token within the connections of a net: each that begins no section and no list of the net, and does not end it
abbrev pub is_in_connection : Sort → Bool
is_in_connection sorts.Capacitors = false
is_in_connection sorts.Resistors = false
is_in_connection NetEnd = false
is_in_connection Inductances = false
is_in_connection s = is_passed s

-- what may stand in a place of a form
pub data Slot : Type 0 where
  Only : Sort → Slot
  AnyWord : Slot
  AnyToken : Slot
  ValueWord : Slot
  NodeWord : Slot
  Passed : Slot
  InConnection : Slot

-- the slot is one for tokens of this sort
abbrev pub fits : Slot → Sort → Bool
fits (Only sort) s = same_sort sort s
fits AnyWord s = is_word s
fits AnyToken End = false
fits AnyToken _ = true
fits ValueWord s = is_value_sort s
fits NodeWord s = is_node s
fits Passed s = is_passed s
fits InConnection s = is_in_connection s

-- if there is a next token, it does not fit the slot
abbrev pub IsMisfit : Slot → Tokens → Type 0
IsMisfit slot [] = Unit {0}
IsMisfit slot (t ∷ ts) = fits slot t.sort ≡ false

-- the code of a token that does not fit: of the text's end, of any other
abbrev pub misfit : Sort → Code
misfit End = S2
misfit _ = S1

-- tokens that do not fit; that a text ends early is seen at its end, which is a token
abbrev pub misfits : Misfits Sort Code
misfits = record { token = misfit; early = S2; last = 1 }

-- which mark of names the word gives
abbrev pub separator_of : Bytes → Separator
separator_of word = if bytes_eq word (codes "*DIVIDER") then separators.Divider else separators.Delimiter

-- what the word's unit is of
abbrev pub quantity_of : Bytes → Quantity
quantity_of word =
    if bytes_eq word (codes "*T_UNIT") then quantities.Time
    else if bytes_eq word (codes "*C_UNIT") then quantities.Capacitance
    else if bytes_eq word (codes "*R_UNIT") then quantities.Resistance
    else quantities.Inductance

abbrev pub SpefForm : Type 0
SpefForm = Form Slot Sort Item Context

-- a form of these slots that gives this item, with what comes next
abbrev pub form : List Slot → (Tokens → Item) → Context → SpefForm
form slots item next = record { slots = slots; item = item; next = next }

-- a form whose item is nothing
abbrev pub quiet : List Slot → Context → SpefForm
quiet slots next = form slots (λ ts. Nothing) next

-- a word of a section or a list that is refused
abbrev pub refused : Sort → SpefForm
refused word = form (Only word ∷ []) (λ ts. Refused S7) contexts.Done

-- ---- outside the sections of nets

-- a section, or the end of the text
abbrev pub section_forms : List SpefForm
section_forms =
    quiet (Only NameMap ∷ []) contexts.Pairs
    ∷ quiet (Only sorts.Skipped ∷ []) contexts.Skipped
    ∷ form (Only Net ∷ []) (λ ts. NetBegins) contexts.NetName
    ∷ refused Unsupported
    ∷ form (Only End ∷ []) (λ ts. TextEnds) contexts.Done
    ∷ []

-- the start of a text
abbrev pub start_forms : List SpefForm
start_forms = quiet (Only Spef ∷ Only Text ∷ []) contexts.Header ∷ []

-- an item of the header, or what comes behind it
abbrev pub header_forms : List SpefForm
header_forms =
    quiet (Only Title ∷ Only Text ∷ []) contexts.Header
    ∷ quiet (Only Flow ∷ Only Text ∷ []) contexts.Flow
    ∷ form (Only sorts.Separator ∷ AnyWord ∷ []) (λ ts. Separator_is (separator_of (text_at 0 ts)) (text_at 1 ts))
    contexts.Header
    ∷ form (Only Brackets ∷ Only Bracket ∷ AnyWord ∷ []) (λ ts. Brackets_are (text_at 1 ts) (text_at 2 ts))
    contexts.Header
    ∷ form (Only Brackets ∷ Only sorts.Word ∷ []) (λ ts. Pair (text_at 1 ts)) contexts.Header
    ∷ form (Only sorts.Unit ∷ AnyWord ∷ []) (λ ts. UnitNumber (quantity_of (text_at 0 ts)) (text_at 1 ts)) contexts.Unit
    ∷ section_forms

-- behind a string of the design's flow
abbrev pub flow_forms : List SpefForm
flow_forms = quiet (Only Text ∷ []) contexts.Flow ∷ header_forms

-- behind the number of a unit
abbrev pub unit_forms : List SpefForm
unit_forms = form (AnyWord ∷ []) (λ ts. Unit_is (text_at 0 ts)) contexts.Header ∷ []

-- in the name map
abbrev pub pairs_forms : List SpefForm
pairs_forms = form (Only Index ∷ []) (λ ts. PairNumber (text_at 0 ts)) contexts.PairName ∷ section_forms

-- behind the number of a pair
abbrev pub pair_name_forms : List SpefForm
pair_name_forms = form (AnyWord ∷ []) (λ ts. PairName (text_at 0 ts)) contexts.Pairs ∷ []

-- in a section that is skipped
abbrev pub skipped_forms : List SpefForm
skipped_forms = quiet (Passed ∷ []) contexts.Skipped ∷ section_forms

-- ---- the sections of nets

-- the end of a net; a list of inductances and a section that is not taken are refused
abbrev pub closing_forms : List SpefForm
closing_forms =
    form (Only NetEnd ∷ []) (λ ts. NetEnds) contexts.BehindNet
    ∷ refused Inductances
    ∷ refused Unsupported
    ∷ []

-- the resistors of a net, or its end
abbrev pub behind_capacitors : List SpefForm
behind_capacitors = quiet (Only sorts.Resistors ∷ []) contexts.Resistors ∷ closing_forms

-- the capacitors of a net, or what comes behind them
abbrev pub behind_connections : List SpefForm
behind_connections = quiet (Only sorts.Capacitors ∷ []) contexts.Capacitors ∷ behind_capacitors

-- behind `*D_NET`
abbrev pub net_name_forms : List SpefForm
net_name_forms = form (AnyWord ∷ []) (λ ts. NetName (text_at 0 ts)) contexts.NetTotal ∷ []

-- behind a net's name
abbrev pub net_total_forms : List SpefForm
net_total_forms = form (ValueWord ∷ []) (λ ts. Total (text_at 0 ts)) contexts.Totalled ∷ []

-- the lists of a net, or its end
abbrev pub lists_forms : List SpefForm
lists_forms = quiet (Only sorts.Connections ∷ []) contexts.Connections ∷ behind_connections

-- behind a net's total capacitance
abbrev pub totalled_forms : List SpefForm
totalled_forms = quiet (Only Confidence ∷ AnyToken ∷ []) contexts.Lists ∷ lists_forms

-- behind `*CONN`
abbrev pub connections_forms : List SpefForm
connections_forms = quiet (Only sorts.Connection ∷ []) contexts.Connection ∷ behind_connections

-- in a connection
abbrev pub connection_forms : List SpefForm
connection_forms = quiet (InConnection ∷ []) contexts.Connection ∷ behind_connections

-- a number and the first node of an element of a list
abbrev pub element : Context → SpefForm
element next = form (Only Digits ∷ AnyWord ∷ []) (λ ts. FirstNode (text_at 1 ts)) next

-- a capacitor, or what comes behind the last one
abbrev pub capacitors_forms : List SpefForm
capacitors_forms = element contexts.CapSecond ∷ behind_capacitors

-- behind the first node of a capacitor: a word that has the form of a value is its value
abbrev pub cap_second_forms : List SpefForm
cap_second_forms =
    form (ValueWord ∷ []) (λ ts. CapValue (text_at 0 ts)) contexts.Capacitors
    ∷ form (NodeWord ∷ []) (λ ts. CapNode (text_at 0 ts)) contexts.CapValue
    ∷ []

-- behind the second node of a capacitor
abbrev pub cap_value_forms : List SpefForm
cap_value_forms = form (ValueWord ∷ []) (λ ts. CapValue (text_at 0 ts)) contexts.Capacitors ∷ []

-- a resistor, or what comes behind the last one
abbrev pub resistors_forms : List SpefForm
resistors_forms = element contexts.ResSecond ∷ closing_forms

-- behind the first node of a resistor
abbrev pub res_second_forms : List SpefForm
res_second_forms = form (AnyWord ∷ []) (λ ts. ResNode (text_at 0 ts)) contexts.ResValue ∷ []

-- behind the second node of a resistor
abbrev pub res_value_forms : List SpefForm
res_value_forms = form (ValueWord ∷ []) (λ ts. ResValue (text_at 0 ts)) contexts.Resistors ∷ []

-- ---- all contexts

-- the forms of each context
abbrev pub forms_in : Context → List SpefForm
forms_in contexts.Start = start_forms
forms_in contexts.Header = header_forms
forms_in contexts.Flow = flow_forms
forms_in contexts.Unit = unit_forms
forms_in contexts.Pairs = pairs_forms
forms_in contexts.PairName = pair_name_forms
forms_in contexts.Skipped = skipped_forms
forms_in contexts.BehindNet = section_forms
forms_in contexts.NetName = net_name_forms
forms_in contexts.NetTotal = net_total_forms
forms_in contexts.Totalled = totalled_forms
forms_in contexts.Lists = lists_forms
forms_in contexts.Connections = connections_forms
forms_in contexts.Connection = connection_forms
forms_in contexts.Capacitors = capacitors_forms
forms_in contexts.CapSecond = cap_second_forms
forms_in contexts.CapValue = cap_value_forms
forms_in contexts.Resistors = resistors_forms
forms_in contexts.ResSecond = res_second_forms
forms_in contexts.ResValue = res_value_forms
forms_in contexts.Done = []

-- behind the end of the text there is nothing
abbrev pub is_done : Context → Bool
is_done contexts.Done = true
is_done _ = false

-- the forms of each context, where something has to come
abbrev pub forms : Context → Option (List SpefForm)
forms context = if is_done context then None else Some (forms_in context)

-- a form that was read whole
abbrev pub WholeForm : Type 0
WholeForm = Whole Item Context

-- the first form of the tokens, and the tokens behind it
abbrev pub first_form : List SpefForm → Tokens → Result (WholeForm × Tokens) (Refusal Code)
first_form fs ts = form_at fits misfits fs [] ts
