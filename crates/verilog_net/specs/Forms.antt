-- The grammar of a structural Verilog text as tables of forms: what may come next in each context, its item, and
-- where the text goes on. Forms are cut where something is meant, so that each refusal is met at a form's last token.
use Rattle.std.specs.Prelude.{ℕ, Bool, true, false, List, [], ◌∷◌, Option, Some, None, Result, codes, if◌then◌else◌}
use Rattle.std.specs.Str.{bytes_eq}
use Rattle.text_forms.specs.Forms.{Token, Form, Whole, Refusal, Misfits, text_at, line_at, form_at}
use Rattle.xt_model.specs.declared.code.Code.{Code}
use Rattle.xt_model.specs.declared.code.Code.TheVariants.{V1, V2, V3}
use Rattle.verilog_net.specs.declared.sort.Sort.{Sort}
use Rattle.verilog_net.specs.declared.sort.Sort.TheVariants.{Module, Endmodule, Direction, NetType}
use Rattle.verilog_net.specs.declared.sort.Sort.TheVariants.{Unsupported, Name, Number}
use Rattle.verilog_net.specs.declared.sort.Sort.TheVariants.{LeftParen, RightParen, LeftBracket}
use Rattle.verilog_net.specs.declared.sort.Sort.TheVariants.{RightBracket, LeftBrace}
use Rattle.verilog_net.specs.declared.sort.Sort.TheVariants.{Comma, Semicolon, Colon, Dot, End}
use Rattle.verilog_net.specs.declared.sort.Sort.TheVariants as sorts
use Rattle.verilog_net.specs.declared.context.Context.{Context}
use Rattle.verilog_net.specs.declared.context.Context.TheVariants as contexts
use Rattle.verilog_net.specs.declared.netlist.PortRole.{PortRole}
use Rattle.verilog_net.specs.declared.netlist.PortRole.TheVariants as roles
use Rattle.verilog_net.specs.Sorts.{same_sort}

abbrev pub Text : Type 0
Text = List ℕ

abbrev pub Tokens : Type 0
Tokens = List (Token Sort)

-- the item that a form gives; names and numbers by their bytes
pub data Item : Type 0 where
  -- nothing that is not in its context
  Nothing : Item
  -- something that is refused wherever it stands
  Refused : Code → Item
  -- `module`
  ModuleBegins : Item
  ModuleName : Text → Item
  -- a name of the header
  Listed : Text → Item
  ModuleEnds : Item
  -- a name that is declared without a range
  Scalar : PortRole → Text → Item
  -- the left and the right bound of the range of names that are declared
  Left : PortRole → Text → Item
  Right : Text → Item
  -- a further name that is declared
  Further : Text → Item
  -- an instance: its cell, its name, the line of its name
  Instance : Text → Text → ℕ → Item
  -- a further instance of the same cell
  FurtherInstance : Text → ℕ → Item
  Pin : Text → Item
  -- what a pin is connected to: nothing, a constant, a net, a bit by its bus and its number
  NoConnection : Item
  Constant : Item
  Net : Text → Item
  Bit : Text → Text → Item
  InstanceEnds : Item

-- the code of a token that does not fit, by its sort: of the text's end, of what is not read, of any other
abbrev pub misfit : Sort → Code
misfit End = V2
misfit Unsupported = V3
misfit _ = V1

-- tokens that do not fit; that a text ends early is seen at its end, which is a token
abbrev pub misfits : Misfits Sort Code
misfits = record { token = misfit; early = V2; last = 1 }

-- what a word of a declaration makes of the names behind it
abbrev pub role_of : Text → PortRole
role_of word =
    if bytes_eq word (codes "input") then roles.Input
    else if bytes_eq word (codes "output") then roles.Output
    else roles.Inner

abbrev pub NetlistForm : Type 0
NetlistForm = Form Sort Sort Item Context

-- a form of these sorts that gives this item, with what comes next
abbrev pub form : List Sort → (Tokens → Item) → Context → NetlistForm
form slots item next = record { slots = slots; item = item; next = next }

-- a form whose item is nothing
abbrev pub quiet : List Sort → Context → NetlistForm
quiet slots next = form slots (λ ts. Nothing) next

-- a form that is refused
abbrev pub refused : List Sort → Code → NetlistForm
refused slots code = form slots (λ ts. Refused code) contexts.Done

-- the start of a text
abbrev pub start_forms : List NetlistForm
start_forms =
    form (Module ∷ []) (λ ts. ModuleBegins) contexts.ModuleName
    ∷ refused (Unsupported ∷ []) V1
    ∷ []

-- behind `endmodule`
abbrev pub behind_module_forms : List NetlistForm
behind_module_forms =
    form (Module ∷ []) (λ ts. ModuleBegins) contexts.ModuleName
    ∷ quiet (End ∷ []) contexts.Done
    ∷ refused (Unsupported ∷ []) V1
    ∷ []

-- behind `module`
abbrev pub module_name_forms : List NetlistForm
module_name_forms = form (Name ∷ []) (λ ts. ModuleName (text_at 0 ts)) contexts.Header ∷ []

-- behind a module's name; a direction word in the header is refused
abbrev pub header_forms : List NetlistForm
header_forms =
    quiet (Semicolon ∷ []) contexts.Body
    ∷ form (LeftParen ∷ Name ∷ []) (λ ts. Listed (text_at 1 ts)) contexts.Listed
    ∷ refused (Direction ∷ []) V3
    ∷ refused (LeftParen ∷ Direction ∷ []) V3
    ∷ []

-- behind a name of the header
abbrev pub listed_forms : List NetlistForm
listed_forms =
    form (Comma ∷ Name ∷ []) (λ ts. Listed (text_at 1 ts)) contexts.Listed
    ∷ quiet (RightParen ∷ Semicolon ∷ []) contexts.Body
    ∷ refused (Direction ∷ []) V3
    ∷ refused (Comma ∷ Direction ∷ []) V3
    ∷ refused (RightParen ∷ Direction ∷ []) V3
    ∷ []

-- a declaration that begins with a word of this sort: its first name, or the left bound of its range
abbrev pub declaration_forms : Sort → List NetlistForm → List NetlistForm
declaration_forms word more =
    form (word ∷ Name ∷ []) (λ ts. Scalar (role_of (text_at 0 ts)) (text_at 1 ts)) contexts.Declared
    ∷ form (word ∷ LeftBracket ∷ Number ∷ []) (λ ts. Left (role_of (text_at 0 ts)) (text_at 2 ts)) contexts.LeftBound
    ∷ more

-- a statement, or the end of the module
abbrev pub body_forms : List NetlistForm
body_forms = declaration_forms Direction (declaration_forms NetType (
    form (Name ∷ Name ∷ []) (λ ts. Instance (text_at 0 ts) (text_at 1 ts) (line_at 1 ts)) contexts.Opening
    ∷ form (Endmodule ∷ []) (λ ts. ModuleEnds) contexts.BehindModule
    ∷ []))

-- behind the left bound of a range
abbrev pub left_bound_forms : List NetlistForm
left_bound_forms = form (Colon ∷ Number ∷ []) (λ ts. Right (text_at 1 ts)) contexts.RightBound ∷ []

-- behind the right bound of a range
abbrev pub right_bound_forms : List NetlistForm
right_bound_forms = form (RightBracket ∷ Name ∷ []) (λ ts. Further (text_at 1 ts)) contexts.Declared ∷ []

-- behind a declared name
abbrev pub declared_forms : List NetlistForm
declared_forms =
    form (Comma ∷ Name ∷ []) (λ ts. Further (text_at 1 ts)) contexts.Declared
    ∷ quiet (Semicolon ∷ []) contexts.Body
    ∷ []

-- behind an instance's name; an array of instances is refused
abbrev pub opening_forms : List NetlistForm
opening_forms = quiet (LeftParen ∷ []) contexts.Pins ∷ refused (LeftBracket ∷ []) V3 ∷ []

-- behind the `(` of an instance; a connection by order is refused
abbrev pub pins_forms : List NetlistForm
pins_forms =
    form (RightParen ∷ []) (λ ts. InstanceEnds) contexts.Closed
    ∷ form (Dot ∷ Name ∷ []) (λ ts. Pin (text_at 1 ts)) contexts.Pin
    ∷ refused (Name ∷ []) V3
    ∷ refused (sorts.Constant ∷ []) V3
    ∷ refused (LeftBrace ∷ []) V3
    ∷ []

-- behind the name of a pin
abbrev pub pin_forms : List NetlistForm
pin_forms = quiet (LeftParen ∷ []) contexts.Connection ∷ []

-- behind the `(` of a pin; a concatenation and a part of a bus are refused
abbrev pub connection_forms : List NetlistForm
connection_forms =
    form (RightParen ∷ []) (λ ts. NoConnection) contexts.Connected
    ∷ form (sorts.Constant ∷ RightParen ∷ []) (λ ts. Constant) contexts.Connected
    ∷ form (Name ∷ RightParen ∷ []) (λ ts. Net (text_at 0 ts)) contexts.Connected
    ∷ form (Name ∷ LeftBracket ∷ Number ∷ RightBracket ∷ []) (λ ts. Bit (text_at 0 ts) (text_at 2 ts)) contexts.BitGiven
    ∷ refused (Name ∷ LeftBracket ∷ Number ∷ Colon ∷ []) V3
    ∷ refused (LeftBrace ∷ []) V3
    ∷ []

-- behind the `]` of a bit
abbrev pub bit_given_forms : List NetlistForm
bit_given_forms = quiet (RightParen ∷ []) contexts.Connected ∷ []

-- behind the `)` of a pin; a connection by order is refused
abbrev pub connected_forms : List NetlistForm
connected_forms =
    form (RightParen ∷ []) (λ ts. InstanceEnds) contexts.Closed
    ∷ form (Comma ∷ Dot ∷ Name ∷ []) (λ ts. Pin (text_at 2 ts)) contexts.Pin
    ∷ refused (Comma ∷ Name ∷ []) V3
    ∷ refused (Comma ∷ sorts.Constant ∷ []) V3
    ∷ refused (Comma ∷ LeftBrace ∷ []) V3
    ∷ []

-- behind the `)` of an instance
abbrev pub closed_forms : List NetlistForm
closed_forms =
    form (Comma ∷ Name ∷ []) (λ ts. FurtherInstance (text_at 1 ts) (line_at 1 ts)) contexts.Opening
    ∷ quiet (Semicolon ∷ []) contexts.Body
    ∷ []

-- the forms of each context
abbrev pub forms_in : Context → List NetlistForm
forms_in contexts.Start = start_forms
forms_in contexts.BehindModule = behind_module_forms
forms_in contexts.ModuleName = module_name_forms
forms_in contexts.Header = header_forms
forms_in contexts.Listed = listed_forms
forms_in contexts.Body = body_forms
forms_in contexts.LeftBound = left_bound_forms
forms_in contexts.RightBound = right_bound_forms
forms_in contexts.Declared = declared_forms
forms_in contexts.Opening = opening_forms
forms_in contexts.Pins = pins_forms
forms_in contexts.Pin = pin_forms
forms_in contexts.Connection = connection_forms
forms_in contexts.BitGiven = bit_given_forms
forms_in contexts.Connected = connected_forms
forms_in contexts.Closed = closed_forms
forms_in contexts.Done = []

-- behind the end of the text there is nothing
abbrev pub is_done : Context → Bool
is_done contexts.Done = true
is_done _ = false

-- the forms of each context, where something has to come
abbrev pub forms : Context → Option (List NetlistForm)
forms context = if is_done context then None else Some (forms_in context)

-- a form that was read whole
abbrev pub WholeForm : Type 0
WholeForm = Whole Item Context

-- the first form of the tokens, and the tokens behind it
abbrev pub first_form : List NetlistForm → Tokens → Result (WholeForm × Tokens) (Refusal Code)
first_form fs ts = form_at same_sort misfits fs [] ts
