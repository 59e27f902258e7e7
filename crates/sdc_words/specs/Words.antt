-- The words of an SDC text: a command is what stands up to a line's end or `;`, and its words are bare, in braces, in
-- quotes or in brackets.
use Rattle.std.specs.Prelude.{ℕ, ◌+◌, ◌-◌, Bool, true, false, not, ◌&&◌, ◌==◌, if◌then◌else◌}
use Rattle.std.specs.Prelude.{List, [], ◌∷◌, ◌++◌, length, slice_range, codes, Option, Some, None}
use Rattle.std.specs.Str.{bytes_eq}
use Rattle.xt_lex.specs.Sdc.{in_bit_after}
use Rattle.xt_lex.specs.Tokens.{TokenText, token_texts}
use Rattle.xt_lex.specs.declared.rules.Rules.TheVariants.{Sdc}
use Rattle.xt_lex.specs.declared.token.Kind.{Kind}
use Rattle.xt_lex.specs.declared.token.Kind.TheVariants as kinds
use Rattle.sdc_words.specs.declared.part.Part.{Part}
use Rattle.sdc_words.specs.declared.part.Part.TheVariants.{Opens, Closes, Plain}

abbrev pub Text : Type 0
Text = List ℕ

-- the names in a list: a bare one, or those between braces, which white space separates
pub data NamesText : Type 0 where
  One : Text → NamesText
  Many : Text → NamesText

-- a word: bare, in braces, in quotes, one of the four object lists in brackets, or another in brackets
pub data WordText : Type 0 where
  Bare : Text → WordText
  Braced : Text → WordText
  Quoted : Text → WordText
  Ports : NamesText → WordText
  Clocks : NamesText → WordText
  AllInputs : WordText
  AllOutputs : WordText
  Bracketed : WordText

-- a command: the line of its first word, and its words, if brackets match and nothing touches the end of a word
pub record CommandText : Type 0 where
  pub line : ℕ
  pub words : Option (List WordText)

-- ---- single words

-- the bytes between the first and the last one: those between braces or quotes
abbrev pub enclosed_in : Text → Text
enclosed_in text = slice_range text 1 (length text - 1)

-- a `[` of a bare word stands open at its end, where `open_bit` says that one stands open before these bytes
abbrev pub ends_open : Bool → Text → Bool
ends_open open_bit [] = open_bit
ends_open open_bit (b ∷ more) = ends_open (in_bit_after open_bit b) more

-- what a token is to the brackets around words
abbrev pub part_of : Kind → Text → Part
part_of kinds.Mark text = if bytes_eq text (codes "[") then Opens else Closes
part_of _ text = Plain

abbrev pub closes : Part → Bool
closes Closes = true
closes _ = false

-- a word that is not in brackets; a bare one has no open `[`
abbrev pub word_of : Kind → Text → Option WordText
word_of kinds.Word text = if ends_open false text then None else Some (Bare text)
word_of kinds.Escaped text = Some (Braced (enclosed_in text))
word_of _ text = Some (Quoted (enclosed_in text))

-- the names of a list in brackets: a bare name or a list in braces
abbrev pub names_of : Kind → Text → Option NamesText
names_of kinds.Word text = Some (One text)
names_of kinds.Escaped text = Some (Many (enclosed_in text))
names_of _ text = None

-- `all_inputs` or `all_outputs` alone in brackets
abbrev pub all_ports : Kind → Text → WordText
all_ports kinds.Word text =
    if bytes_eq text (codes "all_inputs") then AllInputs
    else if bytes_eq text (codes "all_outputs") then AllOutputs
    else Bracketed
all_ports _ text = Bracketed

abbrev pub listed : Text → NamesText → WordText
listed text names =
    if bytes_eq text (codes "get_ports") then Ports names
    else if bytes_eq text (codes "get_clocks") then Clocks names
    else Bracketed

-- `get_ports` or `get_clocks` with a list in brackets
abbrev pub object_list : Kind → Text → Option NamesText → WordText
object_list kinds.Word text (Some names) = listed text names
object_list _ text _ = Bracketed

-- a word in brackets, by the tokens between them
abbrev pub bracketed : List TokenText → WordText
bracketed (t ∷ []) = all_ports t.kind t.text
bracketed (t ∷ u ∷ []) = object_list t.kind t.text (names_of u.kind u.text)
bracketed _ = Bracketed

-- ---- the words of a command

-- a command in part: its words so far, how many brackets stand open, the tokens behind the outermost one, and the place
-- where a closing sign ended, if it stands last
pub record PartialText : Type 0 where
  pub words : List WordText
  pub depth : ℕ
  pub inside : List TokenText
  pub ended : Option ℕ

-- the place behind a token
abbrev pub end_of : TokenText → ℕ
end_of t = t.from + length t.text

-- the place behind a token that a closing sign ends
abbrev pub ended_by : Kind → ℕ → Option ℕ
ended_by kinds.Word place = None
ended_by _ place = Some place

-- a token begins where a closing sign ended
abbrev pub touches : Option ℕ → ℕ → Bool
touches None from = false
touches (Some place) from = place == from

-- a bracket opens: outside of brackets a word begins
abbrev pub opened : TokenText → PartialText → PartialText
opened t p =
    if p.depth == 0 then record p { depth = 1; inside = []; ended = None }
    else record p { depth = p.depth + 1; inside = p.inside ++ t ∷ []; ended = None }

-- a bracket closes: the outermost one ends a word, and one has to be open
abbrev pub closed : TokenText → PartialText → Option PartialText
closed t p =
    if p.depth == 0 then None
    else if p.depth == 1
    then Some (record { words = p.words ++ bracketed p.inside ∷ []; depth = 0; inside = []; ended = Some (end_of t) })
    else Some (record p { depth = p.depth - 1; inside = p.inside ++ t ∷ []; ended = Some (end_of t) })

-- a token that is no bracket: outside of brackets it is a word
abbrev pub placed : TokenText → PartialText → Option WordText → Option PartialText
placed t p None = None
placed t p (Some w) =
    if p.depth == 0 then Some (record p { words = p.words ++ w ∷ []; ended = ended_by t.kind (end_of t) })
    else Some (record p { inside = p.inside ++ t ∷ []; ended = ended_by t.kind (end_of t) })

abbrev pub added_as : Part → TokenText → PartialText → Option PartialText
added_as Opens t p = Some (opened t p)
added_as Closes t p = closed t p
added_as Plain t p = placed t p (word_of t.kind t.text)

-- a further token of the command; where a closing sign ended, only a `]` may begin
unfoldable pub added : TokenText → PartialText → Option PartialText
added t p =
    if touches p.ended t.from && not (closes (part_of t.kind t.text)) then None
    else added_as (part_of t.kind t.text) t p

-- nothing of a command
abbrev pub nothing : PartialText
nothing = record { words = []; depth = 0; inside = []; ended = None }

-- ---- the commands of a text

-- a command in part with the line of its first token; its tokens may already not fit
pub record OpenText : Type 0 where
  pub line : ℕ
  pub read : Option PartialText

-- a further token, if those before it fit
abbrev pub go_on : TokenText → Option PartialText → Option PartialText
go_on t None = None
go_on t (Some p) = added t p

-- a token of a command, which begins with it where none is open
abbrev pub with_token : TokenText → Option OpenText → OpenText
with_token t None = record { line = t.line; read = added t nothing }
with_token t (Some c) = record { line = c.line; read = go_on t c.read }

-- the words of a command that ends: no bracket may stand open
abbrev pub finished : Option PartialText → Option (List WordText)
finished None = None
finished (Some p) = if p.depth == 0 then Some p.words else None

-- a command ends, if one is open
abbrev pub with_ended : Option OpenText → List CommandText → List CommandText
with_ended None more = more
with_ended (Some c) more = record { line = c.line; words = finished c.read } ∷ more

abbrev pub is_break : Kind → Bool
is_break kinds.Break = true
is_break _ = false

-- the commands of some tokens, behind those of the command that is open
abbrev pub commands_from : Option OpenText → List TokenText → List CommandText
commands_from o [] = with_ended o []
commands_from o (t ∷ ts) =
    if is_break t.kind then with_ended o (commands_from None ts) else commands_from (Some (with_token t o)) ts

-- the commands of a text
unfoldable pub commands_of : List ℕ → List CommandText
commands_of bytes = commands_from None (token_texts Sdc bytes)

-- a command in part, if its tokens fit
abbrev pub read_of : Bool → PartialText → Option PartialText
read_of true p = Some p
read_of false p = None
