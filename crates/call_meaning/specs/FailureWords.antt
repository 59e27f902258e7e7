-- What the line of a failure says, and its exit status.
use Rattle.std.specs.Prelude.{◌≡◌, ℕ, ℤ, ◌+◌, ◌⊎◌, ◌≤◌, ◌++◌, [], ◌∷◌, List, length, take, codes, Option, Some, None}
use Rattle.std.specs.Fmt.{decimal, signed_decimal}
use Rattle.xt_model.specs.Codes.{code_text}
use Rattle.xt_model.specs.declared.fault.LimitKind.{LimitKind}
use Rattle.xt_model.specs.declared.fault.LimitKind.TheVariants as kinds
use Rattle.xt_io.specs.Outside.{Rose, appended}
use Rattle.envelope.specs.declared.fault.What.{What}
use Rattle.envelope.specs.declared.fault.What.TheVariants.{Time, Slew}
use Rattle.link_rules.specs.declared.fault.LinkRefusal.{LinkRefusal}
use Rattle.link_rules.specs.declared.fault.LinkRefusal.TheVariants as refusals
use Rattle.command_line.specs.Words.{Text}
use Rattle.call_meaning.specs.declared.refusal.PassedLimit.{PassedLimit}
use Rattle.call_meaning.specs.declared.refusal.DesignRefusal.TheVariants.{Limit}
use Rattle.call_meaning.specs.declared.refusal.Unlinked.TheVariants as unlinked
use Rattle.call_meaning.specs.declared.refusal.TextRefusal.TheVariants.{At, Beyond}
use Rattle.call_meaning.specs.declared.refusal.FileRefusal.TheVariants.{TooLong, Content}
use Rattle.call_meaning.specs.declared.refusal.Refusal.TheVariants.{Words, File, Linking, Design}
use Rattle.call_meaning.specs.declared.refusal.Stop.TheVariants.{Refused, Unread, NoMemory}
use Rattle.call_meaning.specs.declared.refusal.Failure.{Failure}
use Rattle.call_meaning.specs.declared.refusal.Failure.TheVariants.{NoText, Unwritten}

-- ---- limits and linking

-- the word for what is too great in an envelope
abbrev pub what_word : What → Text
what_word Time = codes "time"
what_word Slew = codes "slew"

-- a name and a space, where there is a name
abbrev pub name_field : Option Text → Text
name_field None = []
name_field (Some name) = name ++ codes " "

-- the word for what has a limit
abbrev pub kind_word : LimitKind → Text
kind_word kinds.Nets = codes "nets"
kind_word kinds.Instances = codes "instances"
kind_word kinds.Nodes = codes "nodes"
kind_word kinds.Load = codes "load"
kind_word kinds.Couplings = codes "couplings"
kind_word kinds.Coefficients = codes "coefficients"
kind_word kinds.Arcs = codes "arcs"
kind_word kinds.Tables = codes "tables"
kind_word kinds.Checks = codes "checks"
kind_word kinds.Reads = codes "reads"

-- `limit: WHAT NAME VALUE`, or without a name
abbrev pub limit_words : Text → Option Text → Text → Text
limit_words what name value = codes "limit: " ++ (what ++ (codes " " ++ (name_field name ++ value)))

-- of a limit that a text or a block passes
abbrev pub count_limit_words : PassedLimit LimitKind ℕ → Text
count_limit_words l = limit_words (kind_word l.what) l.name (decimal l.value)

-- of a limit that a window of an envelope passes
abbrev pub window_limit_words : PassedLimit What ℤ → Text
window_limit_words l = limit_words (what_word l.what) l.name (signed_decimal l.value)

-- a code with one name, or with two
abbrev pub one_name : Text → Text → Text
one_name code name = code ++ (codes " " ++ name)

abbrev pub two_names : Text → Text → Text → Text
two_names code first second = code ++ (codes " " ++ (first ++ (codes " " ++ second)))

-- the first of several names
abbrev pub first_name : List Text → Text
first_name [] = []
first_name (name ∷ more) = name

-- the code of a refusal of linking with its names: of a loop of arcs the first net of its list
abbrev pub link_words : LinkRefusal → Text
link_words (refusals.K1 instance cell) = two_names (codes "K1") instance cell
link_words (refusals.K2 instance pin) = two_names (codes "K2") instance pin
link_words (refusals.K3 net) = one_name (codes "K3") net
link_words (refusals.K4 nets) = one_name (codes "K4") (first_name nets)
link_words (refusals.K5 net) = one_name (codes "K5") net
link_words (refusals.K6 net node) = two_names (codes "K6") net node
link_words (refusals.K7 check) = one_name (codes "K7") check
link_words (refusals.K9 instance cell) = two_names (codes "K9") instance cell

-- ---- the status and the line

-- the most bytes that a file may have: 256 MiB
abbrev pub most_bytes : ℕ
most_bytes = 268435456

-- the exit status of each failure, and its line on the error stream: 2 for words, 3 for a text, 4 for linking, 5 for a
-- limit, 6 for a file that cannot be read, 7 for an output that cannot be written, 8 for want of memory
abbrev pub status_and_line : Failure → ℕ × Text
status_and_line (NoText (Refused Words)) = (2, codes "xtalk: bad command line")
status_and_line (NoText (Refused (File file (Content (At line code))))) =
    (3, file ++ (codes ":" ++ (decimal line ++ (codes ": " ++ code_text code))))
status_and_line (NoText (Refused (File file (Content (Beyond limit))))) = (5, count_limit_words limit)
status_and_line (NoText (Refused (File file TooLong))) =
    (5, codes "limit: file " ++ (file ++ (codes " " ++ decimal (most_bytes + 1))))
status_and_line (NoText (Refused (Linking (unlinked.Refused why)))) = (4, codes "link: " ++ link_words why)
status_and_line (NoText (Refused (Linking (unlinked.Beyond limit)))) = (5, count_limit_words limit)
status_and_line (NoText (Refused (Design (Limit limit)))) = (5, window_limit_words limit)
status_and_line (NoText (Unread file)) = (6, codes "read fault: " ++ file)
status_and_line Unwritten = (7, codes "write fault")
status_and_line (NoText NoMemory) = (8, codes "out of memory")

abbrev pub status_of : Failure → ℕ
status_of failure = (status_and_line failure).0

-- the line, with its newline
abbrev pub line_of : Failure → Text
line_of failure = (status_and_line failure).1 ++ 10 ∷ []

-- some first part of the line was appended, and all of it unless the sink had a fault
pub record WritesLine (before after : Option Text) (faults_before faults_after : ℕ) (line : Text) : Type 0 where
  pub count : ℕ
  pub within : count ≤ length line
  pub prefix : after ≡ appended before (take count line)
  pub whole : (count ≡ length line) ⊎ Rose faults_before faults_after
