-- The kinds of a report by their words.
use Rattle.std.specs.Prelude.{ℕ, List, codes, Option, Some, None, if◌then◌else◌}
use Rattle.std.specs.Str.{bytes_eq}
use Rattle.report_kind.specs.declared.kind.ReportKind.{ReportKind}
use Rattle.report_kind.specs.declared.kind.ReportKind.TheVariants.{All, Checks, Noise}

-- the kind that the word names
abbrev pub kind_of : List ℕ → Option ReportKind
kind_of word =
    if bytes_eq word (codes "all") then Some All
    else if bytes_eq word (codes "checks") then Some Checks
    else if bytes_eq word (codes "noise") then Some Noise else None
