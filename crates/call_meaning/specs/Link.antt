-- The command `link`.
use Rattle.std.specs.Prelude.{◌≡◌}
use Rattle.text_lines.specs.Lines.{text_of}
use Rattle.linked_text.specs.Linked.{linked}
use Rattle.call_meaning.specs.Outcome.{Contents, Outcome, counted_by, prints}
use Rattle.call_meaning.specs.Linking.{BlockMeans}
use Rattle.command_line.specs.declared.words.LinkJob.{LinkJob}

-- the linked text of the design that the four files make, by the Miller numbers of the words where they give any
abbrev pub LinkMeans : LinkJob → Contents → Outcome → Type 0
LinkMeans job content outcome =
    BlockMeans job.files content (λ d. outcome ≡ prints (text_of (linked (counted_by job.miller d)))) outcome
