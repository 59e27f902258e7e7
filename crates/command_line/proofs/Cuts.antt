-- What is before and after a first comma.
use Rattle.std.proofs.Common.{◌≡◌, ◌∙◌, ap, arith, sym, ◌++◌, ◌∷◌, Option, Some, None, option_map}
use Rattle.std.specs.Borrow.{Bor}
use Rattle.std.proofs.lemmas.Str.Pattern.{IsSplitOnceResult, split_parts}
use Rattle.clap.proofs.CutLemmas.{Lacks, after_first-at, before_first-at, list_any-Lacks, list_any-at}
use Rattle.command_grammar.specs.Grammar.{Text}
use Rattle.command_line.specs.Values.{cut}

cut_at : (xs ys : Text) → Lacks 44 xs → cut (xs ++ 44 ∷ ys) ≡ Some (xs, ys)
cut_at xs ys h = rw (list_any-at 44 xs ys, before_first-at 44 xs ys h, after_first-at 44 xs ys h)

cut_without : (text : Text) → Lacks 44 text → cut text ≡ None
cut_without text h = rw (list_any-Lacks 44 text h)

pub cut_is : (text : Text) (r : Option (Bor Text × Bor Text)) → IsSplitOnceResult 44 text r → option_map (λ p. (p.0.now, p.1.now)) r ≡ cut text
cut_is text None h = sym (cut_without text (split_parts 44 text None h (omega arith)))
cut_is text (Some p) h =
    let parts = split_parts 44 text (Some p) h (omega arith) in
    sym (ap cut parts.0 ∙ cut_at p.0.now p.1.now parts.1)
