use Rattle.std.proofs.Common.{◌∙◌}
use Rattle.clap.specs.Words.{app_of}
use Rattle.command_grammar.specs.Forms.{bytes_of, form_of}
use Rattle.command_grammar.proofs.Matches.{few, found, refused}
use Rattle.command_grammar.proofs.grammar.matches.Goals as goal

pub returns-in-Ok-try_get_matches_from-clause-ok :
    goal.returns-in-Ok-try_get_matches_from-clause-ok
returns-in-Ok-try_get_matches_from-clause-ok c =
    found (form_of c.args.rule.now) (app_of c.in-Ok.command) (bytes_of c.args.words.now) c.in-Ok-try_get_matches_from.matches (few c.args.rule.now.positionals.now c.in-Ok.ensures.room)
    c.in-Ok.ensures.app c.requires c.in-Ok-try_get_matches_from.ensures.matches c.in-Ok-try_get_matches_from.ensures.kinds

pub returns : goal.returns
returns c = record {
  ok = tt;
  bad = λ _. refused (form_of c.args.rule.now) (app_of c.in-Ok.command) (bytes_of c.args.words.now) c.in-Err.error (few c.args.rule.now.positionals.now c.in-Ok.ensures.room)
      c.in-Ok.ensures.app c.requires c.in-Err.ensures.kinds (λ memory. c.in_default-kind.not-OutOfMemory (c.kind.ensures ∙ memory));
}
