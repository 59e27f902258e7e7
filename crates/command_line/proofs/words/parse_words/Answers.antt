use Rattle.std.proofs.Common.{◌≡◌, ◌∙◌, Option, Some, IfOk, ap, inl, refl, sym, subst}
use Rattle.std.specs.Prelude.{string_bytes}
use Rattle.clap.specs.Words.{first_value, found_of}
use Rattle.command_grammar.specs.Forms.{form_of}
use Rattle.command_line.specs.Words.{job_for}
use Rattle.command_line.specs.declared.words.Job.{Job}
use Rattle.command_line.proofs.Jobs.{bad_as, either_fault, job_read, no_command, no_items, no_words, one_fault, read_job, read_none}
use Rattle.command_line.proofs.words.parse_words.Goals as goal

pub returns-in-Ok-clause-parsed : goal.returns-in-Ok-clause-parsed
returns-in-Ok-clause-parsed c =
    let get = first_value (found_of c.in-Ok.given) in
    let same = job_read c.args.words.now c.first-item.result c.as_str.result.now c.command_named.result c.in-Some.command (form_of c.rule_of.result) get
    c.in-len1-up.len_at_least (c.as_str.ensures.value ∙ ap string_bytes c.first-item.is) c.command_named.ensures c.in-Some.is c.rule_of.ensures c.in-Ok.ensures.ok in
    let P : Option Job → Type 0 = λ o. IfOk c.job_for.result (λ job. o ≡ Some job) in
    subst P (sym same) (read_job (job_for c.in-Some.command get) c.job_for.result c.job_for.ensures)

pub returns-in-Ok-clause-bad : goal.returns-in-Ok-clause-bad
returns-in-Ok-clause-bad c = λ bad.
    let get = first_value (found_of c.in-Ok.given) in
    let same = job_read c.args.words.now c.first-item.result c.as_str.result.now c.command_named.result c.in-Some.command (form_of c.rule_of.result) get
    c.in-len1-up.len_at_least (c.as_str.ensures.value ∙ ap string_bytes c.first-item.is) c.command_named.ensures c.in-Some.is c.rule_of.ensures c.in-Ok.ensures.ok in
    same ∙ read_none (job_for c.in-Some.command get) c.job_for.result c.job_for.ensures bad

pub returns-in-Ok-clause-refused : goal.returns-in-Ok-clause-refused
returns-in-Ok-clause-refused c = λ none.
    let get = first_value (found_of c.in-Ok.given) in
    let same = job_read c.args.words.now c.first-item.result c.as_str.result.now c.command_named.result c.in-Some.command (form_of c.rule_of.result) get
    c.in-len1-up.len_at_least (c.as_str.ensures.value ∙ ap string_bytes c.first-item.is) c.command_named.ensures c.in-Some.is c.rule_of.ensures c.in-Ok.ensures.ok in
    one_fault (job_for c.in-Some.command get) c.job_for.result c.job_for.ensures (sym same ∙ none)

pub returns-in_default-clause-parsed : goal.returns-in_default-clause-parsed
returns-in_default-clause-parsed c = tt

pub returns-in_default-clause-bad : goal.returns-in_default-clause-bad
returns-in_default-clause-bad c = λ _. no_words c.args.words.now c.in_default.len_below

pub returns-in_default-clause-refused : goal.returns-in_default-clause-refused
returns-in_default-clause-refused c = λ _. inl refl

pub returns-in_default-command_named-clause-parsed : goal.returns-in_default-command_named-clause-parsed
returns-in_default-command_named-clause-parsed c = tt

pub returns-in_default-command_named-clause-bad : goal.returns-in_default-command_named-clause-bad
returns-in_default-command_named-clause-bad c = λ _.
    no_command c.args.words.now c.first-item.result c.as_str.result.now c.command_named.result
    c.in-len1-up.len_at_least (c.as_str.ensures.value ∙ ap string_bytes c.first-item.is) c.command_named.ensures c.in_default-command_named.is

pub returns-in_default-command_named-clause-refused : goal.returns-in_default-command_named-clause-refused
returns-in_default-command_named-clause-refused c = λ _. inl refl

pub returns-in-Err-clause-parsed : goal.returns-in-Err-clause-parsed
returns-in-Err-clause-parsed c = tt

pub returns-in-Err-clause-bad : goal.returns-in-Err-clause-bad
returns-in-Err-clause-bad c = λ bad.
    no_items c.args.words.now c.first-item.result c.as_str.result.now c.command_named.result c.in-Some.command (form_of c.rule_of.result)
    c.in-len1-up.len_at_least (c.as_str.ensures.value ∙ ap string_bytes c.first-item.is) c.command_named.ensures c.in-Some.is c.rule_of.ensures
    (c.read.ensures.bad (bad_as c.read.result _ c.in-Err.fault c.in-Err.is refl bad))

pub returns-in-Err-clause-refused : goal.returns-in-Err-clause-refused
returns-in-Err-clause-refused c = λ _. either_fault _ c.in-Err.fault refl
