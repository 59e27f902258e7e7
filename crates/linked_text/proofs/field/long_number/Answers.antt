use Rattle.std.proofs.Common.{◌≡◌, sym, ap, ◌∙◌, arith, Ok, rules}
use Rattle.std.specs.Fmt.{decimal}
use Rattle.std.proofs.lemmas.Fmt.{IsAscii-decimal_wide, parse-decimal_wide}
use Rattle.std.proofs.lemmas.Str.{IsUtf8-from_ascii}
use Rattle.linked_text.proofs.Decimals.{no_number, number_again}
use Rattle.linked_text.proofs.field.long_number.Goals as goal

pub returns-in_default : goal.returns-in_default
returns-in_default c = no_number c.args.limit c.args.field.now (λ n lt e. c.in_default.ensures.cases.0 (rw e (IsUtf8-from_ascii (decimal n) (IsAscii-decimal_wide n (omega (arith, c.requires))))))

pub returns-in_default-parse : goal.returns-in_default-parse
returns-in_default-parse c = no_number c.args.limit c.args.field.now (λ n lt e.
    c.in_default-parse.not-Ok n (parse-decimal_wide 128 n c.in-Ok.text.now c.parse.result (omega (arith, c.requires)) (omega (arith, c.requires)) (c.in-Ok.ensures.cases.0 ∙ e) c.parse.ensures.value.0))

pub returns-then-n-limit : goal.returns-then-n-limit
returns-then-n-limit c = no_number c.args.limit c.args.field.now (λ n lt e.
    let p : c.parse.result ≡ Ok n = parse-decimal_wide 128 n c.in-Ok.text.now c.parse.result (omega (arith, c.requires)) (omega (arith, c.requires)) (c.in-Ok.ensures.cases.0 ∙ e) c.parse.ensures.value.0 in
    let same : c.in-Ok-parse.n ≡ n = cc in
    omega (arith, c.if-n-limit.true))

pub returns-then-not-is_written_so : goal.returns-then-not-is_written_so
returns-then-not-is_written_so c = no_number c.args.limit c.args.field.now (λ n lt e.
    let p : c.parse.result ≡ Ok n = parse-decimal_wide 128 n c.in-Ok.text.now c.parse.result (omega (arith, c.requires)) (omega (arith, c.requires)) (c.in-Ok.ensures.cases.0 ∙ e) c.parse.ensures.value.0 in
    let same : c.in-Ok-parse.n ≡ n = cc in
    let so : c.args.field.now ≡ decimal c.in-Ok-parse.n = e ∙ ap decimal (sym same) in
    search (rules, so))

pub returns : goal.returns
returns c =
    let so : c.args.field.now ≡ decimal c.in-Ok-parse.n = search rules in
    rw so (number_again c.args.limit c.in-Ok-parse.n (omega (arith, c.if-n-limit.false)) (omega (arith, c.requires, c.if-n-limit.false)))
