use Rattle.std.proofs.Common.{◌∙◌, sym}
use Rattle.command_line.proofs.Digits.{number_of_parse}
use Rattle.command_line.proofs.values.number.Goals as goal

pub returns-then-is_number : goal.returns-then-is_number
returns-then-is_number c =
    number_of_parse 64 c.args.text.now c.as_bytes.result.now c.ok.result c.parse.result c.as_bytes.ensures.value (sym c.is_number.ensures ∙ c.if-is_number.true) c.parse.ensures.value.0 c.ok.ensures.value
