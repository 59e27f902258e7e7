-- Bytes without which no piece is left open.
use Rattle.std.specs.Prelude.{ℕ, Bool, ◌||◌, ◌==◌}
use Rattle.xt_lex.specs.declared.rules.Rules.{Rules}
use Rattle.xt_lex.specs.declared.rules.Rules.TheVariants.{Liberty, Verilog, Spef, Sdc}

-- two bytes of which each piece that nothing closes has one, as its first byte or as its second
abbrev pub openings : Rules → ℕ × ℕ
openings Liberty = (34, 42)
openings Verilog = (42, 42)
openings Spef = (34, 47)
openings Sdc = (34, 123)

-- whether a byte is one of them
abbrev pub is_opening : Rules → ℕ → Bool
is_opening rules b = b == (openings rules).0 || b == (openings rules).1
