-- The fields of a line.
use Rattle.std.specs.Prelude.{ℕ, List, ◌∷◌, ◌++◌}
use Rattle.xt_model.specs.declared.quad.Quad.{Quad}
use Rattle.text_lines.specs.Fields.{field}
use Rattle.xt_number.specs.Thousandths.{thousandths}

-- the four bounds of a window as fields, with the byte behind the last
abbrev pub quad_text : Quad → ℕ → List ℕ
quad_text q mark =
    thousandths q.tlo ++ 32 ∷ (thousandths q.thi ++ 32 ∷ (thousandths q.slo ++ 32 ∷ field (thousandths q.shi) mark))
