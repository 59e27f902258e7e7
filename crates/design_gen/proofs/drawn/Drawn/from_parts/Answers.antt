use Rattle.std.proofs.Common.{◌∙◌}
use Rattle.std.proofs.lemmas.List.{length-map}
use Rattle.design_gen.proofs.drawn.Drawn.from_parts.Goals as goal

pub invariant_of-result : goal.invariant_of-result
invariant_of-result c = record {
  parts = c.requires.parts;
  are_couplings = c.requires.rows;
  coupling_rows = length-map c.args.couplings.items (λ r. r.items) ∙ c.requires.count;
}
