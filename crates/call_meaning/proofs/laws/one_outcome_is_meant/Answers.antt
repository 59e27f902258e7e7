use Rattle.call_meaning.specs.Outcome.{prints, refuses}
use Rattle.call_meaning.proofs.Agreement.{one_outcome}
use Rattle.call_meaning.proofs.laws.one_outcome_is_meant.Goals as goal

pub returns : goal.returns
returns c = record {
  one_text = λ words content a b known. one_outcome words content known (prints a) (prints b);
  one_refusal = λ words content a b known. one_outcome words content known (refuses a) (refuses b);
  not_both = λ words content a b known. one_outcome words content known (prints a) (refuses b);
}
