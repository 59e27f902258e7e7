use Rattle.std.proofs.Common.{sym}
use Rattle.std.specs.Prelude.{IsTrue}
use Rattle.xt_meaning.proofs.Growth.{wired}
use Rattle.xt_meaning.proofs.Monotone.{operator_same_at, contained_from_same}
use Rattle.xt_meaning.proofs.laws.operator_reads_little.Goals as goal

pub returns : goal.returns
returns c = λ read d W V n e s r same.
    operator_same_at (λ m. IsTrue (read m)) d W V n e (wired d s) r
    (contained_from_same (λ m. IsTrue (read m)) W V same) (contained_from_same (λ m. IsTrue (read m)) V W (λ m f t. sym (same m f t)))
