use Rattle.flat_laws.proofs.Bits.{flat_bits}
use Rattle.flat_laws.proofs.laws.flat_netlists_connect_bits.Goals as goal

pub returns : goal.returns
returns c = flat_bits
