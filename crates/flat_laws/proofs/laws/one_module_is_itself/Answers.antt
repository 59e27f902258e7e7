use Rattle.flat_laws.proofs.Texts.{module_is_itself, module_is_read, alone_is_flat}
use Rattle.flat_laws.proofs.laws.one_module_is_itself.Goals as goal

pub returns-clause-itself : goal.returns-clause-itself
returns-clause-itself c = module_is_itself

pub returns-clause-read : goal.returns-clause-read
returns-clause-read c = module_is_read

pub returns-clause-alone : goal.returns-clause-alone
returns-clause-alone c = alone_is_flat
