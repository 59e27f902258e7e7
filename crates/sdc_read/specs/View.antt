-- What the values of the code stand for.
use Rattle.sdc_read.specs.declared.change.Bits as of_code
use Rattle.sdc_read.specs.Changes.{Bits}

-- bits of a port
abbrev pub bits_text : of_code.Bits → Bits
bits_text b = (b.decl, b.first, b.last)
