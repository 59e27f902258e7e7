-- A design as plain data.
use Rattle.std.specs.Prelude.{ℤ, List, Option}
use Rattle.xt_model.specs.declared.table.Table.{Table}
use Rattle.xt_model.specs.declared.net.Net.{Net}
use Rattle.xt_model.specs.declared.check.CheckPoint.{CheckPoint}
use Rattle.xt_model.specs.declared.parts.DesignParts.{DesignParts}
use Rattle.xt_model.specs.Miller.{classical}

-- the clock period in fs where there is one, the tables of the cells, the nets, the check points and the
-- Miller numbers
abbrev pub Parts : Type 0
Parts = DesignParts

-- parts whose couplings count by the classical factors
abbrev pub classical_parts : Option ℤ → List Table → List Net → List CheckPoint → Parts
classical_parts period tables nets checks = record {
  period = period;
  tables = tables;
  nets = nets;
  checks = checks;
  miller = classical;
}
