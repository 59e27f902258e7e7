-- Words that several texts have.
use Rattle.std.specs.Prelude.{ℕ, List, Bool, if◌then◌else◌, codes}
use Rattle.xt_model.specs.declared.edge.Edge.{Edge}
use Rattle.xt_model.specs.declared.edge.Edge.TheVariants.{Rise, Fall}

abbrev pub edge_word : Edge → List ℕ
edge_word Rise = codes "rise"
edge_word Fall = codes "fall"

-- the kind of a check
abbrev pub check_word : Bool → List ℕ
check_word hold = if hold then codes "hold" else codes "setup"
