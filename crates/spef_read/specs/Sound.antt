-- What reading leaves true of parasitics: names fit, numbers of names lead to one, and quantities keep their range.
use Rattle.std.specs.Prelude.{◌<◌, [], ◌∷◌, length, IfSome}
use Rattle.std.specs.List.{All}
use Rattle.xt_model.specs.Names.{IsName}
use Rattle.xt_number.specs.Quantities.{IsQuantity}
use Rattle.spef_read.specs.declared.parasitics.NameId.{NameId}
use Rattle.spef_read.specs.declared.parasitics.CapText.{CapText}
use Rattle.spef_read.specs.declared.parasitics.ResText.{ResText}
use Rattle.spef_read.specs.declared.parasitics.WireText.{WireText}
use Rattle.spef_read.specs.declared.parasitics.Parasitics.{Parasitics}

-- the name is there
abbrev pub IsThere : Parasitics → NameId → Type 0
IsThere p name = name.number < length p.names

pub record IsSoundCap (p : Parasitics) (c : CapText) : Type 0 where
  pub a : IsThere p c.a
  pub b : IfSome c.b (IsThere p)
  pub value : IsQuantity c.value

pub record IsSoundRes (p : Parasitics) (r : ResText) : Type 0 where
  pub a : IsThere p r.a
  pub b : IsThere p r.b
  pub value : IsQuantity r.value

pub record IsSoundWire (p : Parasitics) (w : WireText) : Type 0 where
  pub name : IsThere p w.name
  pub total : IsQuantity w.total
  pub caps : All (IsSoundCap p) w.caps
  pub resistors : All (IsSoundRes p) w.resistors

-- parasitics that are to be linked
pub record AreSoundParasitics (p : Parasitics) : Type 0 where
  pub names : All (λ e. IsName e.0) p.names
  pub delimiter : IsName (p.delimiter ∷ [])
  pub wires : All (IsSoundWire p) p.nets
