-- Cells of instances, noted one after another, and the modules that no instance is of.
use Rattle.std.proofs.Common.{◌≡◌, refl, ◌≤◌, ◌||◌, Bool, true, false, not, List, [], ◌∷◌, length, get_or, Option, Some, None, sym, ap, ◌∙◌, subst, if◌then◌else◌}
use Rattle.std.specs.List.{filter}
use Rattle.std.specs.Str.{bytes_eq}
use Rattle.name_numbers.specs.Names.{Text, value_of, with_value}
use Rattle.verilog_net.specs.declared.netlist.Instance.{Instance}
use Rattle.verilog_net.specs.declared.netlist.Netlist.{Netlist}
use Rattle.hier_flatten.specs.Hierarchy.{is_instanced}
use Rattle.hier_flatten.specs.Cells.{is_held, is_cell, HasCells, AreCells}
use Rattle.hier_flatten.proofs.TableLaws.{value_with}
use Rattle.hier_flatten.proofs.SliceLaws.{rest_of, first_and_rest}

abbrev pub Cells : Type 0
Cells = List (Text × Unit {0})

-- some instances are left, the others have been noted
pub record AreNoted (rest all : List Instance) (old new : Cells) : Type 0 where
  pub each : (name : Text) → (is_cell name rest || is_held (value_of name new)) ≡ (is_cell name all || is_held (value_of name old))

pub none_noted : (all : List Instance) (old : Cells) → AreNoted all all old old
none_noted all old = record { each = λ name. refl }

held_by : (r b : Bool) (o : Option (Unit {0})) (v : Unit {0}) → (r || is_held (if b then Some v else o)) ≡ ((b || r) || is_held o)
held_by true true o v = refl
held_by true false o v = refl
held_by false true o v = refl
held_by false false o v = refl

pub one_noted : (rest : List Instance) (d i : Instance) (cell : Text) (v : Unit {0}) (all : List Instance) (old now new : Cells)
    → 1 ≤ length rest → i ≡ get_or rest 0 d → cell ≡ i.cell → new ≡ with_value cell v now → AreNoted rest all old now → AreNoted (rest_of rest) all old new
one_noted rest d i cell v all old now new some is named entered h =
    let whole : rest ≡ i ∷ rest_of rest = first_and_rest rest d i some is in
    record {
      each = λ name.
          ap (λ t. is_cell name (rest_of rest) || is_held (value_of name t)) entered
          ∙ (ap (λ o. is_cell name (rest_of rest) || is_held o) (value_with name cell v now)
          ∙ (ap (λ c. is_cell name (rest_of rest) || is_held (if bytes_eq name c then Some v else value_of name now)) named
          ∙ (held_by (is_cell name (rest_of rest)) (bytes_eq name i.cell) (value_of name now) v
          ∙ (ap (λ r. is_cell name r || is_held (value_of name now)) (sym whole) ∙ h.each name))));
    }

pub all_noted : (rest all : List Instance) (old new : Cells) → rest ≡ [] → AreNoted rest all old new → HasCells all old new
all_noted rest all old new none h =
    let gone : AreNoted [] all old new = subst (λ r. AreNoted r all old new) none h in
    record { each = gone.each }

-- the same of modules
pub record AreNotedIn (rest all : List Netlist) (cells : Cells) : Type 0 where
  pub each : (name : Text) → (is_instanced rest name || is_held (value_of name cells)) ≡ is_instanced all name

or_false : (b : Bool) → (b || false) ≡ b
or_false true = refl
or_false false = refl

pub none_noted_in : (all : List Netlist) → AreNotedIn all all []
none_noted_in all = record { each = λ name. or_false (is_instanced all name) }

turned : (r c h : Bool) → (r || (c || h)) ≡ ((c || r) || h)
turned true true h = refl
turned true false h = refl
turned false true h = refl
turned false false h = refl

pub one_noted_in : (rest : List Netlist) (d m : Netlist) (is : List Instance) (all : List Netlist) (now new : Cells)
    → 1 ≤ length rest → m ≡ get_or rest 0 d → is ≡ m.instances → HasCells is now new → AreNotedIn rest all now → AreNotedIn (rest_of rest) all new
one_noted_in rest d m is all now new some first instances one h =
    let whole : rest ≡ m ∷ rest_of rest = first_and_rest rest d m some first in
    record {
      each = λ name.
          ap (λ b. is_instanced (rest_of rest) name || b) (one.each name)
          ∙ (ap (λ l. is_instanced (rest_of rest) name || (is_cell name l || is_held (value_of name now))) instances
          ∙ (turned (is_instanced (rest_of rest) name) (is_cell name m.instances) (is_held (value_of name now))
          ∙ (ap (λ r. is_instanced r name || is_held (value_of name now)) (sym whole) ∙ h.each name)));
    }

pub all_noted_in : (rest all : List Netlist) (cells : Cells) → rest ≡ [] → AreNotedIn rest all cells → AreCells all cells
all_noted_in rest all cells none h =
    let gone : AreNotedIn [] all cells = subst (λ r. AreNotedIn r all cells) none h in
    record { each = gone.each }

-- ---- the tops
abbrev pub tops_in : List Netlist → List Netlist → List Netlist
tops_in all rest = filter (λ m. not (is_instanced all m.«module»)) rest

abbrev pub found_so_far : Option Netlist → List Netlist
found_so_far None = []
found_so_far (Some m) = m ∷ []

pub top_more : (all rest : List Netlist) (d m : Netlist) → 1 ≤ length rest → m ≡ get_or rest 0 d → is_instanced all m.«module» ≡ false
    → tops_in all rest ≡ m ∷ tops_in all (rest_of rest)
top_more all rest d m some is free =
    ap (tops_in all) (first_and_rest rest d m some is)
    ∙ ap (λ b. if not b then m ∷ tops_in all (rest_of rest) else tops_in all (rest_of rest)) free

pub top_less : (all rest : List Netlist) (d m : Netlist) → 1 ≤ length rest → m ≡ get_or rest 0 d → is_instanced all m.«module» ≡ true
    → tops_in all rest ≡ tops_in all (rest_of rest)
top_less all rest d m some is used =
    ap (tops_in all) (first_and_rest rest d m some is)
    ∙ ap (λ b. if not b then m ∷ tops_in all (rest_of rest) else tops_in all (rest_of rest)) used
