-- What a worker notes of an evaluation: the numbers that it loaded for a net's read list, and what the operator made of
-- them. Nothing is said of a board or a run, so a note that held once holds for good.
use Rattle.std.specs.Prelude.{◌≡◌, ℕ, ◌+◌, ◌*◌, ◌≤◌, List, length, take, drop}
use Rattle.std.specs.List.{All}
use Rattle.xt_model.specs.declared.net.NetId.{NetId}
use Rattle.xt_model.specs.declared.quad.Pair.{Pair}
use Rattle.xt_model.specs.Quads.{IsPairInRange}
use Rattle.xt_model.specs.Parts.{Parts}
use Rattle.chaos_core.specs.Tasks.{list_of, evaluated}
use Rattle.chaos_core.specs.Views.{IsLoaded}
use Rattle.dirty_run.specs.declared.notes.Note.{Note}
use Rattle.dirty_run.specs.declared.notes.Notes.{Notes}
use Rattle.dirty_run.specs.declared.notes.Recalled.{Recalled}

-- as many of several numbers as the words of the read list of a net, from a place on
abbrev pub words_from : List (List NetId) → ℕ → ℕ → List ℕ → List ℕ
words_from lists net from numbers = take (8 * length (list_of lists net)) (drop from numbers)

-- a note of net number `net`: its numbers are from this place on among several
pub record IsNote (d : Parts) (lists : List (List NetId)) (numbers : List ℕ) (net from : ℕ) (pair : Pair) : Type 0 where
  pub inside : from + 8 * length (list_of lists net) ≤ length numbers
  pub loaded : IsLoaded d (list_of lists net) net (words_from lists net from numbers)
  pub value : pair ≡ evaluated d (list_of lists net) (words_from lists net from numbers) net
  pub range : IsPairInRange pair

-- notes of a worker
abbrev pub AreNotes : Parts → List (List NetId) → Notes → Type 0
AreNotes d lists notes =
    All (λ (e : Note). IsNote d lists notes.numbers.items e.net.0 e.from e.pair) notes.entries.items

-- numbers that were loaded for the read list of a net, and what the operator makes of the net of them
pub record IsRecalled (d : Parts) (lists : List (List NetId)) (net : ℕ) (recalled : Recalled) : Type 0 where
  pub loaded : IsLoaded d (list_of lists net) net recalled.numbers.now
  pub value : recalled.pair.now ≡ evaluated d (list_of lists net) recalled.numbers.now net
  pub range : IsPairInRange recalled.pair.now
