-- The readers of nets, as lists of nets.
use Rattle.std.specs.Prelude.{◌≡◌, ℕ, ◌<◌, List, [], ◌∷◌, ◌++◌, length, if◌then◌else◌}
use Rattle.xt_model.specs.declared.net.NetId.{NetId}
use Rattle.net_eval.specs.ReadLists.{ids, reads_of}
use Rattle.dirty_words.specs.Views.{has, readers_of}

-- for each net of several read lists its readers
pub record AreReaders (lists readers : List (List NetId)) : Type 0 where
  pub count : length readers ≡ length lists
  pub each : (net : ℕ) → net < length lists → ids (reads_of readers net) ≡ readers_of lists net

-- the numbers of the nets in the row of a net
abbrev pub row_of : List (List NetId) → ℕ → List ℕ
row_of rows net = ids (reads_of rows net)

-- a net was appended to the rows of those that it reads
abbrev pub HasReader : List (List NetId) → List (List NetId) → ℕ → List ℕ → Type 0
HasReader before after reader reads = (net : ℕ) → net < length before
    → row_of after net ≡ row_of before net ++ (if has reads net then reader ∷ [] else [])
