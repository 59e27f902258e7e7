-- The words of a read list, loaded.
use Rattle.std.specs.Prelude.{◌≡◌, ℕ, ◌*◌, ◌<◌, ◌≤◌, List, length, slice_index}
use Rattle.std.specs.List.{All}
use Rattle.xt_model.specs.Parts.{Parts}
use Rattle.xt_model.specs.Assign.{quads_of}
use Rattle.xt_meaning.specs.Reads.{IsReadList}
use Rattle.xt_meaning.specs.Words.{top_number}
use Rattle.net_eval.specs.Room.{ReadsWithinEnvelope}
use Rattle.chaos_core.specs.Tasks.{loaded_bounds}

-- numbers that rise
abbrev pub Rises : List ℕ → Type 0
Rises reads = (i j : ℕ) → i < j → j < length reads → slice_index reads i < slice_index reads j

-- of each net of a read list its place there
pub record ArePlaces (reads places : List ℕ) : Type 0 where
  pub inside : All (λ net. net < length places) reads
  pub each : (i : ℕ) → i < length reads → slice_index places (slice_index reads i) ≡ i

-- all words of the read list of a net are loaded, and the operator can evaluate the net on them
pub record IsLoaded (d : Parts) (reads : List ℕ) (net : ℕ) (numbers : List ℕ) : Type 0 where
  pub there : net < length d.nets
  pub list : IsReadList d net reads
  pub nets : All (λ m. m < length d.nets) reads
  pub whole : length numbers ≡ 8 * length reads
  pub range : All (λ n. n ≤ top_number) numbers
  pub within : ReadsWithinEnvelope d (quads_of (loaded_bounds reads numbers)) net
