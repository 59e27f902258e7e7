-- What files and sinks over streams are.
use Rattle.std.specs.Prelude.{◌≡◌, Bool, true, false, ⊤, ◌⊎◌, ℕ, ◌+◌, ◌<◌, ◌≤◌, List, length, drop, Option, None, Some}
use Rattle.std.specs.Prelude.{IsSome, IfSome}
use Rattle.xt_io.specs.Outside.{Place}

-- what a stream holds, where that is known of its kind
abbrev pub known_bytes : Bool → Option (List ℕ) → Option (List ℕ)
known_bytes true held = held
known_bytes false held = None

-- where it is known of its kind what a stream holds, it is known of this one
abbrev pub IsKnown : Bool → Option (List ℕ) → Type 0
IsKnown true held = IsSome held
IsKnown false held = ⊤

-- a sink over a stream: the stream, what was written, where it is known what its stream holds, and the count of faults
pub record StreamState (W : Type 0) : Type 0 where
  pub stream : W
  pub written : Option (List ℕ)
  pub faults : ℕ

-- a sink over this stream, with no faults yet
abbrev pub fresh_stream : {W : Type 0} → Bool → (W → Option (List ℕ)) → W → StreamState W
fresh_stream known contents stream = record {
  stream = stream;
  written = known_bytes known (contents stream);
  faults = 0;
}

-- the files of a directory: the stream of the open file, where the reader stands, and the one count of faults of every
-- name
pub record DirectoryState (D S : Type 0) : Type 0 where
  pub directory : D
  pub stream : Option S
  pub place : Option Place
  pub faults : ℕ

-- `left` is what follows the first `read` bytes of the content, where that is known
abbrev pub IsLeft : Option (List ℕ) → ℕ → Option (List ℕ) → Type 0
IsLeft content read left = IfSome content (λ whole. (read ≤ length whole) × (left ≡ Some (drop read whole)))

-- a file of this name may not be opened: the name is longer than any that Linux opens, or its directory may refuse it
abbrev pub MayNotOpen : (List ℕ → Type 0) → List ℕ → Type 0
MayNotOpen refuses name = (4095 < length name) ⊎ refuses name

-- a read into a buffer of this length may fail: that of the stream may, or the bytes cannot be counted
abbrev pub MayNotRead : {S : Type 0} → (S → Type 0) → S → ℕ → ℕ → Type 0
MayNotRead fails stream read buffer = fails stream ⊎ (18446744073709551615 < read + buffer)
