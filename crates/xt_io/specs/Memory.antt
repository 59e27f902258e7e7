-- What files and sinks in memory are, and what a call does to them.
use Rattle.std.specs.Prelude.{[], ◌≡◌, ℕ, ◌+◌, ◌-◌, ◌≤◌, ◌⊎◌, List, length, min, Contains, Option, option_map}
use Rattle.std.specs.Prelude.{MatchOption, IfSome, slice_get, slice_index, slice_set, string_bytes, position, String}
use Rattle.std.specs.Prelude.{Vec}
use Rattle.std.specs.Global.{Global}
use Rattle.std.specs.Option.{option_map_or}
use Rattle.std.specs.Str.{bytes_eq}
use Rattle.xt_io.specs.Outside.{Place}

-- a count after one more, which stays at the last value of a 64-bit counter
abbrev pub one_more : ℕ → ℕ
one_more count = min (count + 1) 18446744073709551615

-- a sink in memory
pub record SinkState : Type 0 where
  -- what was written
  pub written : List ℕ
  -- the numbers of the writes that fail
  pub fail : List ℕ
  -- the number of the next write
  pub calls : ℕ
  -- the count of faults
  pub faults : ℕ
  -- the most bytes that one write takes
  pub most : ℕ
  -- the most bytes that all writes take together
  pub room : ℕ

-- the next write fails: its number is listed, or no room is left
abbrev pub WriteFails : SinkState → Type 0
WriteFails s = Contains s.fail s.calls ⊎ (s.room ≤ length s.written)

-- a file in memory: its name and its bytes
abbrev pub File : Type 0
File = String Global × Vec ℕ Global

-- where the first file of a name stands
abbrev pub position_of : List File → List ℕ → Option ℕ
position_of files name = position (λ f. bytes_eq (string_bytes f.0) name) files

-- the name of the file at an index, empty past the last file
abbrev pub name_at : List File → ℕ → List ℕ
name_at files i = option_map_or (λ f. string_bytes f.0) (slice_get files i) []

-- the bytes of the file at an index, none past the last file
abbrev pub bytes_at : List File → ℕ → List ℕ
bytes_at files i = option_map_or (λ f. f.1.items) (slice_get files i) []

-- the bytes of the first file of a name
abbrev pub content_of : List File → List ℕ → Option (List ℕ)
content_of files name = option_map (λ i. bytes_at files i) (position_of files name)

-- the count of faults of a file, or the one of all other names
abbrev pub fault_count : List ℕ → ℕ → Option ℕ → ℕ
fault_count files others file = option_map_or (λ i. slice_index files i) file others

-- files in memory
pub record FilesState : Type 0 where
  pub files : List File
  -- the numbers of the calls that fail
  pub fail : List ℕ
  -- the number of the next call
  pub calls : ℕ
  -- the count of faults of each file
  pub faults : List ℕ
  -- the count of faults of all other names
  pub others : ℕ
  -- where the reader stands, if a file is open
  pub place : Option Place

-- the count of faults of a name
abbrev pub faults_of : FilesState → List ℕ → ℕ
faults_of s name = fault_count s.faults s.others (position_of s.files name)

-- the next call fails whatever it asks for: its number is listed
abbrev pub IsListed : FilesState → Type 0
IsListed s = Contains s.fail s.calls

-- one more call was counted; the files, and which calls fail, are as before
pub record CountsCall (old new : FilesState) : Type 0 where
  pub files : new.files ≡ old.files
  pub fail : new.fail ≡ old.fail
  pub calls : new.calls ≡ one_more old.calls

-- every count of faults is as before
pub record KeepsFaults (old new : FilesState) : Type 0 where
  pub faults : new.faults ≡ old.faults
  pub others : new.others ≡ old.others

-- one count is one more, that of a file or that of all other names; every other count is as before
abbrev pub RaisesCount : List ℕ → ℕ → List ℕ → ℕ → Option ℕ → Type 0
RaisesCount files others new_files new_others file =
    MatchOption file
    ((new_files ≡ files) × (new_others ≡ one_more others))
    (λ i. (new_files ≡ slice_set files i (one_more (slice_index files i))) × (new_others ≡ others))

-- the count of faults of this name is one more; every other count is as before
abbrev pub RaisesFaults : FilesState → FilesState → List ℕ → Type 0
RaisesFaults old new name =
    RaisesCount old.faults old.others new.faults new.others (position_of old.files name)

-- how many bytes a read gives: as many as the buffer holds, or all that are left of the open file
abbrev pub FillsBuffer : FilesState → ℕ → ℕ → Type 0
FillsBuffer s buffer count =
    IfSome s.place (λ p. IfSome (content_of s.files p.name) (λ whole. count ≡ min buffer (length whole - p.read)))
