-- In which turn each net last moved, in which an overlap answer at its couplings last turned, and in which it was last
-- evaluated.
use Rattle.std.specs.Prelude.{◌≡◌, ℕ, ◌<◌, ◌≤◌, ◌⊎◌, ℤ, List, length, slice_index, Option, IfSome}
use Rattle.std.specs.List.{All, Contains, slice_get}
use Rattle.xt_model.specs.declared.edge.Edge.{Edge}
use Rattle.xt_model.specs.declared.net.NetId.{NetId}
use Rattle.xt_model.specs.declared.net.Net.{Net}
use Rattle.xt_model.specs.declared.quad.Pair.{Pair}
use Rattle.xt_model.specs.Quads.{IsPairInRange, quad_at}
use Rattle.xt_model.specs.Parts.{Parts}
use Rattle.xt_model.specs.Assign.{Assignment}
use Rattle.xt_meaning.specs.Overlap.{overlaps}
use Rattle.net_eval.specs.ReadLists.{reads_of}
use Rattle.chaos_core.specs.Tasks.{list_of}
use Rattle.chaos_core.specs.OnlyWorker.{made_of}
use Rattle.chaos_core.specs.Passes.{HoldPair}

-- the number of the last turn, and for each net the three turns
pub record Marks : Type 0 where
  pub turn : ℕ
  pub moved : List ℕ
  pub answers : List ℕ
  pub seen : List ℕ

-- before this turn a net has last moved, and an answer at its couplings has last turned
pub record IsOld (m : Marks) (turn net : ℕ) : Type 0 where
  pub moved : slice_index m.moved net < turn
  pub answers : slice_index m.answers net < turn

-- nothing that decides net number n, which is `net`, has changed since it was evaluated
pub record IsSettledNet (m : Marks) (n : ℕ) (net : Net) : Type 0 where
  pub own : slice_index m.answers n < slice_index m.seen n
  pub inputs : All (λ a. IsOld m (slice_index m.seen n) a.from.0) net.arcs

abbrev pub IsSettledAt : Parts → Marks → ℕ → Type 0
IsSettledAt d m n = IfSome (slice_get d.nets n) (IsSettledNet m n)

-- marks of each net of a design
pub record AreMarksOf (d : Parts) (m : Marks) : Type 0 where
  pub moved : length m.moved ≡ length d.nets
  pub answers : length m.answers ≡ length d.nets
  pub seen : length m.seen ≡ length d.nets

-- no net was evaluated
abbrev pub IsUnseen : Marks → Type 0
IsUnseen m = (n : ℕ) → slice_index m.seen n ≡ 0

-- the words of a net are what the operator makes of the words, which is in range
pub record IsHeld (d : Parts) (words : List ℕ) (n : ℕ) : Type 0 where
  pub hold : HoldPair words n (made_of d words n)
  pub range : IsPairInRange (made_of d words n)

-- marks of no turn to come; and where nothing that decides a net has changed since it was evaluated, its words are what
-- the operator makes of the words
pub record AreMarks (d : Parts) (words : List ℕ) (m : Marks) : Type 0 where
  pub counts : AreMarksOf d m
  pub past : (n : ℕ) → slice_index m.seen n ≤ m.turn
  pub settled : (n : ℕ) → n < length d.nets → IsSettledAt d m n → IsHeld d words n

-- where net n moves from its windows in W to those of a pair, it overlaps the windows of net m there as before
abbrev pub IsMetAlike : Option ℤ → Assignment → ℕ → Pair → ℕ → Type 0
IsMetAlike period W n pair m = (e f : Edge) → overlaps period (W n e) (W m f) ≡ overlaps period (quad_at pair e) (W m f)

-- windows and others overlap those of net m alike
abbrev pub MeetAlike : Option ℤ → Pair → Pair → Assignment → ℕ → Type 0
MeetAlike period p q W m = (e f : Edge) → overlaps period (quad_at p e) (W m f) ≡ overlaps period (quad_at q e) (W m f)

-- for each net the nets whose coupling list has it
pub record AreListed (d : Parts) (lists : List (List NetId)) : Type 0 where
  pub count : length lists ≡ length d.nets
  pub inside : (m : ℕ) → All (λ other. other.0 < length d.nets) (reads_of lists m)
  pub each : (m : ℕ) → IfSome (slice_get d.nets m) (λ net. All (λ k. Contains (list_of lists k.to.0) m) net.couplings)

-- turns of answers, each as before or this turn
pub record AreTold (turn : ℕ) (before after : List ℕ) : Type 0 where
  pub count : length after ≡ length before
  pub each : (m : ℕ) → (slice_index after m ≡ slice_index before m) ⊎ (slice_index after m ≡ turn)

-- turns of answers after net n moved in a turn: that turn for each net at whose couplings an answer turned, and else
-- that turn or the one before
pub record HaveTold (d : Parts) (W : Assignment) (n : ℕ) (pair : Pair) (turn : ℕ) (before after : List ℕ) : Type 0 where
  pub told : AreTold turn before after
  pub own : IfSome (slice_get d.nets n) (λ net.
      All (λ k. IsMetAlike d.period W n pair k.to.0 ⊎ (slice_index after n ≡ turn)) net.couplings)
  pub others : (m : ℕ) → IfSome (slice_get d.nets m) (λ net.
      All (λ k. k.to.0 ≡ n → IsMetAlike d.period W n pair m ⊎ (slice_index after m ≡ turn)) net.couplings)

-- net x is in the list of net m
abbrev pub HasListed : List (List NetId) → ℕ → ℕ → Type 0
HasListed lists m x = Contains (list_of lists m) x

-- lists to which net `own` was appended, and no other
pub record AreMore (own : ℕ) (before after : List (List NetId)) : Type 0 where
  pub kept : (m x : ℕ) → HasListed before m x → HasListed after m x
  pub no_other : (m x : ℕ) → HasListed after m x → HasListed before m x ⊎ (x ≡ own)
