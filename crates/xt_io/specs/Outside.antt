-- What the outside looks like from the program: open files, sinks, and counts of their faults.
use Rattle.std.specs.Prelude.{◌≡◌, ℕ, ◌+◌, ◌<◌, ◌≤◌, ◌⊎◌, List, ◌++◌, length, take, drop, Option, option_map, IfSome}
use Rattle.std.specs.Prelude.{IsSomeAnd, Some, None, Bool, true, false}

-- a count rose: it is greater after than before, or it stands at the last value of a 64-bit counter
abbrev pub Rose : ℕ → ℕ → Type 0
Rose before after = (before < after) ⊎ (after ≡ 18446744073709551615)

-- every count of faults is as before
abbrev pub KeepsCounts : {K : Type 0} → (K → ℕ) → (K → ℕ) → Type 0
KeepsCounts {K} before after = (m : K) → after m ≡ before m

-- no count of faults changed but that of this name: another name has its count as before, or shares that of this name
abbrev pub ChangesOnly : {K : Type 0} → K → (K → ℕ) → (K → ℕ) → Type 0
ChangesOnly {K} name before after =
    (m : K) → (after m ≡ before m) ⊎ ((before m ≡ before name) × (after m ≡ after name))

-- where a reader stands: the open name, and how many of its bytes were read
pub record Place : Type 0 where
  pub name : List ℕ
  pub read : ℕ

-- the place after `count` more bytes of the open name
abbrev pub moved_by : ℕ → Option Place → Option Place
moved_by count place = option_map (λ p. record { name = p.name; read = p.read + count }) place

-- a record of names, where it is whole
abbrev pub recorded : Bool → List (List ℕ) → Option (List (List ℕ))
recorded true names = Some names
recorded false names = None

-- these names were opened, in this order, since the names before were; where there is a record of all that were opened
abbrev pub AreOpened : List (List ℕ) → Option (List (List ℕ)) → Option (List (List ℕ)) → Type 0
AreOpened names before after =
    IfSome after (λ all. (first : List (List ℕ)) × (before ≡ Some first) × (all ≡ first ++ names))

-- `bytes` are the next bytes of the content at the place, where a file is open and its content is known
abbrev pub AreNext : Option Place → (List ℕ → Option (List ℕ)) → List ℕ → Type 0
AreNext place content bytes =
    IfSome place (λ p. IfSome (content p.name) (λ whole.
    (p.read + length bytes ≤ length whole) × (bytes ≡ take (length bytes) (drop p.read whole))))

-- the place is at the end of the content, where a file is open and its content is known
abbrev pub IsAtEnd : Option Place → (List ℕ → Option (List ℕ)) → Type 0
IsAtEnd place content =
    IfSome place (λ p. IfSome (content p.name) (λ whole. p.read ≡ length whole))

-- the count of the open name rose
abbrev pub OpenRose : Option Place → (List ℕ → ℕ) → (List ℕ → ℕ) → Type 0
OpenRose place before after = IfSome place (λ p. Rose (before p.name) (after p.name))

-- no count of faults changed but that of the open name
abbrev pub OpenChangesOnly : Option Place → (List ℕ → ℕ) → (List ℕ → ℕ) → Type 0
OpenChangesOnly place before after = IfSome place (λ p. ChangesOnly p.name before after)

-- the place is more than `most` bytes into the file of this name
abbrev pub IsPast : Option Place → List ℕ → ℕ → Type 0
IsPast place name most = IsSomeAnd place (λ p. (p.name ≡ name) × (most < p.read))

-- what a sink has after `bytes` were added to what it had, where that is known
abbrev pub appended : Option (List ℕ) → List ℕ → Option (List ℕ)
appended before bytes = option_map (λ w. w ++ bytes) before

-- after is before with some first part of the bytes added, but not all of them
abbrev pub IsPrefixAppended : Option (List ℕ) → Option (List ℕ) → List ℕ → Type 0
IsPrefixAppended before after bytes =
    (k : ℕ) × (k < length bytes) × (after ≡ appended before (take k bytes))
