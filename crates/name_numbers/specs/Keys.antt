-- The key of a text, under which the names of the text are hashed.
use Rattle.std.specs.Prelude.{ℕ, List}
use Rattle.std.specs.Int.{w64, to_le_bytes}
use Rattle.std.specs.declared.hash.FoldHasher.{FoldHasher}
use Rattle.std.specs.Hash.DefaultHasher as sip
use Rattle.std.specs.Hash.FoldHasher as folding
use Rattle.name_numbers.specs.declared.key.TextKey.{TextKey}

-- what a name under the key is hashed from
abbrev pub key_state : TextKey → FoldHasher
key_state key = key.first

abbrev seeded : ℕ → FoldHasher
seeded digest = folding.write folding.initial (to_le_bytes w64 digest)

-- the state before a name: the digest of the whole text, in place of a seed that is the same for each text
unfoldable pub first_state : List ℕ → FoldHasher
first_state text = seeded (sip.finish (sip.write sip.initial text))

-- the state that two others give together
unfoldable pub joined_state : FoldHasher → FoldHasher → FoldHasher
joined_state a b =
    let first = sip.write sip.initial (to_le_bytes w64 (folding.finish a)) in
    seeded (sip.finish (sip.write first (to_le_bytes w64 (folding.finish b))))
