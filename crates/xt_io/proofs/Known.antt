-- What a sink over a stream says that was written.
use Rattle.std.proofs.Common.{◌≡◌, ℕ, Bool, true, false, List, Option, Some, None, refl, ap}
use Rattle.std.specs.Io.KnownBytes.{Appends, Keeps}
use Rattle.xt_io.specs.Host.{IsKnown, known_bytes}
use Rattle.xt_io.specs.Outside.{appended}

-- what was written grows as the stream does
pub known-appended : (known : Bool) (before after : Option (List ℕ)) (bytes : List ℕ) → IsKnown known before
    → Appends before after bytes → known_bytes known after ≡ appended (known_bytes known before) bytes
known-appended false before after bytes held grown = refl
known-appended true None after bytes held grown = cc
known-appended true (Some xs) None bytes held grown = absurd grown
known-appended true (Some xs) (Some ys) bytes held grown = ap (λ t. Some t) grown

-- what was written stays where the stream stays
pub known-kept : (known : Bool) (before after : Option (List ℕ)) → IsKnown known before
    → Keeps before after → known_bytes known after ≡ known_bytes known before
known-kept false before after held same = refl
known-kept true None after held same = cc
known-kept true (Some xs) None held same = absurd same
known-kept true (Some xs) (Some ys) held same = ap (λ t. Some t) same
