use Rattle.std.proofs.Common.{◌≡◌, ◌∙◌, ◌++◌, ◌≤◌, ◌-◌, ℕ, List, [], ◌∷◌, length, take, drop, get_or, ◌==◌, false, append_assoc, arith, rules}
use Rattle.std.proofs.lemmas.List.{take_rest}
use Rattle.liberty_tables.specs.Contents.{unquoted}
use Rattle.liberty_tables.proofs.contents.unquoted.Goals as goal

-- a byte that is none of the two is held as it is
as_it_is : (held rest : List ℕ) → 1 ≤ length rest → (get_or rest 0 0 ≡ 34 → ⊥) → (get_or rest 0 0 ≡ 92 → ⊥)
    → (held ++ get_or rest 0 0 ∷ []) ++ unquoted false (drop 1 rest) ≡ held ++ unquoted false rest
as_it_is held [] h n m = absurd (omega (arith, h))
as_it_is held (b ∷ more) h n m =
    let quote : (b == 34) ≡ false = search rules in
    let backslash : (b == 92) ≡ false = search rules in
    rw (quote, backslash) (append_assoc held (b ∷ []) (unquoted false more))

pub bytes-preserved : goal.bytes-preserved
bytes-preserved c =
    let rest : List ℕ = c.bytes.rest.now in
    let on : c.push-else-byte-eq92.new.self.items ++ unquoted c.bytes.kept (take (length rest - 1) (drop 1 rest))
    ≡ c.bytes.held.items ++ unquoted c.bytes.kept rest =
    rw (take_rest rest 1, c.in_ok-push-2.ensures.items, c.if-kept.false)
    (as_it_is c.bytes.held.items rest c.in-len1-up.len_at_least c.if-byte-eq34.false c.if-byte-eq92.false) in
    on ∙ c.bytes.invariant
