use Rattle.std.proofs.Common.{◌≡◌, ℕ, ◌+◌, ◌-◌, List, length, take, drop, Some, ap, sym, ◌∙◌, arith, length-drop}
use Rattle.std.proofs.lemmas.List.{take_all}
use Rattle.link_index.proofs.SplitLaws.{split_none, split_at}
use Rattle.link_index.proofs.split.split_last.Goals as goal

rest_is : (bytes : List ℕ) (k : ℕ) → take (length bytes - k) (drop k bytes) ≡ drop k bytes
rest_is bytes k = take_all (length bytes - k) (drop k bytes) (omega (arith, length-drop k bytes))

pub returns-in-None : goal.returns-in-None
returns-in-None c = split_none c.args.delimiter c.args.name.now (λ k lt e. c.in-None.ensures k (omega arith) lt e)

pub returns-in-Some : goal.returns-in-Some
returns-in-Some c =
    let at = c.in-Some.at in
    let name = c.args.name.now in
    split_at c.args.delimiter name at c.in-Some.ensures.0.high c.in-Some.ensures.1 c.in-Some.ensures.0.after
    ∙ ap (λ (t : List ℕ). Some (take at name, t)) (sym (rest_is name (at + 1)))
