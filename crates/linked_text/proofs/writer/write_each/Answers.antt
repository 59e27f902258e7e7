use Rattle.std.proofs.Common.{◌≡◌, ℕ, ◌+◌, ◌<◌, List, [], ◌∷◌, ◌++◌, length, take, get_or, sym, ap, ◌∙◌}
use Rattle.std.specs.List.{flat_map}
use Rattle.std.proofs.lemmas.List.{append-nil, flat_map_more, take_all, take_more}
use Rattle.linked_text.proofs.writer.write_each.Goals as goal

-- one more value was written
one_more : {X : Type 0} (f : X → List ℕ) (xs : List X) (i : ℕ) (x : X) (o p q : List ℕ) → i < length xs → x ≡ get_or xs i x → p ≡ o ++ flat_map f (take i xs)
    → q ≡ p ++ f x → q ≡ o ++ flat_map f (take (i + 1) xs)
one_more {X} f xs i x o p q lt at before now =
    let taken : take i xs ++ x ∷ [] ≡ take (i + 1) xs = ap (λ (y : X). take i xs ++ y ∷ []) at ∙ sym (take_more xs i x lt) in
    rw (now, before) (flat_map_more f o (take i xs) x ∙ ap (λ (ys : List X). o ++ flat_map f ys) taken)

pub loop-value-init : goal.loop-value-init
loop-value-init g c = sym (append-nil c.args.out.now.items)

pub loop-value-preserved : goal.loop-value-preserved
loop-value-preserved g c =
    one_more (g.W.Writer.text c.args.writer.now) c.args.values.now c.loop-value.value-index c.value-item.result c.args.out.now.items c.loop-value.out.items _
    c.loop-value-test.true c.value-item.is c.loop-value.invariant c.in_ok-write.ensures

pub returns : goal.returns
returns g c =
    c.loop-value.invariant
    ∙ ap (λ xs. c.args.out.now.items ++ flat_map (g.W.Writer.text c.args.writer.now) xs) (take_all c.loop-value.value-index c.args.values.now c.loop-value-test.false)
