use Rattle.std.proofs.Common.{◌≡◌, ℕ, List, [], ◌∷◌, ◌++◌, Option, Some, None, refl, ap, sym, ◌∙◌, append_assoc}
use Rattle.xt_model.specs.Options.{◌>>=◌}
use Rattle.linked_text.specs.Fields.{each}
use Rattle.linked_text.proofs.Loop.{with_values}
use Rattle.linked_text.proofs.read_line.each_field.Goals as goal

-- the value of one more field was read
each_next : {A : Type 0} (of : List ℕ → Option A) (front : List A) (f : List ℕ) (left more : List (List ℕ)) (v : A) (total : Option (List A)) → left ≡ f ∷ more → of f ≡ Some v
    → with_values front (each of left) ≡ total → with_values (front ++ v ∷ []) (each of more) ≡ total
each_next {A} of front f left more v total at read so_far =
    let next : with_values front (each of left) ≡ with_values front (each of more >>= λ xs. Some (v ∷ xs)) = rw (at, read) refl in
    regroup (each of more) ∙ (sym next ∙ so_far)
  where
    regroup : (o : Option (List A)) → with_values (front ++ v ∷ []) o ≡ with_values front (o >>= λ xs. Some (v ∷ xs))
    regroup None = refl
    regroup (Some xs) = ap Some (append_assoc front (v ∷ []) xs)

pub fields-preserved : goal.fields-preserved
fields-preserved g c =
    rw c.in_ok-push.ensures.items (each_next (g.R.FieldReader.of c.args.reader.now) c.fields.values.items c.in-Some.field.now c.fields.left _ c.in-Some-read.value _
    c.in-Some.ensures c.in-Some-read.ensures c.fields.invariant)
