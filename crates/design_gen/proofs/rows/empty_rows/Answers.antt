use Rattle.std.proofs.Common.{◌≡◌, ap, sym, subst, ◌∙◌, [], ◌∷◌, length, arith}
use Rattle.std.specs.List.{All}
use Rattle.std.proofs.lemmas.List.{length-append}
use Rattle.std.proofs.lemmas.List.Elements.{All-nil, All-cons, All-append}
use Rattle.design_gen.proofs.rows.empty_rows.Goals as goal

pub loop-i-preserved : goal.loop-i-preserved
loop-i-preserved g c =
    let l = ap (λ xs. length xs) c.in_ok-push.ensures.items ∙ length-append c.loop-i.rows.items (c.new.result ∷ []) in
    record {
      count = omega (arith, l, c.loop-i.invariant.count);
      empty = subst (All (λ r. r.items ≡ [])) (sym c.in_ok-push.ensures.items)
          (All-append (λ r. r.items ≡ []) c.loop-i.rows.items (c.new.result ∷ []) c.loop-i.invariant.empty
          (All-cons (λ r. r.items ≡ []) c.new.result [] c.new.ensures.items (All-nil (λ r. r.items ≡ []))));
    }
