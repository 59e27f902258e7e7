use Rattle.std.proofs.Common.{◌≡◌, sym, ap, subst, ◌∙◌, [], ◌∷◌, ◌++◌, ℤ, to_z, of_z, w64, arith}
use Rattle.std.specs.Int.{w128}
use Rattle.std.specs.List.{All}
use Rattle.std.proofs.lemmas.Int.{ints}
use Rattle.xt_model.specs.Sound.{IsProduct}
use Rattle.eco_warm.specs.Edits.{coef_left, coefs_left}
use Rattle.eco_warm.proofs.Pushed.{moved_one, coef_past, pushed, one_more}
use Rattle.eco_warm.proofs.couplings.push_coef.Goals as goal

pub returns-in_default-coef_left : goal.returns-in_default-coef_left
returns-in_default-coef_left c =
    let p : to_z w64 (of_z w64 c.args.coupling.now.cap) ≡ c.args.coupling.now.cap = omega (arith, ints, c.requires.cap.least, c.requires.cap.most) in
    let q : to_z w128 (of_z w128 c.args.coef) ≡ c.args.coef = omega (arith, ints, c.requires.coef.least, c.requires.coef.most) in
    let past : IsProduct (coef_left c.args.moving c.args.coupling.now.cap c.args.coef) → ⊥ = rw (p, q) at c.in_default-coef_left.ensures in
    record {
      ok = tt;
      range = tt;
      impossible = coef_past c.args.moving c.args.other.0 c.args.coupling.now c.args.coef c.if-coupling-other.false c.in_default.not-Whole past;
    }

pub returns-in_ok-push-in_default : goal.returns-in_ok-push-in_default
returns-in_ok-push-in_default c =
    let m = c.args.moving in
    let o = c.args.other.0 in
    let k = c.args.coupling.now in
    let x = c.in-Some.coef in
    let p : to_z w64 (of_z w64 k.cap) ≡ k.cap = omega (arith, ints, c.requires.cap.least, c.requires.cap.most) in
    let q : to_z w128 (of_z w128 c.args.coef) ≡ c.args.coef = omega (arith, ints, c.requires.coef.least, c.requires.coef.most) in
    let product = c.in-Some.ensures.1 in
    let r : to_z w128 (of_z w128 x) ≡ x = omega (arith, ints, product.least, product.most) in
    let is : x ≡ coef_left m k.cap c.args.coef = rw (p, q) at c.in-Some.ensures.0 in
    let made : c.push-in_default.new.self.items ≡ (c.args.left.now.items ++ to_z w128 (of_z w128 x) ∷ []) = c.in_ok-push-in_default.ensures.items in
    let items : c.push-in_default.new.self.items ≡ (c.args.left.now.items ++ x ∷ []) = made ∙ ap (λ (y : ℤ). c.args.left.now.items ++ y ∷ []) r in
    record {
      ok = λ ks cs.
          pushed c.args.left.now.items c.push-in_default.new.self.items x (coefs_left m o ks cs) (coefs_left m o (k ∷ ks) (c.args.coef ∷ cs)) items
          (moved_one m o k c.args.coef x c.if-coupling-other.false c.in_default.not-Whole is ks cs);
      range = λ all. subst (All IsProduct) (sym items) (one_more IsProduct c.args.left.now.items x all product);
      impossible = tt;
    }
