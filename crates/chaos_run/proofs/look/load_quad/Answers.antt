use Rattle.std.proofs.Common.{◌≡◌, ℤ, rules, w64, ap, sym, subst, ◌∙◌, arith}
use Rattle.std.proofs.lemmas.Int.{to_z-of_z}
use mir.Val.{SFits, of_z, to_z}
use Rattle.xt_model.specs.Quads.{IsBound}
use Rattle.window_words.specs.declared.view.View.{View}
use Rattle.window_words.specs.Boards.{IsAlone}
use Rattle.chaos_core.specs.Boards.{nets_of}
use Rattle.chaos_run.proofs.Looked.{quad_found}
use Rattle.chaos_run.proofs.look.load_quad.Goals as goal

-- a bound written in 64 bits and read back
abbrev back : ℤ → ℤ
back z = to_z w64 (of_z w64 z)

same_back : (z : ℤ) → IsBound z → back z ≡ z
same_back z bound = let fits : SFits w64 z = search rules in to_z-of_z w64 z fits

pub load_bound-requires-clause-own : goal.load_bound-requires-clause-own
load_bound-requires-clause-own c = c.requires.own

pub load_bound-requires-clause-alone : goal.load_bound-requires-clause-alone
load_bound-requires-clause-alone c = c.requires.alone

pub load_bound-requires-clause-word : goal.load_bound-requires-clause-word
load_bound-requires-clause-word c = let words = c.requires.words in omega (arith, words)

pub load_bound-requires-2-clause-own : goal.load_bound-requires-2-clause-own
load_bound-requires-2-clause-own c = c.load_bound.ensures.own

pub load_bound-requires-2-clause-alone : goal.load_bound-requires-2-clause-alone
load_bound-requires-2-clause-alone c = subst IsAlone (sym c.load_bound.ensures.view) c.requires.alone

pub load_bound-requires-2-clause-word : goal.load_bound-requires-2-clause-word
load_bound-requires-2-clause-word c = let same = ap (λ (x : View). nets_of x.setting) c.load_bound.ensures.view in let words = c.requires.words in omega (arith, same, words)

pub load_bound-requires-3-clause-own : goal.load_bound-requires-3-clause-own
load_bound-requires-3-clause-own c = c.load_bound-2.ensures.own

pub load_bound-requires-3-clause-alone : goal.load_bound-requires-3-clause-alone
load_bound-requires-3-clause-alone c = subst IsAlone (sym (c.load_bound-2.ensures.view ∙ c.load_bound.ensures.view)) c.requires.alone

pub load_bound-requires-3-clause-word : goal.load_bound-requires-3-clause-word
load_bound-requires-3-clause-word c = let same = ap (λ (x : View). nets_of x.setting) (c.load_bound-2.ensures.view ∙ c.load_bound.ensures.view) in let words = c.requires.words in omega (arith, same, words)

pub load_bound-requires-4-clause-own : goal.load_bound-requires-4-clause-own
load_bound-requires-4-clause-own c = c.load_bound-3.ensures.own

pub load_bound-requires-4-clause-alone : goal.load_bound-requires-4-clause-alone
load_bound-requires-4-clause-alone c = subst IsAlone (sym (c.load_bound-3.ensures.view ∙ (c.load_bound-2.ensures.view ∙ c.load_bound.ensures.view))) c.requires.alone

pub load_bound-requires-4-clause-word : goal.load_bound-requires-4-clause-word
load_bound-requires-4-clause-word c = let same = ap (λ (x : View). nets_of x.setting) (c.load_bound-3.ensures.view ∙ (c.load_bound-2.ensures.view ∙ c.load_bound.ensures.view)) in let words = c.requires.words in omega (arith, same, words)

pub returns-clause-own : goal.returns-clause-own
returns-clause-own c = c.load_bound-4.ensures.own

pub returns-clause-view : goal.returns-clause-view
returns-clause-view c = c.load_bound-4.ensures.view ∙ (c.load_bound-3.ensures.view ∙ (c.load_bound-2.ensures.view ∙ c.load_bound.ensures.view))

pub returns-clause-quad : goal.returns-clause-quad
returns-clause-quad c =
    let v : View = c.args.first.now.view in
    quad_found v c.load_bound.new.first.view c.load_bound-2.new.first.view c.load_bound-3.new.first.view c.args.from
    (record { tlo = back c.load_bound.result; thi = back c.load_bound-2.result; slo = back c.load_bound-3.result; shi = back c.load_bound-4.result }) c.load_bound.ensures.view c.load_bound-2.ensures.view c.load_bound-3.ensures.view
    (same_back c.load_bound.result c.load_bound.ensures.range ∙ c.load_bound.ensures.bound)
    (same_back c.load_bound-2.result c.load_bound-2.ensures.range ∙ c.load_bound-2.ensures.bound)
    (same_back c.load_bound-3.result c.load_bound-3.ensures.range ∙ c.load_bound-3.ensures.bound)
    (same_back c.load_bound-4.result c.load_bound-4.ensures.range ∙ c.load_bound-4.ensures.bound)

pub returns-clause-range : goal.returns-clause-range
returns-clause-range c = record {
  tlo = subst IsBound (sym (same_back c.load_bound.result c.load_bound.ensures.range)) c.load_bound.ensures.range;
  thi = subst IsBound (sym (same_back c.load_bound-2.result c.load_bound-2.ensures.range)) c.load_bound-2.ensures.range;
  slo = subst IsBound (sym (same_back c.load_bound-3.result c.load_bound-3.ensures.range)) c.load_bound-3.ensures.range;
  shi = subst IsBound (sym (same_back c.load_bound-4.result c.load_bound-4.ensures.range)) c.load_bound-4.ensures.range;
}

pub returns-clause-rested : goal.returns-clause-rested
returns-clause-rested c = c.load_bound.ensures.rested
