use Rattle.std.proofs.Common.{ℤ, sym, ap, subst, ◌∙◌, rules, w64}
use Rattle.std.proofs.lemmas.Int.{to_z-of_z}
use mir.Val.{SFits, of_z, to_z}
use Rattle.xt_model.specs.Quads.{IsBound}
use Rattle.xt_meaning.specs.Words.{number_for}
use Rattle.chaos_core.proofs.Numbered.{quad_of_four}
use Rattle.chaos_core.proofs.words.quad_at.Goals as goal

-- a bound written in 64 bits and read back
abbrev back : ℤ → ℤ
back z = to_z w64 (of_z w64 z)

pub returns-clause-numbers : goal.returns-clause-numbers
returns-clause-numbers c =
    let tlo : SFits w64 c.bound_in_word.result = search rules in
    let thi : SFits w64 c.bound_in_word-2.result = search rules in
    let slo : SFits w64 c.bound_in_word-3.result = search rules in
    let shi : SFits w64 c.bound_in_word-4.result = search rules in
    quad_of_four c.args.words.now c.args.from
    (record { tlo = back c.bound_in_word.result; thi = back c.bound_in_word-2.result; slo = back c.bound_in_word-3.result; shi = back c.bound_in_word-4.result }) c.requires.words
    (ap number_for (to_z-of_z w64 c.bound_in_word.result tlo) ∙ c.bound_in_word.ensures.number)
    (ap number_for (to_z-of_z w64 c.bound_in_word-2.result thi) ∙ c.bound_in_word-2.ensures.number)
    (ap number_for (to_z-of_z w64 c.bound_in_word-3.result slo) ∙ c.bound_in_word-3.ensures.number)
    (ap number_for (to_z-of_z w64 c.bound_in_word-4.result shi) ∙ c.bound_in_word-4.ensures.number)

pub returns-clause-range : goal.returns-clause-range
returns-clause-range c =
    let tlo : SFits w64 c.bound_in_word.result = search rules in
    let thi : SFits w64 c.bound_in_word-2.result = search rules in
    let slo : SFits w64 c.bound_in_word-3.result = search rules in
    let shi : SFits w64 c.bound_in_word-4.result = search rules in
    record {
      tlo = subst IsBound (sym (to_z-of_z w64 c.bound_in_word.result tlo)) c.bound_in_word.ensures.range;
      thi = subst IsBound (sym (to_z-of_z w64 c.bound_in_word-2.result thi)) c.bound_in_word-2.ensures.range;
      slo = subst IsBound (sym (to_z-of_z w64 c.bound_in_word-3.result slo)) c.bound_in_word-3.ensures.range;
      shi = subst IsBound (sym (to_z-of_z w64 c.bound_in_word-4.result shi)) c.bound_in_word-4.ensures.range;
    }
