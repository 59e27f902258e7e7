-- What a round leaves, once the first pass has loaded a word: the words are at or past what the operator makes of those
-- before, and eight words are published for each net.
use Rattle.std.proofs.Common.{◌≡◌, ℕ, ◌+◌, ◌*◌, ◌<◌, ap, subst, ◌∙◌, List, arith}
use Rattle.xt_model.specs.Levels.{IsOrder}
use Rattle.xt_meaning.proofs.Passes.{all_turned}
use Rattle.chaos_core.specs.declared.setting.Setting.{Setting}
use Rattle.chaos_core.specs.Boards.{nets_of}
use Rattle.chaos_core.specs.Runs.{count_below, HasPassed, Ran}
use Rattle.chaos_core.specs.Memories.{AreKept}
use Rattle.chaos_core.specs.Rounds.{HasCarried}
use Rattle.chaos_core.proofs.Carrying.{all_words}
use Rattle.window_words.specs.Boards.{Holding, knowledge_of}
use Rattle.window_words.specs.Steps.{IsRested}
use Rattle.window_words.proofs.Drawn.{all_drawn, all_below}

module _ (order : List ℕ) (h g : Holding) (o : IsOrder h.view.setting.design.nets order) (ran : Ran order (knowledge_of h) (knowledge_of g)) (rest : IsRested g.view) where
  net_passed : (net : ℕ) → net < nets_of h.view.setting → HasPassed (knowledge_of h) (knowledge_of g) net 8
  net_passed net inside =
      let t = all_turned h.view.setting.design.nets o.0 order o.2 net inside in
      let c = o.2.count in
      let b = t.before in
      let below : t.place < nets_of h.view.setting = omega (arith, c, b) in
      let has = all_drawn g.view.drawn rest.next (nets_of h.view.setting) ran.last.0 t.place rest.drawn ran.last.1 ran.last.2 below in
      subst (λ n. HasPassed (knowledge_of h) (knowledge_of g) n 8) t.there (ran.passed t.place has below)

  pub carried : HasCarried h.view.setting h.view.seen g.view.seen
  carried = record {
    kept = subst (λ (a : Setting). AreKept a g.view.seen) ran.setting rest.kept;
    past = all_words (knowledge_of h) (knowledge_of g) (rest.kept.seen.count ∙ ap (λ (a : Setting). 8 * nets_of a) ran.setting) net_passed;
    onward = ran.onward;
  }

  pub made_each : g.view.made ≡ h.view.made + 8 * nets_of h.view.setting
  made_each =
      let each = all_below g.view.drawn rest.next (nets_of h.view.setting) ran.last.0 rest.drawn ran.last.1 ran.last.2 in
      let made : g.view.made ≡ h.view.made + 8 * count_below (nets_of h.view.setting) g.view.drawn = ran.made in
      omega (arith, each, made)
