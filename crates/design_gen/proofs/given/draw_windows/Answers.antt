use Rattle.std.proofs.Common.{◌≡◌, ℕ, ◌+◌, ◌++◌, [], ◌∷◌, List, refl, ap, ◌∙◌, add-one, arith}
use Rattle.xt_model.specs.declared.quad.Quad.{Quad}
use Rattle.drawn_numbers.specs.Draws.{after, answer, drawn, next}
use Rattle.design_gen.specs.Generated.{window_by}
use Rattle.design_gen.specs.Lists.{each_below}
use Rattle.design_gen.proofs.given.draw_windows.Goals as goal

-- the windows by the numbers that are drawn from a state on
abbrev windows_from : ℕ → ℕ → List Quad
windows_from start n = each_below (λ k. window_by (drawn start k 2000)) n

-- one window more
windows_turn : (start i now later x : ℕ) (ws all : List Quad) (w : Quad) → ws ≡ windows_from start i → now ≡ after start i → later ≡ next now → x ≡ answer (next now) 2000 → w ≡ window_by x
    → all ≡ ws ++ w ∷ [] → (all ≡ windows_from start (i + 1)) × (later ≡ after start (i + 1))
windows_turn start i now later x ws all w are at step drew made pushed =
    let value : x ≡ drawn start i 2000 = drew ∙ ap (λ s. answer (next s) 2000) at in
    let one = ap (λ q. windows_from start i ++ q ∷ []) (made ∙ ap window_by value) in
    rw (add-one i) (pushed ∙ (ap (λ qs. qs ++ w ∷ []) are ∙ one), step ∙ ap next at)

pub loop-i-init : goal.loop-i-init
loop-i-init c = record { windows = c.new-windows.ensures.items; state = refl }

pub loop-i-preserved : goal.loop-i-preserved
loop-i-preserved c =
    let inv = c.loop-i.invariant in
    let t = windows_turn c.args.source.now.state c.loop-i.i c.loop-i.source.state c.draw.new.self.state c.draw.result c.loop-i.windows.items c.push.new.self.items c.window_by.result inv.windows inv.state
    c.draw.ensures.state c.draw.ensures.value c.window_by.ensures c.in_ok-push.ensures.items in
    record { windows = t.0; state = t.1 }

pub window_by-requires : goal.window_by-requires
window_by-requires c = c.draw.ensures.below

pub returns-clause-windows : goal.returns-clause-windows
returns-clause-windows c =
    let end : c.loop-i.i ≡ c.args.sources = omega (arith, c.loop-i-test.false, c.loop-i.auto.i-end) in
    c.loop-i.invariant.windows ∙ ap (windows_from c.args.source.now.state) end

pub returns-clause-state : goal.returns-clause-state
returns-clause-state c =
    let end : c.loop-i.i ≡ c.args.sources = omega (arith, c.loop-i-test.false, c.loop-i.auto.i-end) in
    c.loop-i.invariant.state ∙ ap (after c.args.source.now.state) end
