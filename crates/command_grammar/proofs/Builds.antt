-- A command of `clap` that is given its arguments one after another.
use Rattle.std.proofs.Common.{◌≡◌, ◌∙◌, ◌<◌, ◌+◌, ℕ, sym, ap, suc, arith, List, [], ◌∷◌, ◌++◌, map, take, length, append_assoc}
use Rattle.std.specs.List.{slice_index_or}
use Rattle.std.proofs.lemmas.List.{map-append}
use Rattle.std.proofs.Math.Seq.{take-suc}
use Rattle.clap.specs.Words.{App, Rule, with_rule}
use Rattle.command_grammar.specs.Reading.{app_with}

-- one more argument
pub one_more : {X Y : Type 0} (h : X → Y) (g : Y → Rule) (before : List Rule) (items : List X) (i : ℕ) (d : X) (old new : App) (r : Rule) → i < length items
    → old ≡ app_with (before ++ map g (map h (take i items))) → new ≡ with_rule old r → r ≡ g (h (slice_index_or items i d))
    → new ≡ app_with (before ++ map g (map h (take (i + 1) items)))
one_more {X} {Y} h g before items i d old new r inside was grows is =
    let x = slice_index_or items i d in
    let step : take (i + 1) items ≡ take i items ++ x ∷ [] = ap (λ n. take n items) (let e : i + 1 ≡ suc i = omega arith in e) ∙ take-suc items i d inside in
    let mapped : map g (map h (take (i + 1) items)) ≡ map g (map h (take i items)) ++ g (h x) ∷ [] =
    ap (λ l. map g (map h l)) step ∙ ap (map g) (map-append h (take i items) (x ∷ [])) ∙ map-append g (map h (take i items)) (h x ∷ []) in
    grows ∙ ap (λ a. with_rule a r) was ∙ ap (λ s. app_with ((before ++ map g (map h (take i items))) ++ s ∷ [])) is
    ∙ ap app_with (append_assoc before (map g (map h (take i items))) (g (h x) ∷ []) ∙ ap (λ l. before ++ l) (sym mapped))
