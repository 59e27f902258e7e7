use Rattle.std.proofs.Common.{◌≡◌, ℕ, ◌+◌, ◌<◌, List, [], ◌∷◌, ◌++◌, length, map, take, get_or, ap, sym, ◌∙◌}
use Rattle.std.proofs.lemmas.List.{take_all, map_more}
use Rattle.linked_text.specs.declared.head.NetHead.{NetHead}
use Rattle.linked_text.proofs.heads.sink_counts.Goals as goal

abbrev counts : List NetHead → List ℕ
counts hs = map (λ (h : NetHead). h.sinks) hs

-- one more count was appended
one_more : (hs : List NetHead) (i : ℕ) (h : NetHead) (p q : List ℕ) → i < length hs → h ≡ get_or hs i h → p ≡ counts (take i hs) → q ≡ p ++ h.sinks ∷ []
    → q ≡ counts (take (i + 1) hs)
one_more hs i h p q lt at before now =
    rw (now, before) (ap (λ (x : NetHead). counts (take i hs) ++ x.sinks ∷ []) at ∙ sym (map_more (λ (x : NetHead). x.sinks) hs i h lt))

pub loop-head-preserved : goal.loop-head-preserved
loop-head-preserved c =
    one_more c.args.heads.now c.loop-head.head-index c.head-item.result c.loop-head.counts.items _
    c.loop-head-test.true c.head-item.is c.loop-head.invariant c.in_ok-push.ensures.items

pub returns : goal.returns
returns c = c.loop-head.invariant ∙ ap counts (take_all c.loop-head.head-index c.args.heads.now c.loop-head-test.false)
