-- The texts of two small designs, written out by hand.
use Rattle.std.specs.Prelude.{◌≡◌, refl, ℕ, List, [], ◌∷◌, ◌++◌, codes, pos}
use Rattle.std.specs.Fmt.{digits}
use Rattle.std.specs.List.{flat_map}
use Rattle.xt_model.proofs.WorkedDesigns.{cross, load_pair}
use Rattle.text_lines.specs.Lines.{text_of}
use Rattle.linked_text.specs.Linked.{linked}

-- lines of plain text
abbrev lines : List (List ℕ) → List ℕ
lines ls = flat_map (λ l. l ++ 10 ∷ []) ls

cross_text : text_of (linked cross) ≡ lines (
    (codes "xtalk-design 1") ∷
    (codes "counts 2 4 0") ∷
    (codes "period none") ∷
    (codes "table 1 1") ∷
    (codes "slews 0") ∷
    (codes "loads 0") ∷
    (codes "row 500") ∷
    (codes "table 1 1") ∷
    (codes "slews 0") ∷
    (codes "loads 0") ∷
    (codes "row 600") ∷
    (codes "net s i 0 1 1 0") ∷
    (codes "net t i 0 1 1 0") ∷
    (codes "net c w 0 0 0 1") ∷
    (codes "net d w 0 0 0 1") ∷
    (codes "rise 1000 1000 600 600") ∷
    (codes "fall quiet") ∷
    (codes "couple 3 1000") ∷
    (codes "sink c/A 0 200000000") ∷
    (codes "rise 1000 1000 600 600") ∷
    (codes "fall quiet") ∷
    (codes "couple 2 1000") ∷
    (codes "sink d/A 0 200000000") ∷
    (codes "arc 0 0 rise rise 0 1") ∷
    (codes "arc 1 0 rise rise 0 1") ∷
    (codes "end") ∷ [])
unfolding digits
cross_text = refl

pair_text : text_of (linked (load_pair (pos 100))) ≡ lines (
    (codes "xtalk-design 1") ∷
    (codes "counts 2 4 0") ∷
    (codes "period none") ∷
    (codes "table 1 2") ∷
    (codes "slews 0") ∷
    (codes "loads 0 10000") ∷
    (codes "row 800 2800") ∷
    (codes "table 1 1") ∷
    (codes "slews 0") ∷
    (codes "loads 0") ∷
    (codes "row 0") ∷
    (codes "net p i 0 0 1 0") ∷
    (codes "net q i 0 0 1 0") ∷
    (codes "net a w 0 1 0 1") ∷
    (codes "net b w 0 1 0 1") ∷
    (codes "rise 0 0 0 0") ∷
    (codes "fall quiet") ∷
    (codes "sink a/A 0") ∷
    (codes "rise quiet") ∷
    (codes "fall 100 100 0 0") ∷
    (codes "sink b/A 0") ∷
    (codes "couple 3 1000") ∷
    (codes "arc 0 0 rise rise 0 1") ∷
    (codes "couple 2 1000") ∷
    (codes "arc 1 0 fall fall 0 1") ∷
    (codes "end") ∷ [])
unfolding digits
pair_text = refl
