use Rattle.std.proofs.Common.{◌≡◌, refl, sym, ◌∙◌, ℕ, ◌+◌, ◌≤◌, Bool, false, List, [], ◌∷◌, length, take, drop, get_or, arith}
use Rattle.std.proofs.Math.Seq.{take-add}
use Rattle.std.proofs.lemmas.List.{take_rest, length-drop, drop-drop}
use Rattle.liberty_tables.specs.Contents.{separates, items_from}
use Rattle.liberty_tables.proofs.items.first_item.Goals as goal

one_less : (bs : List ℕ) → 1 ≤ length bs → 1 + length (drop 1 bs) ≡ length bs
one_less [] h = absurd (omega (arith, h))
one_less (b ∷ bs) h = omega arith

-- one byte more of an item
item_goes_on : (commas : Bool) (start : List ℕ) (size : ℕ) (bs : List ℕ) → drop size start ≡ bs → 1 ≤ length bs → separates commas (get_or bs 0 0) ≡ false
    → items_from commas (take (size + 1) start) (drop 1 bs) ≡ items_from commas (take size start) bs
item_goes_on commas start size [] cut h e = absurd (omega (arith, h))
item_goes_on commas start size (b ∷ bs) cut h e = rw (take-add size 1 start, cut, e) refl

within_start : (start : List ℕ) (size : ℕ) (bs : List ℕ) → drop size start ≡ bs → 1 ≤ length bs → size + 1 ≤ length start
within_start start size bs cut h =
    let some : 1 ≤ length (drop size start) = rw cut h in
    omega (arith, length-drop size start, some)

cut_after : (start : List ℕ) (size : ℕ) (bs : List ℕ) → drop size start ≡ bs → drop (size + 1) start ≡ drop 1 bs
cut_after start size bs cut = rw (← cut) (sym (drop-drop 1 size start))

pub bytes-preserved-then-not-separates : goal.bytes-preserved-then-not-separates
bytes-preserved-then-not-separates c =
    let rest : List ℕ = c.bytes.rest.now in
    let at = c.bytes.invariant in
    let some = c.in-len1-up.len_at_least in
    let less = one_less rest some in
    let kept : separates c.args.commas (get_or rest 0 0) ≡ false = sym c.separates.ensures ∙ c.if-not-separates.true in
    record {
      room = rw (take_rest rest 1) (omega (arith, less, at.room));
      within = within_start c.bytes.start.now c.bytes.size rest at.cut some;
      cut = rw (take_rest rest 1) (cut_after c.bytes.start.now c.bytes.size rest at.cut);
      items = rw (take_rest rest 1) (item_goes_on c.args.commas c.bytes.start.now c.bytes.size rest at.cut some kept ∙ at.items);
    }
