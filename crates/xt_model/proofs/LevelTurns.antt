-- One turn of each loop over levels and arcs.
use Rattle.std.proofs.Common.{◌≡◌, ℕ, ◌+◌, ◌<◌, ◌≤◌, max, List, length, map, take, get_or, set, Some, IfSome, refl, ap, ◌∙◌, arith}
use Rattle.std.specs.List.{slice_get}
use Rattle.std.proofs.lemmas.List.{take_more, map_more, take_all, get_or-set_same}
use Rattle.std.proofs.lemmas.List.Elements.{All-more}
use Rattle.std.proofs.lemmas.Option.{slice_get-get_or}
use Rattle.xt_model.specs.declared.net.TimingArc.{TimingArc}
use Rattle.xt_model.specs.declared.net.Net.{Net}
use Rattle.xt_model.specs.Levels.{greatest_of, level_from}
use Rattle.xt_model.specs.visits.Walk.{AreInputsThere, HaveLevels, IsWaitedFor}
use Rattle.xt_model.proofs.LevelLaws.{greatest_push}

-- the level of an arc's input
abbrev pub input_level : List ℕ → TimingArc → ℕ
input_level levels a = get_or levels a.from.0 0

numbers_more : (ns : List ℕ) (i : ℕ) → i < length ns → greatest_of (take (i + 1) ns) ≡ max (greatest_of (take i ns)) (get_or ns i 0)
numbers_more ns i h = ap greatest_of (take_more ns i 0 h) ∙ greatest_push (take i ns) (get_or ns i 0)

pub greatest_raised : (ns : List ℕ) (i g h : ℕ) → i < length ns → g ≡ greatest_of (take i ns) → h ≡ get_or ns i 0 → g < get_or ns i 0 → h ≡ greatest_of (take (i + 1) ns)
greatest_raised ns i g h lt is new more = omega (arith, numbers_more ns i lt)

pub greatest_stays : (ns : List ℕ) (i g h : ℕ) → i < length ns → g ≡ greatest_of (take i ns) → h ≡ g → get_or ns i 0 ≤ g → h ≡ greatest_of (take (i + 1) ns)
greatest_stays ns i g h lt is same less = omega (arith, numbers_more ns i lt)

inputs_more : (levels : List ℕ) (arcs : List TimingArc) (i : ℕ) (d : TimingArc) → i < length arcs
    → greatest_of (map (input_level levels) (take (i + 1) arcs)) ≡ max (greatest_of (map (input_level levels) (take i arcs))) (input_level levels (get_or arcs i d))
inputs_more levels arcs i d h =
    ap greatest_of (map_more (input_level levels) arcs i d h) ∙ greatest_push (map (input_level levels) (take i arcs)) (input_level levels (get_or arcs i d))

pub input_raises : (levels : List ℕ) (arcs : List TimingArc) (i g h : ℕ) (d : TimingArc) → i < length arcs → g ≡ greatest_of (map (input_level levels) (take i arcs))
    → h ≡ input_level levels (get_or arcs i d) → g < input_level levels (get_or arcs i d) → h ≡ greatest_of (map (input_level levels) (take (i + 1) arcs))
input_raises levels arcs i g h d lt is new more = omega (arith, inputs_more levels arcs i d lt)

pub input_is_less : (levels : List ℕ) (arcs : List TimingArc) (i g h : ℕ) (d : TimingArc) → i < length arcs → g ≡ greatest_of (map (input_level levels) (take i arcs))
    → h ≡ g → input_level levels (get_or arcs i d) ≤ g → h ≡ greatest_of (map (input_level levels) (take (i + 1) arcs))
input_is_less levels arcs i g h d lt is same less = omega (arith, inputs_more levels arcs i d lt)

pub raised_within : (levels : List ℕ) (most : ℕ) → ((i : ℕ) → get_or levels i 0 ≤ most) → (i h : ℕ) → h ≡ get_or levels i 0 → h ≤ most
raised_within levels most all i h e = omega (arith, all i)

pub level_is : (levels : List ℕ) (arcs : List TimingArc) (i g : ℕ) → length arcs ≤ i → g ≡ greatest_of (map (input_level levels) (take i arcs)) → g + 1 ≡ level_from levels arcs
level_is levels arcs i g past is =
    let e : g ≡ greatest_of (map (input_level levels) arcs) = is ∙ ap (λ (xs : List TimingArc). greatest_of (map (input_level levels) xs)) (take_all i arcs past) in
    omega arith

pub known_more : (levels : List ℕ) (arcs : List TimingArc) (i : ℕ) (d : TimingArc) → i < length arcs → HaveLevels levels (take i arcs) → (input_level levels (get_or arcs i d) ≡ 0 → ⊥)
    → HaveLevels levels (take (i + 1) arcs)
known_more levels arcs i d lt known some = All-more (λ a. 0 < input_level levels a) arcs i d lt known (omega arith)

pub known_all : (levels : List ℕ) (arcs : List TimingArc) (i : ℕ) → length arcs ≤ i → HaveLevels levels (take i arcs) → HaveLevels levels (take (length arcs) arcs)
known_all levels arcs i past known = rw (take_all (length arcs) arcs (omega arith)) (rw (take_all i arcs past) at known)

pub waits_at : (levels : List ℕ) (arcs : List TimingArc) (i : ℕ) (d : TimingArc) → i < length arcs → input_level levels (get_or arcs i d) ≡ 0 → IfSome (slice_get arcs i) (λ a. get_or levels a.from.0 0 ≡ 0)
waits_at levels arcs i d lt none = rw (slice_get-get_or arcs i d lt) none

pub known_whole : (levels : List ℕ) (arcs : List TimingArc) (i : ℕ) → length arcs ≤ i → HaveLevels levels (take i arcs) → HaveLevels levels arcs
known_whole levels arcs i past known = rw (take_all i arcs past) at known

-- the first arc of a net whose input has no level, once its cursor stands there, shows what the net waits for
pub waits_for : (nets : List Net) (levels cursors : List ℕ) (net last : ℕ) (n : Net) (next : ℕ) (d : TimingArc) → AreInputsThere nets → slice_get nets net ≡ Some n → net ≡ last → net < length cursors
    → next < length n.arcs → IfSome (slice_get n.arcs next) (λ a. get_or levels a.from.0 0 ≡ 0) → IsWaitedFor nets levels (set cursors net next) last (get_or n.arcs next d).from.0
waits_for nets levels cursors net last n next d inputs at is within lt none =
    let arc : slice_get n.arcs next ≡ Some (get_or n.arcs next d) = slice_get-get_or n.arcs next d lt in
    let stands : get_or (set cursors net next) net 0 ≡ next = get_or-set_same cursors net next 0 within in
    rw (← is) (record {
      there = inputs net n at next d lt;
      input = rw stands (n, get_or n.arcs next d, at, arc, refl);
      waits = rw arc at none;
    })
