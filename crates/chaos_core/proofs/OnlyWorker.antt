-- The picks of a worker that is alone.
use Rattle.std.proofs.Common.{◌≡◌, ℕ, zero, suc, ◌+◌, ◌*◌, ◌/◌, ◌%◌, ◌<◌, ◌≤◌, nat_lt, inl, inr, refl, sym, ap, subst, ◌∙◌, List, [], ◌∷◌, ◌++◌, length, set, get_or, if◌then◌else◌, pos, ◌-ℤ◌, arith}
use Rattle.std.specs.Prelude.{slice_index}
use Rattle.std.specs.List.{All, Contains, slice_get}
use Rattle.std.proofs.lemmas.Bool.{cases_lt}
use Rattle.std.proofs.lemmas.List.{get_or_append_left, length-append}
use Rattle.xt_model.specs.declared.direction.Direction.{Direction}
use Rattle.xt_model.specs.declared.direction.Direction.TheVariants.{Widen}
use Rattle.xt_model.specs.declared.edge.Edge.{Edge}
use Rattle.xt_model.specs.declared.edge.Edge.TheVariants.{Rise, Fall}
use Rattle.xt_model.specs.declared.net.NetId.{NetId}
use Rattle.xt_model.specs.declared.quad.Pair.{Pair}
use Rattle.xt_model.specs.Quads.{IsWithin, IsPairInRange}
use Rattle.xt_model.specs.Parts.{Parts}
use Rattle.xt_model.specs.Sound.{IsSound}
use Rattle.xt_model.specs.Assign.{assigned, words_of, word_number, quads_of}
use Rattle.xt_meaning.specs.Operator.{operator}
use Rattle.xt_meaning.specs.Reads.{HoldsOfReads, IsReadList}
use Rattle.xt_meaning.specs.Barrier.{IsBoundNoFurther}
use Rattle.xt_meaning.specs.Words.{number_for, number_at, bounds_in, onward, further}
use Rattle.xt_meaning.proofs.Growth.{wired}
use Rattle.xt_meaning.proofs.Words.{quad_from_words, word_net}
use Rattle.xt_meaning.proofs.Order.{same_quad}
use Rattle.xt_meaning.proofs.Extremes.{same_pair}
use Rattle.xt_meaning.proofs.Steps.{bound_refl}
use Rattle.xt_meaning.proofs.Monotone.{operator_same_at, contained_from_same}
use Rattle.xt_meaning.proofs.Widest.{IfSome_there}
use Rattle.xt_meaning.proofs.ReadLists.{holds_from_looked_at}
use Rattle.miller_bits.specs.Views.{HasNet}
use Rattle.net_eval.specs.ReadLists.{AreReadLists}
use Rattle.net_eval.specs.Room.{ReadsWithinEnvelope}
use Rattle.drawn_numbers.specs.Draws.{next, answer, after}
use Rattle.chaos_core.specs.declared.setting.Setting.{Setting}
use Rattle.chaos_core.specs.Boards.{nets_of, Knowledge, HasPublished}
use Rattle.chaos_core.specs.Tasks.{Task, idle, loading, publishing, done, list_of, place_of, word_to_load, loaded_bounds, evaluated, bound_at, with_loaded, with_drawn}
use Rattle.chaos_core.specs.Steps.{FitsPublishing}
use Rattle.chaos_core.specs.Runs.{IsDone}
use Rattle.chaos_core.specs.Memories.{Memory, knowledge_of, AreKept}
use Rattle.chaos_core.specs.Machine.{State, act}
use Rattle.chaos_core.specs.Rounds.{Play, IsPick, ArePicks, Pause, IsRound}
use Rattle.chaos_core.specs.OnlyWorker.{made_of, with_published, published, only_at, IsTurn}
use Rattle.chaos_core.proofs.Places.{placed, word_placed, nets_read, looked_there}
use Rattle.chaos_core.proofs.Sight.{within_top}
use Rattle.chaos_core.proofs.Loads.{last_at, bound_onward}
use Rattle.chaos_core.proofs.Moves.{below, not_below}

-- ---- what the operator makes of words that fit
module _ (a : Setting) (words : List ℕ) (net : ℕ) (kept : AreKept a words) (there : net < nets_of a) where
  words_within : (word : ℕ) → IsBoundNoFurther Widen (word % 2) (bounds_in words word) (words_of (assigned kept.seen.start.within.top) word)
  words_within word =
      let w = kept.seen.start.within in
      within_top a.way a.design a.start w.top word (bounds_in words word) kept.seen.sound w.envelope w.contained (kept.seen.respects word) (kept.seen.started word)

  pub words_room : ReadsWithinEnvelope a.design (quads_of (bounds_in words)) net
  words_room =
      let w = kept.seen.start.within in
      record {
        top = w.top;
        envelope = w.envelope;
        accepted = w.accepted;
        inputs = IfSome_there (λ n. All (λ x. IsWithin (quads_of (bounds_in words) x.from.0 x.input) (assigned w.top x.from.0 x.input)) n.arcs) (slice_get a.design.nets net)
            (λ n at. λ i x h.
            let arc = get_or n.arcs i x in
            quad_from_words Widen (bounds_in words) (assigned w.top) arc.from.0 arc.input (λ word is. words_within word));
      }

  pub made_fits : (next : ℕ) → IsPairInRange (made_of a.design words net) → FitsPublishing (knowledge_of (record { setting = a; words = words; next = next })) net (made_of a.design words net) 0
  made_fits next range = record {
    seen = kept.seen;
    there = there;
    more = omega arith;
    range = range;
    fits = λ i h.
        let same = bound_onward a.design (bounds_in words) net i h in
        subst (λ b. IsBoundNoFurther a.way (i % 2) b (onward a.design (bounds_in words) (8 * net + i))) (sym same) (bound_refl a.way (i % 2) (onward a.design (bounds_in words) (8 * net + i)));
  }

  pub words_there : HoldsOfReads (HasNet (λ word. word < length words)) a.design net
  words_there = holds_from_looked_at (HasNet (λ word. word < length words)) a.design net
      (λ m l e side h.
      let lt = looked_there a.design net m kept.seen.sound l in
      let n = word_net m e side h in
      let c = kept.seen.count in
      omega (arith, lt, n, c))

-- ---- a view of the words, in the words of the code
module _ (b : Memory) (d : Parts) (net : ℕ) (numbers : List ℕ) (is : numbers ≡ b.words) (own : b.setting.design ≡ d) (kept : AreKept b.setting b.words) (there : net < length d.nets) where
  there_now : net < nets_of b.setting
  there_now = rw own there

  pub view_words : HoldsOfReads (HasNet (λ word. word < length numbers)) d net
  view_words = rw (is, ← own) (words_there b.setting b.words net kept there_now)

  pub view_room : ReadsWithinEnvelope d (quads_of (bounds_in numbers)) net
  view_room = rw (is, ← own) (words_room b.setting b.words net kept there_now)

  pub view_made : (pair : Pair) → pair.rise ≡ operator d (quads_of (bounds_in numbers)) net Rise → pair.fall ≡ operator d (quads_of (bounds_in numbers)) net Fall → pair ≡ made_of d b.words net
  view_made pair rise fall = rw (← is) (same_pair pair (made_of d numbers net) rise fall)

  pub view_fits : (pair : Pair) → pair ≡ made_of d b.words net → IsPairInRange pair → FitsPublishing (knowledge_of b) net pair 0
  view_fits pair same range =
      let e : made_of b.setting.design b.words net ≡ pair = rw own (sym same) in
      subst (λ (x : Pair). FitsPublishing (knowledge_of b) net x 0) e (made_fits b.setting b.words net kept there_now b.next (subst IsPairInRange (sym e) range))

-- ---- words loaded one after another, while nobody moves them
abbrev pub first_loaded : List ℕ → List ℕ → ℕ → List ℕ
first_loaded words reads zero = []
first_loaded words reads (suc n) = first_loaded words reads n ++ number_at words (word_to_load reads n) ∷ []

first_count : (words reads : List ℕ) (n : ℕ) → length (first_loaded words reads n) ≡ n
first_count words reads zero = refl
first_count words reads (suc n) =
    let more = length-append (first_loaded words reads n) (number_at words (word_to_load reads n) ∷ []) in
    let k = first_count words reads n in
    omega (arith, more, k)

first_each : (words reads : List ℕ) (n i : ℕ) → i < n → slice_index (first_loaded words reads n) i ≡ number_at words (word_to_load reads i)
first_each words reads zero i h = absurd (omega arith)
first_each words reads (suc n) i h =
    let c = first_count words reads n in
    elim (cases_lt i n) [
      | inl p ↦ get_or_append_left (first_loaded words reads n) (number_at words (word_to_load reads n) ∷ []) 0 i (omega (arith, c, p)) ∙ first_each words reads n i p
      | inr p ↦
          let e : n ≡ i = omega (arith, p, h) in
          last_at (first_loaded words reads n) (number_at words (word_to_load reads n)) i (c ∙ e) ∙ ap (λ j. number_at words (word_to_load reads j)) e
    ]

-- what the operator makes of them is what it makes of the words
module _ (d : Parts) (words reads : List ℕ) (net : ℕ) (list : IsReadList d net reads) where
  same_bound : (word : ℕ) → Contains reads (word / 8) → loaded_bounds reads (first_loaded words reads (8 * length reads)) word ≡ bounds_in words word
  same_bound word h =
      let p = place_of reads (word / 8) in
      let k = (placed reads (word / 8) h).inside in
      let i = 8 * p + word % 8 in
      let e = first_each words reads (8 * length reads) i (omega (arith, k)) in
      let f : number_at words (word_to_load reads i) ≡ number_at words word = ap (number_at words) (word_placed reads word h) in
      ap (λ n. pos n -ℤ pos 4611686018427387904) (e ∙ f)

  same_window : (m : ℕ) (f : Edge) → Contains reads m → quads_of (loaded_bounds reads (first_loaded words reads (8 * length reads))) m f ≡ quads_of (bounds_in words) m f
  same_window m f h =
      let at : (side : ℕ) → side < 4 → loaded_bounds reads (first_loaded words reads (8 * length reads)) (word_number m f side) ≡ bounds_in words (word_number m f side) =
      λ side lt. same_bound (word_number m f side) (subst (Contains reads) (sym (word_net m f side lt)) h) in
      same_quad _ _ (at 0 (omega arith)) (at 1 (omega arith)) (at 2 (omega arith)) (at 3 (omega arith))

  pub same_made : IsSound d → evaluated d reads (first_loaded words reads (8 * length reads)) net ≡ made_of d words net
  same_made sound =
      let R = Contains reads in
      let W = quads_of (loaded_bounds reads (first_loaded words reads (8 * length reads))) in
      let V = quads_of (bounds_in words) in
      let at : (e : Edge) → operator d W net e ≡ operator d V net e = λ e. operator_same_at R d W V net e (wired d sound) (nets_read d net reads list)
      (contained_from_same R W V same_window) (contained_from_same R V W (λ m f h. sym (same_window m f h))) in
      same_pair _ _ (at Rise) (at Fall)

-- ---- one pick
pub after_more : (s n x y : ℕ) → x ≡ after s n → y ≡ next x → y ≡ after s (n + 1)
after_more s n x y e f = let g : suc n ≡ n + 1 = omega arith in subst (λ k. y ≡ after s k) g (f ∙ ap next e)

only_answer : (state : ℕ) → (answer state 1 + 0) % 1 ≡ 0
unfolding answer
only_answer state = omega arith

-- picks after picks
picks_join : (a : Setting) (lists : List (List NetId)) (order : List ℕ) (m n : ℕ) (p q r : Play) → ArePicks a lists order m p q → ArePicks a lists order n q r → ArePicks a lists order (m + n) p r
picks_join a lists order m zero p q r x y =
    let e : m ≡ m + 0 = omega arith in
    let P : ℕ → Type 0 = λ k. ArePicks a lists order k p r in
    subst P e (subst (λ (v : Play). ArePicks a lists order m p v) (sym y) x)
picks_join a lists order m (suc n) p q r x y =
    let e : suc (m + n) ≡ m + suc n = omega arith in
    let P : ℕ → Type 0 = λ k. ArePicks a lists order k p r in
    subst P e (y.0, picks_join a lists order m n p q y.0 x y.1, y.2)

abbrev pub only_play : ℕ → ℕ → List ℕ → Task → Play
only_play source next words t = record { source = source; state = only_at next words t }

module _ (a : Setting) (lists : List (List NetId)) (order : List ℕ) where
  only_pick : (source number : ℕ) (words : List ℕ) (t : Task) (later : State) → (IsDone t → ⊥) → later ≡ act a lists order (only_at number words t) 0 t
      → IsPick a lists order (only_play source number words t) (record { source = next source; state = later })
  only_pick source number words t later more is = record {
    pick = 0;
    picked = record { ahead = 0; place = sym (only_answer (next source)); inside = omega arith; open_there = more; passed = λ i h. absurd (omega arith) };
    source = refl;
    state = is;
  }

  -- ---- the draw of a place
  drawn_picks : (source place net : ℕ) (words : List ℕ) → place < length a.design.nets → slice_index order place ≡ net
      → ArePicks a lists order 1 (only_play source place words idle) (only_play (after source 1) (place + 1) words (with_loaded a.design (list_of lists net) net []))
  drawn_picks source place net words h at =
      let t : with_loaded a.design (list_of lists net) net [] ≡ with_drawn a.design lists order place = rw (below place (length a.design.nets) h, at) refl in
      let p = only_play source place words idle in
      (p, refl, only_pick source place words idle (only_at (place + 1) words (with_loaded a.design (list_of lists net) net [])) (λ h. h) (ap (λ u. only_at (place + 1) words u) t))

  -- ---- the loads
  loaded_picks : (source place net : ℕ) (words : List ℕ) (n : ℕ) → n ≤ 8 * length (list_of lists net)
      → ArePicks a lists order n (only_play source place words (with_loaded a.design (list_of lists net) net []))
      (only_play (after source n) place words (with_loaded a.design (list_of lists net) net (first_loaded words (list_of lists net) n)))
  loaded_picks source place net words zero h = refl
  loaded_picks source place net words (suc n) h =
      let d = a.design in
      let reads = list_of lists net in
      let numbers = first_loaded words reads n in
      let c = first_count words reads n in
      let t : with_loaded d reads net numbers ≡ loading net numbers = rw (below (length numbers) (8 * length reads) (omega (arith, c, h))) refl in
      let later = only_at place words (with_loaded d reads net (first_loaded words reads (suc n))) in
      let is : later ≡ act a lists order (only_at place words (loading net numbers)) 0 (loading net numbers) =
      ap (λ i. only_at place words (with_loaded d reads net (numbers ++ number_at words (word_to_load reads i) ∷ []))) (sym c) in
      let one = only_pick (after source n) place words (loading net numbers) later (λ h. h) is in
      let q : Play = record { source = after source (suc n); state = later } in (
        only_play (after source n) place words (with_loaded d reads net numbers),
        loaded_picks source place net words n (omega arith),
        subst (λ u. IsPick a lists order (only_play (after source n) place words u) q) (sym t) one,
      )

  -- ---- the publications
  abbrev pub publishing_on : ℕ → Pair → ℕ → Task
  publishing_on net pair n = if nat_lt n 8 then publishing net pair n else idle

  published_picks : (source place net : ℕ) (pair : Pair) (words : List ℕ) (n : ℕ) → n ≤ 8
      → ArePicks a lists order n (only_play source place words (publishing net pair 0)) (only_play (after source n) place (published a.way net pair words n) (publishing_on net pair n))
  published_picks source place net pair words zero h = refl
  published_picks source place net pair words (suc n) h =
      let before = published a.way net pair words n in
      let t : publishing_on net pair n ≡ publishing net pair n = rw (below n 8 (omega arith)) refl in
      let later = only_at place (published a.way net pair words (suc n)) (publishing_on net pair (suc n)) in
      let e : suc n ≡ n + 1 = omega arith in
      let is : later ≡ act a lists order (only_at place before (publishing net pair n)) 0 (publishing net pair n) =
      ap (λ i. only_at place (with_published a.way net pair before n) (publishing_on net pair i)) e in
      let one = only_pick (after source n) place before (publishing net pair n) later (λ h. h) is in
      let q : Play = record { source = after source (suc n); state = later } in (
        only_play (after source n) place before (publishing_on net pair n),
        published_picks source place net pair words n (omega arith),
        subst (λ u. IsPick a lists order (only_play (after source n) place before u) q) (sym t) one,
      )

  -- ---- a turn
  pub turn_picks : (source place net : ℕ) (words : List ℕ) → AreReadLists a.design lists → IsSound a.design → place < length a.design.nets → net < length a.design.nets → slice_index order place ≡ net
      → IsTurn a lists order place (record { source = source; words = words })
      (record { source = after (after (after source 1) (8 * length (list_of lists net))) 8; words = published a.way net (made_of a.design words net) words 8 })
  turn_picks source place net words are sound h there at =
      let d = a.design in
      let reads = list_of lists net in
      let pair = made_of d words net in
      let len = 8 * length reads in
      let numbers = first_loaded words reads len in
      let c = first_count words reads len in
      let t : with_loaded d reads net numbers ≡ publishing net pair 0 =
      rw (not_below (length numbers) len (omega (arith, c))) (ap (λ p. publishing net p 0) (same_made d words reads net (are.each net there) sound)) in
      let one = drawn_picks source place net words h at in
      let two = subst (λ u. ArePicks a lists order len (only_play (after source 1) (place + 1) words (with_loaded d reads net [])) (only_play (after (after source 1) len) (place + 1) words u)) t
      (loaded_picks (after source 1) (place + 1) net words len (omega arith)) in
      let three = published_picks (after (after source 1) len) (place + 1) net pair words 8 (omega arith) in
      let some = picks_join a lists order 1 len _ _ _ one two in
      record { count = 1 + len + 8; picks = picks_join a lists order (1 + len) 8 _ _ _ some three }

  -- ---- a round
  pub turns_more : (n : ℕ) (p q : Pause) (before : Play) (place : ℕ) → ArePicks a lists order n before (only_play p.source place p.words idle) → IsTurn a lists order place p q
      → (m : ℕ) × ArePicks a lists order m before (only_play q.source (place + 1) q.words idle)
  turns_more n p q before place x turn = (n + turn.count, picks_join a lists order n turn.count before _ _ x turn.picks)

  -- past the last net the worker is done
  pub turns_done : (n : ℕ) (p q : Pause) (place : ℕ) → length a.design.nets ≤ place → q.source ≡ after p.source 1 → q.words ≡ p.words
      → (begin : Pause) → ArePicks a lists order n (only_play begin.source 0 begin.words idle) (only_play p.source place p.words idle) → IsRound a lists order 1 begin q
  turns_done n p q place h from same begin x =
      let last = only_at (place + 1) q.words done in
      let t : done ≡ with_drawn a.design lists order place = rw (not_below place (length a.design.nets) h) refl in
      let is : last ≡ act a lists order (only_at place p.words idle) 0 idle = rw same (ap (λ u. only_at (place + 1) p.words u) t) in
      let one : IsPick a lists order (only_play p.source place p.words idle) (record { source = q.source; state = last }) =
      subst (λ s. IsPick a lists order (only_play p.source place p.words idle) (record { source = s; state = last })) (sym from) (only_pick p.source place p.words idle last (λ h. h) is) in
      record {
        count = suc n;
        last = last;
        picks = (only_play p.source place p.words idle, x, one);
        all_done = λ i x h. only_done i x h;
        words = refl;
      } where
        only_done : (i : ℕ) (x : Task) → i < 1 → IsDone (get_or (done ∷ []) i x)
        only_done zero x h = tt
        only_done (suc i) x h = absurd (omega arith)

-- ---- the words that publications leave
pub words_published : (b c : Memory) (net place value : ℕ) (pair : Pair) → HasPublished (knowledge_of b) (8 * net + place) value (knowledge_of c) → value ≡ number_for (bound_at pair place)
    → c.words ≡ with_published b.setting.way net pair b.words place
words_published b c net place value pair h is =
    let word = 8 * net + place in
    let n : h.0 ≡ number_at b.words word = h.1.found.alone refl in
    ap (λ (k : Knowledge). k.seen) h.1.after
    ∙ (ap (λ i. set b.words word (further b.setting.way (word % 2) i value)) n ∙ ap (λ v. set b.words word (further b.setting.way (word % 2) (number_at b.words word) v)) is)

pub published_more : (a b c : Memory) (net place value : ℕ) (pair : Pair) (way : Direction) (words : List ℕ) → a.setting.way ≡ way → b.setting ≡ a.setting → b.words ≡ published way net pair words place
    → HasPublished (knowledge_of b) (8 * net + place) value (knowledge_of c) → value ≡ number_for (bound_at pair place) → c.words ≡ published way net pair words (place + 1)
published_more a b c net place value pair way words own same before h is =
    let e : suc place ≡ place + 1 = omega arith in
    let w : b.setting.way ≡ way = ap (λ (x : Setting). x.way) same ∙ own in
    subst (λ n. c.words ≡ published way net pair words n) e
    (words_published b c net place value pair h is ∙ (ap (λ x. with_published x net pair b.words place) w ∙ ap (λ ws. with_published way net pair ws place) before))

pub own_turn : (a b : Setting) (lists : List (List NetId)) (order : List ℕ) (place : ℕ) (p q : Pause) → b ≡ a → IsTurn b lists order place p q → IsTurn a lists order place p q
own_turn a b lists order place p q same turn = subst (λ (x : Setting). IsTurn x lists order place p q) same turn

-- a turn in the words of the code
pub turn_there : (b : Memory) (d : Parts) (lists : List (List NetId)) (order : List ℕ) (place net len : ℕ) (pair : Pair) (way : Direction) (source first second third : ℕ) (later : List ℕ) → b.setting.design ≡ d
    → b.setting.way ≡ way → AreReadLists d lists → IsSound d → place < length d.nets → net < length d.nets → slice_index order place ≡ net → len ≡ length (list_of lists net) → first ≡ after source 1 → second ≡ after first (8 * len) → third ≡ after second 8
    → pair ≡ made_of d b.words net → later ≡ published way net pair b.words 8 → IsTurn b.setting lists order place (record { source = source; words = b.words }) (record { source = third; words = later })
turn_there b d lists order place net len pair way source first second third later own to are sound h there at size one two three is words =
    let P : Parts → Type 0 = λ x. AreReadLists x lists → IsSound x → place < length x.nets → net < length x.nets → pair ≡ made_of x b.words net
    → IsTurn b.setting lists order place (record { source = source; words = b.words }) (record { source = third; words = later }) in
    subst P own (λ are sound h there is.
    rw (words, three, two, one, size, ← to, is) (turn_picks b.setting lists order source place net b.words are sound h there at)) are sound h there is
